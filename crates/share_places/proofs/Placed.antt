-- What a new set is, once `make` has said that there is one, and that the lists which `place` leaves are those of `after`, list by list. Cited by the proof of `place`.
-- Assumes nothing.
use Rattle.std.specs.Prelude.{Result, Ok, Err}
use mathlib.Core.Path.{◌≡◌, refl, sym, ap, ◌∙◌, subst}
use mathlib.Core.Bool.{false, ◌||◌}
use mathlib.Core.List.{List, [], ◌∷◌, ◌++◌}
use Prim.Native.Nat.{ℕ, ◌+◌, ◌-◌, ◌*◌, ◌≤◌}
use native.Mathlib.Nat.{le_trans, le_of_eq}
use native.Mathlib.Omega.{arith}
use lib.Dec.{ltb}
use lib.Ieee.{Float}
use lib.IntN.{ℤ}
use lib.ListN.{length, take, drop}
use borrow.Author.Tests.{ltb-false}
use Rattle.lists.proofs.BoolLaws.{or_left, or_right}
use Rattle.lists.proofs.StoreLaws.{part_size}
use Rattle.lists.proofs.TabLaws.{length_tab}
use Rattle.text.specs.Text.{laid}
use Rattle.windows.specs.Set.{Stored, windows}
use Rattle.plans.specs.declared.Request.{Request}
use Rattle.coefficients.specs.declared.NotBuilt.{NotBuilt}
use Rattle.coefficients.specs.Request.{built_of, weights_of, starts_of, sizes_of}
use Rattle.refusal.specs.declared.Refusal.{Refusal}
use Rattle.made_sets.specs.Made.{planned_set, stored_at, Made, new, none, after_normal, made_of, answer_of}
use Rattle.made_sets.specs.Lent.{side_of, lent_by}
use Rattle.made_sets.proofs.Planned.{kept_by, planned, plan, room, starts_left, sizes_left}
use Rattle.made_sets.proofs.Choice.{not_built, made_done}
use Rattle.made_sets.proofs.Made.{FitsMade, weights_room, made_fits}
use Rattle.store_sets.specs.Inner.{outcome, slots_after, excesses_after}
use Rattle.shares.specs.Store.{Store, share, slot_base, line_base, closed}
use Rattle.shares.specs.Scratch.{Scratch, too_short, built_in}
use Rattle.shares.specs.Machine.{with_set, after}
use Rattle.shares.proofs.Opened.{Open, open_store, in_slots}
use Rattle.share_lists.specs.Inner.{Few, answer_by, numbers_by, laid_by}
use Rattle.share_places.proofs.Parts.{part_back, part_same}

module _ (q : Request) (n : ℕ) where
  pub record NewSet (stored : Stored) : Type 0 where
    pub lines_are : stored.set.layout.lines ≡ side_of q
    pub windows_are : windows stored.set.layout ≡ q.output
    pub few : q.output ≤ 8192
    pub starts_are : (fs : List ℕ) → stored.set.layout.starts ≡ take q.output (lent_by 8192 (starts_of q n 8192 8192) fs)
    pub sizes_are : (cs : List ℕ) → stored.set.layout.sizes ≡ take q.output (lent_by 8192 (sizes_of q n 8192 8192) cs)

  abbrev pub NewMade : Made → Type 0
  NewMade (new stored) = NewSet stored
  NewMade (none answer) = Unit {0}

  by_normal : (w : ℕ) (done : built_of q n 8192 8192 ≡ Ok w) (y : Result ℕ Refusal) → NewMade (after_normal (planned_set (plan q n w done)) y)
  unfolding after_normal stored_at planned_set
  by_normal w done (Err refusal) = tt
  by_normal w done (Ok precision) = record {
    lines_are = (kept_by q (plan q n w done) (planned q n w done).ready).side_is;
    windows_are = length_tab 0 _ _ ∙ (room q n w done).windows_are;
    few = (room q n w done).few;
    starts_are = λ fs. sym (starts_left q n w done fs);
    sizes_are = λ cs. sym (sizes_left q n w done cs);
  }

  by_built : (y : Result ℕ NotBuilt) → built_of q n 8192 8192 ≡ y → NewMade (made_of q n)
  by_built (Ok w) e = subst NewMade (sym (made_done q n w e)) (by_normal w e _)
  by_built (Err error) e = subst NewMade (sym (not_built q n error e)) tt

  pub new_made : NewMade (made_of q n)
  new_made = by_built (built_of q n 8192 8192) refl

  pub few_made : (m : Made) → NewMade m → Few (outcome m) q.output
  unfolding outcome
  few_made (new stored) k = k.few
  few_made (none answer) k = tt

pub answer_is : (m : Made) → answer_by (outcome m) ≡ answer_of m
unfolding outcome answer_of
answer_is (new stored) = refl
answer_is (none answer) = refl

two_of_four : (l : List ℕ) (a z w : ℕ) {x x1 y y1 : ℕ} → x1 ≡ x → y1 ≡ y → laid l a (x ∷ y ∷ z ∷ w ∷ []) ≡ laid l a (x1 ∷ y1 ∷ z ∷ w ∷ [])
two_of_four l a z w e1 e2 = rw (e1, e2)

-- ---- list by list, for whatever was made
module _ (s : Store) (c : ℕ) (q : Request) (n : ℕ) where
  pub numbers_end : (m : Made) → NewMade q n m → numbers_by (outcome m) c q s.numbers ≡ (after s c m).numbers
  unfolding outcome numbers_by after with_set
  numbers_end (new stored) k = two_of_four s.numbers (c * 5 + 1) stored.set.layout.window_size_value stored.precision k.lines_are k.windows_are
  numbers_end (none answer) k = refl

  pub starts_end : (m : Made) → NewMade q n m → (old left : List ℕ) → left ≡ lent_by 8192 (starts_of q n 8192 8192) old → laid_by (outcome m) c (take q.output left) s.starts ≡ (after s c m).starts
  unfolding outcome laid_by after with_set
  starts_end (new stored) k old left e = ap (laid s.starts (line_base c)) (ap (take q.output) e ∙ sym (k.starts_are old))
  starts_end (none answer) k old left e = refl

  pub sizes_end : (m : Made) → NewMade q n m → (old left : List ℕ) → left ≡ lent_by 8192 (sizes_of q n 8192 8192) old → laid_by (outcome m) c (take q.output left) s.sizes ≡ (after s c m).sizes
  unfolding outcome laid_by after with_set
  sizes_end (new stored) k old left e = ap (laid s.sizes (line_base c)) (ap (take q.output) e ∙ sym (k.sizes_are old))
  sizes_end (none answer) k old left e = refl

  pub slots_end : (m : Made) → FitsMade n m → (a k : ℕ) → a ≡ slot_base s c → k ≡ n → a + k ≤ length s.slots
      → take a s.slots ++ (slots_after m (take k (drop a s.slots)) ++ drop k (drop a s.slots)) ≡ (after s c m).slots
  unfolding slots_after after with_set
  slots_end (none answer) f a k ea ek h = part_same s.slots a k
  slots_end (new stored) f a k ea ek h = part_back s.slots stored.set.weights a k h (le_trans (weights_room f) (le_of_eq (sym ek))) ∙ ap (λ (i : ℕ). laid s.slots i stored.set.weights) ea

  pub excesses_end : (m : Made) → FitsMade n m → (b k : ℕ) → b ≡ line_base c → k ≡ 8192 → b + k ≤ length s.excesses
      → take b s.excesses ++ (excesses_after m (take k (drop b s.excesses)) ++ drop k (drop b s.excesses)) ≡ (after s c m).excesses
  unfolding excesses_after after with_set
  excesses_end (none answer) f b k eb ek h = part_same s.excesses b k
  excesses_end (new stored) f b k eb ek h =
      part_back s.excesses stored.excesses b k h (le_trans (le_of_eq f.each) (le_trans f.few (le_of_eq (sym ek)))) ∙ ap (λ (i : ℕ). laid s.excesses i stored.excesses) eb

-- ---- a set that is not barred: r is the share, a and b where the client's parts begin, as the code found them
module _ (s : Store) (c : ℕ) (lent : Scratch) (free : closed s c || too_short (share s c) lent ≡ false) where
  pub opens : Open s c
  opens = open_store s c (or_left (closed s c) (too_short (share s c) lent) free)

  pub record Lent : Type 0 where
    pub doubles_there : share s c ≤ length lent.doubles
    pub firsts_there : 8192 ≤ length lent.firsts
    pub counts_there : 8192 ≤ length lent.counts

  pub lists_lent : Lent
  lists_lent =
      let x = ltb (length lent.doubles) (share s c) in
      let y = ltb (length lent.firsts) 8192 in
      let z = ltb (length lent.counts) 8192 in
      let short = or_right (closed s c) (too_short (share s c) lent) free in
      record {
        doubles_there = ltb-false (length lent.doubles) (share s c) (or_left x y (or_left (x || y) z short));
        firsts_there = ltb-false (length lent.firsts) 8192 (or_right x y (or_left (x || y) z short));
        counts_there = ltb-false (length lent.counts) 8192 (or_right (x || y) z short);
      }

  pub ends_in_slots : (a r : ℕ) → a ≡ slot_base s c → r ≡ share s c → a + r ≤ length s.slots
  ends_in_slots a r ea er = omega (arith, in_slots s c (share s c) opens (le_of_eq refl), ea, er)

  pub ends_in_excesses : (b : ℕ) → b ≡ c * 8192 → b + 8192 ≤ length s.excesses
  ends_in_excesses b eb = omega (arith, opens.all_excesses, opens.one_of_two, eb)

  pub slots_long : (a r : ℕ) → a ≡ slot_base s c → r ≡ share s c → length (take (a + r - a) (drop a s.slots)) ≡ share s c
  slots_long a r ea er = part_size s.slots a r (ends_in_slots a r ea er) ∙ er

  pub excesses_long : (b : ℕ) → b ≡ c * 8192 → length (take (b + 8192 - b) (drop b s.excesses)) ≡ 8192
  excesses_long b eb = part_size s.excesses b 8192 (ends_in_excesses b eb)

  -- ---- everything that `place` leaves, by what `make` and `keep` left
  module _ (q : Request) (a r b : ℕ) (ea : a ≡ slot_base s c) (er : r ≡ share s c) (eb : b ≡ c * 8192) where
    abbrev pub part_slots : List ℤ
    part_slots = take (a + r - a) (drop a s.slots)

    abbrev pub part_excesses : List ℤ
    part_excesses = take (b + 8192 - b) (drop b s.excesses)

    abbrev here : Made
    here = made_of q (length part_slots)

    abbrev there : Made
    there = made_of q (share s c)

    long : length part_slots ≡ share s c
    long = slots_long a r ea er

    same : here ≡ there
    same = ap (made_of q) long

    slots_back : take a s.slots ++ (slots_after here part_slots ++ drop (a + r - a) (drop a s.slots)) ≡ (after s c there).slots
    slots_back =
        slots_end s c q (length part_slots) here (made_fits q (length part_slots)) a (a + r - a) ea (omega (arith, long, er)) (omega (arith, ends_in_slots a r ea er))
        ∙ ap (λ (m : Made). (after s c m).slots) same

    excesses_back : take b s.excesses ++ (excesses_after here part_excesses ++ drop (b + 8192 - b) (drop b s.excesses)) ≡ (after s c there).excesses
    excesses_back =
        excesses_end s c q (length part_slots) here (made_fits q (length part_slots)) b (b + 8192 - b) eb (omega arith) (omega (arith, ends_in_excesses b eb))
        ∙ ap (λ (m : Made). (after s c m).excesses) same

    pub placed : (made : Result (ℕ × ℕ) NotBuilt) (slots excesses : List ℤ) (doubles : List Float) (firsts counts numbers starts sizes : List ℕ) (answer : Result ℕ NotBuilt)
        → made ≡ outcome here → slots ≡ slots_after here part_slots → excesses ≡ excesses_after here part_excesses
        → doubles ≡ lent_by (length part_slots) (weights_of q (length part_slots) 8192 8192) lent.doubles
        → firsts ≡ lent_by 8192 (starts_of q (length part_slots) 8192 8192) lent.firsts
        → counts ≡ lent_by 8192 (sizes_of q (length part_slots) 8192 8192) lent.counts
        → answer ≡ answer_by made → numbers ≡ numbers_by made c q s.numbers
        → starts ≡ laid_by made c (take q.output firsts) s.starts → sizes ≡ laid_by made c (take q.output counts) s.sizes
        → (answer ≡ answer_of there)
        × ((numbers ≡ (after s c there).numbers)
        × ((take a s.slots ++ (slots ++ drop (a + r - a) (drop a s.slots)) ≡ (after s c there).slots)
        × ((starts ≡ (after s c there).starts)
        × ((sizes ≡ (after s c there).sizes)
        × ((take b s.excesses ++ (excesses ++ drop (b + 8192 - b) (drop b s.excesses)) ≡ (after s c there).excesses)
        × ((doubles ≡ (built_in q (share s c) lent).doubles)
        × ((firsts ≡ (built_in q (share s c) lent).firsts)
        × (counts ≡ (built_in q (share s c) lent).counts))))))))
    unfolding built_in
    placed made slots excesses doubles firsts counts numbers starts sizes answer em es ex ed ef ec ea en est esz =
        let new = new_made q (length part_slots) in (
          ea ∙ ap answer_by em ∙ answer_is here ∙ ap answer_of same,
          (
            en ∙ ap (λ (o : Result (ℕ × ℕ) NotBuilt). numbers_by o c q s.numbers) em ∙ numbers_end s c q (length part_slots) here new ∙ ap (λ (m : Made). (after s c m).numbers) same,
            (
              ap (λ (l : List ℤ). take a s.slots ++ (l ++ drop (a + r - a) (drop a s.slots))) es ∙ slots_back,
              (
                est ∙ ap (λ (o : Result (ℕ × ℕ) NotBuilt). laid_by o c (take q.output firsts) s.starts) em ∙ starts_end s c q (length part_slots) here new lent.firsts firsts ef ∙ ap (λ (m : Made). (after s c m).starts) same,
                (
                  esz ∙ ap (λ (o : Result (ℕ × ℕ) NotBuilt). laid_by o c (take q.output counts) s.sizes) em ∙ sizes_end s c q (length part_slots) here new lent.counts counts ec ∙ ap (λ (m : Made). (after s c m).sizes) same,
                  (
                    ap (λ (l : List ℤ). take b s.excesses ++ (l ++ drop (b + 8192 - b) (drop b s.excesses))) ex ∙ excesses_back,
                    (
                      ed ∙ ap (λ (n : ℕ). lent_by n (weights_of q n 8192 8192) lent.doubles) long,
                      (ef ∙ ap (λ (n : ℕ). lent_by 8192 (starts_of q n 8192 8192) lent.firsts) long, ec ∙ ap (λ (n : ℕ). lent_by 8192 (sizes_of q n 8192 8192) lent.counts) long),
                    ),
                  ),
                ),
              ),
            ),
          ),
        )
