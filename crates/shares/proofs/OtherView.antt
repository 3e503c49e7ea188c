-- A set that client d puts in is nothing that another client sees: the parts of two clients do not meet, and what a client holds is read in its own part. Cited by Apart and
-- Kept. Assumes nothing.
use mathlib.Core.Path.{◌≡◌, refl, ap, ◌∙◌}
use mathlib.Core.Bool.{Bool, true, false, cond, not, ◌||◌}
use mathlib.Core.List.{List, [], ◌∷◌}
use Prim.Native.Nat.{ℕ, ◌+◌, ◌*◌, ◌≤◌, ◌<◌}
use native.Mathlib.Nat.{le_trans, le_of_eq}
use native.Mathlib.Omega.{arith}
use lib.Dec.{eqb, ltb}
use lib.IntN.{ℤ}
use lib.ListN.{length, get_or}
use borrow.Author.Tests.{ltb-true, ltb-false}
use Rattle.lists.proofs.BoolLaws.{or_left, or_right}
use Rattle.text.specs.Text.{laid}
use Rattle.text.proofs.TextLaws.{length_laid}
use Rattle.windows.specs.Set.{layout_of, set_of, Stored, stored_of, windows}
use Rattle.made_sets.proofs.Made.{Fits, weights_room}
use Rattle.shares.specs.Store.{Store, part, line_base, number, share, held, wide, slot_base, closed, unset, set_at, Held, nothing, holding, held_in, view_with, view_of}
use Rattle.shares.specs.Machine.{with_set}
use Rattle.shares.proofs.Parts.{part_before, part_behind, at_before, at_behind}
use Rattle.shares.proofs.Opened.{Open, open_store, Inside, inside_part, pick}

-- ---- congruences over plain values
closed_ext : {n n1 st st1 sz sz1 ex ex1 sl sl1 a a1 b b1 : ℕ} (c : ℕ) → n1 ≡ n → st1 ≡ st → sz1 ≡ sz → ex1 ≡ ex → sl1 ≡ sl → a1 ≡ a → b1 ≡ b
    → ((((not (eqb n1 10) || not (eqb st1 16384)) || not (eqb sz1 16384)) || not (eqb ex1 16384)) || ltb sl1 (a1 + b1)) || ltb 1 c
    ≡ ((((not (eqb n 10) || not (eqb st 16384)) || not (eqb sz 16384)) || not (eqb ex 16384)) || ltb sl (a + b)) || ltb 1 c
closed_ext c e1 e2 e3 e4 e5 e6 e7 = rw (e1, e2, e3, e4, e5, e6, e7)

pub unset_ext : (h h1 w w1 r r1 : ℕ) → h1 ≡ h → w1 ≡ w → r1 ≡ r → (eqb h1 0 || ltb 8192 h1) || ltb r1 (h1 * w1) ≡ (eqb h 0 || ltb 8192 h) || ltb r (h * w)
unset_ext h h1 w w1 r r1 e1 e2 e3 = rw (e1, e2, e3)

pub set_ext : {l l1 w w1 p p1 : ℕ} {ks ks1 xs xs1 : List ℤ} {ss ss1 zs zs1 : List ℕ} → l1 ≡ l → w1 ≡ w → ss1 ≡ ss → zs1 ≡ zs → ks1 ≡ ks → p1 ≡ p → xs1 ≡ xs → stored_of (set_of (layout_of l1 w1 ss1 zs1) ks1) p1 xs1 ≡ stored_of (set_of (layout_of l w ss zs) ks) p xs
set_ext e1 e2 e3 e4 e5 e6 e7 = rw (e1, e2, e3, e4, e5, e6, e7)

pub cond_ext : {A : Type 0} (t u : Bool) (n x y : A) → t ≡ u → (u ≡ false → x ≡ y) → cond t n x ≡ cond u n y
cond_ext t true n x y e h = ap (λ (b : Bool). cond b n x) e
cond_ext t false n x y e h = ap (λ (b : Bool). cond b n x) e ∙ h refl

pub part_ext : {A : Type 0} (l : List A) (a a1 n n1 : ℕ) → a1 ≡ a → n1 ≡ n → part a1 n1 l ≡ part a n l
part_ext l a a1 n n1 e1 e2 = rw (e1, e2)

pub times : {a b x y : ℕ} → a ≡ x → b ≡ y → a * b ≡ x * y
times e1 e2 = rw (e1, e2)

pub or_ext : {a b x y : Bool} → a ≡ x → b ≡ y → a || b ≡ x || y
or_ext e1 e2 = rw (e1, e2)

pub view_ext : {a x : Bool} {b y : ℕ} {h k : Held} → a ≡ x → b ≡ y → h ≡ k → view_with a b h ≡ view_with x y k
view_ext e1 e2 e3 = rw (e1, e2, e3)

below : (c d : ℕ) (t : Bool) → ltb c d ≡ t → c ≤ d → (c ≡ d → ⊥) → c < d
below c d true e h apart = ltb-true c d e
below c d false e h apart = let m : d ≤ c = ltb-false c d e in absurd (apart (omega arith))

low : (c d n x y : ℕ) → c ≡ 0 → d ≡ 1 → y ≡ x → n ≤ y → c * x + n ≤ d * x
low c d n x y e1 e2 e3 h = rw (e1, e2) (omega arith)

high : (c d n x y : ℕ) → c ≡ 1 → d ≡ 0 → y ≡ x → n ≤ y → d * x + n ≤ c * x
high c d n x y e1 e2 e3 h = rw (e1, e2) (omega arith)

-- ---- a set put in by client d
module _ (s : Store) (d : ℕ) (new : Stored) where
  abbrev text : List ℕ
  text = new.set.layout.lines ∷ windows new.set.layout ∷ new.set.layout.window_size_value ∷ new.precision ∷ []

  abbrev pub t : Store
  t = with_set s d new

  -- no share is touched
  pub share_same : (c : ℕ) → share t c ≡ share s c
  unfolding with_set
  share_same c = go (ltb d c) refl
    where
      go : (b : Bool) → ltb d c ≡ b → get_or (laid s.numbers (d * 5 + 1) text) (c * 5 + 0) 0 ≡ get_or s.numbers (c * 5 + 0) 0
      go true e = let h : d < c = ltb-true d c e in at_behind s.numbers text (d * 5 + 1) (c * 5 + 0) 0 (omega arith)
      go false e = let h : c ≤ d = ltb-false d c e in at_before s.numbers text (d * 5 + 1) (c * 5 + 0) 0 (omega arith)

  -- nor a number of another client
  pub other_number : (c k : ℕ) → (c ≡ d → ⊥) → k ≤ 4 → number t c k ≡ number s c k
  unfolding with_set
  other_number c k apart small = go (ltb d c) refl
    where
      go : (b : Bool) → ltb d c ≡ b → get_or (laid s.numbers (d * 5 + 1) text) (c * 5 + k) 0 ≡ get_or s.numbers (c * 5 + k) 0
      go true e = let h : d < c = ltb-true d c e in at_behind s.numbers text (d * 5 + 1) (c * 5 + k) 0 (omega arith)
      go false e =
          let h : c ≤ d = ltb-false d c e in
          at_before s.numbers text (d * 5 + 1) (c * 5 + k) 0 (let m : c < d = below c d (ltb c d) refl h apart in omega arith)

  pub closed_same : (c : ℕ) → closed t c ≡ closed s c
  unfolding closed with_set
  closed_same c =
      closed_ext c
      (length_laid s.numbers (d * 5 + 1) text)
      (length_laid s.starts (line_base d) new.set.layout.starts)
      (length_laid s.sizes (line_base d) new.set.layout.sizes)
      (length_laid s.excesses (line_base d) new.excesses)
      (length_laid s.slots (slot_base s d) new.set.weights)
      (share_same 0)
      (share_same 1)

  unset_same : (c : ℕ) → (c ≡ d → ⊥) → unset t c ≡ unset s c
  unfolding unset
  unset_same c apart =
      unset_ext (held s c) _ (wide s c) _ (share s c) _ (other_number c 2 apart (omega arith)) (other_number c 3 apart (omega arith)) (share_same c)

  pub base_same : (c : ℕ) → slot_base t c ≡ slot_base s c
  base_same c = ap (λ (x : ℕ). c * x) (share_same 0)

  -- ---- the parts of the other client
  module _ (fit : Fits (share s d) new) (open-d : Open s d) where
    pub other_slots : (c n : ℕ) → (c ≡ d → ⊥) → c ≤ 1 → n ≤ share s c → part (slot_base s c) n t.slots ≡ part (slot_base s c) n s.slots
    unfolding with_set
    other_slots c n apart one r =
        pick c d open-d.one_of_two one apart
        (λ e1 e2. part_before s.slots new.set.weights (slot_base s d) (slot_base s c) n (low c d n (share s 0) (share s c) e1 e2 (ap (share s) e1) r))
        (λ e1 e2. part_behind s.slots new.set.weights (slot_base s d) (slot_base s c) n
        (high c d (length new.set.weights) (share s 0) (share s d) e1 e2 (ap (share s) e2) (weights_room fit)))

    pub other_lines : {A : Type 0} (c n : ℕ) (l Laid-in : List A) → (c ≡ d → ⊥) → c ≤ 1 → n ≤ 8192 → length Laid-in ≤ 8192 → part (line_base c) n (laid l (line_base d) Laid-in) ≡ part (line_base c) n l
    other_lines c n l Laid-in apart one r k =
        pick c d open-d.one_of_two one apart
        (λ e1 e2. part_before l Laid-in (line_base d) (line_base c) n (omega arith))
        (λ e1 e2. part_behind l Laid-in (line_base d) (line_base c) n (omega arith))

    pub few_sizes : length new.set.layout.sizes ≤ 8192
    few_sizes = le_trans (le_of_eq fit.pairs) fit.few

    pub few_excesses : length new.excesses ≤ 8192
    few_excesses = le_trans (le_of_eq fit.each) fit.few

    -- what the other client holds
    other_set : (c : ℕ) → (c ≡ d → ⊥) → c ≤ 1 → Inside s c → set_at t c ≡ set_at s c
    unfolding with_set
    other_set c apart one i =
        let eh = other_number c 2 apart (omega arith) in
        let ew = other_number c 3 apart (omega arith) in
        set_ext
        (other_number c 1 apart (omega arith))
        ew
        (part_ext _ (line_base c) _ (held s c) _ refl eh ∙ other_lines c (held s c) s.starts new.set.layout.starts apart one i.few fit.few)
        (part_ext _ (line_base c) _ (held s c) _ refl eh ∙ other_lines c (held s c) s.sizes new.set.layout.sizes apart one i.few few_sizes)
        (part_ext _ (slot_base s c) _ (held s c * wide s c) _ (base_same c) (times eh ew) ∙ other_slots c (held s c * wide s c) apart one i.room)
        (other_number c 4 apart (omega arith))
        (part_ext _ (line_base c) _ (held s c) _ refl eh ∙ other_lines c (held s c) s.excesses new.excesses apart one i.few few_excesses)

    other_held : (c : ℕ) → (c ≡ d → ⊥) → held_in t c ≡ held_in s c
    unfolding held_in
    other_held c apart =
        cond_ext _ (closed s c || unset s c) nothing _ (holding (set_at s c)) (or_ext (closed_same c) (unset_same c apart))
        (λ h. ap holding (other_set c apart (open_store s c (or_left (closed s c) (unset s c) h)).one_of_two (inside_part s c (or_right (closed s c) (unset s c) h))))

    pub other_view : (c : ℕ) → (c ≡ d → ⊥) → view_of t c ≡ view_of s c
    unfolding view_of
    other_view c apart = view_ext (closed_same c) (share_same c) (other_held c apart)
