-- The judge's answer, test by test, what an answer of `Done p` says of the set, and the two lists afterwards. Cited by `judge` and by both normalisers, over any store.
-- Assumes nothing.
use Rattle.std.specs.Prelude.{Result, Ok, Err}
use mathlib.Core.Path.{◌≡◌, sym, ap, ◌∙◌}
use mathlib.Core.Bool.{true, false}
use mathlib.Core.List.{List, ◌++◌}
use Prim.Native.Nat.{ℕ, ◌+◌, ◌*◌, ◌^◌, ◌≤◌, ◌<◌}
use native.Mathlib.Nat.{lt_of_le_of_lt, le_of_lt, le_of_eq, le_trans, mul-le-mul, zero-add}
use native.Mathlib.Omega.{arith}
use lib.Dec.{ltb, lit<}
use lib.IntN.{ℤ, pos}
use lib.ListN.{length, get_or, drop}
use lib.Ieee.{Float}
use borrow.Author.Tests.{ltb-false}
use Rattle.lists.specs.Ranges.{bad_sides_value}
use Rattle.lists.specs.Tab.{any, front}
use Rattle.lists.proofs.BoolLaws.{or_left, or_right, ladder}
use Rattle.lists.proofs.FirstLaws.{first_le}
use Rattle.lists.proofs.RangeLaws.{second_side}
use Rattle.lists.proofs.TabLaws.{tab_ext, length_front, front_below, row_end}
use Rattle.refusal.specs.declared.Refusal.{Refusal}
use Rattle.refusal.specs.declared.Refusal.TheVariants.{BadSide, TooFewSlots, DoesNotFit, WeightOutside}
use Rattle.windows.specs.declared.Store.{Store}
use Rattle.windows.specs.Fit.{bad_set, Fits, InSlots}
use Rattle.windows.specs.Set.{Set, windows, size}
use Rattle.windows.specs.Store.{largest_precision}
use Rattle.windows.proofs.Fits.{fits, in_slots}
use Rattle.excesses.specs.Slots.{slot_from, excess_in}
use Rattle.excesses.proofs.SameExcess.{excess_ext}
use Rattle.weight_precision.specs.Precision.{precision, reaches, largest}
use Rattle.weight_precision.specs.Weights.{not_finite_value, leaves, unstorable}
use Rattle.weight_slots.specs.Slots.{slot_at}
use Rattle.normalizer.specs.Answer.{too_few_slots, bad_weights, normalized_of, excess_at, written_by, written_of, excesses_by, excesses_of, number_of, precision_in}

pub precision_small : (store : Store) (weights : List Float) → 1 ≤ store.bits → store.bits ≤ 46 → precision store weights < 46
unfolding precision
precision_small store weights l h = lt_of_le_of_lt (first_le (reaches store.limit (largest weights)) 0 (largest_precision store)) (omega arith)

-- windows x window size is a machine number
pub slots_fit : (lines starts window_size_value : ℕ) → bad_sides_value lines starts ≡ false → window_size_value < 2 ^ 32 → starts * window_size_value < 2 ^ 64
slots_fit lines starts window_size_value h w =
    let most : 8192 * 2 ^ 32 < 2 ^ 64 = lit< tt in
    lt_of_le_of_lt (mul-le-mul (second_side lines starts h).most (le_of_lt w)) most

module _ (store : Store) (s : Set Float) (room places : ℕ) where
  -- the refusals, in order
  pub first_row : bad_sides_value s.layout.lines (windows s.layout) ≡ true → Err BadSide ≡ normalized_of store s room places
  unfolding normalized_of
  first_row a = rw a

  module _ (a : bad_sides_value s.layout.lines (windows s.layout) ≡ false) where
    pub second_row : too_few_slots store s room places ≡ true → Err TooFewSlots ≡ normalized_of store s room places
    unfolding normalized_of
    second_row b = rw (a, b)

    module _ (b : too_few_slots store s room places ≡ false) where
      pub third_row : bad_set s.layout (length s.weights) ≡ true → Err DoesNotFit ≡ normalized_of store s room places
      unfolding normalized_of
      third_row c = rw (a, b, c)

      module _ (c : bad_set s.layout (length s.weights) ≡ false) where
        -- No. 9, in the judge's two steps
        pub weight_row : any (length s.weights) (not_finite_value s.weights) ≡ true → Err WeightOutside ≡ normalized_of store s room places
        unfolding normalized_of
        weight_row d = rw (a, b, c, d)

        module _ (d : any (length s.weights) (not_finite_value s.weights) ≡ false) (p : ℕ) (e : p ≡ precision store s.weights) where
          pub precision_row : unstorable store p s.layout.window_size_value s.weights s.layout.sizes ≡ true → Err WeightOutside ≡ normalized_of store s room places
          unfolding normalized_of
          precision_row g = rw (a, b, c, d, ← e, g)

          pub no_row : unstorable store p s.layout.window_size_value s.weights s.layout.sizes ≡ false → Ok p ≡ normalized_of store s room places
          unfolding normalized_of
          no_row g = rw (a, b, c, d, ← e, g)

  -- what an answer of `Done p` says
  pub record Ready (p : ℕ) : Type 0 where
    pub sides : bad_sides_value s.layout.lines (windows s.layout) ≡ false
    pub lists : bad_set s.layout (length s.weights) ≡ false
    pub found : p ≡ precision store s.weights
    pub least : 4 ≤ p
    pub fits : Fits s.layout (length s.weights)
    pub enough : windows s.layout * s.layout.window_size_value ≤ room
    pub enough_places : windows s.layout ≤ places
    pub inside : any (length s.weights) (leaves store p s.layout.window_size_value s.weights s.layout.sizes) ≡ false

  refused : (r : Refusal) (p : ℕ) → 0 < number_of (Err r) → Err r ≡ Ok p → ⊥
  refused r p l e = let z = ap number_of e in omega arith

  pub ready : (p : ℕ) → normalized_of store s room places ≡ Ok p → Ready p
  unfolding normalized_of
  ready p h =
      let a = ladder (bad_sides_value s.layout.lines (windows s.layout)) (refused BadSide p (omega arith)) h in
      let b = ladder (too_few_slots store s room places) (refused TooFewSlots p (omega arith)) a.1 in
      let c = ladder (bad_set s.layout (length s.weights)) (refused DoesNotFit p (omega arith)) b.1 in
      let d = ladder (bad_weights store s room places) (refused WeightOutside p (omega arith)) c.1 in
      let e : p ≡ precision store s.weights = sym (ap precision_in d.1) in
      let q = precision store s.weights in
      let left = any (length s.weights) (leaves store q s.layout.window_size_value s.weights s.layout.sizes) in
      let w : unstorable store q s.layout.window_size_value s.weights s.layout.sizes ≡ false =
      or_right (any (length s.weights) (not_finite_value s.weights)) (unstorable store q s.layout.window_size_value s.weights s.layout.sizes) d.0 in
      let l : left ≡ false = or_right (ltb q 4) left w in record {
        sides = a.0;
        lists = c.0;
        found = e;
        least = rw e (ltb-false q 4 (or_left (ltb q 4) left w));
        fits = fits s.layout (length s.weights) a.0 c.0;
        enough = ltb-false room (windows s.layout * s.layout.window_size_value) (or_left (ltb room (windows s.layout * s.layout.window_size_value)) (ltb places (windows s.layout)) b.0);
        enough_places = ltb-false places (windows s.layout) (or_right (ltb room (windows s.layout * s.layout.window_size_value)) (ltb places (windows s.layout)) b.0);
        inside = rw e l;
      }

-- the slots afterwards, by the answer
pub refused_written : (store : Store) (s : Set Float) (refusal : Refusal) (places : ℕ) (old : List ℤ) → normalized_of store s (length old) places ≡ Err refusal → old ≡ written_of store s places old
unfolding written_of written_by
refused_written store s refusal places old h = ap (λ (answer : Result ℕ Refusal). written_by store s answer old) (sym h)

pub done_written : (store : Store) (s : Set Float) (p places : ℕ) (old after : List ℤ) → normalized_of store s (length old) places ≡ Ok p → after ≡ front (length s.weights) (slot_at store p s.layout.window_size_value s.weights s.layout.sizes) old → after ≡ written_of store s places old
unfolding written_of written_by
done_written store s p places old after h e =
    e ∙ ap (λ (n : ℕ). front n (slot_at store p s.layout.window_size_value s.weights s.layout.sizes) old) (ready store s (length old) places p h).fits.full
    ∙ ap (λ (answer : Result ℕ Refusal). written_by store s answer old) (sym h)

-- the excesses afterwards
pub refused_excesses : (store : Store) (s : Set Float) (refusal : Refusal) (room : ℕ) (old : List ℤ) → normalized_of store s room (length old) ≡ Err refusal → old ≡ excesses_of store s room old
unfolding excesses_of excesses_by
refused_excesses store s refusal room old h = ap (λ (answer : Result ℕ Refusal). excesses_by store s answer old) (sym h)

front_ext : (n : ℕ) (f g : ℕ → ℤ) (old : List ℤ) → ((i : ℕ) → i < n → f i ≡ g i) → front n f old ≡ front n g old
unfolding front
front_ext n f g old h = ap (λ (l : List ℤ). l ++ drop n old) (tab_ext 0 n f g (λ i l. rw zero-add (h i l)))

-- a set that was judged, whose slots were written over what the list held
module _ (store : Store) (s : Set Float) (p : ℕ) (held old : List ℤ) (h : normalized_of store s (length held) (length old) ≡ Ok p)
    (slots : List ℤ) (e : slots ≡ front (length s.weights) (slot_at store p s.layout.window_size_value s.weights s.layout.sizes) held) where
  set : Ready store s (length held) (length old) p
  set = ready store s (length held) (length old) p h

  -- what the writer of excesses asks
  pub excesses_asked : 1 ≤ store.bits → store.bits ≤ 46 → ((p ≤ 45) × (length s.layout.sizes ≤ length old)) × InSlots s.layout.window_size_value s.layout.sizes (length slots)
  excesses_asked l m =
      let small = precision_small store s.weights l m in
      let there : length s.weights ≤ length held = le_trans (le_of_eq set.fits.full) set.enough in
      let long : length slots ≡ length held = ap length e ∙ length_front (length s.weights) (slot_at store p s.layout.window_size_value s.weights s.layout.sizes) held there in (
        (omega (arith, set.found, small), omega (arith, set.fits.pairs, set.enough_places)),
        in_slots s.layout (length s.weights) set.fits (length slots) (omega (arith, there, long)),
      )

  -- each window's excess is that of the slots as they are written
  window_excess : (i : ℕ) → i < windows s.layout → excess_in p s.layout.window_size_value slots s.layout.sizes i ≡ excess_at store p s i
  window_excess i l =
      let slot = slot_at store p s.layout.window_size_value s.weights s.layout.sizes in
      let a = i * s.layout.window_size_value in
      excess_ext (slot_from slots a) (λ k. slot (a + k)) p (size s.layout i)
      (λ k m. ap (λ (ws : List ℤ). get_or ws (a + k) (pos 0)) e ∙ front_below (length s.weights) slot held (a + k) (pos 0) (omega (arith, row_end i (windows s.layout) s.layout.window_size_value l, set.fits.small i l, set.fits.full)))

  pub done_excesses : (after : List ℤ) → after ≡ front (length s.layout.sizes) (excess_in p s.layout.window_size_value slots s.layout.sizes) old → after ≡ excesses_of store s (length held) old
  unfolding excesses_of excesses_by
  done_excesses after a =
      a ∙ ap (λ (n : ℕ). front n (excess_in p s.layout.window_size_value slots s.layout.sizes) old) (sym set.fits.pairs)
      ∙ front_ext (windows s.layout) (excess_in p s.layout.window_size_value slots s.layout.sizes) (excess_at store p s) old window_excess
      ∙ ap (λ (answer : Result ℕ Refusal). excesses_by store s answer old) (sym h)
