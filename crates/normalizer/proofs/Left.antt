-- What a normaliser leaves where it answers 0 passes the judge of a stored set. The two lists' beginnings are what was written; layout and counts are the judged ones, the
-- precision is one of the store's, and each excess is worked out of the slots beside it. Over any store. Cited by the promises. Assumes nothing.
use Rattle.std.specs.Prelude.{Result, Ok}
use mathlib.Core.Path.{◌≡◌, refl, sym, ap, ◌∙◌, subst}
use mathlib.Core.Bool.{Bool, false, ◌||◌}
use mathlib.Core.List.{List}
use Prim.Native.Nat.{ℕ, ◌+◌, ◌*◌, ◌≤◌, ◌<◌}
use native.Mathlib.Nat.{zero-add}
use native.Mathlib.Omega.{arith}
use lib.IntN.{ℤ, pos}
use lib.Ieee.{Float}
use lib.ListN.{length, get_or, take, drop}
use lib.Seq.{take-append_seam}
use borrow.Author.Tests.{le-ltb}
use Rattle.lists.specs.Ranges.{bad_sides_value}
use Rattle.lists.specs.Tab.{tab, front}
use Rattle.lists.proofs.FirstLaws.{first_le}
use Rattle.lists.proofs.TabLaws.{length_tab, get_d_tab, row_end}
use Rattle.windows.specs.declared.Store.{Store}
use Rattle.windows.specs.Set.{Set, set_of, Stored, stored_of, windows, size, excess_of}
use Rattle.windows.specs.Store.{largest_precision, bad_precision}
use Rattle.windows.specs.Fit.{bad_set, bad_excesses, unfit}
use Rattle.excesses.proofs.RightLaws.{right_excesses}
use Rattle.excesses.proofs.SameExcess.{excess_ext}
use Rattle.weight_precision.specs.Precision.{precision, reaches, largest}
use Rattle.weight_slots.specs.Slots.{slot_at}
use Rattle.normalizer.specs.Answer.{excess_at, normalized_of, written_by, written_of, excesses_by, excesses_of, precision_in}
use Rattle.normalizer.specs.Left.{left_set}
use Rattle.refusal.specs.declared.Refusal.{Refusal}
use Rattle.normalizer.proofs.Judged.{Ready, ready}

take_front : (n : ℕ) (f : ℕ → ℤ) (old : List ℤ) → take n (front n f old) ≡ tab 0 n f
unfolding front
take_front n f old = subst (λ (m : ℕ). take m (front n f old) ≡ tab 0 n f) (length_tab 0 n f) (take-append_seam (tab 0 n f) (drop n old))

precision_most : (store : Store) (weights : List Float) → precision store weights ≤ largest_precision store
unfolding precision
precision_most store weights = subst (λ (n : ℕ). precision store weights ≤ n) (zero-add (largest_precision store)) (first_le (reaches store.limit (largest weights)) 0 (largest_precision store))

at : (f : ℕ → ℤ) (n k : ℕ) → k < n → get_or (tab 0 n f) k (pos 0) ≡ f k
at f n k l = get_d_tab 0 n f k (pos 0) l ∙ ap f (zero-add k)

none_due : (a b c d : Bool) → a ≡ false → b ≡ false → c ≡ false → d ≡ false → a || ((b || c) || d) ≡ false
none_due a b c d h i j k = rw (h, i, j, k) refl

module _ (store : Store) (s : Set Float) (out excesses : List ℤ) (p : ℕ) (h : normalized_of store s (length out) (length excesses) ≡ Ok p) where
  set : Ready store s (length out) (length excesses) p
  set = ready store s (length out) (length excesses) p h

  abbrev wide : ℕ
  wide = s.layout.window_size_value

  abbrev slot : ℕ → ℤ
  slot = slot_at store p wide s.weights s.layout.sizes

  -- the set itself, place by place
  abbrev plain : Stored
  plain = stored_of (set_of s.layout (tab 0 (windows s.layout * wide) slot)) p (tab 0 (windows s.layout) (excess_at store p s))

  excess_there : (i : ℕ) → i < windows s.layout → excess_of plain i ≡ get_or plain.excesses i (pos 0)
  excess_there i l =
      let a = i * wide in
      excess_ext (λ k. get_or plain.set.weights (a + k) (pos 0)) (λ k. slot (a + k)) p (size s.layout i)
      (λ k m. at slot (windows s.layout * wide) (a + k) (omega (arith, row_end i (windows s.layout) wide l, set.fits.small i l)))
      ∙ sym (at (excess_at store p s) (windows s.layout) i l)

  plain_good : unfit plain store ≡ false
  plain_good =
      let n = windows s.layout in
      let most = precision_most store s.weights in
      let found = set.found in
      none_due (bad_sides_value s.layout.lines n) (bad_set s.layout (length plain.set.weights)) (bad_precision store p) (bad_excesses plain)
      set.sides
      (subst (λ (k : ℕ). bad_set s.layout k ≡ false) (set.fits.full ∙ sym (length_tab 0 (n * wide) slot)) set.lists)
      (rw (le-ltb p 4 set.least, le-ltb (largest_precision store) p (omega arith)) refl)
      (right_excesses plain (length_tab 0 n (excess_at store p s)) excess_there)

  is_plain : left_set store s out excesses ≡ plain
  unfolding written_of written_by excesses_of excesses_by
  is_plain =
      let n = windows s.layout in
      ap (λ (a : Result ℕ Refusal). stored_of (set_of s.layout (take (n * wide) (written_by store s a out))) (precision_in a) (take n (excesses_by store s a excesses))) h
      ∙ ap (λ (l : List ℤ). stored_of (set_of s.layout l) p (take n (front n (excess_at store p s) excesses))) (take_front (n * wide) slot out)
      ∙ ap (λ (l : List ℤ). stored_of (set_of s.layout (tab 0 (n * wide) slot)) p l) (take_front n (excess_at store p s) excesses)

  pub left_fits : unfit (left_set store s out excesses) store ≡ false
  left_fits = subst (λ (t : Stored). unfit t store ≡ false) (sym is_plain) plain_good
