-- What the count beside a done f32 pass promises: it is that of the list as written, and the counts of ranges that make up the row add up to the whole frame's,
-- however the row is cut. Cited by the promises. Assumes nothing.
use Rattle.std.specs.Prelude.{Ok}
use mathlib.Core.Path.{◌≡◌, refl, sym, ap, ◌∙◌}
use mathlib.Core.List.{List, [], ◌∷◌}
use Prim.Native.Nat.{ℕ, ◌+◌, ◌*◌, ◌≤◌}
use native.Mathlib.Omega.{arith}
use lib.Ieee.{Float, nan}
use lib.ListN.{length, replicate, length-replicate}
use Rattle.windows.specs.Set.{Set, windows}
use Rattle.vertical.specs.PassedF32.{infinite_in}
use Rattle.vertical.specs.Frame.{frame, output}
use Rattle.vertical.specs.F32.{value_f32, infinities, passed_f32, written_f32}
use Rattle.vertical.specs.F32Counts.{width_of, over_ranges}
use Rattle.vertical.proofs.Answers.{tests_f32}
use Rattle.vertical.proofs.Columns.{columns_cut_f32}
use Rattle.vertical.proofs.F32Infinite.{no_column, range_cut}

module _ (s : Set Float) (src : List Float) (row first count : ℕ) (old : List Float) {n : ℕ} (done : passed_f32 s src row first count (length old) ≡ Ok n) where
  answer_is : passed_f32 s src row first count (length old) ≡ Ok (infinities (output (value_f32 s (frame nan src row)) (windows s.layout) first count))
  unfolding passed_f32
  answer_is = let t = tests_f32 s src row first count (length old) done in rw (t.size, t.shape, t.weights, t.samples) refl

  count_is : n ≡ infinities (output (value_f32 s (frame nan src row)) (windows s.layout) first count)
  count_is = ap infinite_in (sym done ∙ answer_is)

  -- of what was written
  pub counted : n ≡ infinities (written_f32 s src row first count old)
  unfolding written_f32
  counted = rw done count_is

module _ (s : Set Float) (src : List Float) (row : ℕ) (whole : List Float) {n : ℕ} (done : passed_f32 s src row 0 row (length whole) ≡ Ok n) where
  abbrev value : ℕ → ℕ → Float
  value = value_f32 s (frame nan src row)

  -- the count beside the answer for a range, lent as many samples as it needs
  abbrev Counted : ℕ → ℕ → ℕ
  Counted first count = infinite_in (passed_f32 s src row first count (windows s.layout * count))

  of_range : (first count : ℕ) → first + count ≤ row → Counted first count ≡ infinities (output value (windows s.layout) first count)
  of_range first count fit =
      let list : List Float = replicate (windows s.layout * count) nan in
      let long : length list ≡ windows s.layout * count = length-replicate (windows s.layout * count) nan in
      ap (λ (room : ℕ). infinite_in (passed_f32 s src row first count room)) (sym long)
      ∙ ap infinite_in (columns_cut_f32 s src row whole done first count list fit long).0

  ranges : (first : ℕ) (widths : List ℕ) → first + width_of widths ≤ row → over_ranges Counted first widths ≡ infinities (output value (windows s.layout) first (width_of widths))
  ranges first [] fit = sym (no_column value (windows s.layout) first)
  ranges first (width ∷ widths) fit =
      rw (of_range first width (omega arith), ranges (first + width) widths (omega arith)) (sym (range_cut value (windows s.layout) first width (width_of widths)))

  pub counts_add_up : (widths : List ℕ) → width_of widths ≡ row → n ≡ over_ranges Counted 0 widths
  counts_add_up widths e =
      count_is s src row 0 row whole done ∙ ap (λ (w : ℕ). infinities (output value (windows s.layout) 0 w)) (sym e)
      ∙ sym (ranges 0 widths (omega (arith, e)))
