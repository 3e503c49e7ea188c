-- The count of infinite samples: what is proved beside the pass's definitions (`counted`, `counts_add_up`), with answers by number; and none below the limit.
-- Assumes nothing.
use Rattle.std.specs.Prelude.{Ok, Err}
use mathlib.Core.Path.{◌≡◌, refl, ap, ◌∙◌}
use mathlib.Core.Bool.{Bool, true, false, cond}
use mathlib.Core.List.{List}
use Prim.Native.Nat.{ℕ, ◌+◌, ◌*◌, ◌/◌, ◌%◌, ◌<◌}
use native.Mathlib.Nat.{zero-add, mod-lt, div-lt_iff_lt-mul}
use native.Mathlib.Omega.{arith}
use lib.Ieee.{Float, nan, lt}
use lib.ListN.{length}
use Rattle.lists.specs.Tab.{grid}
use Rattle.lists.proofs.TabLaws.{length_tab, get_d_tab}
use Rattle.refusal.specs.declared.Refusal.TheVariants.{BadSide, DoesNotFit, SampleOutside}
use Rattle.numbers.specs.Whole.{abs, narrow, is_infinite}
use Rattle.windows.specs.Set.{Set, windows}
use Rattle.vertical.specs.Frame.{frame, output, bad_size, bad_shape}
use Rattle.vertical.specs.PassedF32.{infinite_in}
use Rattle.vertical.specs.F32.{value_f32, infinities, bad_weights, bad_samples, passed_f32}
use Rattle.vertical.proofs.Columns.{some_column}
use Rattle.vertical.proofs.F32Infinite.{infinities_none}
use Rattle.vertical.proofs.F32Counts.{counted, counts_add_up}
use Rattle.promises.specs.InfiniteCounts.{sum_f32, least_infinite, InfiniteCounts}
use Rattle.promises.proofs.Accepted.{passed_done_f32}
use Rattle.promises.proofs.InfiniteLimit.{at_the_limit, narrow_finite}

-- the sum is what the pass narrows
pub sum_narrowed : (s : Set Float) (samples : ℕ → ℕ → Float) (i j : ℕ) → value_f32 s samples i j ≡ narrow (sum_f32 s samples i j)
sum_narrowed s samples i j = refl

module _ (s : Set Float) (src : List Float) (row first count : ℕ)
    (small : (i j : ℕ) → i < windows s.layout → j < count → lt (abs (sum_f32 s (frame nan src row) i (first + j))) least_infinite ≡ true) where
  abbrev Cell : ℕ → ℕ → Float
  Cell i j = value_f32 s (frame nan src row) i (first + j)

  none_out : infinities (output (value_f32 s (frame nan src row)) (windows s.layout) first count) ≡ 0
  none_out =
      infinities_none (output (value_f32 s (frame nan src row)) (windows s.layout) first count)
      (λ k h.
      let n = windows s.layout * count in
      let l : k < n = omega (arith, length_tab 0 n (grid count Cell)) in
      let some = some_column (windows s.layout) count k l in
      ap is_infinite (get_d_tab 0 n (grid count Cell) k nan l ∙ ap (grid count Cell) (zero-add k))
      ∙ narrow_finite (sum_f32 s (frame nan src row) (k / count) (first + k % count)) (small (k / count) (k % count) ((div-lt_iff_lt-mul some).1 l) (mod-lt k some)))

-- an answer is refused, which counts 0, or done
by_case : (a b c d : Bool) (n : ℕ) → n ≡ 0 → infinite_in (cond a (Err BadSide) (cond b (Err DoesNotFit) (cond c (Err SampleOutside) (cond d (Err SampleOutside) (Ok n))))) ≡ 0
by_case true b c d n e = refl
by_case false true c d n e = refl
by_case false false true d n e = refl
by_case false false false true n e = refl
by_case false false false false n e = e

pub infinite_counts : InfiniteCounts
unfolding passed_f32
infinite_counts = record {
  least = at_the_limit;
  of_the_output = λ s src row first count out done. counted s src row first count out (passed_done_f32 (passed_f32 s src row first count (length out)) done);
  add_up = λ s src row whole done. counts_add_up s src row whole (passed_done_f32 (passed_f32 s src row 0 row (length whole)) done);
  none = λ s src row first count room small. by_case (bad_size s.layout.lines (windows s.layout) row) (bad_shape s.layout (length s.weights) (length src) row first count room) (bad_weights s) (bad_samples s src row first count) (infinities (output (value_f32 s (frame nan src row)) (windows s.layout) first count)) (none_out s src row first count small);
}
