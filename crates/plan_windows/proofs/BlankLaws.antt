-- Document 01's two conditions for No. 8, a window with no weight other than 0 and a weight total of 0, are the one test `blank`: where no line of the range weighs,
-- all are dropped as leading zeros and the total stays +0. Cited by specs/Lines.antt and docs/DECISIONS.md. Assumes nothing.
use mathlib.Core.Path.{◌≡◌, refl, sym, ap, ◌∙◌}
use mathlib.Core.Bool.{Bool, true, false, ◌||◌}
use Prim.Native.Nat.{ℕ, ◌+◌, ◌-◌, ◌≤◌}
use native.Mathlib.Omega.{arith}
use lib.Dec.{ltb}
use lib.Ieee.{eq}
use borrow.Author.Tests.{ltb-true, ltb-false, not-true}
use Rattle.lists.specs.Tab.{any, first}
use Rattle.lists.proofs.AnyLaws.{any_none}
use Rattle.lists.proofs.BoolLaws.{never}
use Rattle.lists.proofs.FirstLaws.{first_ge, first_passes}
use Rattle.floats.specs.Doubles.{zero64}
use Rattle.plans.specs.declared.Plan.{Plan}
use Rattle.line_weights.specs.Weights.{weighs, lead_of}
use Rattle.plan_windows.specs.Lines.{range_start, range_stop, middle, lead, held, total, blank}
use Rattle.plan_windows.proofs.WindowLaws.{none_blank}
use Rattle.plan_windows.proofs.NoWeight.{no_weight}

-- where no line of start, start + 1, .. passes, the search ends past all n
all_dropped : (t : ℕ → Bool) (start n : ℕ) → any n (λ k. t (start + k)) ≡ false → start + n ≤ first t start n
all_dropped t start n none = by (ltb (first t start n) (start + n)) refl
  where
    by : (b : Bool) → ltb (first t start n) (start + n) ≡ b → start + n ≤ first t start n
    by true h =
        let below = ltb-true (first t start n) (start + n) h in
        let low = first_ge t start n in
        let place : start + (first t start n - start) ≡ first t start n = omega arith in
        never (sym (first_passes t start n below) ∙ ap t (sym place) ∙ any_none (λ k. t (start + k)) n none (first t start n - start) (omega arith))
    by false h = ltb-false (first t start n) (start + n) h

module _ (p : Plan) (i : ℕ) where
  none_held : no_weight p i ≡ true → held p i ≡ 0
  unfolding held lead lead_of
  none_held h =
      let n = range_stop p i - range_start p i in
      let past = all_dropped (weighs p.filter (middle p i) p.recip) (range_start p i) n (not-true (any n (λ k. weighs p.filter (middle p i) p.recip (range_start p i + k))) h) in
      omega (arith, past)

  pub blank_is : no_weight p i || eq (total p i) zero64 ≡ blank p i
  blank_is = by (no_weight p i) refl
    where
      by : (b : Bool) → no_weight p i ≡ b → b || eq (total p i) zero64 ≡ blank p i
      by true h = sym (none_blank p i 0 (none_held h) refl)
      by false h = refl
