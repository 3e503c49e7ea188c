-- `sums::add16`: the goals that the check leaves; the argument stands in Invariants.antt. Assumes nothing.
use mathlib.Core.Path.{◌≡◌, ◌∙◌}
use mathlib.Core.Bool.{not}
use mathlib.Core.List.{List}
use Prim.Native.Nat.{ℕ, ◌^◌, ◌<◌, ◌+◌, ◌*◌}
use native.Mathlib.Omega.{arith}
use lib.Dec.{T}
use lib.ListN.{length, get_or, length-set}
use lib.Ieee.{Float, nan, is_nan}
use Rattle.lists.proofs.StoreLaws.{set_below, set_above}
use Rattle.row_f32.proofs.Fast.{bounded_number}
use Rattle.row_f32.proofs.SumLaws.{turn}
use Rattle.row_f32.specs.Column.{column_sum, Summable}
use Rattle.row_f32.proofs.sums.add16.Goals as goal

number : (ws src : List Float) (at row k t : ℕ) → Summable ws src at row 16 → k < length ws → t < 16 → T (not (is_nan (get_or src (at + k * row + t) nan)))
number ws src at row k t g h l = bounded_number (get_or src (at + k * row + t) nan) (2 ^ 128) (g.light k t h l)

swap : (A K t : ℕ) → A + K + t ≡ A + t + K
swap A K t = omega arith

pub step-requires : goal.step-requires
step-requires c =
    number c.args.ws.now c.args.src.now c.args.at0 c.args.row c.args.k c.loop-t.t c.requires.summable c.requires.k_in_bounds (omega arith)

pub loop-t-preserved : goal.loop-t-preserved
loop-t-preserved c =
    let a = c.args in (
      simp length-set c.loop-t.invariant.0,
      set_below
          c.loop-t.r
          c.loop-t.t
          _
          nan
          (λ (x : ℕ). column_sum a.ws.now a.src.now (a.at0 + x) a.row (a.k + 1))
          (omega arith)
          (turn
          a.ws.now
          a.src.now
          (a.at0 + c.loop-t.t)
          a.row
          a.k
          (a.at0 + a.k * a.row + c.loop-t.t)
          c.step.ensures
          (c.loop-t.invariant.2 c.loop-t.t (omega arith) ∙ c.requires.sums16.1 c.loop-t.t (omega arith))
          (swap a.at0 (a.k * a.row) c.loop-t.t))
          c.loop-t.invariant.1,
      set_above c.loop-t.r c.loop-t.t _ nan (λ (x : ℕ). get_or a.ss x nan) c.loop-t.invariant.2,
    )
