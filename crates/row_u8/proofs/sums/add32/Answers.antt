-- `sums::add32`: the goals that the check leaves; the argument stands in Invariants.antt. Assumes nothing.
use mathlib.Core.Path.{◌≡◌, ◌∙◌, refl}
use Prim.Native.Nat.{ℕ, ◌+◌}
use native.Mathlib.Omega.{arith}
use lib.IntN.{pos, ◌+ℤ◌, ◌*ℤ◌}
use lib.ListN.{get_or, length-set}
use mir.Syntax.{w16}
use mir.Val.{to_z, of_z}
use Rattle.lists.proofs.StoreLaws.{set_below, set_above}
use Rattle.vertical.proofs.ReadBack.{back32 as back}
use Rattle.row_u8.proofs.sums.add32.Goals as goal

pub loop-t-preserved : goal.loop-t-preserved
loop-t-preserved c =
    let a = c.args in
    let e : get_or c.loop-t.r c.loop-t.t (pos 0) ≡ get_or a.ss c.loop-t.t (pos 0) = c.loop-t.invariant.2 c.loop-t.t (omega arith) in (
      simp length-set c.loop-t.invariant.0,
      set_below c.loop-t.r c.loop-t.t _ (pos 0) (λ (x : ℕ). get_or a.ss x (pos 0) +ℤ to_z w16 (of_z w16 a.w) *ℤ pos (get_or a.src.now (a.at + x) 0)) (omega arith) (back c.step.type_inv ∙ (c.step.ensures ∙ rw (back c.step-arg-1.given, e) refl)) c.loop-t.invariant.1,
      set_above c.loop-t.r c.loop-t.t _ (pos 0) (λ (x : ℕ). get_or a.ss x (pos 0)) c.loop-t.invariant.2,
    )
