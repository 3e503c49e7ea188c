-- `judge::sizes_total`: the goals that the check leaves; the argument stands in Invariants.antt. Assumes nothing.
use mathlib.Core.Path.{◌≡◌, ◌∙◌, ap, sym}
use Prim.Native.Nat.{ℕ, ◌^◌, ◌≤◌, ◌<◌}
use native.Mathlib.Omega.{arith}
use lib.IntN.{ℤ, pos, nat_abs}
use lib.ListN.{length, get_or}
use lib.Signed.{mag, nat_abs-le}
use mir.Facts.{to_z-of_z}
use mir.Syntax.{w16}
use mir.Val.{to_z, of_z}
use Rattle.vertical.specs.Column.{weight_at}
use Rattle.row_u8.proofs.Sizes.{total_none, total_more}
use Rattle.vertical_u8.proofs.judge.sizes_total.Goals as goal

pub loop-w-init : goal.loop-w-init
loop-w-init c = (sym (total_none (weight_at c.args.ws.now)), omega arith)

-- the size r that a turn read, of the weight v
read : (v : ℤ) {r : ℕ} → mag v < 2 ^ 15 → r ≡ nat_abs (to_z w16 (of_z w16 v)) → (r ≡ nat_abs v) × (r ≤ 2 ^ 15)
read v {r} h e = let b : to_z w16 (of_z w16 v) ≡ v = to_z-of_z {w = w16} (record { sfits = h }) in let s : r ≡ nat_abs v = e ∙ ap nat_abs b in (s, rw s (nat_abs-le v h))

pub overflow_add-total : goal.overflow_add-total
overflow_add-total c =
    let s = read (get_or c.args.ws.now c.loop-w.w-index (pos 0)) c.size-arg-1.given c.size-total.ensures in
    record { fits = omega (arith, c.loop-w.invariant.1, s.1, c.requires) }

pub loop-w-preserved : goal.loop-w-preserved
loop-w-preserved c =
    let ws = c.args.ws.now in
    let s = read (get_or ws c.loop-w.w-index (pos 0)) c.size-arg-1.given c.size-total.ensures in (
      omega (arith, s.0, c.loop-w.invariant.0, total_more (weight_at ws) c.loop-w.w-index),
      omega (arith, s.1, c.loop-w.invariant.1),
    )

pub returns : goal.returns
returns c =
    let all : c.loop-w.w-index ≡ length c.args.ws.now = omega arith in
    (rw (← all) c.loop-w.invariant.0, omega (arith, c.loop-w.invariant.1, c.requires))
