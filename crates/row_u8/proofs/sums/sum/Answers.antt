-- `sums::sum`: the goals that the check leaves; the argument stands in Invariants.antt. Assumes nothing.
use mathlib.Core.Path.{◌∙◌, refl}
use Prim.Native.Nat.{◌^◌, ◌<◌, ◌*◌}
use native.Mathlib.Omega.{arith}
use lib.IntN.{pos, nat_abs}
use lib.ListN.{length, get_or}
use lib.Signed.{mag}
use mir.Facts.{to_z-of_z}
use mir.Syntax.{w16, w32}
use mir.Val.{to_z, of_z}
use Rattle.lists.proofs.TabLaws.{row_next}
use Rattle.vertical.specs.Column.{weight_at}
use Rattle.vertical.proofs.ReadBack.{back32 as back}
use Rattle.vertical.proofs.ColumnLaws.{sum_none, turn}
use Rattle.row_u8.proofs.Sizes.{total_none, turn_size, turn_room}
use Rattle.row_u8.proofs.sums.sum.Goals as goal

pub loop-w-init : goal.loop-w-init
loop-w-init c = (omega arith, sum_none _ _ _ _ _, omega (arith, total_none (weight_at c.args.ws.now)))

pub step-acc-requires : goal.step-acc-requires
step-acc-requires c =
    let a = c.args in
    let v = get_or a.ws.now c.loop-w.w-index (pos 0) in
    turn_room (nat_abs (to_z w32 (of_z w32 a.init))) (weight_at a.ws.now) (to_z w32 c.loop-w.acc-bits) (to_z w16 (of_z w16 v)) c.loop-w.w-index (length a.ws.now) (to_z-of_z {w = w16} (record { sfits = c.step-arg-1.given })) c.loop-w-test.true c.loop-w.invariant.2 (rw (to_z-of_z c.ranges.init) c.requires.ws_bound)

pub loop-w-preserved : goal.loop-w-preserved
loop-w-preserved c =
    let a = c.args in
    let w : mag (get_or a.ws.now c.loop-w.w-index (pos 0)) < 2 ^ 15 = c.step-arg-1.given in (
      omega (arith, row_next (c.loop-w.w-index * a.row) c.loop-w.w-index a.row refl),
      back c.step-acc.type_inv ∙ turn a.ws.now a.src.now a.at0 a.row c.loop-w.w-index (to_z w32 (of_z w32 a.init)) c.step-acc.ensures (to_z-of_z {w = w16} (record { sfits = w })) c.loop-w.invariant.1 c.loop-w.invariant.0,
      rw (back c.step-acc.type_inv) (turn_size (nat_abs (to_z w32 (of_z w32 a.init))) (weight_at a.ws.now) (to_z w32 c.loop-w.acc-bits) (to_z w16 (of_z w16 (get_or a.ws.now c.loop-w.w-index (pos 0)))) (get_or a.src.now c.loop-w.at 0) c.loop-w.w-index c.step-acc.ensures (to_z-of_z {w = w16} (record { sfits = w })) c.loop-w.invariant.2 (c.type_inv.src c.loop-w.at).fits),
    )
