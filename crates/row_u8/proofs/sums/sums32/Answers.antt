-- `sums::sums32`: the goals that the check leaves; the argument stands in Invariants.antt. Assumes nothing.
use mathlib.Core.Path.{◌∙◌, refl}
use Prim.Native.Nat.{◌^◌, ◌<◌, ◌*◌, ◌+◌}
use native.Mathlib.Omega.{arith}
use lib.IntN.{pos, nat_abs}
use lib.ListN.{length, get_or, get_or-replicate}
use lib.Signed.{mag}
use mir.Facts.{to_z-of_z}
use mir.Syntax.{w16, w32}
use mir.Val.{to_z, of_z}
use Rattle.lists.proofs.TabLaws.{row_next}
use Rattle.vertical.specs.Column.{weight_at}
use Rattle.vertical.proofs.ColumnLaws.{sum_none, turn}
use Rattle.row_u8.proofs.Sizes.{total_none, turn_size, turn_room}
use Rattle.row_u8.proofs.sums.sums32.Goals as goal

pub loop-w-init : goal.loop-w-init
loop-w-init c =
    let a = c.args in
    let z = to_z w32 (of_z w32 a.init) in (
      omega arith,
      refl,
      (λ t h. get_or-replicate 32 t z (pos 0) h ∙ sum_none a.ws.now a.src.now (a.at0 + t) a.row z),
      (λ t h. rw (get_or-replicate 32 t z (pos 0) h) (omega (arith, total_none (weight_at a.ws.now)))),
    )

pub add32-more-requires : goal.add32-more-requires
add32-more-requires c = record { ss_len = c.loop-w.invariant.1; at_in_bounds = rw c.loop-w.invariant.0 (c.requires.by_index c.loop-w.w-index c.loop-w-test.true); by_index = λ t h. turn_room (nat_abs (to_z w32 (of_z w32 c.args.init))) (weight_at c.args.ws.now) (get_or c.loop-w.ss t (pos 0)) (to_z w16 (of_z w16 (get_or c.args.ws.now c.loop-w.w-index (pos 0)))) c.loop-w.w-index (length c.args.ws.now) (to_z-of_z {w = w16} (record { sfits = c.add32-arg-1.given })) c.loop-w-test.true (c.loop-w.invariant.3 t h) (rw (to_z-of_z c.ranges.init) c.requires.ws_bound) }

pub loop-w-preserved : goal.loop-w-preserved
loop-w-preserved c =
    let a = c.args in
    let v = get_or a.ws.now c.loop-w.w-index (pos 0) in
    let w : mag v < 2 ^ 15 = c.add32-arg-1.given in (
      omega (arith, row_next (c.loop-w.w-index * a.row) c.loop-w.w-index a.row refl),
      c.add32-more.ensures.result_len,
      (λ t h. turn a.ws.now a.src.now (a.at0 + t) a.row c.loop-w.w-index (to_z w32 (of_z w32 a.init)) (c.add32-more.ensures.by_index_2 t h) (to_z-of_z {w = w16} (record { sfits = w })) (c.loop-w.invariant.2 t h) (omega arith)),
      (λ t h. turn_size (nat_abs (to_z w32 (of_z w32 a.init))) (weight_at a.ws.now) (get_or c.loop-w.ss t (pos 0)) (to_z w16 (of_z w16 v)) (get_or a.src.now (c.loop-w.at + t) 0) c.loop-w.w-index (c.add32-more.ensures.by_index_2 t h) (to_z-of_z {w = w16} (record { sfits = w })) (c.loop-w.invariant.3 t h) (c.type_inv.src (c.loop-w.at + t)).fits),
    )
