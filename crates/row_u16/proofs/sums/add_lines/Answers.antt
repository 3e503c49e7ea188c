-- `sums::add_lines`: the goals that the check leaves; the argument stands in Invariants.antt. Assumes nothing.
use mathlib.Core.Path.{refl}
use Prim.Native.Nat.{◌*◌, ◌^◌, ◌<◌}
use native.Mathlib.Omega.{arith}
use lib.Signed.{mag}
use lib.ListN.{get_or}
use lib.IntN.{pos}
use mir.Syntax.{w32}
use mir.Facts.{to_z-of_z}
use Rattle.lists.proofs.TabLaws.{row_next}
use Rattle.row_u16.proofs.Sizes.{added_none, added_long, added_small, added_more}
use Rattle.row_u16.proofs.sums.add_lines.Goals as goal

pub loop-w-init : goal.loop-w-init
loop-w-init c =
    let a = c.args in
    (omega arith, added_none a.ws.now a.src.now a.at0 a.row a.ss.now c.requires.by_index_2)

pub add_line-requires : goal.add_line-requires
add_line-requires c =
    let a = c.args in
    let d = c.loop-w.invariant.1 in
    record { ss_in_bounds = omega (arith, c.loop-w.invariant.0, added_long a.ws.now a.src.now a.at0 a.row a.ss.now d, c.requires.by_index c.loop-w.w-index c.loop-w-test.true); by_index = added_small a.ws.now a.src.now a.at0 a.row a.ss.now d (omega (arith, c.requires.ws_len_bound)) }

pub loop-w-preserved : goal.loop-w-preserved
loop-w-preserved c =
    let a = c.args in
    let w : mag (get_or a.ws.now c.loop-w.w-index (pos 0)) < 2 ^ 31 = c.add_line-arg-1.given in (
      omega (arith, row_next (c.loop-w.w-index * a.row) c.loop-w.w-index a.row refl),
      added_more a.ws.now a.src.now a.at0 a.row a.ss.now c.loop-w.invariant.1 c.loop-w.invariant.0 (to_z-of_z {w = w32} (record { sfits = w })) w (λ x. (c.type_inv.src x).fits) c.add_line.ensures,
    )
