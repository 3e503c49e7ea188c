-- `columns::chunks`: the goals that the check leaves; the argument stands in Invariants.antt. Assumes nothing.
use mathlib.Core.Path.{◌≡◌, ◌∙◌}
use Prim.Native.Nat.{◌-◌, ◌≤◌, ◌+◌, ◌*◌}
use native.Mathlib.Omega.{arith}
use lib.ListN.{length}
use Rattle.lists.proofs.TabLaws.{written_none, written_part}
use Rattle.vertical.specs.Column.{row_value}
use Rattle.vertical.proofs.ReadBack.{back32 as back}
use Rattle.vertical.proofs.ColumnLaws.{whole_part}
use Rattle.row_u8.proofs.columns.chunks.Goals as goal

pub loop-q-init : goal.loop-q-init
loop-q-init c = written_none

pub loop-q-preserved : goal.loop-q-preserved
loop-q-preserved c =
    let a = c.args in
    let h = c.half-init in
    let sums = c.sums32-ss in
    let j = c.loop-q.q * 32 in
    let ends : j + 32 ≤ length a.out.now = omega (arith, c.loop-q.invariant.long) in
    let done : (c.loop-q.q + 1) * 32 ≡ j + 32 = omega arith in
    rw done (written_part 32 j (j + 32 - j) (row_value 255 a.p a.ws.now a.src.now a.at0 a.row (length a.ws.now)) c.loop-q.invariant (omega arith) ends
    (whole_part 255 a.p a.ws.now a.src.now a.at0 a.row j 32 sums.result (back h.type_inv ∙ h.ensures) sums.ensures c.put32.ensures))
