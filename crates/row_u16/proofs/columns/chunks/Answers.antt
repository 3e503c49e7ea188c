-- `columns::chunks`: the goals that the check leaves; the argument stands in Invariants.antt. Assumes nothing.
use mathlib.Core.Path.{◌≡◌, refl}
use Prim.Native.Nat.{◌+◌, ◌*◌, ◌-◌, ◌≤◌}
use native.Mathlib.Omega.{arith}
use lib.ListN.{length, take, drop}
use Rattle.lists.proofs.StoreLaws.{part_size}
use Rattle.lists.proofs.TabLaws.{row_next, written_part}
use Rattle.vertical.specs.Column.{row_value}
use Rattle.row_u16.proofs.Parts.{part_is, turn_end}
use Rattle.row_u16.proofs.columns.chunks.Goals as goal

pub loop-q-preserved : goal.loop-q-preserved
loop-q-preserved g c =
    let a = c.args in
    let N = g.row.N in
    let j = a.from + c.loop-q.q * N in
    let ends : j + N ≤ length a.out.now = turn_end _ _ _ N c.requires.from_in_bounds c.loop-q-test.true in
    let done : a.from + (c.loop-q.q + 1) * N ≡ j + N = omega (arith, row_next (c.loop-q.q * N) c.loop-q.q N refl) in
    rw done (written_part N j (j + N - j) (row_value 65535 a.p a.ws.now a.src.now a.at0 a.row (length a.ws.now)) c.loop-q.invariant (omega arith) ends
    (part_is a.p a.ws.now a.src.now a.at0 a.row j N (length (take (j + N - j) (drop j c.loop-q.out))) (part_size c.loop-q.out j N (omega (arith, c.loop-q.invariant.long))) c.chunk.ensures))
