-- `columns::short_chunks`: the goals that the check leaves; the argument stands in Invariants.antt. Assumes nothing.
use mathlib.Core.Path.{◌≡◌}
use Prim.Native.Nat.{◌-◌, ◌≤◌, ◌+◌, ◌*◌}
use native.Mathlib.Omega.{arith}
use lib.ListN.{length}
use Rattle.lists.proofs.StoreLaws.{part_size}
use Rattle.lists.proofs.TabLaws.{written_none, written_part}
use Rattle.vertical.specs.Column.{column_sum, row_value}
use Rattle.row_u16.proofs.Rounded.{number_as}
use Rattle.row_u16.proofs.Parts.{double_part}
use Rattle.row_u16.proofs.columns.short_chunks.Goals as goal

pub loop-q-init : goal.loop-q-init
loop-q-init c = written_none

pub put16-requires : goal.put16-requires
put16-requires c =
    let a = c.args in
    let sums = c.sums16-ss in
    let j = c.loop-q.q * 16 in
    record { by_index = (λ t k. number_as a.p (column_sum a.ws.now a.src.now (a.at0 + j + t) a.row (length a.ws.now)) c.requires.le_p.0 c.requires.le_p.1 (sums.ensures.by_index_3 t k) (sums.ensures.by_index_2 t k) c.scaled-top.ensures.answer c.scaled-big.ensures.answer); out_len = part_size c.loop-q.out j 16 (omega (arith, c.loop-q.invariant.long)) }

pub loop-q-preserved : goal.loop-q-preserved
loop-q-preserved c =
    let a = c.args in
    let sums = c.sums16-ss in
    let j = c.loop-q.q * 16 in
    let ends : j + 16 ≤ length a.out.now = omega (arith, c.loop-q.invariant.long) in
    let done : (c.loop-q.q + 1) * 16 ≡ j + 16 = omega arith in
    rw done (written_part 16 j (j + 16 - j) (row_value 65535 a.p a.ws.now a.src.now a.at0 a.row (length a.ws.now)) c.loop-q.invariant (omega arith) ends
    (double_part a.p a.ws.now a.src.now a.at0 a.row j 16 sums.result c.requires.le_p.0 c.requires.le_p.1 sums.ensures.by_index_3 sums.ensures.by_index_2 c.scaled-top.ensures.answer c.scaled-big.ensures.answer c.put16.ensures))
