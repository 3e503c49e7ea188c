-- `put_weights`: the goals that the check leaves; the argument stands in Invariants.antt. Assumes nothing.
use mathlib.Core.Path.{◌∙◌}
use Prim.Native.Nat.{◌≤◌, ◌^◌}
use lib.IntN.{pos}
use mir.Syntax.{w64}
use mir.Facts.{to_z-of_z}
use native.Mathlib.Nat.{le_trans, lt_of_lt_of_le}
use native.Mathlib.Omega.{arith}
use borrow.Author.Rules.{rules}
use Rattle.std.proofs.Common.{pow_mono}
use Rattle.windows.proofs.WeightLaws.{length_values, values_set}
use Rattle.sheet_scan.proofs.RowLaws.{apart_item}
use Rattle.excess_scan.proofs.AlongLaws.{along_there}
use Rattle.excess_scan.proofs.InsideLaws.{inside_fits}
use Rattle.sheet_lists.proofs.FillLaws.{filled_none, filled_more, filled_all, inside_mag}
use Rattle.sheet_lists.proofs.slots.put_weights.Goals as goal

pub loop-j-init : goal.loop-j-init
loop-j-init g c = filled_none _ _ _ _ _ c.requires.le_limit.2

pub weight-w-requires : goal.weight-w-requires
weight-w-requires g c =
    let small : c.args.limit ≤ 2 ^ 31 = le_trans c.requires.le_limit.1 (pow_mono g.met.W.Weight.limit_small) in
    let inv = c.loop-j.invariant in
    record { le_limit = (c.requires.le_limit.0, small, inv.along.within, search rules); there = along_there _ _ _ _ (pos 0) c.requires.there inv.along (search rules) }

pub from_number-requires : goal.from_number-requires
from_number-requires g c =
    let small : c.args.limit ≤ 2 ^ 31 = le_trans c.requires.le_limit.1 (pow_mono g.met.W.Weight.limit_small) in
    let good = c.weight-w.ensures.answer.good in
    rw (to_z-of_z (inside_fits w64 c.args.limit c.weight-w.result.value (omega arith) good)) (lt_of_lt_of_le (inside_mag c.args.limit c.weight-w.result.value good) c.requires.le_limit.1)

pub loop-j-preserved : goal.loop-j-preserved
loop-j-preserved g c =
    let small : c.args.limit ≤ 2 ^ 31 = le_trans c.requires.le_limit.1 (pow_mono g.met.W.Weight.limit_small) in
    let good = c.weight-w.ensures.answer.good in
    let kept = c.from_number.ensures ∙ to_z-of_z (inside_fits w64 c.args.limit c.weight-w.result.value (omega arith) good) in
    rw (values_set g.met.W.Weight.each c.loop-j.out c.loop-j.j c.from_number.result, kept)
    (filled_more _ _ _ _ _ (apart_item c.args.limit c.args.size (omega arith) c.loop-j.j) (rw (length_values g.met.W.Weight.each c.args.out.now) c.requires.le_limit.3) c.loop-j.invariant (search rules) c.weight-w.ensures.answer)

pub returns : goal.returns
returns g c =
    let done = filled_all _ _ _ _ _ c.loop-j.invariant (search rules) in
    record { answer = λ l next f. (done l next f).0; written = λ l next f. (done l next f).1 }
