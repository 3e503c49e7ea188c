-- `rows::scan_weights`: the goals that the check leaves; the argument stands in Invariants.antt. Assumes nothing.
use mathlib.Core.Path.{sym, subst}
use Rattle.scan.specs.Number.{NoDigit}
use Rattle.scan.proofs.Handed.{handed}
use Rattle.scan.proofs.RunLaws.{run_none, run_more, run_stopped, run_found}
use Rattle.sheet_scan.proofs.RowLaws.{item_plain, apart_item, item_zero}
use borrow.Author.Rules.{rules}
use native.Mathlib.Omega.{arith}
use Rattle.sheet_scan.proofs.rows.scan_weights.Goals as goal

pub loop-j-init : goal.loop-j-init
loop-j-init c = run_none _ _ _ _ c.requires.2

pub take_signed-requires : goal.take_signed-requires
take_signed-requires c =
    let pre = c.requires in
    let small = pre.1 in
    (pre.0, omega arith, subst NoDigit (sym c.item_end.ensures.answer) (item_plain c.args.size c.loop-j.j), c.loop-j.invariant.within)

pub returns-in_err-next : goal.returns-in_err-next
returns-in_err-next c =
    let s = rw c.item_end.ensures.answer at c.in_err-next.ensures.answer in
    record {
      answer = rw (handed c.from_residual.result _ c.from_residual.ensures.1)
          (run_stopped _ _ _ _ (apart_item c.args.limit c.args.size c.requires.1) (item_zero c.args.limit c.args.size c.requires.0) c.loop-j.invariant (search rules) s);
    }

pub loop-j-preserved : goal.loop-j-preserved
loop-j-preserved c =
    let f = rw (c.item_end.ensures.answer, c.in_ok-next.was) at c.take_signed.ensures.answer in
    run_more _ _ _ _ c.loop-j.invariant (search rules) f

pub returns : goal.returns
returns c = record { answer = (c.loop-j.invariant.values, run_found _ _ _ _ c.loop-j.invariant (search rules)) }
