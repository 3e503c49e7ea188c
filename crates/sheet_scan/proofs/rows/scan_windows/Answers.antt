-- `rows::scan_windows`: the goals that the check leaves; the argument stands in Invariants.antt. Assumes nothing.
use Prim.Native.Nat.{◌<◌, ◌^◌}
use Rattle.scan.proofs.Handed.{handed}
use Rattle.scan.proofs.RunLaws.{run_none, run_more, run_stopped, run_found}
use Rattle.sheet_scan.proofs.OpenLaws.{apart_window, window_one}
use borrow.Author.Rules.{rules}
use Rattle.sheet_scan.proofs.rows.scan_windows.Goals as goal

pub loop-i-init : goal.loop-i-init
loop-i-init c = run_none _ _ _ _ c.requires.4

pub scan_window-requires : goal.scan_window-requires
scan_window-requires c =
    let pre = c.requires in
    (pre.0, pre.1, pre.2, pre.3, c.loop-i.invariant.within)

pub returns-in_err-p : goal.returns-in_err-p
returns-in_err-p c =
    let lines = c.args.lines in
    let window = c.args.window in
    let limit = c.args.limit in
    let small : lines < 2 ^ 32 = search rules in
    record {
      answer = rw (handed c.from_residual.result _ c.from_residual.ensures.1)
          (run_stopped _ _ _ _ (λ i. apart_window lines window limit i small c.requires.3) (λ i. window_one lines window limit i c.requires.0 c.requires.1 c.requires.2) c.loop-i.invariant (search rules) c.in_err-p.ensures.answer);
    }

pub loop-i-preserved : goal.loop-i-preserved
loop-i-preserved c =
    let f = rw c.in_ok-p.was at c.scan_window.ensures.answer in
    run_more _ _ _ _ c.loop-i.invariant (search rules) f.1

pub returns : goal.returns
returns c = record { answer = (c.loop-i.invariant.values, run_found _ _ _ _ c.loop-i.invariant (search rules)) }
