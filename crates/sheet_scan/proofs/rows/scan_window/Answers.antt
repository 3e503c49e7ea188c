-- `scan_window` meets its contract: a line's beginning and then its weights. Assumes nothing.
use borrow.Author.Rules.{rules}
use Rattle.scan.proofs.FieldLaws.{found_within}
use Rattle.scan.proofs.Handed.{handed}
use Rattle.sheet_scan.proofs.OpenLaws.{window_no_open, window_passes}
use Rattle.sheet_scan.proofs.rows.scan_window.Goals as goal

pub scan_weights-requires : goal.scan_weights-requires
scan_weights-requires c =
    let f = rw c.in_ok-open.was at c.take_open.ensures.answer in
    (c.requires.2, c.requires.3, found_within _ c.requires.4 f)

pub returns-in_err-open : goal.returns-in_err-open
returns-in_err-open c = record { answer = rw (handed c.from_residual.result _ c.from_residual.ensures.1) (window_no_open c.args.lines c.args.window c.args.limit c.args.i c.requires.2 c.in_err-open.ensures.answer) }

pub returns : goal.returns
returns c =
    let f = rw c.in_ok-open.was at c.take_open.ensures.answer in
    record { answer = window_passes c.args.lines c.args.window c.args.limit c.args.i (search rules) c.scan_weights.result f c.scan_weights.ensures.answer }
