-- `scan_excesses`: the key, and then the list of the excesses; of any reading of the windows' lines both make the line. Assumes nothing.
use Rattle.scan.proofs.FieldLaws.{found_within}
use Rattle.scan.proofs.Handed.{handed}
use Rattle.scan.proofs.RunText.{run_long}
use Rattle.sheet_scan.specs.Lines.{window_line}
use Rattle.excess_scan.proofs.KnownLaws.{line_no_key, line_passes}
use Rattle.excess_scan.proofs.line.scan_excesses.Goals as goal

pub scan_list-requires : goal.scan_list-requires
scan_list-requires c =
    let found = rw c.in_ok-next.was at c.take_key.ensures.answer in
    let pre = c.requires.le_lines in
    record { le_lines = (pre.0, pre.1, pre.3, pre.4, pre.5, pre.6); mid_in_bounds = (c.requires.mid_in_bounds.0, found_within _ c.requires.mid_in_bounds.1 found.1); there = c.requires.there }

pub returns-in_err-next : goal.returns-in_err-next
returns-in_err-next c = record {
  answer = λ rows next f.
      rw (handed c.from_residual.result _ c.from_residual.ensures.1)
      (line_no_key c.args.precision rows c.args.outs (run_long (window_line c.args.lines c.args.window c.args.limit) 0 c.args.outs rows f.good) c.requires.le_lines.2 c.in_err-next.ensures.answer);
}

pub returns : goal.returns
returns c =
    let found = rw c.in_ok-next.was at c.take_key.ensures.answer in
    record { answer = λ rows next f. line_passes c.args.precision rows c.args.outs (run_long (window_line c.args.lines c.args.window c.args.limit) 0 c.args.outs rows f.good) c.requires.le_lines.2 c.scan_list.result found.1 (c.scan_list.ensures.answer rows next f) }
