-- `scan_windows`: after i turns i lines are there (`Run`), so a line that is not there ends the run. Assumes nothing.
use Rattle.scan.proofs.RunLaws.{Run}
use Rattle.sheet_scan.specs.Lines.{window_line}
use Rattle.sheet_scan.proofs.rows.scan_windows.Given as goal

abbrev pub invariant-loop-i : goal.invariant-loop-i
invariant-loop-i l = Run (window_line l.lines l.window l.limit) l.text l.outs l.at l.p l.i
