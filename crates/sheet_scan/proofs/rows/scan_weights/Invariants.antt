-- `scan_weights`: after j turns j weights are there (`Run`), so a weight that is not there ends the run. Assumes nothing.
use Rattle.scan.proofs.RunLaws.{Run}
use Rattle.sheet_scan.specs.Lines.{weight_item}
use Rattle.sheet_scan.proofs.rows.scan_weights.Given as goal

abbrev pub invariant-loop-j : goal.invariant-loop-j
invariant-loop-j l = Run (weight_item l.limit l.size) l.text l.size l.at l.p l.j
