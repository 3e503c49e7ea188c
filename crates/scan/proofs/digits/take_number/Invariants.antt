-- `take_number`: the digits so far read n and some number of the range goes on with them (`Reading`), so the first byte that none goes on with is where the text stops. Assumes nothing.
use Rattle.scan.proofs.TakeLaws.{Reading}
use Rattle.scan.proofs.digits.take_number.Given as goal

abbrev pub invariant-loop-p : goal.invariant-loop-p
invariant-loop-p l = Reading l.low l.high l.end l.text l.at l.p l.n
