-- `words::shared` meets its contract: after k turns k bytes are shared (`Shared`). Assumes nothing.
use Rattle.text.proofs.WordLaws.{Shared}
use Rattle.text.proofs.words.shared.Given as goal

abbrev pub invariant-loop-k : goal.invariant-loop-k
invariant-loop-k l = Shared l.word l.text l.at l.k
