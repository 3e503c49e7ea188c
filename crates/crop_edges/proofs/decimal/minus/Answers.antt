-- An empty text has the byte 0 at the place 0, as any text has past its end. Assumes nothing.
use Rattle.crop_edges.proofs.EdgeLaws.{empty_minus}
use Rattle.std.proofs.Common.{refl, rules}
use Rattle.crop_edges.specs.Edge.{minus}
use Rattle.crop_edges.proofs.decimal.minus.Goals as goal

pub returns-then-not-is_empty : goal.returns-then-not-is_empty
unfolding minus
returns-then-not-is_empty c = record { answer = refl }

pub returns-else-not-is_empty : goal.returns-else-not-is_empty
returns-else-not-is_empty c = record { answer = rw c.if-not-is_empty.false (empty_minus c.args.text.now (search rules)) }
