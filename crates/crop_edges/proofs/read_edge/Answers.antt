-- The definition's cases, in its order. Assumes nothing.
use Rattle.std.proofs.Common.{sym, ap, ◌∙◌}
use Rattle.std.specs.Prelude.{Some}
use Rattle.crop_edges.specs.Edge.{edge_of}
use Rattle.crop_edges.proofs.read_edge.Goals as goal

pub of_pattern-requires : goal.of_pattern-requires
of_pattern-requires c = sym c.is_pattern.ensures.answer ∙ c.if-is_pattern.true

pub returns-then-is_pattern : goal.returns-then-is_pattern
unfolding edge_of
returns-then-is_pattern c = record { answer = rw (sym c.is_pattern.ensures.answer ∙ c.if-is_pattern.true) (ap Some c.of_pattern.ensures.answer) }

pub of_decimal-requires : goal.of_decimal-requires
of_decimal-requires c = sym c.is_decimal.ensures.answer ∙ c.if-is_decimal.true

pub returns-then-is_decimal : goal.returns-then-is_decimal
unfolding edge_of
returns-then-is_decimal c = record { answer = rw (sym c.is_pattern.ensures.answer ∙ c.if-is_pattern.false, sym c.is_decimal.ensures.answer ∙ c.if-is_decimal.true) (ap Some c.of_decimal.ensures.answer) }

pub returns : goal.returns
unfolding edge_of
returns c = record { answer = rw (sym c.is_pattern.ensures.answer ∙ c.if-is_pattern.false, sym c.is_decimal.ensures.answer ∙ c.if-is_decimal.false) }
