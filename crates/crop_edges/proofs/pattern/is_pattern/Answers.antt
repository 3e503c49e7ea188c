-- The tests are those of the definition, in its order. Assumes nothing.
use Rattle.std.proofs.Common.{eqb, get_or, eq-eqb, ne_eqb}
use Rattle.crop_edges.specs.Edge.{is_pattern_value}
use Rattle.crop_edges.proofs.EdgeLaws.{both, not_both}
use Rattle.crop_edges.proofs.pattern.is_pattern.Goals as goal

pub returns-then-text-ne18 : goal.returns-then-text-ne18
unfolding is_pattern_value
returns-then-text-ne18 c = record { answer = rw (ne_eqb _ 18 c.if-text-ne18.true) }

pub returns-then-text : goal.returns-then-text
unfolding is_pattern_value
returns-then-text c =
    let text = c.args.text.now in
    record { answer = rw (eq-eqb _ 18 c.if-text-ne18.false, not_both (eqb (get_or text 0 0) 48) (eqb (get_or text 1 0) 120) c.if-text.true) }

pub returns : goal.returns
unfolding is_pattern_value
returns c =
    let text = c.args.text.now in
    record { answer = rw (eq-eqb _ 18 c.if-text-ne18.false, both (eqb (get_or text 0 0) 48) (eqb (get_or text 1 0) 120) c.if-text.false) c.all_digits.ensures.answer }
