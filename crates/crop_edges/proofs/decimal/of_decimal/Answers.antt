-- Both numbers are exact, so the quotient is rounded once (`decimal_once`); the sign is put on afterwards. Assumes nothing.
use Rattle.std.proofs.Common.{◌^◌, false, sym, ap, ◌∙◌, arith}
use lib.Ieee.{binary64, neg}
use Rattle.floats.proofs.Laws.{round_neg}
use Rattle.crop_edges.specs.Edge.{whole_of_value, places_of_value}
use Rattle.crop_edges.proofs.EdgeLaws.{digits_few, decimal_once}
use Rattle.crop_edges.proofs.decimal.of_decimal.Goals as goal

pub power-requires : goal.power-requires
power-requires c =
    let few = digits_few c.args.text.now c.requires in
    rw c.places_of-places.ensures.answer (omega arith)

pub returns-then-minus : goal.returns-then-minus
returns-then-minus c =
    let text = c.args.text.now in
    record {
      answer = rw (
        sym c.minus.ensures.answer ∙ c.if-minus.true,
        c.nearest_u64_to_f64.ensures,
        c.nearest_u64_to_f64-2.ensures,
        c.whole_of-whole.ensures.answer,
        c.power.ensures.answer,
        c.places_of-places.ensures.answer,
      ) (ap neg (decimal_once text c.requires) ∙ round_neg binary64 false (whole_of_value text) (10 ^ places_of_value text));
    }

pub returns-else-minus : goal.returns-else-minus
returns-else-minus c =
    let text = c.args.text.now in
    record {
      answer = rw (
        sym c.minus.ensures.answer ∙ c.if-minus.false,
        c.nearest_u64_to_f64.ensures,
        c.nearest_u64_to_f64-2.ensures,
        c.whole_of-whole.ensures.answer,
        c.power.ensures.answer,
        c.places_of-places.ensures.answer,
      ) (decimal_once text c.requires);
    }
