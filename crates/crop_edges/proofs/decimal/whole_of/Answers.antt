-- The digits after the point continue those before it; 15 digits have room (`upper_room`, `lower_room`). Assumes nothing.
use Rattle.std.proofs.Common.{lit<}
use Rattle.crop_edges.specs.Edge.{whole_of_value}
use Rattle.crop_edges.proofs.EdgeLaws.{places_in, upper_room, lower_room}
use Rattle.crop_edges.proofs.decimal.whole_of.Goals as goal

pub continued-upper-requires : goal.continued-upper-requires
continued-upper-requires c =
    let text = c.args.text.now in
    rw (c.whole_at.ensures.answer, c.before_of.ensures.answer) ((places_in text).0, lit< tt, upper_room text c.requires)

pub continued-requires : goal.continued-requires
continued-requires c =
    let text = c.args.text.now in
    rw (c.continued-upper.ensures.answer, c.whole_at.ensures.answer, c.before_of.ensures.answer, c.fraction_at.ensures.answer, c.places_of.ensures.answer)
    ((places_in text).1, lit< tt, lower_room text c.requires)

pub returns : goal.returns
unfolding whole_of_value
returns c =
    record {
      answer = rw (
        ← c.whole_at.ensures.answer,
        ← c.before_of.ensures.answer,
        ← c.continued-upper.ensures.answer,
        ← c.fraction_at.ensures.answer,
        ← c.places_of.ensures.answer,
      ) c.continued.ensures.answer;
    }
