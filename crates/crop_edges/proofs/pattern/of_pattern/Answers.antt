-- 16 hexadecimal digits write a number below 2^64. Assumes nothing.
use Rattle.std.proofs.Common.{ap, ◌∙◌, lit<, lit≤}
use Rattle.crop_edges.proofs.EdgeLaws.{pattern_long}
use lib.Ieee.{binary64, of_bits}
use Rattle.crop_edges.specs.Edge.{pattern_of}
use Rattle.crop_edges.proofs.pattern.of_pattern.Goals as goal

pub continued-requires : goal.continued-requires
continued-requires c = (pattern_long c.args.text.now c.requires, lit< tt, lit≤ tt)

pub returns : goal.returns
unfolding pattern_of
returns c = record { answer = c.double.ensures.answer ∙ ap (of_bits binary64) c.continued.ensures.answer }
