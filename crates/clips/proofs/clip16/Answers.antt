-- `clip16`: what `at_least` gives is from 0 on and clips as v does, so `at_most` gives the clip of v. Assumes nothing.
use borrow.Author.Rules.{rules}
use mathlib.Core.Path.{◌∙◌, ap}
use lib.IntN.{ℤ, pos}
use mir.Facts.{to_z-of_z}
use mir.Syntax.{w64}
use Rattle.clips.specs.Table.{natural}
use Rattle.clips.proofs.Laws.{natural_same, clipped_same}
use Rattle.clips.proofs.clip16.Goals as goal

pub at_most-requires : goal.at_most-requires
at_most-requires c = natural_same (to_z-of_z {w = w64} (record { sfits = c.at_least.type_inv }) ∙ c.at_least.ensures)

pub returns : goal.returns
returns c =
    let back = to_z-of_z {w = w64} (record { sfits = c.at_least.type_inv }) ∙ c.at_least.ensures ∙ ap (λ (z : ℤ). pos (natural z)) (to_z-of_z {w = w64} c.ranges.v) in
    record { answer = c.at_most.ensures ∙ clipped_same 65535 c.args.v back }
