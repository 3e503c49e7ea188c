-- `clamp8`: what `at_least8` gives is from 0 on and clips as v does, so `at_most8` gives the clip of v. Assumes nothing.
use borrow.Author.Rules.{rules}
use mathlib.Core.Path.{◌∙◌, ap}
use lib.IntN.{ℤ, pos}
use mir.Facts.{to_z-of_z}
use mir.Syntax.{w32}
use Rattle.clips.specs.Table.{natural}
use Rattle.clips.proofs.Laws.{natural_same, clipped_same}
use Rattle.clips.proofs.clamp8.Goals as goal

pub at_most8-requires : goal.at_most8-requires
at_most8-requires c = natural_same (to_z-of_z {w = w32} (record { sfits = c.at_least8.type_inv }) ∙ c.at_least8.ensures)

pub returns : goal.returns
returns c =
    let back = to_z-of_z {w = w32} (record { sfits = c.at_least8.type_inv }) ∙ c.at_least8.ensures ∙ ap (λ (z : ℤ). pos (natural z)) (to_z-of_z {w = w32} c.ranges.v) in
    record { answer = c.at_most8.ensures ∙ clipped_same 255 c.args.v back }
