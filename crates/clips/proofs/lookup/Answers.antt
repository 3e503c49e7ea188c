-- `lookup`: that CLIP8_LOOKUPS is the list of the rule's 1,280 values is computed here, once, on the code's own table. Assumes nothing.
use mathlib.Core.Path.{refl}
use borrow.Author.Rules.{rules}
use Rattle.integers.specs.Sums.{clipped}
use Rattle.clips.proofs.lookup.Goals as goal

pub entry-requires : goal.entry-requires
unfolding clipped
entry-requires c = record { fact_1 = refl; fact_2 = c.requires }
