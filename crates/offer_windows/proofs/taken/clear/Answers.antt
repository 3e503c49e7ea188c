-- `taken::clear` meets its contract: what the library fills with 0 is a table of 0. Assumes nothing.
use mathlib.Core.Path.{◌∙◌}
use lib.ListN.{length}
use Rattle.offer_windows.proofs.WalkLaws.{no_excesses}
use Rattle.offer_windows.proofs.taken.clear.Goals as goal

pub returns : goal.returns
returns c = record { written = c.fill.ensures.after (λ y e. e) ∙ no_excesses 0 (length c.args.excesses.now) }
