-- `support` meets its contract: each arm of the match is the line of `support_of` for that filter. Assumes nothing.
use borrow.Author.Rules.{rules}
use mathlib.Core.Path.{sym, ap}
use Rattle.filters.specs.Filters.{support_of}
use Rattle.filters.proofs.support.Goals as goal

pub returns-in-Box : goal.returns-in-Box
unfolding support_of
returns-in-Box c = record { answer = sym (ap support_of c.in-Box.is) }

pub returns-in-Bilinear : goal.returns-in-Bilinear
unfolding support_of
returns-in-Bilinear c = record { answer = sym (ap support_of c.in-Bilinear.is) }

pub returns-in-CatmullRom : goal.returns-in-CatmullRom
unfolding support_of
returns-in-CatmullRom c = record { answer = sym (ap support_of c.in-CatmullRom.is) }
