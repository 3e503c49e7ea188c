-- `pick` meets its contract: each arm of the match is the line of `picked_of` for that name. Assumes nothing.
use mathlib.Core.Path.{sym, ap}
use borrow.Author.Rules.{rules}
use Rattle.filters.specs.Names.{picked_of}
use Rattle.filters.proofs.names.pick.Goals as goal

pub returns-in-Box : goal.returns-in-Box
returns-in-Box c = record { answer = sym (ap picked_of c.in-Box.is) }

pub returns-in-Bilinear : goal.returns-in-Bilinear
returns-in-Bilinear c = record { answer = sym (ap picked_of c.in-Bilinear.is) }

pub returns-in-CatmullRom : goal.returns-in-CatmullRom
returns-in-CatmullRom c = record { answer = sym (ap picked_of c.in-CatmullRom.is) }
