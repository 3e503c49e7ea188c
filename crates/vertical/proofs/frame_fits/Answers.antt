-- The frame is judged by `fills`, the columns by their own judge. Assumes nothing.
use mathlib.Core.Path.{◌∙◌, sym}
use borrow.Author.Rules.{rules}
use borrow.Author.Tests.{not-true, not-false}
use Rattle.vertical.proofs.frame_fits.Goals as goal

pub returns-then-not-fills : goal.returns-then-not-fills
returns-then-not-fills c = record { answer = rw (sym c.fills.ensures.answer ∙ c.if-not-fills.true) }

pub returns : goal.returns
returns c = record { answer = rw (sym c.fills.ensures.answer ∙ c.if-not-fills.false) c.columns_fit.ensures.answer }
