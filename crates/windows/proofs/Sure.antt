-- The contracts of `sides_fit`, `set_fits`, `precision_fits` and `fills` decide their answers, and so do those of a weight's `number` and `from_number` in either store.
-- Assumes nothing.
use mathlib.Core.Path.{◌∙◌, sym}
use Rattle.lists.proofs.Sure.{DecidesResult}
use Rattle.windows.proofs.sides_fit.Kinds as sides
use Rattle.windows.proofs.sides_fit.Reads as sides-reads
use Rattle.windows.proofs.set_fits.Kinds as set
use Rattle.windows.proofs.set_fits.Reads as set_Reads
use Rattle.windows.proofs.precisions.precision_fits.Kinds as precision
use Rattle.windows.proofs.precisions.precision_fits.Reads as precision-reads
use Rattle.windows.proofs.counts.fills.Kinds as fills
use Rattle.windows.proofs.counts.fills.Reads as fills-reads
use Rattle.windows.proofs.weights.I16Weight.number.Kinds as number16
use Rattle.windows.proofs.weights.I16Weight.number.Reads as number16-reads
use Rattle.windows.proofs.weights.I16Weight.from_number.Kinds as weight16
use Rattle.windows.proofs.weights.I16Weight.from_number.Reads as weight16-reads
use Rattle.windows.proofs.weights.I32Weight.number.Kinds as number32
use Rattle.windows.proofs.weights.I32Weight.number.Reads as number32-reads
use Rattle.windows.proofs.weights.I32Weight.from_number.Kinds as weight32
use Rattle.windows.proofs.weights.I32Weight.from_number.Reads as weight32-reads

pub sides_fit_decides : DecidesResult sides.ps sides.r sides-reads.Post
sides_fit_decides κs a x y s t p q = p ∙ sym q

pub set_fits_decides : DecidesResult set.ps set.r set_Reads.Post
set_fits_decides κs a x y s t p q = p ∙ sym q

pub precision_fits_decides : DecidesResult precision.ps precision.r precision-reads.Post
precision_fits_decides κs a x y s t p q = p ∙ sym q

pub fills_decides : DecidesResult fills.ps fills.r fills-reads.Post
fills_decides κs a x y s t p q = p ∙ sym q

pub number_decides : DecidesResult number16.ps number16.r number16-reads.Post × DecidesResult number32.ps number32.r number32-reads.Post
number_decides = (λ κs a x y s t p q. p.0 ∙ sym q.0, λ κs a x y s t p q. p.0 ∙ sym q.0)

pub from_number_decides : DecidesResult weight16.ps weight16.r weight16-reads.Post × DecidesResult weight32.ps weight32.r weight32-reads.Post
from_number_decides = (λ κs a x y s t p q. p ∙ sym q, λ κs a x y s t p q. p ∙ sym q)
