-- The contracts of `size_fits`, `shape_fits`, `frame_fits` and `infinite` decide their answers. Assumes nothing.
use mathlib.Core.Path.{◌∙◌, sym}
use Rattle.lists.proofs.Sure.{DecidesResult}
use Rattle.vertical.proofs.size_fits.Kinds as size
use Rattle.vertical.proofs.size_fits.Reads as size-reads
use Rattle.vertical.proofs.shape_fits.Kinds as shape
use Rattle.vertical.proofs.shape_fits.Reads as shape-reads
use Rattle.vertical.proofs.frame_fits.Kinds as frame
use Rattle.vertical.proofs.frame_fits.Reads as frame-reads
use Rattle.vertical.proofs.answer.infinite.Kinds as infinite
use Rattle.vertical.proofs.answer.infinite.Reads as infinite-reads

pub size_fits_decides : DecidesResult size.ps size.r size-reads.Post
size_fits_decides κs a x y s t p q = p ∙ sym q

pub shape_fits_decides : DecidesResult shape.ps shape.r shape-reads.Post
shape_fits_decides κs a x y s t p q = p ∙ sym q

pub frame_fits_decides : DecidesResult frame.ps frame.r frame-reads.Post
frame_fits_decides κs a x y s t p q = p ∙ sym q

pub infinite_decides : DecidesResult infinite.ps infinite.r infinite-reads.Post
infinite_decides κs a x y s t p q = p ∙ sym q
