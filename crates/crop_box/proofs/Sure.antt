-- The contract of `crop` decides its answer. Cited by docs/CONTRACTS.md. Assumes nothing.
use mathlib.Core.Path.{◌∙◌, sym}
use Rattle.lists.proofs.Sure.{DecidesResult}
use Rattle.crop_box.proofs.checks.crop.Kinds as crop
use Rattle.crop_box.proofs.checks.crop.Reads as crop-reads

pub crop_decides : DecidesResult crop.ps crop.r crop-reads.Post
crop_decides κs a x y s t p q = p ∙ sym q
