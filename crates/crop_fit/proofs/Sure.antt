-- The contract of `fit_src_into_dst_size` decides its answer. Cited by docs/CONTRACTS.md. Assumes nothing.
use mathlib.Core.Path.{◌∙◌, sym}
use Rattle.lists.proofs.Sure.{DecidesResult}
use Rattle.crop_fit.proofs.fitting.fit_src_into_dst_size.Kinds as fit
use Rattle.crop_fit.proofs.fitting.fit_src_into_dst_size.Reads as fit-reads

pub fit_src_into_dst_size_decides : DecidesResult fit.ps fit.r fit-reads.Post
fit_src_into_dst_size_decides κs a x y s t p q = p ∙ sym q
