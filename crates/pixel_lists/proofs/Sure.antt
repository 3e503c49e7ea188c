-- The contract of each public function of `pixel_lists` decides its answer. Assumes nothing.
use mathlib.Core.Path.{◌∙◌, sym}
use Rattle.lists.proofs.Sure.{DecidesResult}
use Rattle.pixel_lists.proofs.bad_lists.Kinds as bad-lists
use Rattle.pixel_lists.proofs.bad_lists.Reads as bad-lists-reads

pub bad_lists_decides : DecidesResult bad-lists.ps bad-lists.r bad-lists-reads.Post
bad_lists_decides κs a x y s t p q = p ∙ sym q
