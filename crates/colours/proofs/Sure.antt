-- The contract of each public function of `colours` decides its answer. Assumes nothing.
use mathlib.Core.Path.{◌∙◌, sym}
use Rattle.lists.proofs.Sure.{DecidesResult}
use Rattle.colours.proofs.common.mul_div_255.Kinds as mul-div-255
use Rattle.colours.proofs.common.mul_div_255.Reads as mul-div-255-reads
use Rattle.colours.proofs.common.div_and_clip.Kinds as div-and-clip
use Rattle.colours.proofs.common.div_and_clip.Reads as div-and-clip-reads

pub mul_div_255_decides : DecidesResult mul-div-255.ps mul-div-255.r mul-div-255-reads.Post
mul_div_255_decides κs a x y s t p q = p ∙ sym q

pub div_and_clip_decides : DecidesResult div-and-clip.ps div-and-clip.r div-and-clip-reads.Post
div_and_clip_decides κs a x y s t p q = p ∙ sym q
