-- The contracts of `number`, of an offer that was not made, and of `line` decide their answers. Assumes nothing.
use mathlib.Core.Path.{◌∙◌, sym}
use Rattle.lists.proofs.Sure.{DecidesResult}
use Rattle.repairs.proofs.answer.NotOfferedNumbered.number.Kinds as number
use Rattle.repairs.proofs.answer.NotOfferedNumbered.number.Reads as number-reads
use Rattle.repairs.proofs.answer.line.Kinds as line
use Rattle.repairs.proofs.answer.line.Reads as line_reads_lem

pub number_decides : DecidesResult number.ps number.r number-reads.Post
number_decides κs a x y s t p q = p ∙ sym q

pub line_decides : DecidesResult line.ps line.r line_reads_lem.Post
line_decides κs a x y s t p q = p ∙ sym q
