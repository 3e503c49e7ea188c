-- The contract of each helper decides its answer: two results that satisfy it are equal. Assumes nothing.
use Rattle.std.proofs.Common.{sym, ◌∙◌}
use Rattle.lists.proofs.Sure.{DecidesResult}
use Rattle.numbers.proofs.finite.Kinds as finite
use Rattle.numbers.proofs.finite.Reads as finite-reads
use Rattle.numbers.proofs.abs.Kinds as abs
use Rattle.numbers.proofs.abs.Reads as abs-reads
use Rattle.numbers.proofs.floor.Kinds as floor
use Rattle.numbers.proofs.floor.Reads as floor-reads
use Rattle.numbers.proofs.ceil.Kinds as ceil
use Rattle.numbers.proofs.ceil.Reads as ceil-reads
use Rattle.numbers.proofs.round.Kinds as round
use Rattle.numbers.proofs.round.Reads as round-reads
use Rattle.numbers.proofs.widen.Kinds as widen
use Rattle.numbers.proofs.widen.Reads as widen-reads
use Rattle.numbers.proofs.narrow.Kinds as narrow
use Rattle.numbers.proofs.narrow.Reads as narrow-reads
use Rattle.numbers.proofs.bits.abs_bits.Kinds as abs-bits
use Rattle.numbers.proofs.bits.abs_bits.Reads as abs-bits-reads
use Rattle.numbers.proofs.bits.floor_bits.Kinds as floor-bits
use Rattle.numbers.proofs.bits.floor_bits.Reads as floor-bits-reads
use Rattle.numbers.proofs.bits.ceil_bits.Kinds as ceil-bits
use Rattle.numbers.proofs.bits.ceil_bits.Reads as ceil-bits-reads
use Rattle.numbers.proofs.bits.round_bits.Kinds as round_bits_fact
use Rattle.numbers.proofs.bits.round_bits.Reads as round-bits-reads
use Rattle.numbers.proofs.bits.widen_bits.Kinds as widen-bits
use Rattle.numbers.proofs.bits.widen_bits.Reads as widen-bits-reads
use Rattle.numbers.proofs.bits.narrow_bits.Kinds as Narrow-bits
use Rattle.numbers.proofs.bits.narrow_bits.Reads as narrow-bits-reads

pub finite_decides : DecidesResult finite.ps finite.r finite-reads.Post
finite_decides κs a x y s t p q = p ∙ sym q

pub abs_decides : DecidesResult abs.ps abs.r abs-reads.Post
abs_decides κs a x y s t p q = p ∙ sym q

pub floor_decides : DecidesResult floor.ps floor.r floor-reads.Post
floor_decides κs a x y s t p q = p ∙ sym q

pub ceil_decides : DecidesResult ceil.ps ceil.r ceil-reads.Post
ceil_decides κs a x y s t p q = p ∙ sym q

pub round_decides : DecidesResult round.ps round.r round-reads.Post
round_decides κs a x y s t p q = p ∙ sym q

pub widen_decides : DecidesResult widen.ps widen.r widen-reads.Post
widen_decides κs a x y s t p q = p ∙ sym q

pub narrow_decides : DecidesResult narrow.ps narrow.r narrow-reads.Post
narrow_decides κs a x y s t p q = p ∙ sym q

pub abs_bits_decides : DecidesResult abs-bits.ps abs-bits.r abs-bits-reads.Post
abs_bits_decides κs a x y s t p q = p ∙ sym q

pub floor_bits_decides : DecidesResult floor-bits.ps floor-bits.r floor-bits-reads.Post
floor_bits_decides κs a x y s t p q = p ∙ sym q

pub ceil_bits_decides : DecidesResult ceil-bits.ps ceil-bits.r ceil-bits-reads.Post
ceil_bits_decides κs a x y s t p q = p ∙ sym q

pub round_bits_decides : DecidesResult round_bits_fact.ps round_bits_fact.r round-bits-reads.Post
round_bits_decides κs a x y s t p q = p ∙ sym q

pub widen_bits_decides : DecidesResult widen-bits.ps widen-bits.r widen-bits-reads.Post
widen_bits_decides κs a x y s t p q = p ∙ sym q

pub narrow_bits_decides : DecidesResult Narrow-bits.ps Narrow-bits.r narrow-bits-reads.Post
narrow_bits_decides κs a x y s t p q = p ∙ sym q
