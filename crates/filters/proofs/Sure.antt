-- The contracts of `support`, `value`, `pick` and `retired` decide their answers. Cited by docs/CONTRACTS.md. Assumes nothing.
use mathlib.Core.Path.{◌∙◌, sym}
use Rattle.lists.proofs.Sure.{DecidesResult}
use Rattle.filters.proofs.support.Kinds as support
use Rattle.filters.proofs.support.Reads as support-reads
use Rattle.filters.proofs.value.Kinds as value
use Rattle.filters.proofs.value.Reads as value-reads
use Rattle.filters.proofs.names.pick.Kinds as pick
use Rattle.filters.proofs.names.pick.Reads as pick-reads
use Rattle.filters.proofs.names.retired.Kinds as retired
use Rattle.filters.proofs.names.retired.Reads as retired-reads

pub support_decides : DecidesResult support.ps support.r support-reads.Post
support_decides κs a x y s t p q = p ∙ sym q

pub value_decides : DecidesResult value.ps value.r value-reads.Post
value_decides κs a x y s t p q = p ∙ sym q

pub pick_decides : DecidesResult pick.ps pick.r pick-reads.Post
pick_decides κs a x y s t p q = p ∙ sym q

pub retired_decides : DecidesResult retired.ps retired.r retired-reads.Post
retired_decides κs a x y s t p q = p ∙ sym q
