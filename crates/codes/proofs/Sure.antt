-- The contract of every public function decides its answer. Cited by docs/CONTRACTS.md. Assumes nothing.
use mathlib.Core.Path.{◌∙◌, sym}
use Rattle.lists.proofs.Sure.{DecidesResult}
use Rattle.codes.proofs.filter_named.Kinds as filter
use Rattle.codes.proofs.filter_named.Reads as filter-reads
use Rattle.codes.proofs.filter_code.Kinds as code
use Rattle.codes.proofs.filter_code.Reads as code_Reads
use Rattle.codes.proofs.axis_named.Kinds as axis
use Rattle.codes.proofs.axis_named.Reads as axis-reads
use Rattle.codes.proofs.centring_named.Kinds as centring
use Rattle.codes.proofs.centring_named.Reads as centring-reads
use Rattle.codes.proofs.names_nothing.Kinds as nothing
use Rattle.codes.proofs.names_nothing.Reads as nothing-reads

pub filter_named_decides : DecidesResult filter.ps filter.r filter-reads.Post
filter_named_decides κs a x y s t p q = p ∙ sym q

pub filter_code_decides : DecidesResult code.ps code.r code_Reads.Post
filter_code_decides κs a x y s t p q = p ∙ sym q

pub axis_named_decides : DecidesResult axis.ps axis.r axis-reads.Post
axis_named_decides κs a x y s t p q = p ∙ sym q

pub centring_named_decides : DecidesResult centring.ps centring.r centring-reads.Post
centring_named_decides κs a x y s t p q = p ∙ sym q

pub names_nothing_decides : DecidesResult nothing.ps nothing.r nothing-reads.Post
names_nothing_decides κs a x y s t p q = p ∙ sym q
