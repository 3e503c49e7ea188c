-- The contracts decide: any two results that meet one are equal. Assumes nothing.
use mathlib.Core.Path.{sym, ◌∙◌}
use Rattle.lists.proofs.Sure.{DecidesResult}
use Rattle.numerals.proofs.digits.digit.Kinds as digit
use Rattle.numerals.proofs.digits.digit.Reads as digit-reads
use Rattle.numerals.proofs.digits.figure.Kinds as figure
use Rattle.numerals.proofs.digits.figure.Reads as figure-reads
use Rattle.numerals.proofs.digits.all_digits.Kinds as all_digits
use Rattle.numerals.proofs.digits.all_digits.Reads as all-digits-reads
use Rattle.numerals.proofs.digits.read_number.Kinds as read_number
use Rattle.numerals.proofs.digits.read_number.Reads as read-number-reads

pub digit_decides : DecidesResult digit.ps digit.r digit-reads.Post
digit_decides κs a x y s t p q = p ∙ sym q

pub figure_decides : DecidesResult figure.ps figure.r figure-reads.Post
figure_decides κs a x y s t p q = p ∙ sym q

pub all_digits_decides : DecidesResult all_digits.ps all_digits.r all-digits-reads.Post
all_digits_decides κs a x y s t p q = p ∙ sym q

pub read_number_decides : DecidesResult read_number.ps read_number.r read-number-reads.Post
read_number_decides κs a x y s t p q = p ∙ sym q
