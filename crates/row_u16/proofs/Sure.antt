-- The contract of `fill` decides its output; those of the steps, in integers and in doubles, their answers. Assumes nothing.
use mathlib.Core.Path.{◌≡◌, refl, ◌∙◌, sym}
use Rattle.lists.proofs.Sure.{Decides, DecidesResult}
use Rattle.row_u16.proofs.columns.fill.Kinds as fill
use Rattle.row_u16.proofs.columns.fill.Reads as fill-reads
use Rattle.row_u16.proofs.arithmetic.step.Kinds as step
use Rattle.row_u16.proofs.arithmetic.step.Reads as step-reads
use Rattle.row_u16.proofs.arithmetic.half.Kinds as half
use Rattle.row_u16.proofs.arithmetic.half.Reads as half-reads
use Rattle.row_u16.proofs.arithmetic.shift.Kinds as shift
use Rattle.row_u16.proofs.arithmetic.shift.Reads as shift-reads
use Rattle.row_u16.proofs.doubles.weight.Kinds as weight
use Rattle.row_u16.proofs.doubles.weight.Reads as weight-reads
use Rattle.row_u16.proofs.doubles.added.Kinds as added
use Rattle.row_u16.proofs.doubles.added.Reads as added-reads
use Rattle.row_u16.proofs.rounding.scaled.Kinds as scaled
use Rattle.row_u16.proofs.rounding.scaled.Reads as scaled-reads
use Rattle.row_u16.proofs.rounding.cut.Kinds as cut
use Rattle.row_u16.proofs.rounding.cut.Reads as cut-reads

pub fill_decides : Decides fill.ps fill.r fill-reads.Post (λ κs s t. s.1.1.1.1.1.0.now ≡ t.1.1.1.1.1.0.now)
fill_decides κs a x y s t p q = (refl, p ∙ sym q)

pub step_decides : DecidesResult step.ps step.r step-reads.Post
step_decides κs a x y s t p q = p ∙ sym q

pub half_decides : DecidesResult half.ps half.r half-reads.Post
half_decides κs a x y s t p q = p ∙ sym q

pub shift_decides : DecidesResult shift.ps shift.r shift-reads.Post
shift_decides κs a x y s t p q = p ∙ sym q

pub weight_decides : DecidesResult weight.ps weight.r weight-reads.Post
weight_decides κs a x y s t p q = p ∙ sym q

pub added_decides : DecidesResult added.ps added.r added-reads.Post
added_decides κs a x y s t p q = p ∙ sym q

pub scaled_decides : DecidesResult scaled.ps scaled.r scaled-reads.Post
scaled_decides κs a x y s t p q = p ∙ sym q

pub cut_decides : DecidesResult cut.ps cut.r cut-reads.Post
cut_decides κs a x y s t p q = p ∙ sym q
