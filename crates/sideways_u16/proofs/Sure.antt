-- The contract of `horiz_convolution_u16` decides its answer and its output. Assumes nothing.
use mathlib.Core.Path.{◌≡◌, ◌∙◌, sym}
use Rattle.lists.proofs.Sure.{Decides}
use Rattle.sideways_u16.proofs.horiz_convolution_u16.Kinds as pass
use Rattle.sideways_u16.proofs.horiz_convolution_u16.Reads as pass-reads

pub horiz_convolution_u16_decides : Decides pass.ps pass.r pass-reads.Post (λ κs s t. s.1.1.1.1.1.1.1.1.0.now ≡ t.1.1.1.1.1.1.1.1.0.now)
horiz_convolution_u16_decides κs a x y s t p q = (p.0 ∙ sym q.0, p.1 ∙ sym q.1)
