-- The contract of `vert_convolution_f32` decides its answer and its output. Assumes nothing.
use mathlib.Core.Path.{◌≡◌, ◌∙◌, sym}
use Rattle.lists.proofs.Sure.{Decides}
use Rattle.vertical_f32.proofs.vert_convolution_f32.Kinds as pass
use Rattle.vertical_f32.proofs.vert_convolution_f32.Reads as pass-reads

pub vert_convolution_f32_decides : Decides pass.ps pass.r pass-reads.Post (λ κs s t. s.1.1.1.1.1.1.0.now ≡ t.1.1.1.1.1.1.0.now)
vert_convolution_f32_decides κs a x y s t p q = (p.0 ∙ sym q.0, p.1 ∙ sym q.1)
