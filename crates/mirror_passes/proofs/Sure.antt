-- The contract of every export decides its answer, every lent list and every number beside it. Cited by docs/CONTRACTS.md. Assumes nothing.
use mathlib.Core.Path.{◌≡◌, ◌∙◌, sym}
use Rattle.lists.proofs.Sure.{Decides}
use Rattle.mirror_passes.proofs.passes.mirror_vertical_u16.Kinds as vertical-u16
use Rattle.mirror_passes.proofs.passes.mirror_vertical_u16.Reads as vertical-u16-reads
use Rattle.mirror_passes.proofs.passes.mirror_vertical_f32.Kinds as vertical-f32
use Rattle.mirror_passes.proofs.passes.mirror_vertical_f32.Reads as vertical-f32-reads

pub mirror_vertical_u16_decides : Decides vertical-u16.ps vertical-u16.r vertical-u16-reads.Post (λ κs s t. s.1.1.1.1.1.1.1.1.1.1.1.0.now ≡ t.1.1.1.1.1.1.1.1.1.1.1.0.now)
mirror_vertical_u16_decides κs a x y s t p q = (p.0 ∙ sym q.0, p.1 ∙ sym q.1)

pub mirror_vertical_f32_decides : Decides vertical-f32.ps vertical-f32.r vertical-f32-reads.Post (λ κs s t. (s.1.1.1.1.1.1.1.1.1.0.now ≡ t.1.1.1.1.1.1.1.1.1.0.now) × (s.1.1.1.1.1.1.1.1.1.1.0.now ≡ t.1.1.1.1.1.1.1.1.1.1.0.now))
mirror_vertical_f32_decides κs a x y s t p q = (p.0 ∙ sym q.0, (p.1.0 ∙ sym q.1.0, p.1.1 ∙ sym q.1.1))
