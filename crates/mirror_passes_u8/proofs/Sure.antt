-- The contract of the export decides its answer and the lent list. Cited by docs/CONTRACTS.md. Assumes nothing.
use mathlib.Core.Path.{◌≡◌, ◌∙◌, sym}
use Rattle.lists.proofs.Sure.{Decides}
use Rattle.mirror_passes_u8.proofs.passes.mirror_vertical_u8.Kinds as vertical-u8
use Rattle.mirror_passes_u8.proofs.passes.mirror_vertical_u8.Reads as vertical-u8-reads

pub mirror_vertical_u8_decides : Decides vertical-u8.ps vertical-u8.r vertical-u8-reads.Post (λ κs s t. s.1.1.1.1.1.1.1.1.1.1.1.0.now ≡ t.1.1.1.1.1.1.1.1.1.1.1.0.now)
mirror_vertical_u8_decides κs a x y s t p q = (p.0 ∙ sym q.0, p.1 ∙ sym q.1)
