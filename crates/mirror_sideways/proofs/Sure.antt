-- The contract of the export decides its answer and the lent list. Cited by docs/CONTRACTS.md. Assumes nothing.
use mathlib.Core.Path.{◌≡◌, ◌∙◌, sym}
use Rattle.lists.proofs.Sure.{Decides}
use Rattle.mirror_sideways.proofs.passes.mirror_horizontal_u16.Kinds as horizontal-u16
use Rattle.mirror_sideways.proofs.passes.mirror_horizontal_u16.Reads as horizontal-u16-reads

pub mirror_horizontal_u16_decides : Decides horizontal-u16.ps horizontal-u16.r horizontal-u16-reads.Post (λ κs s t. s.1.1.1.1.1.1.1.1.1.1.1.1.0.now ≡ t.1.1.1.1.1.1.1.1.1.1.1.1.0.now)
mirror_horizontal_u16_decides κs a x y s t p q = (p.0 ∙ sym q.0, p.1 ∙ sym q.1)
