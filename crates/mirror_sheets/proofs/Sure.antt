-- The contract of every export decides its answer, every lent list and every number beside it. Cited by docs/CONTRACTS.md. Assumes nothing.
use mathlib.Core.Path.{◌≡◌, ◌∙◌, sym}
use Rattle.lists.proofs.Sure.{Decides}
use Rattle.mirror_sheets.proofs.narrow.mirror_sheet16.Kinds as sheet16
use Rattle.mirror_sheets.proofs.narrow.mirror_sheet16.Reads as sheet16-reads
use Rattle.mirror_sheets.proofs.wide.mirror_sheet32.Kinds as sheet32
use Rattle.mirror_sheets.proofs.wide.mirror_sheet32.Reads as sheet32-reads

pub mirror_sheet16_decides : Decides sheet16.ps sheet16.r sheet16-reads.Post (λ κs s t. (s.1.1.1.1.1.1.1.1.0.now ≡ t.1.1.1.1.1.1.1.1.0.now) × (s.1.1.1.1.1.1.1.1.1.0.now ≡ t.1.1.1.1.1.1.1.1.1.0.now))
mirror_sheet16_decides κs a x y s t p q = (p.0 ∙ sym q.0, (p.1.0 ∙ sym q.1.0, p.1.1 ∙ sym q.1.1))

pub mirror_sheet32_decides : Decides sheet32.ps sheet32.r sheet32-reads.Post (λ κs s t. (s.1.1.1.1.1.1.1.1.0.now ≡ t.1.1.1.1.1.1.1.1.0.now) × (s.1.1.1.1.1.1.1.1.1.0.now ≡ t.1.1.1.1.1.1.1.1.1.0.now))
mirror_sheet32_decides κs a x y s t p q = (p.0 ∙ sym q.0, (p.1.0 ∙ sym q.1.0, p.1.1 ∙ sym q.1.1))
