-- The contract of every export decides its answer, every lent list and every number beside it. Cited by docs/CONTRACTS.md. Assumes nothing.
use mathlib.Core.Path.{◌≡◌, ◌∙◌, sym}
use Rattle.lists.proofs.Sure.{Decides}
use Rattle.mirror_stores.proofs.stores.mirror_normalize16.Kinds as normalize16
use Rattle.mirror_stores.proofs.stores.mirror_normalize16.Reads as normalize16-reads
use Rattle.mirror_stores.proofs.stores.mirror_normalize32.Kinds as normalize32
use Rattle.mirror_stores.proofs.stores.mirror_normalize32.Reads as normalize32-reads

pub mirror_normalize16_decides : Decides normalize16.ps normalize16.r normalize16-reads.Post (λ κs s t. (s.1.1.1.1.1.0.now ≡ t.1.1.1.1.1.0.now) × (s.1.1.1.1.1.1.0.now ≡ t.1.1.1.1.1.1.0.now) × (s.1.1.1.1.1.1.1.0.now ≡ t.1.1.1.1.1.1.1.0.now))
mirror_normalize16_decides κs a x y s t p q = (p.0 ∙ sym q.0, (p.1.0 ∙ sym q.1.0, p.1.1.0 ∙ sym q.1.1.0, p.1.1.1 ∙ sym q.1.1.1))

pub mirror_normalize32_decides : Decides normalize32.ps normalize32.r normalize32-reads.Post (λ κs s t. (s.1.1.1.1.1.0.now ≡ t.1.1.1.1.1.0.now) × (s.1.1.1.1.1.1.0.now ≡ t.1.1.1.1.1.1.0.now) × (s.1.1.1.1.1.1.1.0.now ≡ t.1.1.1.1.1.1.1.0.now))
mirror_normalize32_decides κs a x y s t p q = (p.0 ∙ sym q.0, (p.1.0 ∙ sym q.1.0, p.1.1.0 ∙ sym q.1.1.0, p.1.1.1 ∙ sym q.1.1.1))
