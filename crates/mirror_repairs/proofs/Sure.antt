-- The contract of every export decides its answer, every lent list and the line beside it. Cited by docs/CONTRACTS.md. Assumes nothing.
use mathlib.Core.Path.{◌≡◌, ◌∙◌, sym}
use Rattle.lists.proofs.Sure.{Decides}
use Rattle.mirror_repairs.proofs.accept16.mirror_accept16.Kinds as accept16
use Rattle.mirror_repairs.proofs.accept16.mirror_accept16.Reads as accept16-reads
use Rattle.mirror_repairs.proofs.accept32.mirror_accept32.Kinds as accept32
use Rattle.mirror_repairs.proofs.accept32.mirror_accept32.Reads as accept32-reads
use Rattle.mirror_repairs.proofs.offer16.mirror_offer16.Kinds as offer16
use Rattle.mirror_repairs.proofs.offer16.mirror_offer16.Reads as offer16-reads
use Rattle.mirror_repairs.proofs.offer32.mirror_offer32.Kinds as offer32
use Rattle.mirror_repairs.proofs.offer32.mirror_offer32.Reads as offer32-reads

pub mirror_accept16_decides : Decides accept16.ps accept16.r accept16-reads.Post (λ κs s t. (s.1.1.1.0.now ≡ t.1.1.1.0.now) × (s.1.1.1.1.1.1.0.now ≡ t.1.1.1.1.1.1.0.now))
mirror_accept16_decides κs a x y s t p q = (p.0 ∙ sym q.0, (p.1.0 ∙ sym q.1.0, p.1.1 ∙ sym q.1.1))

pub mirror_accept32_decides : Decides accept32.ps accept32.r accept32-reads.Post (λ κs s t. (s.1.1.1.0.now ≡ t.1.1.1.0.now) × (s.1.1.1.1.1.1.0.now ≡ t.1.1.1.1.1.1.0.now))
mirror_accept32_decides κs a x y s t p q = (p.0 ∙ sym q.0, (p.1.0 ∙ sym q.1.0, p.1.1 ∙ sym q.1.1))

pub mirror_offer16_decides : Decides offer16.ps offer16.r offer16-reads.Post (λ κs s t. (s.1.1.1.1.1.1.1.0.now ≡ t.1.1.1.1.1.1.1.0.now) × (s.1.1.1.1.1.1.1.1.0.now ≡ t.1.1.1.1.1.1.1.1.0.now))
mirror_offer16_decides κs a x y s t p q = (p.0 ∙ sym q.0, (p.1.0 ∙ sym q.1.0, p.1.1 ∙ sym q.1.1))

pub mirror_offer32_decides : Decides offer32.ps offer32.r offer32-reads.Post (λ κs s t. (s.1.1.1.1.1.1.1.0.now ≡ t.1.1.1.1.1.1.1.0.now) × (s.1.1.1.1.1.1.1.1.0.now ≡ t.1.1.1.1.1.1.1.1.0.now))
mirror_offer32_decides κs a x y s t p q = (p.0 ∙ sym q.0, (p.1.0 ∙ sym q.1.0, p.1.1 ∙ sym q.1.1))
