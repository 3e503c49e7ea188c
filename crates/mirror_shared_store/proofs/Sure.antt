-- The contract of the export decides its answer, every lent list and every number beside it. Cited by docs/CONTRACTS.md. Assumes nothing.
use mathlib.Core.Path.{◌≡◌, ◌∙◌, sym}
use Rattle.lists.proofs.Sure.{Decides}
use Rattle.mirror_shared_store.proofs.put.mirror_store_put.Kinds as put
use Rattle.mirror_shared_store.proofs.put.mirror_store_put.Reads as put_reads

pub mirror_store_put_decides : Decides put.ps put.r put_reads.Post (λ κs s t. (s.0.now ≡ t.0.now) × ((s.1.0.now ≡ t.1.0.now) × ((s.1.1.0.now ≡ t.1.1.0.now) × ((s.1.1.1.0.now ≡ t.1.1.1.0.now) × ((s.1.1.1.1.0.now ≡ t.1.1.1.1.0.now) × ((s.1.1.1.1.1.1.1.1.1.1.1.1.1.1.1.1.0.now ≡ t.1.1.1.1.1.1.1.1.1.1.1.1.1.1.1.1.0.now) × ((s.1.1.1.1.1.1.1.1.1.1.1.1.1.1.1.1.1.0.now ≡ t.1.1.1.1.1.1.1.1.1.1.1.1.1.1.1.1.1.0.now) × ((s.1.1.1.1.1.1.1.1.1.1.1.1.1.1.1.1.1.1.0.now ≡ t.1.1.1.1.1.1.1.1.1.1.1.1.1.1.1.1.1.1.0.now) × ((s.1.1.1.1.1.1.1.1.1.1.1.1.1.1.1.1.1.1.1.0.now ≡ t.1.1.1.1.1.1.1.1.1.1.1.1.1.1.1.1.1.1.1.0.now) × (s.1.1.1.1.1.1.1.1.1.1.1.1.1.1.1.1.1.1.1.1.0.now ≡ t.1.1.1.1.1.1.1.1.1.1.1.1.1.1.1.1.1.1.1.1.0.now))))))))))
mirror_store_put_decides κs a x y s t p q = (p.0 ∙ sym q.0, (p.1.0 ∙ sym q.1.0, (p.1.1.0 ∙ sym q.1.1.0, (p.1.1.1.0 ∙ sym q.1.1.1.0, (p.1.1.1.1.0 ∙ sym q.1.1.1.1.0, (p.1.1.1.1.1.0 ∙ sym q.1.1.1.1.1.0, (p.1.1.1.1.1.1.0 ∙ sym q.1.1.1.1.1.1.0, (p.1.1.1.1.1.1.1.0 ∙ sym q.1.1.1.1.1.1.1.0, (p.1.1.1.1.1.1.1.1.0 ∙ sym q.1.1.1.1.1.1.1.1.0, (p.1.1.1.1.1.1.1.1.1.0 ∙ sym q.1.1.1.1.1.1.1.1.1.0, p.1.1.1.1.1.1.1.1.1.1 ∙ sym q.1.1.1.1.1.1.1.1.1.1))))))))))
