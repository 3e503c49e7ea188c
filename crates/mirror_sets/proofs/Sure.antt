-- The contract of every export decides its answer, every lent list and every number beside it. Cited by docs/CONTRACTS.md. Assumes nothing.
use mathlib.Core.Path.{◌≡◌, ◌∙◌, sym}
use Rattle.lists.proofs.Sure.{Decides}
use Rattle.mirror_sets.proofs.sets.mirror_weights.Kinds as weights
use Rattle.mirror_sets.proofs.sets.mirror_weights.Reads as weights-reads

pub mirror_weights_decides : Decides weights.ps weights.r weights-reads.Post (λ κs s t. (s.1.1.1.1.1.1.1.1.1.1.0.now ≡ t.1.1.1.1.1.1.1.1.1.1.0.now) × ((s.1.1.1.1.1.1.1.1.1.1.1.0.now ≡ t.1.1.1.1.1.1.1.1.1.1.1.0.now) × ((s.1.1.1.1.1.1.1.1.1.1.1.1.0.now ≡ t.1.1.1.1.1.1.1.1.1.1.1.1.0.now) × ((s.1.1.1.1.1.1.1.1.1.1.1.1.1.0.now ≡ t.1.1.1.1.1.1.1.1.1.1.1.1.1.0.now) × (s.1.1.1.1.1.1.1.1.1.1.1.1.1.1.0.now ≡ t.1.1.1.1.1.1.1.1.1.1.1.1.1.1.0.now)))))
mirror_weights_decides κs a x y s t p q = (p.0 ∙ sym q.0, (p.1.0 ∙ sym q.1.0, (p.1.1.0 ∙ sym q.1.1.0, (p.1.1.1.0 ∙ sym q.1.1.1.0, (p.1.1.1.1.0 ∙ sym q.1.1.1.1.0, p.1.1.1.1.1 ∙ sym q.1.1.1.1.1)))))
