-- The contract of every export decides its answer, every lent list and every number beside it. Cited by docs/CONTRACTS.md. Assumes nothing.
use mathlib.Core.Path.{◌≡◌, ◌∙◌, sym}
use Rattle.lists.proofs.Sure.{Decides, DecidesResult}
use Rattle.mirror_crop.proofs.crops.mirror_filter.Kinds as filter
use Rattle.mirror_crop.proofs.crops.mirror_filter.Reads as filter-reads
use Rattle.mirror_crop.proofs.crops.mirror_crop.Kinds as crop
use Rattle.mirror_crop.proofs.crops.mirror_crop.Reads as crop-reads
use Rattle.mirror_crop.proofs.crops.mirror_fit.Kinds as fit
use Rattle.mirror_crop.proofs.crops.mirror_fit.Reads as fit-reads

pub mirror_filter_decides : Decides filter.ps filter.r filter-reads.Post (λ κs s t. s.1.1.0.now ≡ t.1.1.0.now)
mirror_filter_decides κs a x y s t p q = (p.0 ∙ sym q.0, p.1 ∙ sym q.1)

pub mirror_crop_decides : DecidesResult crop.ps crop.r crop-reads.Post
mirror_crop_decides κs a x y s t p q = p ∙ sym q

pub mirror_fit_decides : Decides fit.ps fit.r fit-reads.Post (λ κs s t. (s.1.1.1.1.1.1.1.0.now ≡ t.1.1.1.1.1.1.1.0.now) × ((s.1.1.1.1.1.1.1.1.0.now ≡ t.1.1.1.1.1.1.1.1.0.now) × ((s.1.1.1.1.1.1.1.1.1.0.now ≡ t.1.1.1.1.1.1.1.1.1.0.now) × (s.1.1.1.1.1.1.1.1.1.1.0.now ≡ t.1.1.1.1.1.1.1.1.1.1.0.now))))
mirror_fit_decides κs a x y s t p q = (p.0 ∙ sym q.0, (p.1.0 ∙ sym q.1.0, (p.1.1.0 ∙ sym q.1.1.0, (p.1.1.1.0 ∙ sym q.1.1.1.0, p.1.1.1.1 ∙ sym q.1.1.1.1))))
