-- The contracts of the offerer decide its answer and what its list holds. Assumes nothing.
use mathlib.Core.Path.{◌≡◌, ◌∙◌, sym}
use Rattle.lists.proofs.Sure.{Decides}
use Rattle.make_offers.proofs.make.make_offer16.Kinds as make16
use Rattle.make_offers.proofs.make.make_offer16.Reads as make16-reads
use Rattle.make_offers.proofs.make.make_offer32.Kinds as make32
use Rattle.make_offers.proofs.make.make_offer32.Reads as make32-reads
use denote.RattleType.{RattleType}
use denote.Param.Laws.{Laws, IsCopy}
use mir.Syntax.{Dict}
use Rattle.windows.specs.declared.Weight as weight
use Rattle.std.specs.declared.clone.Clone as clone
use Rattle.make_offers.proofs.make.make_offer.Kinds as make
use Rattle.make_offers.proofs.make.make_offer.Reads as make-reads

pub make_offer16_decides : Decides make16.ps make16.r make16-reads.Post (λ κs s t. s.1.1.1.1.1.1.1.0.now ≡ t.1.1.1.1.1.1.1.0.now)
make_offer16_decides κs a x y s t p q = (p.0 ∙ sym q.0, p.1 ∙ sym q.1)

pub make_offer32_decides : Decides make32.ps make32.r make32-reads.Post (λ κs s t. s.1.1.1.1.1.1.1.0.now ≡ t.1.1.1.1.1.1.1.0.now)
make_offer32_decides κs a x y s t p q = (p.0 ∙ sym q.0, p.1 ∙ sym q.1)

-- of `make_offer`, over the weights of any store: what is written is decided as the numbers that the weights stand for, which for the two stores are the weights themselves
module _ (W : RattleType) (l : Laws W) (c : IsCopy W) (w : weight.Ghosts W.Denot) (wd : Dict) (k : clone.Ghosts W.Denot) (kd : Dict) where
  pub make_offer_decides : Decides (make.ps W l c) (make.r W l c) (make-reads.Post W l c w wd k kd) (λ κs s t. w.values s.1.1.1.1.1.1.1.0.now ≡ w.values t.1.1.1.1.1.1.1.0.now)
  make_offer_decides κs a x y s t p q = (p.0 ∙ sym q.0, p.1 ∙ sym q.1)
