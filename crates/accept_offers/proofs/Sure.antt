-- The contracts of the judge of an offer decide its answer and what weights and excesses hold. Assumes nothing.
use mathlib.Core.Path.{◌≡◌, ◌∙◌, sym}
use Rattle.lists.proofs.Sure.{Decides}
use Rattle.accept_offers.proofs.accept.accept_offer16.Kinds as accept16
use Rattle.accept_offers.proofs.accept.accept_offer16.Reads as accept16-reads
use Rattle.accept_offers.proofs.accept.accept_offer32.Kinds as accept32
use Rattle.accept_offers.proofs.accept.accept_offer32.Reads as accept32-reads
use denote.RattleType.{RattleType}
use denote.Param.Laws.{Laws, IsCopy}
use mir.Syntax.{Dict}
use Rattle.windows.specs.declared.Weight as weight
use Rattle.std.specs.declared.clone.Clone as clone
use Rattle.accept_offers.proofs.accept.accept_offer.Kinds as accept
use Rattle.accept_offers.proofs.accept.accept_offer.Reads as accept-reads

pub accept_offer16_decides : Decides accept16.ps accept16.r accept16-reads.Post (λ κs s t. (s.1.1.1.0.now ≡ t.1.1.1.0.now) × (s.1.1.1.1.1.1.0.now ≡ t.1.1.1.1.1.1.0.now))
accept_offer16_decides κs a x y s t p q = (p.0 ∙ sym q.0, (p.1.0 ∙ sym q.1.0, p.1.1 ∙ sym q.1.1))

pub accept_offer32_decides : Decides accept32.ps accept32.r accept32-reads.Post (λ κs s t. (s.1.1.1.0.now ≡ t.1.1.1.0.now) × (s.1.1.1.1.1.1.0.now ≡ t.1.1.1.1.1.1.0.now))
accept_offer32_decides κs a x y s t p q = (p.0 ∙ sym q.0, (p.1.0 ∙ sym q.1.0, p.1.1 ∙ sym q.1.1))

-- of `accept_offer`, over the weights of any store: what is written is decided as the numbers that the weights stand for, which for the two stores are the weights themselves
module _ (W : RattleType) (l : Laws W) (c : IsCopy W) (w : weight.Ghosts W.Denot) (wd : Dict) (k : clone.Ghosts W.Denot) (kd : Dict) where
  pub accept_offer_decides : Decides (accept.ps W l c) (accept.r W l c) (accept-reads.Post W l c w wd k kd) (λ κs s t. (w.values s.1.1.1.0.now ≡ w.values t.1.1.1.0.now) × (s.1.1.1.1.1.1.0.now ≡ t.1.1.1.1.1.1.0.now))
  accept_offer_decides κs a x y s t p q = (p.0 ∙ sym q.0, (p.1.0 ∙ sym q.1.0, p.1.1 ∙ sym q.1.1))
