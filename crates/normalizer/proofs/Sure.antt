-- The contracts of both normalisers decide their answers and every slot and excess that they write. Assumes nothing.
use mathlib.Core.Path.{◌≡◌, ◌∙◌, sym, ap}
use Prim.Native.Nat.{ℕ}
use Rattle.lists.proofs.Sure.{Decides, DecidesResult}
use Rattle.normalizer.specs.declared.Normalizer16.{Normalizer16}
use Rattle.normalizer.specs.declared.Normalizer32.{Normalizer32}
use Rattle.normalizer.proofs.Normalizer16.new.Kinds as new16
use Rattle.normalizer.proofs.Normalizer16.new.Reads as new16-reads
use Rattle.normalizer.proofs.Normalizer32.new.Kinds as new32
use Rattle.normalizer.proofs.Normalizer32.new.Reads as new32-reads
use Rattle.normalizer.proofs.normalize16.Kinds as normalize16
use Rattle.normalizer.proofs.normalize16.Reads as normalize16-reads
use Rattle.normalizer.proofs.normalize32.Kinds as normalize32
use Rattle.normalizer.proofs.normalize32.Reads as normalize32-reads
use denote.RattleType.{RattleType}
use denote.Param.Laws.{Laws, IsCopy}
use mir.Syntax.{Dict}
use Rattle.windows.specs.declared.Weight as weight
use Rattle.std.specs.declared.clone.Clone as clone
use Rattle.normalizer.proofs.normalize.Kinds as normalize
use Rattle.normalizer.proofs.normalize.Reads as normalize-reads

abbrev with16 : ℕ → Normalizer16
with16 p = record { precision = p }

abbrev with32 : ℕ → Normalizer32
with32 p = record { precision = p }

-- of `Normalizer16::new` and of `Normalizer32::new`
pub new_decides : DecidesResult new16.ps new16.r new16-reads.Post × DecidesResult new32.ps new32.r new32-reads.Post
new_decides = (λ κs a x y s t p q. ap with16 (p ∙ sym q), λ κs a x y s t p q. ap with32 (p ∙ sym q))

pub normalize16_decides : Decides normalize16.ps normalize16.r normalize16-reads.Post (λ κs s t. (s.1.1.1.1.1.0.now ≡ t.1.1.1.1.1.0.now) × (s.1.1.1.1.1.1.0.now ≡ t.1.1.1.1.1.1.0.now))
normalize16_decides κs a x y s t p q = (p.0 ∙ sym q.0, (p.1.0 ∙ sym q.1.0, p.1.1 ∙ sym q.1.1))

pub normalize32_decides : Decides normalize32.ps normalize32.r normalize32-reads.Post (λ κs s t. (s.1.1.1.1.1.0.now ≡ t.1.1.1.1.1.0.now) × (s.1.1.1.1.1.1.0.now ≡ t.1.1.1.1.1.1.0.now))
normalize32_decides κs a x y s t p q = (p.0 ∙ sym q.0, (p.1.0 ∙ sym q.1.0, p.1.1 ∙ sym q.1.1))

-- of `normalize`, over the weights of any store: what is written is decided as the numbers that the weights stand for, which for the two stores are the weights themselves
module _ (W : RattleType) (l : Laws W) (c : IsCopy W) (w : weight.Ghosts W.Denot) (wd : Dict) (k : clone.Ghosts W.Denot) (kd : Dict) where
  pub normalize_decides : Decides (normalize.ps W l c) (normalize.r W l c) (normalize-reads.Post W l c w wd k kd) (λ κs s t. (w.values s.1.1.1.1.1.0.now ≡ w.values t.1.1.1.1.1.0.now) × (s.1.1.1.1.1.1.0.now ≡ t.1.1.1.1.1.1.0.now))
  normalize_decides κs a x y s t p q = (p.0 ∙ sym q.0, (p.1.0 ∙ sym q.1.0, p.1.1 ∙ sym q.1.1))
