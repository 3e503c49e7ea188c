-- The contracts of `stored_fits16` and `stored_fits32` decide their answers. Assumes nothing.
use mathlib.Core.Path.{◌∙◌, sym}
use Rattle.lists.proofs.Sure.{DecidesResult}
use Rattle.excesses.proofs.stored_fits16.Kinds as short
use Rattle.excesses.proofs.stored_fits16.Reads as short-reads
use Rattle.excesses.proofs.stored_fits32.Kinds as long
use Rattle.excesses.proofs.stored_fits32.Reads as long-reads
use denote.RattleType.{RattleType}
use denote.Param.Laws.{Laws, IsCopy}
use mir.Syntax.{Dict}
use Rattle.windows.specs.declared.Weight as weight
use Rattle.std.specs.declared.clone.Clone as clone
use Rattle.excesses.proofs.judge.stored_fits.Kinds as fits
use Rattle.excesses.proofs.judge.stored_fits.Reads as fits-reads

pub stored_fits16_decides : DecidesResult short.ps short.r short-reads.Post
stored_fits16_decides κs a x y s t p q = p ∙ sym q

pub stored_fits32_decides : DecidesResult long.ps long.r long-reads.Post
stored_fits32_decides κs a x y s t p q = p ∙ sym q

-- of `stored_fits`, over the weights of any store
module _ (W : RattleType) (l : Laws W) (c : IsCopy W) (w : weight.Ghosts W.Denot) (wd : Dict) (k : clone.Ghosts W.Denot) (kd : Dict) where
  pub stored_fits_decides : DecidesResult (fits.ps W l c) (fits.r W l c) (fits-reads.Post W l c w wd k kd)
  stored_fits_decides κs a x y s t p q = p ∙ sym q
