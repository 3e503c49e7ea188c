-- The contract of each writer decides its answer and every byte of the lent list, which is the ninth parameter. Assumes nothing.
use mathlib.Core.Path.{◌≡◌, ◌∙◌, sym}
use Rattle.lists.proofs.Sure.{Decides}
use Rattle.write_sheets.proofs.write_sheet16.Kinds as write-sheet16
use Rattle.write_sheets.proofs.write_sheet16.Reads as write-sheet16-reads
use Rattle.write_sheets.proofs.write_sheet32.Kinds as write-sheet32
use Rattle.write_sheets.proofs.write_sheet32.Reads as write-sheet32-reads
use denote.RattleType.{RattleType}
use denote.Param.Laws.{Laws, IsCopy}
use mir.Syntax.{Dict}
use Rattle.windows.specs.declared.Weight as weight
use Rattle.std.specs.declared.clone.Clone as clone
use Rattle.write_sheets.proofs.writer.write.Kinds as write
use Rattle.write_sheets.proofs.writer.write.Reads as write-reads

pub write_sheet16_decides : Decides write-sheet16.ps write-sheet16.r write-sheet16-reads.Post (λ κs s t. s.1.1.1.1.1.1.1.1.0.now ≡ t.1.1.1.1.1.1.1.1.0.now)
write_sheet16_decides κs a x y s t p q = (p.0 ∙ sym q.0, p.1 ∙ sym q.1)

pub write_sheet32_decides : Decides write-sheet32.ps write-sheet32.r write-sheet32-reads.Post (λ κs s t. s.1.1.1.1.1.1.1.1.0.now ≡ t.1.1.1.1.1.1.1.1.0.now)
write_sheet32_decides κs a x y s t p q = (p.0 ∙ sym q.0, p.1 ∙ sym q.1)

-- of `write`, over the weights of any store
module _ (W : RattleType) (l : Laws W) (c : IsCopy W) (w : weight.Ghosts W.Denot) (wd : Dict) (k : clone.Ghosts W.Denot) (kd : Dict) where
  pub write_decides : Decides (write.ps W l c) (write.r W l c) (write-reads.Post W l c w wd k kd) (λ κs s t. s.1.1.1.1.1.1.1.1.0.now ≡ t.1.1.1.1.1.1.1.1.0.now)
  write_decides κs a x y s t p q = (p.0 ∙ sym q.0, p.1 ∙ sym q.1)
