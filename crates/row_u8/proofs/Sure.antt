-- The contract of `fill` decides its output. Assumes nothing.
use mathlib.Core.Path.{◌≡◌, refl, ◌∙◌, sym}
use Rattle.lists.proofs.Sure.{Decides}
use Rattle.row_u8.proofs.columns.fill.Kinds as fill
use Rattle.row_u8.proofs.columns.fill.Reads as fill-reads

pub fill_decides : Decides fill.ps fill.r fill-reads.Post (λ κs s t. s.1.1.1.1.1.0.now ≡ t.1.1.1.1.1.0.now)
fill_decides κs a x y s t p q = (refl, p ∙ sym q)
