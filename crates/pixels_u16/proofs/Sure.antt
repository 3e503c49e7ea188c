-- The contract of `fill_rows` decides its output. Assumes nothing.
use mathlib.Core.Path.{◌≡◌, refl, ◌∙◌, sym}
use Rattle.lists.proofs.Sure.{Decides}
use Rattle.pixels_u16.proofs.strips.fill_rows.Kinds as fill
use Rattle.pixels_u16.proofs.strips.fill_rows.Reads as fill-reads

pub fill_rows_decides : Decides fill.ps fill.r fill-reads.Post (λ κs s t. s.1.1.1.1.1.1.1.1.1.1.0.now ≡ t.1.1.1.1.1.1.1.1.1.1.0.now)
fill_rows_decides κs a x y s t p q = (refl, p ∙ sym q)
