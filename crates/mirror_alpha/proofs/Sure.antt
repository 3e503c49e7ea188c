-- The contract of every export decides its answer, every lent list and every number beside it. Cited by docs/CONTRACTS.md. Assumes nothing.
use mathlib.Core.Path.{◌≡◌, ◌∙◌, sym}
use Rattle.lists.proofs.Sure.{Decides}
use Rattle.mirror_alpha.proofs.pixels.mirror_multiply_u8x4.Kinds as multiply-u8x4
use Rattle.mirror_alpha.proofs.pixels.mirror_multiply_u8x4.Reads as multiply-u8x4-reads
use Rattle.mirror_alpha.proofs.pixels.mirror_multiply_u8x4_inplace.Kinds as multiply-u8x4-inplace
use Rattle.mirror_alpha.proofs.pixels.mirror_multiply_u8x4_inplace.Reads as multiply-u8x4-inplace-reads
use Rattle.mirror_alpha.proofs.pixels.mirror_divide_u8x4.Kinds as divide-u8x4
use Rattle.mirror_alpha.proofs.pixels.mirror_divide_u8x4.Reads as divide-u8x4-reads
use Rattle.mirror_alpha.proofs.pixels.mirror_divide_u8x4_inplace.Kinds as divide-u8x4-inplace
use Rattle.mirror_alpha.proofs.pixels.mirror_divide_u8x4_inplace.Reads as divide-u8x4-inplace-reads

pub mirror_multiply_u8x4_decides : Decides multiply-u8x4.ps multiply-u8x4.r multiply-u8x4-reads.Post (λ κs s t. s.1.0.now ≡ t.1.0.now)
mirror_multiply_u8x4_decides κs a x y s t p q = (p.0 ∙ sym q.0, p.1 ∙ sym q.1)

pub mirror_multiply_u8x4_inplace_decides : Decides multiply-u8x4-inplace.ps multiply-u8x4-inplace.r multiply-u8x4-inplace-reads.Post (λ κs s t. s.0.now ≡ t.0.now)
mirror_multiply_u8x4_inplace_decides κs a x y s t p q = (p.0 ∙ sym q.0, p.1 ∙ sym q.1)

pub mirror_divide_u8x4_decides : Decides divide-u8x4.ps divide-u8x4.r divide-u8x4-reads.Post (λ κs s t. s.1.0.now ≡ t.1.0.now)
mirror_divide_u8x4_decides κs a x y s t p q = (p.0 ∙ sym q.0, p.1 ∙ sym q.1)

pub mirror_divide_u8x4_inplace_decides : Decides divide-u8x4-inplace.ps divide-u8x4-inplace.r divide-u8x4-inplace-reads.Post (λ κs s t. s.0.now ≡ t.0.now)
mirror_divide_u8x4_inplace_decides κs a x y s t p q = (p.0 ∙ sym q.0, p.1 ∙ sym q.1)
