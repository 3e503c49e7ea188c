-- Each public function's contract decides its answer and the list that it is lent to write. Assumes nothing.
use mathlib.Core.Path.{◌≡◌, ◌∙◌, sym}
use Rattle.lists.proofs.Sure.{Decides}
use Rattle.alpha_u16.proofs.u16x4.multiply_alpha.Kinds as multiply-alpha
use Rattle.alpha_u16.proofs.u16x4.multiply_alpha.Reads as multiply-alpha-reads
use Rattle.alpha_u16.proofs.u16x4.multiply_alpha_inplace.Kinds as multiply-alpha-inplace
use Rattle.alpha_u16.proofs.u16x4.multiply_alpha_inplace.Reads as multiply-alpha-inplace-reads
use Rattle.alpha_u16.proofs.u16x4.divide_alpha.Kinds as divide-alpha
use Rattle.alpha_u16.proofs.u16x4.divide_alpha.Reads as divide-alpha-reads
use Rattle.alpha_u16.proofs.u16x4.divide_alpha_inplace.Kinds as divide-alpha-inplace
use Rattle.alpha_u16.proofs.u16x4.divide_alpha_inplace.Reads as divide-alpha-inplace-reads

-- (the second parameter is the list written)
pub multiply_alpha_decides : Decides multiply-alpha.ps multiply-alpha.r multiply-alpha-reads.Post (λ κs s t. s.1.0.now ≡ t.1.0.now)
multiply_alpha_decides κs a x y s t p q = (p.0 ∙ sym q.0, p.1 ∙ sym q.1)

pub divide_alpha_decides : Decides divide-alpha.ps divide-alpha.r divide-alpha-reads.Post (λ κs s t. s.1.0.now ≡ t.1.0.now)
divide_alpha_decides κs a x y s t p q = (p.0 ∙ sym q.0, p.1 ∙ sym q.1)

-- (the first parameter is the list written)
pub multiply_alpha_inplace_decides : Decides multiply-alpha-inplace.ps multiply-alpha-inplace.r multiply-alpha-inplace-reads.Post (λ κs s t. s.0.now ≡ t.0.now)
multiply_alpha_inplace_decides κs a x y s t p q = (p.0 ∙ sym q.0, p.1 ∙ sym q.1)

pub divide_alpha_inplace_decides : Decides divide-alpha-inplace.ps divide-alpha-inplace.r divide-alpha-inplace-reads.Post (λ κs s t. s.0.now ≡ t.0.now)
divide_alpha_inplace_decides κs a x y s t p q = (p.0 ∙ sym q.0, p.1 ∙ sym q.1)
