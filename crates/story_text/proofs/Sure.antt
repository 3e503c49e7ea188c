-- The contract of `put_lines` decides its answer and every byte of the lent list, which is the ninth parameter; that of `total` its answer. Assumes nothing.
use mathlib.Core.Path.{◌≡◌, ◌∙◌, sym}
use Rattle.lists.proofs.Sure.{Decides, DecidesResult}
use Rattle.story_text.proofs.lines.put_lines.Kinds as put-lines
use Rattle.story_text.proofs.lines.put_lines.Reads as put-lines-reads
use Rattle.story_text.proofs.sums.total.Kinds as total
use Rattle.story_text.proofs.sums.total.Reads as total-reads

pub put_lines_decides : Decides put-lines.ps put-lines.r put-lines-reads.Post (λ κs s t. s.1.1.1.1.1.1.1.1.0.now ≡ t.1.1.1.1.1.1.1.1.0.now)
put_lines_decides κs a x y s t p q = (p.0 ∙ sym q.0, p.1 ∙ sym q.1)

pub total_decides : DecidesResult total.ps total.r total-reads.Post
total_decides κs a x y s t p q = p.0 ∙ sym q.0
