-- The contract of `put_signed_line` decides its answer and every byte of the lent list. Assumes nothing.
use mathlib.Core.Path.{◌≡◌, ◌∙◌, sym}
use Rattle.lists.proofs.Sure.{Decides}
use Rattle.signed_lines.proofs.put_signed_line.Kinds as line
use Rattle.signed_lines.proofs.put_signed_line.Reads as line_reads_lem

pub put_signed_line_decides : Decides line.ps line.r line_reads_lem.Post (λ κs s t. s.1.1.1.0.now ≡ t.1.1.1.0.now)
put_signed_line_decides κs a x y s t p q = (p.0 ∙ sym q.0, p.1 ∙ sym q.1)
