-- The contract of `write_report` decides its answer and every byte of the lent list. Assumes nothing.
use mathlib.Core.Path.{◌≡◌, ◌∙◌, sym}
use Rattle.lists.proofs.Sure.{Decides}
use Rattle.book_text.proofs.write_report.Kinds as write
use Rattle.book_text.proofs.write_report.Reads as write-reads

pub write_report_decides : Decides write.ps write.r write-reads.Post (λ κs s t. s.1.0.now ≡ t.1.0.now)
write_report_decides κs a x y s t p q = (p.0 ∙ sym q.0, p.1 ∙ sym q.1)
