-- The contracts of `join` and `window_report` decide their answers. Assumes nothing.
use mathlib.Core.Path.{◌∙◌, sym}
use Rattle.lists.proofs.Sure.{DecidesResult}
use Rattle.book_numbers.proofs.joins.join.Kinds as join
use Rattle.book_numbers.proofs.joins.join.Reads as join-reads
use Rattle.book_numbers.proofs.marks.window_report.Kinds as window
use Rattle.book_numbers.proofs.marks.window_report.Reads as window-reads

pub join_decides : DecidesResult join.ps join.r join-reads.Post
join_decides κs a x y s t p q = p ∙ sym q

pub window_report_decides : DecidesResult window.ps window.r window-reads.Post
window_report_decides κs a x y s t p q = p ∙ sym q
