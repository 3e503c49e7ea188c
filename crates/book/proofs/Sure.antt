-- The contract of `book` decides its answer. Assumes nothing.
use Rattle.lists.proofs.Sure.{DecidesResult}
use Rattle.book.proofs.Decides.{one_report}
use Rattle.book.proofs.book.Kinds as book
use Rattle.book.proofs.book.Reads as book-reads

pub book_decides : DecidesResult book.ps book.r book-reads.Post
book_decides κs a x y s t p q = one_report _ x y p q
