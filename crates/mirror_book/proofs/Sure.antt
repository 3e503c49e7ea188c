-- The contracts of both exports decide the answer, the lent list and every number beside it: one text has one report. Cited by docs/CONTRACTS.md. Assumes nothing.
use mathlib.Core.Path.{◌≡◌, ◌∙◌, sym, ap}
use Prim.Native.Nat.{ℕ}
use lib.IntN.{ℤ}
use Rattle.lists.proofs.Sure.{Decides}
use Rattle.book_numbers.specs.declared.Report.{Report}
use Rattle.book.proofs.Decides.{one_report}
use Rattle.mirror_book.proofs.report.mirror_book.Kinds as book
use Rattle.mirror_book.proofs.report.mirror_book.Reads as book-reads
use Rattle.mirror_book.proofs.lines.mirror_book_lines.Kinds as lines
use Rattle.mirror_book.proofs.lines.mirror_book_lines.Reads as lines-reads

pub mirror_book_decides : Decides book.ps book.r book-reads.Post (λ κs s t. (s.1.0.now ≡ t.1.0.now) × (s.1.1.0.now ≡ t.1.1.0.now) × (s.1.1.1.0.now ≡ t.1.1.1.0.now) × (s.1.1.1.1.0.now ≡ t.1.1.1.1.0.now) × (s.1.1.1.1.1.0.now ≡ t.1.1.1.1.1.0.now) × (s.1.1.1.1.1.1.0.now ≡ t.1.1.1.1.1.1.0.now) × (s.1.1.1.1.1.1.1.0.now ≡ t.1.1.1.1.1.1.1.0.now))
mirror_book_decides κs a x y s t p q =
    let w = one_report _ _ _ p q in
    (ap {B = ℕ} (λ (r : Report). r.stopped) w, (ap {B = ℕ} (λ (r : Report). r.sheets) w, ap {B = ℕ} (λ (r : Report). r.windows) w, ap {B = ℤ} (λ (r : Report). r.least) w, ap {B = ℤ} (λ (r : Report). r.most) w, ap {B = ℕ} (λ (r : Report). r.notflat) w, ap {B = ℕ} (λ (r : Report). r.negative) w, ap {B = ℕ} (λ (r : Report). r.byte) w))

pub mirror_book_lines_decides : Decides lines.ps lines.r lines-reads.Post (λ κs s t. (s.1.1.1.1.1.1.1.0.now ≡ t.1.1.1.1.1.1.1.0.now) × (s.1.1.1.1.1.1.1.1.0.now ≡ t.1.1.1.1.1.1.1.1.0.now))
mirror_book_lines_decides κs a x y s t p q = (p.0 ∙ sym q.0, (p.1.0 ∙ sym q.1.0, p.1.1 ∙ sym q.1.1))
