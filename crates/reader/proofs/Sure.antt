-- The contract of each reader decides its answer and every element of the four lent lists; those of `number` and `byte` their answers. Assumes nothing.
use mathlib.Core.Path.{◌≡◌, ap, ◌∙◌, sym}
use mathlib.Core.Bool.{true, false}
use mathlib.Core.List.{List}
use Prim.Native.Nat.{ℕ}
use lib.IntN.{ℤ}
use Rattle.lists.proofs.Sure.{Decides, DecidesResult}
use Rattle.reader.specs.Reading.{Lists}
use Rattle.reader.proofs.ReadingLaws.{read_decides}
use Rattle.reader.proofs.read.read_sheet.Kinds as read
use Rattle.reader.proofs.read.read_sheet.Reads as read-reads
use Rattle.reader.proofs.read.read_sheet16.Kinds as read16
use Rattle.reader.proofs.read.read_sheet16.Reads as read16-reads
use Rattle.reader.proofs.answer.UnreadNumbered.number.Kinds as number
use Rattle.reader.proofs.answer.UnreadNumbered.number.Reads as number-reads
use Rattle.reader.proofs.answer.byte.Kinds as byte
use Rattle.reader.proofs.answer.byte.Reads as byte-Reads

pub read_sheet_decides : Decides read.ps read.r read-reads.Post (λ κs s t. (s.1.0.now ≡ t.1.0.now) × (s.1.1.0.now ≡ t.1.1.0.now) × (s.1.1.1.0.now ≡ t.1.1.1.0.now) × (s.1.1.1.1.0.now ≡ t.1.1.1.1.0.now))
read_sheet_decides κs a x y s t p q =
    let same = read_decides true _ _ x y _ _ p q in
    (same.0, (ap {B = List ℤ} (λ (l : Lists). l.weights) same.1, ap {B = List ℕ} (λ (l : Lists). l.starts) same.1, ap {B = List ℕ} (λ (l : Lists). l.sizes) same.1, ap {B = List ℤ} (λ (l : Lists). l.excesses) same.1))

pub read_sheet16_decides : Decides read16.ps read16.r read16-reads.Post (λ κs s t. (s.1.0.now ≡ t.1.0.now) × (s.1.1.0.now ≡ t.1.1.0.now) × (s.1.1.1.0.now ≡ t.1.1.1.0.now) × (s.1.1.1.1.0.now ≡ t.1.1.1.1.0.now))
read_sheet16_decides κs a x y s t p q =
    let same = read_decides false _ _ x y _ _ p q in
    (same.0, (ap {B = List ℤ} (λ (l : Lists). l.weights) same.1, ap {B = List ℕ} (λ (l : Lists). l.starts) same.1, ap {B = List ℕ} (λ (l : Lists). l.sizes) same.1, ap {B = List ℤ} (λ (l : Lists). l.excesses) same.1))

pub number_decides : DecidesResult number.ps number.r number-reads.Post
number_decides κs a x y s t p q = p ∙ sym q

pub byte_decides : DecidesResult byte.ps byte.r byte-Reads.Post
byte_decides κs a x y s t p q = p ∙ sym q
