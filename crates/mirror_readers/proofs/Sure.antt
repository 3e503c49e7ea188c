-- The contract of both exports decides its answer, the four lists and every number beside the answer: two readings of one text are the same. Cited by
-- docs/CONTRACTS.md. Assumes nothing.
use mathlib.Core.Path.{◌≡◌, ◌∙◌, sym, ap}
use mathlib.Core.Bool.{Bool}
use mathlib.Core.List.{List}
use Prim.Native.Nat.{ℕ}
use lib.IntN.{ℤ}
use Rattle.lists.proofs.Sure.{Decides}
use Rattle.reader.specs.Reading.{Lists, number_of, byte_of}
use Rattle.reader.proofs.ReadingLaws.{read_decides}
use Rattle.mirror_readers.specs.declared.Head.{Head}
use Rattle.mirror_readers.specs.Told.{head_of, Tells}
use Rattle.mirror_readers.proofs.either.mirror_read_sheet.Kinds as read
use Rattle.mirror_readers.proofs.either.mirror_read_sheet.Reads as read-reads
use Rattle.mirror_readers.proofs.narrow.mirror_read_sheet16.Kinds as read16
use Rattle.mirror_readers.proofs.narrow.mirror_read_sheet16.Reads as read16-reads

-- what is told of one text and the same lists
pub record Same (no no' : ℕ) (left left' : Lists) (head head' : Head) (byte byte' : ℕ) : Type 0 where
  pub number : no ≡ no'
  pub lists : left ≡ left'
  pub said : head ≡ head'
  pub place : byte ≡ byte'

pub tells_decides : {wide : Bool} {text : List ℕ} {lent left left' : Lists} {no no' : ℕ} {head head' : Head} {byte byte' : ℕ} →
    Tells wide text lent left no head byte → Tells wide text lent left' no' head' byte' → Same no no' left left' head head' byte byte'
tells_decides {wide} {text} {lent} {left} {left'} p q =
    let same = read_decides wide text lent p.reading q.reading left left' p.reads q.reads in
    record {
      number = p.number ∙ ap number_of same.0 ∙ sym q.number;
      lists = same.1;
      said = p.said ∙ ap head_of same.0 ∙ sym q.said;
      place = p.place ∙ ap byte_of same.0 ∙ sym q.place;
    }

pub mirror_read_sheet_decides : Decides read.ps read.r read-reads.Post (λ κs s t. (s.1.0.now ≡ t.1.0.now) × (s.1.1.0.now ≡ t.1.1.0.now) × (s.1.1.1.0.now ≡ t.1.1.1.0.now) × (s.1.1.1.1.0.now ≡ t.1.1.1.1.0.now) × (s.1.1.1.1.1.0.now ≡ t.1.1.1.1.1.0.now) × (s.1.1.1.1.1.1.0.now ≡ t.1.1.1.1.1.1.0.now) × (s.1.1.1.1.1.1.1.0.now ≡ t.1.1.1.1.1.1.1.0.now) × (s.1.1.1.1.1.1.1.1.0.now ≡ t.1.1.1.1.1.1.1.1.0.now) × (s.1.1.1.1.1.1.1.1.1.0.now ≡ t.1.1.1.1.1.1.1.1.1.0.now) × (s.1.1.1.1.1.1.1.1.1.1.0.now ≡ t.1.1.1.1.1.1.1.1.1.1.0.now) × (s.1.1.1.1.1.1.1.1.1.1.1.0.now ≡ t.1.1.1.1.1.1.1.1.1.1.1.0.now))
mirror_read_sheet_decides κs a x y s t p q =
    let w = tells_decides p q in
    (w.number, (ap {B = List ℤ} (λ (l : Lists). l.weights) w.lists, ap {B = List ℕ} (λ (l : Lists). l.starts) w.lists, ap {B = List ℕ} (λ (l : Lists). l.sizes) w.lists, ap {B = List ℤ} (λ (l : Lists). l.excesses) w.lists, ap {B = ℕ} (λ (h : Head). h.filter) w.said, ap {B = ℕ} (λ (h : Head). h.lines) w.said, ap {B = ℕ} (λ (h : Head). h.windows) w.said, ap {B = ℕ} (λ (h : Head). h.window_size) w.said, ap {B = ℕ} (λ (h : Head). h.store) w.said, ap {B = ℕ} (λ (h : Head). h.precision) w.said, w.place))

pub mirror_read_sheet16_decides : Decides read16.ps read16.r read16-reads.Post (λ κs s t. (s.1.0.now ≡ t.1.0.now) × (s.1.1.0.now ≡ t.1.1.0.now) × (s.1.1.1.0.now ≡ t.1.1.1.0.now) × (s.1.1.1.1.0.now ≡ t.1.1.1.1.0.now) × (s.1.1.1.1.1.0.now ≡ t.1.1.1.1.1.0.now) × (s.1.1.1.1.1.1.0.now ≡ t.1.1.1.1.1.1.0.now) × (s.1.1.1.1.1.1.1.0.now ≡ t.1.1.1.1.1.1.1.0.now) × (s.1.1.1.1.1.1.1.1.0.now ≡ t.1.1.1.1.1.1.1.1.0.now) × (s.1.1.1.1.1.1.1.1.1.0.now ≡ t.1.1.1.1.1.1.1.1.1.0.now) × (s.1.1.1.1.1.1.1.1.1.1.0.now ≡ t.1.1.1.1.1.1.1.1.1.1.0.now) × (s.1.1.1.1.1.1.1.1.1.1.1.0.now ≡ t.1.1.1.1.1.1.1.1.1.1.1.0.now))
mirror_read_sheet16_decides κs a x y s t p q =
    let w = tells_decides p q in
    (w.number, (ap {B = List ℤ} (λ (l : Lists). l.weights) w.lists, ap {B = List ℕ} (λ (l : Lists). l.starts) w.lists, ap {B = List ℕ} (λ (l : Lists). l.sizes) w.lists, ap {B = List ℤ} (λ (l : Lists). l.excesses) w.lists, ap {B = ℕ} (λ (h : Head). h.filter) w.said, ap {B = ℕ} (λ (h : Head). h.lines) w.said, ap {B = ℕ} (λ (h : Head). h.windows) w.said, ap {B = ℕ} (λ (h : Head). h.window_size) w.said, ap {B = ℕ} (λ (h : Head). h.store) w.said, ap {B = ℕ} (λ (h : Head). h.precision) w.said, w.place))
