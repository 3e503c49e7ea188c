-- The slots of windows from lines that were scanned before: a row at a time, its weights over zeros. Cited by `fill_row` and `fill_slots`.
-- Assumes nothing.
use mathlib.Core.Path.{◌≡◌, refl, sym, ap, ◌∙◌}
use mathlib.Core.Bool.{Bool, true, false}
use mathlib.Core.List.{List, ◌++◌}
use Prim.Native.Nat.{ℕ, suc, ◌+◌, ◌*◌, ◌^◌, ◌≤◌, ◌<◌}
use native.Mathlib.Nat.{zero-mul}
use native.Mathlib.Omega.{arith}
use lib.Dec.{ltb}
use lib.IntN.{ℤ, pos}
use lib.ListN.{length, get_or, take, drop, get_or-eq_default}
use lib.Seq.{ext_get_or}
use borrow.Author.Tests.{ltb-true, ltb-false}
use Rattle.lists.specs.Tab.{tab, front, grid}
use Rattle.lists.proofs.TabLaws.{Written, written_none, written_row, length_tab, length_front, get_d_tab, front_below, front_past, row_end, row_next}
use Rattle.scan.specs.Form.{Found}
use Rattle.scan.specs.Forms.{run}
use Rattle.scan.proofs.RunText.{run_long}
use Rattle.scan.proofs.PieceLaws.{place_at}
use Rattle.sheet_scan.specs.Lines.{Row, weight_item, open_line, window_line}
use Rattle.sheet_scan.specs.Rows.{no_row, slot_at}
use Rattle.sheet_scan.specs.Whole.{There, Whatever, slot_of, no_weight}
use Rattle.excess_scan.proofs.AlongLaws.{along_none}
use Rattle.excess_scan.proofs.LineLaws.{Lined, own, lined_more}

-- a window's weights over zeros: its slots
pub over_zeros : (l : List ℤ) (size n : ℕ) → length l ≡ size → size ≤ n → front size (slot_of l) (tab 0 n no_weight) ≡ tab 0 n (slot_of l)
over_zeros l size n e h =
    let zeros = tab 0 n no_weight in
    let long : length zeros ≡ n = length_tab 0 n no_weight in
    let long-front : length (front size (slot_of l) zeros) ≡ n = length_front size (slot_of l) zeros (omega arith) ∙ long in
    ext_get_or (pos 0) (front size (slot_of l) zeros) (tab 0 n (slot_of l)) (long-front ∙ sym (length_tab 0 n (slot_of l))) (λ k m. by_size k (omega arith) (ltb k size) refl ∙ sym (get_d_tab 0 n (slot_of l) k (pos 0) (omega arith) ∙ ap (slot_of l) (native.Mathlib.Nat.zero-add k)))
  where
    by_size : (k : ℕ) → k < n → (b : Bool) → ltb k size ≡ b → get_or (front size (slot_of l) (tab 0 n no_weight)) k (pos 0) ≡ slot_of l k
    by_size k m true t = front_below size (slot_of l) (tab 0 n no_weight) k (pos 0) (ltb-true k size t)
    by_size k m false t =
        let past = ltb-false k size t in
        front_past size (slot_of l) (tab 0 n no_weight) k (pos 0) past ∙ get_d_tab 0 n no_weight k (pos 0) m ∙ sym (get_or-eq_default l (pos 0) (omega arith))

pub row_slots : (limit size : ℕ) (text : List ℕ) (at n : ℕ) (zeros now : List ℤ) → zeros ≡ tab 0 n no_weight → size ≤ n → Whatever (run (weight_item limit size) 0 size) text at (λ l next. now ≡ front size (slot_of l) zeros) → Whatever (run (weight_item limit size) 0 size) text at (λ l next. now ≡ tab 0 n (slot_of l))
row_slots limit size text at n zeros now e h put l next f =
    put l next f ∙ ap (front size (slot_of l)) e ∙ over_zeros l size n (run_long (weight_item limit size) 0 size l f.good) h

module _ (lines window limit outs : ℕ) (text : List ℕ) (at : ℕ) (weights : List ℤ) where
  -- i windows are stored, up to slot a; the next line is at p
  pub record Slotted (w : List ℤ) (p a i : ℕ) : Type 0 where
    pub lined : Lined lines window limit outs text at p i
    pub off : a ≡ i * window
    pub long : length w ≡ length weights
    pub each : (rows : List Row) (next : ℕ) → Found (run (window_line lines window limit) 0 outs) text at rows next → w ≡ front (i * window) (grid window (slot_at rows)) weights

  pub slotted_none : at ≤ length text → Slotted weights at 0 0
  slotted_none l = record {
    lined = along_none (window_line lines window limit) text outs at l;
    off = sym (zero-mul window);
    long = refl;
    each = λ rows next f. (written_none {f = grid window (slot_at rows)} {old = weights}).is ∙ ap (λ (n : ℕ). front n (grid window (slot_at rows)) weights) (sym (zero-mul window));
  }

  -- the next window's slots are there
  pub slotted_end : {w : List ℤ} {p a i : ℕ} → Slotted w p a i → i < outs → outs * window ≤ length weights → a + window ≤ length w
  slotted_end {i = i} g l room =
      let end = row_end i outs window l in
      let off = g.off in
      let long = g.long in
      omega arith

  -- a window more
  pub slotted_more : {w row : List ℤ} {p q a i k start size mid : ℕ} → lines < 2 ^ 32 → There (run (window_line lines window limit) 0 outs) text at → outs * window ≤ length weights → Slotted w p a i → i < outs → Found (open_line lines window i) text p (start, size) mid → k ≡ window → Whatever (run (weight_item limit size) 0 size) text mid (λ vs next. q ≡ next) → Whatever (run (weight_item limit size) 0 size) text mid (λ vs next. row ≡ tab 0 window (slot_of vs)) → Slotted (take a w ++ (row ++ drop k (drop a w))) q (a + window) (i + 1)
  slotted_more {w} {row} {p} {q} {a} {i} {k} {start} {size} {mid} small there room g l opened e-k place slots =
      let end = row_end i outs window l in
      let off = g.off in
      let fits : a + window ≤ length weights = omega arith in
      let next-off = row_next a i window off in
      let row_of : (rows : List Row) (next : ℕ) → Found (run (window_line lines window limit) 0 outs) text at rows next → Written (a + window) (grid window (slot_at rows)) weights (take a w ++ (row ++ drop k (drop a w))) =
      λ rows next f.
      let o = own lines window limit outs text at small g.lined l opened rows next f in
      let before = g.each rows next f ∙ ap (λ (n : ℕ). front n (grid window (slot_at rows)) weights) (sym off) in
      written_row i window a k (slot_at rows) (record { long = g.long; is = before }) off e-k fits (slots (get_or rows i no_row).weights (place_at (window_line lines window limit) at rows (suc i)) o.2) in
      record {
        lined = lined_more lines window limit outs text at small g.lined l opened there place;
        off = next-off;
        long = (row_of there.0 there.1 there.2).long;
        each = λ rows next f. (row_of rows next f).is ∙ ap (λ (n : ℕ). front n (grid window (slot_at rows)) weights) next-off;
      }

  pub slotted_all : {w : List ℤ} {p a i : ℕ} → Slotted w p a i → outs ≤ i → (rows : List Row) (next : ℕ) → Found (run (window_line lines window limit) 0 outs) text at rows next → w ≡ front (outs * window) (grid window (slot_at rows)) weights
  slotted_all {i = i} g h rows next f =
      let few = g.lined.few in
      let all : i ≡ outs = omega arith in
      g.each rows next f ∙ ap (λ (n : ℕ). front (n * window) (grid window (slot_at rows)) weights) all
