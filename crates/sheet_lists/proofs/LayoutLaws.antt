-- Starts, sizes and excesses from windows' lines that were scanned before, a window a turn. Cited by `fill_layout`. Assumes nothing.
use mathlib.Core.Path.{◌≡◌, refl, sym, ap, ◌∙◌}
use mathlib.Core.List.{List}
use Prim.Native.Nat.{ℕ, suc, ◌+◌, ◌^◌, ◌≤◌, ◌<◌}
use native.Mathlib.Omega.{arith}
use lib.IntN.{ℤ}
use lib.ListN.{length, get_or, set, length-set}
use Rattle.lists.specs.Tab.{front}
use Rattle.lists.proofs.TabLaws.{written_none, written_more}
use Rattle.windows.specs.Set.{excess}
use Rattle.scan.specs.Form.{Found}
use Rattle.scan.specs.Forms.{run}
use Rattle.scan.proofs.PieceLaws.{place_at}
use Rattle.sheet_scan.specs.Lines.{Row, weight_item, open_line, window_line, window_lines}
use Rattle.sheet_scan.specs.Rows.{no_row, start_at, size_at, slot_at, excess_at}
use Rattle.sheet_scan.specs.Whole.{There, Whatever, slot_of}
use Rattle.excess_scan.proofs.AlongLaws.{along_none}
use Rattle.excess_scan.proofs.LineLaws.{Lined, own, lined_more}

module _ (lines window limit outs precision : ℕ) (text : List ℕ) (at : ℕ) (starts sizes : List ℕ) (excesses : List ℤ) where
  -- i windows are stored; the next line is at p
  pub record Listed (s z : List ℕ) (e : List ℤ) (p i : ℕ) : Type 0 where
    pub lined : Lined lines window limit outs text at p i
    pub long_s : length s ≡ length starts
    pub long_z : length z ≡ length sizes
    pub long_e : length e ≡ length excesses
    pub each : (rows : List Row) (next : ℕ) → Found (window_lines lines window limit outs) text at rows next → (s ≡ front i (start_at rows) starts) × (z ≡ front i (size_at rows) sizes) × (e ≡ front i (excess_at precision rows) excesses)

  pub listed_none : at ≤ length text → Listed starts sizes excesses at 0
  listed_none l = record {
    lined = along_none (window_line lines window limit) text outs at l;
    long_s = refl;
    long_z = refl;
    long_e = refl;
    each = λ rows next f. ((written_none {f = start_at rows} {old = starts}).is, (written_none {f = size_at rows} {old = sizes}).is, (written_none {f = excess_at precision rows} {old = excesses}).is);
  }

  pub listed_more : {s z : List ℕ} {e : List ℤ} {p q i start size mid : ℕ} {v : ℤ} → lines < 2 ^ 32 → There (window_lines lines window limit outs) text at → outs ≤ length starts → outs ≤ length sizes → outs ≤ length excesses → Listed s z e p i → i < outs → Found (open_line lines window i) text p (start, size) mid → Whatever (run (weight_item limit size) 0 size) text mid (λ vs next. (v ≡ excess precision (slot_of vs) size) × (q ≡ next)) → Listed (set s i start) (set z i size) (set e i v) q (i + 1)
  listed_more {s} {z} {e} {p} {q} {i} {start} {size} {mid} {v} small there room-s room-z room-e g l opened worked = record {
    lined = lined_more lines window limit outs text at small g.lined l opened there (λ vs next f. (worked vs next f).1);
    long_s = length-set s i start ∙ g.long_s;
    long_z = length-set z i size ∙ g.long_z;
    long_e = length-set e i v ∙ g.long_e;
    each = λ rows next f.
        let o = own lines window limit outs text at small g.lined l opened rows next f in
        let so_far = g.each rows next f in
        let is : v ≡ excess_at precision rows i = (worked (get_or rows i no_row).weights (place_at (window_line lines window limit) at rows (suc i)) o.2).0 ∙ ap (excess precision (slot_at rows i)) (sym o.1) in (
          (written_more {k = i} {f = start_at rows} (record { long = g.long_s; is = so_far.0 }) (omega arith) (sym o.0)).is,
          (written_more {k = i} {f = size_at rows} (record { long = g.long_z; is = so_far.1 }) (omega arith) (sym o.1)).is,
          (written_more {k = i} {f = excess_at precision rows} (record { long = g.long_e; is = so_far.2 }) (omega arith) is).is,
        );
  }

  pub listed_all : {s z : List ℕ} {e : List ℤ} {p i : ℕ} → Listed s z e p i → outs ≤ i → (rows : List Row) (next : ℕ) → Found (window_lines lines window limit outs) text at rows next → (s ≡ front outs (start_at rows) starts) × (z ≡ front outs (size_at rows) sizes) × (e ≡ front outs (excess_at precision rows) excesses)
  listed_all {i = i} g h rows next f =
      let few = g.lined.few in
      let all : i ≡ outs = omega arith in
      let so_far = g.each rows next f in
      (so_far.0 ∙ ap (λ (n : ℕ). front n (start_at rows) starts) all, so_far.1 ∙ ap (λ (n : ℕ). front n (size_at rows) sizes) all, so_far.2 ∙ ap (λ (n : ℕ). front n (excess_at precision rows) excesses) all)
