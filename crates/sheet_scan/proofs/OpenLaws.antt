-- The beginning of a window's line, and the whole line. Cited by `take_open`, `scan_window` and `scan_windows`. Assumes nothing.
use mathlib.Core.Path.{◌≡◌, refl, sym, ap, ◌∙◌}
use mathlib.Core.List.{List, [], ◌∷◌, ◌++◌, append_assoc}
use Prim.Native.Nat.{ℕ, ◌+◌, ◌-◌, ◌≤◌, ◌<◌, ◌^◌, min}
use native.Mathlib.Nat.{le_refl}
use native.Mathlib.Omega.{arith}
use lib.IntN.{ℤ}
use lib.ListN.{length, drop}
use Rattle.text.specs.Text.{decimal, field_text}
use Rattle.sheet.specs.Keys.{key_line, equals, comma, colon}
use Rattle.sheet.specs.Text.{open_text}
use Rattle.std.specs.Prelude.{Result, Ok, Err}
use Rattle.scan.specs.Form.{Form, Found, Stopped, Apart}
use Rattle.scan.specs.Forms.{and_then, run}
use Rattle.scan.specs.Number.{fields, numbers, NoDigit}
use Rattle.scan.specs.Answer.{Passes}
use Rattle.scan.proofs.FormLaws.{found_then, stopped_first, stopped_then, stopped_same, apart_then, apart_run, run_of}
use Rattle.scan.proofs.ApartLaws.{apart_numbers}
use Rattle.sheet_scan.specs.Lines.{Row, weight_item, open_line, window_line}
use Rattle.sheet_scan.proofs.RowLaws.{apart_item, item_zero}

pub plain_equals : NoDigit 61
plain_equals d l e = omega arith

pub plain_comma : NoDigit 44
plain_comma d l e = omega arith

pub plain_colon : NoDigit 58
plain_colon d l e = omega arith

-- the numbers of a line's beginning, each with the byte after it
abbrev pub number_form : ℕ → Form ℕ
number_form i = fields key_line i i 61

abbrev pub start_form : ℕ → Form ℕ
start_form lines = numbers 0 (lines - 1) 44

abbrev pub size_form : ℕ → ℕ → ℕ → Form ℕ
size_form lines window start = numbers 1 (min window (lines - start)) 58

regroup : (k a e b c d f : List ℕ) → k ++ a ++ (e ++ b) ++ (c ++ d) ++ f ≡ k ++ (a ++ e) ++ ((b ++ c) ++ (d ++ f))
regroup k a e b c d f = simp append_assoc

module _ (lines window i : ℕ) where
  abbrev pair : Form (ℕ × ℕ)
  pair = and_then (start_form lines) (size_form lines window)

  abbrev all : Form (ℕ × (ℕ × ℕ))
  all = and_then (number_form i) (λ (n : ℕ). pair)

  texts : (start size : ℕ) → open_text i start size ≡ (key_line ++ (decimal i ++ 61 ∷ [])) ++ ((decimal start ++ 44 ∷ []) ++ (decimal size ++ 58 ∷ []))
  unfolding open_text field_text
  texts start size = regroup key_line (decimal i) equals (decimal start) comma (decimal size) colon

  there : 1 ≤ lines → (p : ℕ × (ℕ × ℕ)) → all.Good p → (q : ℕ × ℕ) × (open_line lines window i).Good q × ((open_line lines window i).text q ≡ all.text p)
  there l p good =
      let low = good.0.0 in
      let high = good.0.1 in
      let is : i ≡ p.0 = omega arith in
      let start-high = good.1.0.1 in
      let size_low = good.1.1.0 in
      let size-high = good.1.1.1 in
      (p.1, (size_low, omega arith, omega arith), texts p.1.0 p.1.1 ∙ ap (λ (n : ℕ). (key_line ++ (decimal n ++ 61 ∷ [])) ++ ((decimal p.1.0 ++ 44 ∷ []) ++ (decimal p.1.1 ++ 58 ∷ []))) is)

  back : (q : ℕ × ℕ) → (open_line lines window i).Good q → (p : ℕ × (ℕ × ℕ)) × all.Good p × (all.text p ≡ (open_line lines window i).text q)
  back q good =
      let size_low = good.0 in
      let size-high = good.1 in
      let within = good.2 in
      ((i, q), ((le_refl i, le_refl i), ((omega arith, omega arith), (size_low, omega arith))), sym (texts q.0 q.1))

  -- the one number that a line can have
  apart_number : Apart (number_form i)
  apart_number a b good-a good-b t u e =
      let low-a = good-a.0 in
      let high-a = good-a.1 in
      let low-b = good-b.0 in
      let high-b = good-b.1 in
      omega arith

  -- a start can be followed by the size 1
  ends : 1 ≤ lines → 1 ≤ window → (start : ℕ) → (0 ≤ start) × (start ≤ lines - 1) → (size : ℕ) × ((1 ≤ size) × (size ≤ min window (lines - start)))
  ends some_line some_slot start good = let high = good.1 in (1, (omega arith, omega arith))

  module _ (some_line : 1 ≤ lines) (some_slot : 1 ≤ window) {text : List ℕ} {at : ℕ} where
    whole : {stop : ℕ} → Stopped all text at stop → Stopped (open_line lines window i) text at stop
    whole s = stopped_same all (open_line lines window i) (there some_line) back s

    pub open_no_number : {stop : ℕ} → Stopped (number_form i) text at stop → Stopped (open_line lines window i) text at stop
    open_no_number s = whole (stopped_first (number_form i) (λ (n : ℕ). pair) (λ n good. ((0, 1), ((omega arith, omega arith), (omega arith, omega arith)))) s)

    module _ {a n : ℕ} (f : Found (number_form i) text at n a) where
      pub open_no_start : {stop : ℕ} → Stopped (start_form lines) text a stop → Stopped (open_line lines window i) text at stop
      open_no_start s =
          whole (stopped_then (number_form i) (λ (n : ℕ). pair) apart_number f (stopped_first (start_form lines) (size_form lines window) (ends some_line some_slot) s))

      module _ (lines_small : lines < 2 ^ 32) {b start : ℕ} (g : Found (start_form lines) text a start b) where
        pub open_no_size : {stop : ℕ} → Stopped (size_form lines window start) text b stop → Stopped (open_line lines window i) text at stop
        open_no_size s =
            whole (stopped_then (number_form i) (λ (n : ℕ). pair) apart_number f
            (stopped_then (start_form lines) (size_form lines window) (apart_numbers 0 (lines - 1) 44 (omega arith) plain_comma) g s))

        pub open_found : {next size : ℕ} → Found (size_form lines window start) text b size next → Found (open_line lines window i) text at (start, size) next
        open_found {next} {size} h =
            let found = found_then (number_form i) (λ (n : ℕ). pair) f (found_then (start_form lines) (size_form lines window) g h) in
            let low = f.good.0 in
            let high = f.good.1 in
            let is : n ≡ i = omega arith in
            let start-high = g.good.1 in
            let size_low = h.good.0 in
            let size-high = h.good.1 in
            let same : all.text (n, (start, size)) ≡ open_text i start size = ap (λ (m : ℕ). (key_line ++ (decimal m ++ 61 ∷ [])) ++ ((decimal start ++ 44 ∷ []) ++ (decimal size ++ 58 ∷ []))) is ∙ sym (texts start size) in
            record {
              good = (size_low, omega arith, omega arith);
              place = found.place ∙ ap (λ (t : List ℕ). at + length t) same;
              begins = found.begins ∙ ap (λ (t : List ℕ). t ++ drop next text) same;
            }

  pub apart_open : lines < 2 ^ 32 → Apart (open_line lines window i)
  unfolding back
  apart_open lines_small p q good-p good-q t u e =
      let a = back p good-p in
      let b = back q good-q in
      let same = apart_then (number_form i) (λ (n : ℕ). pair) apart_number
      (λ n good-n. apart_then (start_form lines) (size_form lines window) (apart_numbers 0 (lines - 1) 44 (omega arith) plain_comma) (λ start Good-start. apart_numbers 1 (min window (lines - start)) 58 (omega arith) plain_colon))
      a.0 b.0 a.1 b.1 t u (ap (λ (s : List ℕ). s ++ t) a.2 ∙ e ∙ ap (λ (s : List ℕ). s ++ u) (sym b.2)) in
      ap {B = ℕ × ℕ} (λ (x : ℕ × (ℕ × ℕ)). x.1) same

-- the whole line: its beginning, and then its weights
module _ (lines window limit i : ℕ) where
  abbrev weights : ℕ × ℕ → Form (List ℤ)
  weights p = run (weight_item limit p.1) 0 p.1

  abbrev parts : Form ((p : ℕ × ℕ) × List ℤ)
  parts = and_then (open_line lines window i) weights

  abbrev row : (p : ℕ × ℕ) × List ℤ → Row
  row x = record { start = x.0.0; size = x.0.1; weights = x.1 }

  to : (x : (p : ℕ × ℕ) × List ℤ) → parts.Good x → (r : Row) × (window_line lines window limit i).Good r × ((window_line lines window limit i).text r ≡ parts.text x)
  to x good = (row x, (good.0.0, good.0.1, good.0.2, good.1), refl)

  from : (r : Row) → (window_line lines window limit i).Good r → (x : (p : ℕ × ℕ) × List ℤ) × parts.Good x × (parts.text x ≡ (window_line lines window limit i).text r)
  from r good = (((r.start, r.size), r.weights), ((good.0, good.1, good.2), good.3), refl)

  pub window_no_open : 1 ≤ limit → {text : List ℕ} {at stop : ℕ} → Stopped (open_line lines window i) text at stop → Stopped (window_line lines window limit i) text at stop
  window_no_open l s =
      stopped_same parts (window_line lines window limit i) to from
      (stopped_first (open_line lines window i) weights (λ p good. run_of (weight_item limit p.1) (item_zero limit p.1 l) 0 p.1) s)

  pub window_passes : lines < 2 ^ 32 → {text : List ℕ} {at mid start size : ℕ} (r : Result ℕ ℕ) → Found (open_line lines window i) text at (start, size) mid → Passes (run (weight_item limit size) 0 size) text mid r → Passes (window_line lines window limit i) text at r
  window_passes lines_small {text} {at} {mid} {start} {size} (Ok next) f g =
      let found = found_then (open_line lines window i) weights f g.1 in
      (row ((start, size), g.0), record { good = (f.good.0, f.good.1, f.good.2, g.1.good); place = found.place; begins = found.begins })
  window_passes lines_small (Err stop) f g =
      stopped_same parts (window_line lines window limit i) to from
      (stopped_then (open_line lines window i) weights (apart_open lines window i lines_small) f g)

  pub apart_window : lines < 2 ^ 32 → limit < 2 ^ 32 → Apart (window_line lines window limit i)
  unfolding from
  apart_window lines_small limit-small p q good-p good-q t u e =
      let a = from p good-p in
      let b = from q good-q in
      let same = apart_then (open_line lines window i) weights (apart_open lines window i lines_small)
      (λ x good_x. apart_run (weight_item limit x.1) (apart_item limit x.1 limit-small) 0 x.1) a.0 b.0 a.1 b.1 t u e in
      ap {B = Row} row same

  -- a window that is always possible: line 0 alone, with the weight 0
  pub window_one : 1 ≤ lines → 1 ≤ window → 1 ≤ limit → (r : Row) × (window_line lines window limit i).Good r
  window_one some_line some_slot some =
      let zero-weights = run_of (weight_item limit 1) (item_zero limit 1 some) 0 1 in
      (record { start = 0; size = 1; weights = zero-weights.0 }, (le_refl 1, some_slot, some_line, zero-weights.1))
