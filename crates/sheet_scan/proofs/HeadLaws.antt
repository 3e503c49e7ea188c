-- The first four lines of a sheet, line by line: what is found and where it stops. Cited by `scan_sizes`. Assumes nothing.
use mathlib.Core.Path.{◌≡◌, sym, ap, ◌∙◌}
use mathlib.Core.List.{List, ◌++◌, append_assoc}
use Prim.Native.Nat.{ℕ, ◌+◌, ◌≤◌}
use native.Mathlib.Omega.{arith}
use lib.Dec.{lit≤, lit<}
use lib.ListN.{length, drop}
use Rattle.text.specs.Text.{decimal, field_text, line_text}
use Rattle.filters.specs.declared.FilterType.{FilterType}
use Rattle.sheet.specs.Keys.{key_in, key_out, key_window, newline}
use Rattle.sheet.specs.Text.{kind_text, sides_text}
use Rattle.scan.specs.Form.{Form, Found, Stopped, Apart}
use Rattle.scan.specs.Forms.{and_then}
use Rattle.scan.specs.Number.{fields, NoDigit}
use Rattle.scan.proofs.FormLaws.{found_then, stopped_first, stopped_then, stopped_same, apart_then}
use Rattle.scan.proofs.ApartLaws.{apart_fields}
use Rattle.sheet_scan.specs.declared.Sizes.{Sizes}
use Rattle.sheet_scan.specs.Lines.{kind_line, size_lines, Between}
use Rattle.sheet_scan.proofs.NameLaws.{apart_kind}

-- a line is a key, a number and a newline, however it is bracketed
pub line_is : (key : List ℕ) (n : ℕ) → line_text key n ≡ key ++ (decimal n ++ newline)
unfolding line_text field_text
line_is key n = append_assoc key (decimal n) newline

-- a number line
abbrev pub line : List ℕ → ℕ → ℕ → Form ℕ
line key low high = fields key low high 10

pub no_digit : NoDigit 10
no_digit d l e = omega arith

abbrev C2 : Form (ℕ × ℕ)
C2 = and_then (line key_out 1 8192) (λ (o : ℕ). line key_window 1 32769)

abbrev C3 : Form (ℕ × (ℕ × ℕ))
C3 = and_then (line key_in 1 8192) (λ (l : ℕ). C2)

abbrev C4 : Form (FilterType × (ℕ × (ℕ × ℕ)))
C4 = and_then kind_line (λ (k : FilterType). C3)

abbrev sizes : FilterType → ℕ → ℕ → ℕ → Sizes
sizes k l o w = record { kind = k; lines = l; windows = o; window_size = w }

texts : (k : FilterType) (l o w : ℕ) → kind_text k ++ sides_text l o w ≡ kind_text k ++ ((key_in ++ (decimal l ++ newline)) ++ ((key_out ++ (decimal o ++ newline)) ++ (key_window ++ (decimal w ++ newline))))
unfolding sides_text
texts k l o w =
    ap (λ (t : List ℕ). kind_text k ++ t)
    (rw (line_is key_in l, line_is key_out o, line_is key_window w) (append_assoc (key_in ++ (decimal l ++ newline)) (key_out ++ (decimal o ++ newline)) (key_window ++ (decimal w ++ newline))))

there : (p : FilterType × (ℕ × (ℕ × ℕ))) → C4.Good p → (v : Sizes) × size_lines.Good v × (size_lines.text v ≡ C4.text p)
there p good = (sizes p.0 p.1.0 p.1.1.0 p.1.1.1, (good.1.0, good.1.1.0, good.1.1.1), texts p.0 p.1.0 p.1.1.0 p.1.1.1)

back : (v : Sizes) → size_lines.Good v → (p : FilterType × (ℕ × (ℕ × ℕ))) × C4.Good p × (C4.text p ≡ size_lines.text v)
back v good = ((v.kind, (v.lines, (v.windows, v.window_size))), (tt, (good.0, (good.1, good.2))), sym (texts v.kind v.lines v.windows v.window_size))

one : (low high : ℕ) → low ≤ high → (n : ℕ) × ((low ≤ n) × (n ≤ high))
one low high l = (high, (l, native.Mathlib.Nat.le_refl high))

ends2 : (o : ℕ) → Between 1 8192 o → (w : ℕ) × Between 1 32769 w
ends2 o good = one 1 32769 (lit≤ tt)

ends3 : (l : ℕ) → Between 1 8192 l → (p : ℕ × ℕ) × C2.Good p
ends3 l good = ((1, 1), ((lit≤ tt, lit≤ tt), (lit≤ tt, lit≤ tt)))

ends4 : (k : FilterType) → Unit {0} → (p : ℕ × (ℕ × ℕ)) × C3.Good p
ends4 k good = ((1, (1, 1)), ((lit≤ tt, lit≤ tt), ((lit≤ tt, lit≤ tt), (lit≤ tt, lit≤ tt))))

apart_in : Apart (line key_in 1 8192)
apart_in = apart_fields key_in 1 8192 10 (lit< tt) no_digit

apart_out : Apart (line key_out 1 8192)
apart_out = apart_fields key_out 1 8192 10 (lit< tt) no_digit

module _ {text : List ℕ} {at : ℕ} where
  whole : {stop : ℕ} → Stopped C4 text at stop → Stopped size_lines text at stop
  whole s = stopped_same C4 size_lines there back s

  pub sizes_no_kind : {stop : ℕ} → Stopped kind_line text at stop → Stopped size_lines text at stop
  sizes_no_kind s = whole (stopped_first kind_line (λ (k : FilterType). C3) ends4 s)

  module _ {a : ℕ} {k : FilterType} (f : Found kind_line text at k a) where
    pub sizes_no_in : {stop : ℕ} → Stopped (line key_in 1 8192) text a stop → Stopped size_lines text at stop
    sizes_no_in s = whole (stopped_then kind_line (λ (k : FilterType). C3) apart_kind f (stopped_first (line key_in 1 8192) (λ (l : ℕ). C2) ends3 s))

    module _ {b l : ℕ} (g : Found (line key_in 1 8192) text a l b) where
      pub sizes_no_out : {stop : ℕ} → Stopped (line key_out 1 8192) text b stop → Stopped size_lines text at stop
      sizes_no_out s =
          whole (stopped_then kind_line (λ (k : FilterType). C3) apart_kind f (stopped_then (line key_in 1 8192) (λ (l : ℕ). C2) apart_in g
          (stopped_first (line key_out 1 8192) (λ (o : ℕ). line key_window 1 32769) ends2 s)))

      module _ {c o : ℕ} (h : Found (line key_out 1 8192) text b o c) where
        pub sizes_no_window : {stop : ℕ} → Stopped (line key_window 1 32769) text c stop → Stopped size_lines text at stop
        sizes_no_window s =
            whole (stopped_then kind_line (λ (k : FilterType). C3) apart_kind f (stopped_then (line key_in 1 8192) (λ (l : ℕ). C2) apart_in g
            (stopped_then (line key_out 1 8192) (λ (o : ℕ). line key_window 1 32769) apart_out h s)))

        pub sizes_found : {next w : ℕ} → Found (line key_window 1 32769) text c w next → Found size_lines text at (sizes k l o w) next
        sizes_found {next} {w} i =
            let all = found_then kind_line (λ (k : FilterType). C3) f (found_then (line key_in 1 8192) (λ (l : ℕ). C2) g (found_then (line key_out 1 8192) (λ (o : ℕ). line key_window 1 32769) h i)) in
            let same = sym (texts k l o w) in
            record {
              good = (g.good, h.good, i.good);
              place = all.place ∙ ap (λ (t : List ℕ). at + length t) same;
              begins = all.begins ∙ ap (λ (t : List ℕ). t ++ drop next text) same;
            }

pub apart_sizes : Apart size_lines
unfolding back
apart_sizes v w good-v good-w t u e =
    let p = back v good-v in
    let q = back w good-w in
    let same = apart_then kind_line (λ (k : FilterType). C3) apart_kind (λ k good-k. apart_then (line key_in 1 8192) (λ (l : ℕ). C2) apart_in (λ l good-l. apart_then (line key_out 1 8192) (λ (o : ℕ). line key_window 1 32769) apart_out (λ o good-o. apart_fields key_window 1 32769 10 (lit< tt) no_digit)))
    p.0 q.0 p.1 q.1 t u (ap (λ (s : List ℕ). s ++ t) p.2 ∙ e ∙ ap (λ (s : List ℕ). s ++ u) (sym q.2)) in
    ap {B = Sizes} (λ (x : FilterType × (ℕ × (ℕ × ℕ))). sizes x.0 x.1.0 x.1.1.0 x.1.1.1) same
