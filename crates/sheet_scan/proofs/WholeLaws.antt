-- A whole sheet, from its parts: what is found and where it stops; at most one sheet at a place. Cited by `scan_rest` and by the laws of the readers. Assumes nothing.
use mathlib.Core.Path.{◌≡◌, refl, sym, ap, ◌∙◌, subst}
use mathlib.Core.Bool.{Bool, true, false, cond}
use mathlib.Core.List.{List, ◌++◌, append_assoc}
use mathlib.Core.Logic.{inl, inr}
use Prim.Native.Nat.{ℕ, ◌+◌, ◌≤◌, ◌<◌, ◌^◌}
use native.Mathlib.Omega.{arith}
use lib.Dec.{eqb, lit≤, lit<}
use lib.IntN.{ℤ}
use lib.ListN.{length, drop}
use Rattle.lists.proofs.TabLaws.{length_tab}
use Rattle.windows.specs.Set.{Stored, windows}
use Rattle.windows.specs.Store.{store16, store32, weight_bits}
use Rattle.sheet.specs.Text.{kind_text, sides_text, store_text, head_text, windows_text, excess_text, sheet_text_value}
use Rattle.scan.specs.Form.{Form, Found, Stopped, Apart}
use Rattle.scan.specs.Forms.{fixed, and_then, run_text, RunGood}
use Rattle.scan.proofs.FormLaws.{found_then, stopped_first, stopped_then, stopped_same, apart_then, apart_run, run_of}
use Rattle.scan.proofs.TailLaws.{tail_found, tail_no_first, tail_other, apart_tail}
use Rattle.scan.proofs.RunText.{run_long}
use Rattle.sheet_scan.specs.declared.Sizes.{Sizes}
use Rattle.sheet_scan.specs.declared.StoreLines.{StoreLines}
use Rattle.sheet_scan.specs.Language.{Taken, store_named_value, limit_of_value, Accepted, Whole, sheets}
use Rattle.sheet_scan.specs.Lines.{Row, size_lines, store_lines, window_line}
use Rattle.sheet_scan.specs.Whole.{lines_of, excess_line, body_lines, rest_lines}
use Rattle.sheet_scan.specs.Rows.{start_at, set_of_rows}
use Rattle.sheet_scan.proofs.LineText.{Says, windows_text_fact}
use Rattle.sheet_scan.proofs.SetLaws.{rows_say, rows_blank, rows_accepted, rows_of}
use Rattle.sheet_scan.proofs.BackLaws.{fit, precise, set_says, set_good, excesses_back, set_back}
use Rattle.sheet_scan.proofs.HeadLaws.{apart_sizes}
use Rattle.sheet_scan.proofs.StoreLaws.{apart_lines}
use Rattle.sheet_scan.proofs.OpenLaws.{apart_window, window_one}

abbrev pub parts : Bool → Form ((v : Sizes) × ((w : StoreLines) × List Row))
parts wide = and_then size_lines (rest_lines wide)

-- the bits that are taken name a store of such weights
pub named_bits : (wide : Bool) (bits : ℕ) → Taken wide bits → weight_bits (store_named_value bits) ≡ bits
named_bits wide bits (inl e) = rw e
named_bits wide bits (inr t) = rw t.1

-- the sheet that the parts say
abbrev pub whole_of_value : Sizes → StoreLines → List Row → Whole
whole_of_value v w rows = record { kind = v.kind; bits = w.bits; set = set_of_rows v.lines v.window_size w.precision rows }

regroup : (k s t r x : List ℕ) → k ++ s ++ t ++ r ++ x ≡ k ++ s ++ (t ++ (r ++ x))
regroup k s t r x = simp append_assoc

-- a set's text, given its rows
text_of : (w : Whole) (limit : ℕ) (rows : List Row) → weight_bits (store_named_value w.bits) ≡ w.bits → Says w.set rows → sheet_text_value w.kind (store_named_value w.bits) w.set ≡ kind_text w.kind ++ sides_text w.set.set.layout.lines (windows w.set.set.layout) w.set.set.layout.window_size_value ++ (store_text w.bits w.set.precision ++ (run_text (window_line w.set.set.layout.lines w.set.set.layout.window_size_value limit) 0 rows ++ excess_text w.set.excesses))
unfolding sheet_text_value head_text
text_of w limit rows e says =
    let k = kind_text w.kind in
    let s = sides_text w.set.set.layout.lines (windows w.set.set.layout) w.set.set.layout.window_size_value in
    let t = store_text w.bits w.set.precision in
    let x = excess_text w.set.excesses in
    ap (λ (n : ℕ). k ++ s ++ store_text n w.set.precision ++ windows_text w.set.set.layout.starts w.set.set.layout.sizes w.set.set.layout.window_size_value w.set.set.weights ++ x) e
    ∙ ap (λ (r : List ℕ). k ++ s ++ t ++ r ++ x) (windows_text_fact w.set.set.layout.lines limit w.set rows says) ∙ regroup k s t (run_text (window_line w.set.set.layout.lines w.set.set.layout.window_size_value limit) 0 rows) x

module _ (wide : Bool) (v : Sizes) (w : StoreLines) (rows : List Row) (good : (parts wide).Good (v, (w, rows))) where
  long : length rows ≡ v.windows
  long = run_long (window_line v.lines v.window_size (limit_of_value w.bits)) 0 v.windows rows good.1.1

  rows_good : RunGood (window_line v.lines v.window_size (limit_of_value w.bits)) 0 (length rows) rows
  rows_good = subst (λ (n : ℕ). RunGood (window_line v.lines v.window_size (limit_of_value w.bits)) 0 n rows) (sym long) good.1.1

  pub outs_is : v.windows ≡ windows (whole_of_value v w rows).set.set.layout
  outs_is = sym (length_tab 0 (length rows) (start_at rows) ∙ long)

  pub whole_good : (sheets wide).Good (whole_of_value v w rows)
  whole_good = (
    rows_accepted v.lines v.window_size (limit_of_value w.bits) w.precision rows rows_good wide w.bits good.1.0.0 refl good.0.0 (subst (λ (n : ℕ). (1 ≤ n) × (n ≤ 8192)) (sym long) good.0.1) good.0.2 good.1.0.1,
    rows_blank v.lines v.window_size (limit_of_value w.bits) w.precision rows rows_good,
  )

  pub whole_text : (sheets wide).text (whole_of_value v w rows) ≡ (parts wide).text (v, (w, rows))
  whole_text =
      text_of (whole_of_value v w rows) (limit_of_value w.bits) rows (named_bits wide w.bits good.1.0.0) (rows_say v.lines v.window_size (limit_of_value w.bits) w.precision rows rows_good)
      ∙ ap (λ (n : ℕ). kind_text v.kind ++ sides_text v.lines n v.window_size ++ (store_text w.bits w.precision ++ (run_text (window_line v.lines v.window_size (limit_of_value w.bits)) 0 rows ++ excess_line w.precision rows))) (sym outs_is)

-- the parts of a sheet
abbrev pub sizes_of : Whole → Sizes
sizes_of x = record { kind = x.kind; lines = x.set.set.layout.lines; windows = windows x.set.set.layout; window_size = x.set.set.layout.window_size_value }

abbrev pub store_of : Whole → StoreLines
store_of x = record { bits = x.bits; precision = x.set.precision }

pub parts_good : (wide : Bool) (x : Whole) → Accepted wide x.bits x.set → (parts wide).Good (sizes_of x, (store_of x, rows_of x.set))
parts_good wide x a =
    let f = fit wide x.bits x.set a in
    let p = precise wide x.bits x.set a in
    (((f.some_line, f.few_lines), (f.some_window, f.few_windows), (f.some_slot, f.few_slots)), ((a.taken, (p.least, p.most)), set_good wide x.bits x.set a))

pub parts_text : (wide : Bool) (x : Whole) → Accepted wide x.bits x.set → (parts wide).text (sizes_of x, (store_of x, rows_of x.set)) ≡ (sheets wide).text x
parts_text wide x a =
    ap (λ (es : List ℤ). size_lines.text (sizes_of x) ++ ((store_lines wide).text (store_of x) ++ ((lines_of (sizes_of x) (store_of x)).text (rows_of x.set) ++ excess_text es))) (excesses_back wide x.bits x.set a)
    ∙ sym (text_of x (limit_of_value x.bits) (rows_of x.set) (named_bits wide x.bits a.taken) (set_says wide x.bits x.set a))

there : (wide : Bool) (p : (v : Sizes) × ((w : StoreLines) × List Row)) → (parts wide).Good p → (x : Whole) × (sheets wide).Good x × ((sheets wide).text x ≡ (parts wide).text p)
there wide p good = (whole_of_value p.0 p.1.0 p.1.1, whole_good wide p.0 p.1.0 p.1.1 good, whole_text wide p.0 p.1.0 p.1.1 good)

back : (wide : Bool) (x : Whole) → (sheets wide).Good x → (p : (v : Sizes) × ((w : StoreLines) × List Row)) × (parts wide).Good p × ((parts wide).text p ≡ (sheets wide).text x)
back wide x good = ((sizes_of x, (store_of x, rows_of x.set)), parts_good wide x good.0, parts_text wide x good.0)

-- the limits of weights
limit_range : (b : Bool) → (1 ≤ 2 ^ (cond b store16 store32).limit) × (2 ^ (cond b store16 store32).limit < 2 ^ 32)
limit_range true = (lit≤ tt, lit< tt)
limit_range false = (lit≤ tt, lit< tt)

pub limit_least : (bits : ℕ) → 1 ≤ limit_of_value bits
limit_least bits = (limit_range (eqb bits 16)).0

pub limit_most : (bits : ℕ) → limit_of_value bits < 2 ^ 32
limit_most bits = (limit_range (eqb bits 16)).1

-- every beginning can be completed
some_rows : (v : Sizes) (w : StoreLines) → size_lines.Good v → (rows : List Row) × (lines_of v w).Good rows
some_rows v w good =
    run_of (window_line v.lines v.window_size (limit_of_value w.bits)) (λ i. window_one v.lines v.window_size (limit_of_value w.bits) i good.0.0 good.2.0 (limit_least w.bits)) 0 v.windows

some_rest : (wide : Bool) (v : Sizes) → size_lines.Good v → (p : (w : StoreLines) × List Row) × (rest_lines wide v).Good p
some_rest wide v good =
    let w : StoreLines = record { bits = 16; precision = 4 } in
    let rows = some_rows v w good in
    ((w, rows.0), ((inl refl, (lit≤ tt, lit≤ tt)), rows.1))

apart_rows : (v : Sizes) → v.lines ≤ 8192 → (w : StoreLines) → Apart (lines_of v w)
apart_rows v l w = apart_run (window_line v.lines v.window_size (limit_of_value w.bits)) (λ i. apart_window v.lines v.window_size (limit_of_value w.bits) i (omega arith) (limit_most w.bits)) 0 v.windows

module _ (wide : Bool) {text : List ℕ} {at : ℕ} where
  whole : {stop : ℕ} → Stopped (parts wide) text at stop → Stopped (sheets wide) text at stop
  whole s = stopped_same (parts wide) (sheets wide) (there wide) (back wide) s

  pub sheet_no_sizes : {stop : ℕ} → Stopped size_lines text at stop → Stopped (sheets wide) text at stop
  sheet_no_sizes s = whole (stopped_first size_lines (rest_lines wide) (some_rest wide) s)

  pub rest_no_store : (v : Sizes) {stop : ℕ} → size_lines.Good v → Stopped (store_lines wide) text at stop → Stopped (rest_lines wide v) text at stop
  rest_no_store v good s = stopped_first (store_lines wide) (body_lines v) (λ w good-w. some_rows v w good) s

  module _ (v : Sizes) {w : StoreLines} {mid : ℕ} (g : Found (store_lines wide) text at w mid) where
    pub rest_no_window : {stop : ℕ} → Stopped (lines_of v w) text mid stop → Stopped (rest_lines wide v) text at stop
    rest_no_window s = stopped_then (store_lines wide) (body_lines v) (apart_lines wide) g (tail_no_first (lines_of v w) (excess_line w.precision) s)

    pub rest_no_excess : {rows : List Row} {next stop : ℕ} → v.lines ≤ 8192 → Found (lines_of v w) text mid rows next → Stopped (fixed (excess_line w.precision rows)) text next stop → Stopped (rest_lines wide v) text at stop
    rest_no_excess l h s = stopped_then (store_lines wide) (body_lines v) (apart_lines wide) g (tail_other (lines_of v w) (excess_line w.precision) (apart_rows v l w) h s)

  module _ {a : ℕ} {v : Sizes} (f : Found size_lines text at v a) where
    pub sheet_no_rest : {stop : ℕ} → Stopped (rest_lines wide v) text a stop → Stopped (sheets wide) text at stop
    sheet_no_rest s = whole (stopped_then size_lines (rest_lines wide) apart_sizes f s)

    pub sheet_found : {b c next : ℕ} {w : StoreLines} {rows : List Row} → Found (store_lines wide) text a w b → Found (lines_of v w) text b rows c → Found (fixed (excess_line w.precision rows)) text c tt next → Found (sheets wide) text at (whole_of_value v w rows) next
    sheet_found {next = next} {w = w} {rows = rows} g h x =
        let all = found_then size_lines (rest_lines wide) f (found_then (store_lines wide) (body_lines v) g (tail_found (lines_of v w) (excess_line w.precision) h x)) in
        let same = sym (whole_text wide v w rows all.good) in
        record {
          good = whole_good wide v w rows all.good;
          place = all.place ∙ ap (λ (t : List ℕ). at + length t) same;
          begins = all.begins ∙ ap (λ (t : List ℕ). t ++ drop next text) same;
        }

-- no sheet begins another: two sheets that a text begins with are the same
pub apart_sheets : (wide : Bool) → Apart (sheets wide)
apart_sheets wide x y good_x good-y t u e =
    let a = good_x.0 in
    let b = good-y.0 in
    let good-p = parts_good wide x a in
    let good-q = parts_good wide y b in
    let same = apart_parts (sizes_of x, (store_of x, rows_of x.set)) (sizes_of y, (store_of y, rows_of y.set)) good-p good-q t u (ap (λ (s : List ℕ). s ++ t) (parts_text wide x a) ∙ e ∙ ap (λ (s : List ℕ). s ++ u) (sym (parts_text wide y b))) in
    sym (whole_back x good_x) ∙ ap {B = Whole} (λ (p : (v : Sizes) × ((w : StoreLines) × List Row)). whole_of_value p.0 p.1.0 p.1.1) same ∙ whole_back y good-y
  where
    whole_back : (x : Whole) → (sheets wide).Good x → whole_of_value (sizes_of x) (store_of x) (rows_of x.set) ≡ x
    whole_back x good = ap {B = Whole} (λ (s : Stored). record { kind = x.kind; bits = x.bits; set = s }) (set_back wide x.bits x.set good.0 good.1)

    apart_parts : (p q : (v : Sizes) × ((w : StoreLines) × List Row)) → (parts wide).Good p → (parts wide).Good q → (t u : List ℕ) → (parts wide).text p ++ t ≡ (parts wide).text q ++ u → p ≡ q
    apart_parts = apart_then size_lines (rest_lines wide) apart_sizes (λ v good. apart_then (store_lines wide) (body_lines v) (apart_lines wide) (λ w good-w. apart_tail (lines_of v w) (excess_line w.precision) (apart_rows v good.0.1 w)))
