-- The one right text of a list of numbers: its pieces one after the other, and its line as the writer writes it. Cited by the scanner of the excesses. Assumes nothing.
use mathlib.Core.Path.{◌≡◌, refl, sym, ap, ◌∙◌, subst}
use mathlib.Core.List.{List, ◌++◌, append_assoc}
use Prim.Native.Nat.{ℕ, ◌+◌, ◌≤◌}
use native.Mathlib.Nat.{zero-add}
use native.Mathlib.Omega.{arith}
use lib.IntN.{ℤ, pos}
use lib.ListN.{length, get_or, drop}
use Rattle.lists.specs.Tab.{tab}
use Rattle.lists.proofs.TabLaws.{length_tab, get_d_tab}
use Rattle.text.specs.Text.{joined}
use Rattle.sheet.specs.Keys.{key_excess, newline}
use Rattle.sheet.specs.Text.{list_text, excess_text}
use Rattle.scan.specs.Form.{Form, Found, Stopped}
use Rattle.scan.specs.Forms.{fixed, run, run_text, RunGood}
use Rattle.scan.proofs.FormLaws.{stopped_same, run_of}
use Rattle.std.specs.Prelude.{Result, Ok, Err}
use Rattle.scan.specs.Answer.{Passes}
use Rattle.scan.proofs.FieldLaws.{apart_key}
use Rattle.scan.proofs.TailLaws.{tail_found, tail_no_first, tail_other}
use Rattle.scan.proofs.RunText.{joined_run, run_long}
use Rattle.sheet_scan.specs.Lines.{Row, weight_item}
use Rattle.sheet_scan.specs.Rows.{excess_at, excesses_of}
use Rattle.sheet_scan.specs.Whole.{excess_line}
use Rattle.sheet_scan.proofs.LineText.{weights_text}
use Rattle.excess_scan.specs.Known.{known_text}

-- n fixed pieces, one after the other, are one fixed text
module _ (t : ℕ → List ℕ) (n : ℕ) where
  abbrev pub pieces : ℕ → Form (Unit {0})
  pieces i = fixed (t i)

  joined_is : (l : List (Unit {0})) → RunGood pieces 0 n l → run_text pieces 0 l ≡ joined t n
  joined_is l good = sym (joined_run pieces t l tt (λ i h. refl)) ∙ ap (λ (k : ℕ). joined t k) (run_long pieces 0 n l good)

  pub pieces_found : {text : List ℕ} {at next : ℕ} {l : List (Unit {0})} → Found (run pieces 0 n) text at l next → Found (fixed (joined t n)) text at tt next
  pieces_found {text} {at} {next} {l} f =
      let same = joined_is l f.good in
      record {
        good = tt;
        place = f.place ∙ ap (λ (s : List ℕ). at + length s) same;
        begins = f.begins ∙ ap (λ (s : List ℕ). s ++ drop next text) same;
      }

  there : (l : List (Unit {0})) → (run pieces 0 n).Good l → (u : Unit {0}) × (fixed (joined t n)).Good u × ((fixed (joined t n)).text u ≡ (run pieces 0 n).text l)
  there l good = (tt, tt, sym (joined_is l good))

  back : (u : Unit {0}) → (fixed (joined t n)).Good u → (l : List (Unit {0})) × (run pieces 0 n).Good l × ((run pieces 0 n).text l ≡ (fixed (joined t n)).text u)
  back u good = let r = run_of pieces (λ i. (tt, tt)) 0 n in (r.0, r.1, joined_is r.0 r.1)

  pub pieces_stopped : {text : List ℕ} {at stop : ℕ} → Stopped (run pieces 0 n) text at stop → Stopped (fixed (joined t n)) text at stop
  pieces_stopped s = stopped_same (run pieces 0 n) (fixed (joined t n)) there back s

-- the writer's text of a list is its pieces'
list_is : (e : ℕ → ℤ) (n : ℕ) → 1 ≤ n → list_text (tab 0 n e) 0 (length (tab 0 n e)) ++ newline ≡ joined (known_text e n) n
list_is e n some =
    let es = tab 0 n e in
    let long : length es ≡ n = length_tab 0 n e in
    let F = weight_item 1 (length es) in
    weights_text 1 es 0 es (λ j l. ap (λ (k : ℕ). get_or es k (pos 0)) (zero-add j)) (omega arith)
    ∙ sym (joined_run F (known_text e (length es)) es (pos 0) (λ i l. ap (λ (v : ℤ). (F i).text v) (sym (get_d_tab 0 n e i (pos 0) (omega arith) ∙ ap e (zero-add i)))))
    ∙ ap (λ (m : ℕ). joined (known_text e m) m) long

line_is : (p : ℕ) (rows : List Row) (n : ℕ) → length rows ≡ n → 1 ≤ n → key_excess ++ joined (known_text (excess_at p rows) n) n ≡ excess_line p rows
unfolding excess_text
line_is p rows n e some =
    let es = excesses_of p rows in
    ap (λ (t : List ℕ). key_excess ++ t) (ap (λ (m : ℕ). joined (known_text (excess_at p rows) m) m) (sym e) ∙ sym (list_is (excess_at p rows) (length rows) (omega arith)))
    ∙ sym (append_assoc key_excess (list_text es 0 (length es)) newline)

-- the line: its key, and then the list
abbrev tail_of : ℕ → List Row → ℕ → Unit {0} → List ℕ
tail_of p rows n u = joined (known_text (excess_at p rows) n) n

module _ (p : ℕ) (rows : List Row) (n : ℕ) (e : length rows ≡ n) (some : 1 ≤ n) {text : List ℕ} {at : ℕ} where
  pub line_no_key : {stop : ℕ} → Stopped (fixed key_excess) text at stop → Stopped (fixed (excess_line p rows)) text at stop
  line_no_key {stop} s = subst (λ (t : List ℕ). Stopped (fixed t) text at stop) (line_is p rows n e some) (tail_no_first (fixed key_excess) (tail_of p rows n) s)

  pub line_passes : {mid : ℕ} (r : Result ℕ ℕ) → Found (fixed key_excess) text at tt mid → Passes (fixed (tail_of p rows n tt)) text mid r → Passes (fixed (excess_line p rows)) text at r
  line_passes (Ok next) f g = (tt, subst (λ (t : List ℕ). Found (fixed t) text at tt next) (line_is p rows n e some) (tail_found (fixed key_excess) (tail_of p rows n) f g.1))
  line_passes (Err stop) f g = subst (λ (t : List ℕ). Stopped (fixed t) text at stop) (line_is p rows n e some) (tail_other (fixed key_excess) (tail_of p rows n) (apart_key key_excess) f g)
