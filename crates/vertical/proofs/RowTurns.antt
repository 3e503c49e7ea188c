-- A loop that fills a row for each window, whatever fills it: what a turn asks of the row's worker, and what is written after it and after the last. For samples up to
-- any M. Cited by `rows` of the u16 and the u8 pass. Assumes nothing.
use mathlib.Core.Path.{◌≡◌, sym, ap, ◌∙◌}
use mathlib.Core.List.{List, ◌++◌}
use Prim.Native.Nat.{ℕ, ◌+◌, ◌-◌, ◌*◌, ◌^◌, ◌≤◌, ◌<◌}
use native.Mathlib.Nat.{zero-mul}
use native.Mathlib.Numerals.{add-one}
use native.Mathlib.Omega.{arith}
use lib.IntN.{ℤ}
use lib.ListN.{length, get_or, take, drop}
use Rattle.lists.specs.Tab.{tab, front, grid}
use Rattle.lists.proofs.StoreLaws.{part_size}
use Rattle.lists.proofs.TabLaws.{Written, written_none, written_row, row_next, front_whole}
use Rattle.vertical.specs.Column.{row_value, window_value}
use Rattle.vertical.specs.Ready.{Ready}
use Rattle.vertical.proofs.Turns.{WindowThere, window_there}
use Rattle.vertical.proofs.Values.{row_is}

module _ (M : ℕ) (src : List ℕ) (row first count : ℕ) (starts sizes : List ℕ) (window : ℕ) (weights : List ℤ) (p : ℕ) (old : List ℕ) where
  abbrev value : ℕ → ℕ → ℕ
  value = window_value M src row first starts sizes window weights p

  -- after i windows, the next one's row beginning at o
  abbrev pub RowsDone : ℕ → ℕ → List ℕ → Type 0
  RowsDone i o now = (i ≤ length starts) × (o ≡ i * count) × Written o (grid count value) old now

  pub rows_none : RowsDone 0 0 old
  rows_none = (omega arith, rw zero-mul, written_none)

  module _ (r : Ready (length src) row first count starts sizes window (length weights) (length old)) (i o : ℕ) (now : List ℕ) (d : RowsDone i o now) where
    pub rows_all : length starts ≤ i → now ≡ tab 0 (length starts * count) (grid count value)
    rows_all h =
        let last : i ≡ length starts = omega (arith, d.0) in
        d.2.is
        ∙ ap (λ (n : ℕ). front n (grid count value) old) (d.1 ∙ ap (λ (n : ℕ). n * count) last ∙ sym r.rooms)
        ∙ front_whole (grid count value) old ∙ ap (λ (n : ℕ). tab 0 n (grid count value)) r.rooms

    -- a turn, which read the window's size and start
    module _ (l : i < length starts) (size start : ℕ) (ez : size ≡ get_or sizes i 0) (es : start ≡ get_or starts i 0) where
      there : WindowThere (length src) row first count starts sizes window (length weights) (length old) i
      there = window_there (length src) row first count starts sizes window (length weights) (length old) r i l

      abbrev slots : List ℤ
      slots = take (i * window + size - i * window) (drop (i * window) weights)

      abbrev places : List ℕ
      places = take (o + count - o) (drop o now)

      pub slots_are : i * window + size - i * window ≡ get_or sizes i 0
      slots_are = omega (arith, ez)

      pub slots_size : length slots ≡ get_or sizes i 0
      slots_size = part_size weights (i * window) size (omega (arith, there.weights, ez)) ∙ ez

      places_size : length places ≡ count
      places_size = part_size now o count (omega (arith, there.outputs, d.1, d.2.long))

      pub turn_few : length slots ≤ 8192
      turn_few = omega (arith, slots_size, there.few)

      pub turn_lines : (k : ℕ) → k < length slots → start * row + first + k * row + length places ≤ length src
      turn_lines k h = rw es (omega (arith, places_size, there.lines k (omega (arith, slots_size))))

      pub turn_low : start * row + first + length places < 2 ^ 63
      turn_low = rw es (omega (arith, places_size, there.first_line, there.columns))

      pub turn : {part : List ℕ} → part ≡ tab 0 (length places) (row_value M p slots src (start * row + first) row (length slots)) → RowsDone (i + 1) (o + count) (take o now ++ (part ++ drop (o + count - o) (drop o now)))
      turn e = (
        rw (add-one i) l,
        row_next o i count d.1,
        written_row i count o (o + count - o) value d.2 d.1 (omega arith) (omega (arith, there.outputs, d.1))
            (row_is M p row first count weights src (i * window) (get_or sizes i 0) (get_or starts i 0) places_size slots_are slots_size es e),
      )
