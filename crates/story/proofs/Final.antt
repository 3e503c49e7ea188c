-- For the customer: the final number of a story is the pass's own, for any range of columns that has the column. Where a story is told, the pass over such a range is done.
-- FinalTold.antt says it of the story's last line, and of the whole row. Cited by FinalTold.antt and the promises. Assumes nothing.
use Rattle.std.specs.Prelude.{Result, Ok, Err}
use mathlib.Core.Path.{◌≡◌, sym, ap, ◌∙◌}
use mathlib.Core.Bool.{Bool, true, false}
use mathlib.Core.List.{List}
use Prim.Native.Nat.{ℕ, ◌+◌, ◌-◌, ◌*◌, ◌≤◌, ◌<◌}
use native.Mathlib.Nat.{zero-add}
use native.Mathlib.Omega.{arith}
use lib.Arith.{digits_lt}
use lib.ListN.{length, get_or}
use borrow.Author.Tests.{le-ltb, eq-eqb}
use Rattle.lists.specs.Tab.{grid}
use Rattle.lists.proofs.BoolLaws.{never, ladder}
use Rattle.lists.proofs.TabLaws.{get_d_tab, grid_at}
use Rattle.refusal.specs.declared.Refusal.{Refusal}
use Rattle.windows.specs.Set.{Stored, windows}
use Rattle.windows.specs.Store.{store32}
use Rattle.windows.specs.Fit.{bad_stored}
use Rattle.vertical.specs.Frame.{frame, bad_size, bad_frame}
use Rattle.vertical.specs.U16.{value_at, passed_u16, written_u16}
use Rattle.story.specs.Answer.{bad_place, by_case, answer_of}
use Rattle.story.proofs.Ways.{line_there}

-- a refusal is not a story
abbrev written : Result ℕ Refusal → Bool
written (Ok n) = true
written (Err r) = false

refused : {r : Refusal} {n : ℕ} → Err r ≡ Ok n → ⊥
refused h = never (sym (ap written h))

module _ (s : Stored) (src : List ℕ) (row i j room : ℕ) {n : ℕ} (told : answer_of s src row i j room ≡ Ok n) where
  -- each test failed
  pub record Passes : Type 0 where
    pub size : bad_size s.set.layout.lines (windows s.set.layout) row ≡ false
    pub stored : bad_stored s store32 ≡ false
    pub frame : bad_frame (length src) s.set.layout.lines row ≡ false
    pub place : bad_place (windows s.set.layout) row i j ≡ false

  pub passes : Passes
  unfolding by_case
  passes =
      let size = ladder (bad_size s.set.layout.lines (windows s.set.layout) row) refused told in
      let stored = ladder (bad_stored s store32) refused size.1 in
      let frame = ladder (bad_frame (length src) s.set.layout.lines row) refused stored.1 in
      let place = ladder (bad_place (windows s.set.layout) row i j) refused frame.1 in
      record { size = size.0; stored = stored.0; frame = frame.0; place = place.0 }

  -- a range of columns that has the column
  module _ (first count : ℕ) (list : List ℕ) (from : first ≤ j) (to : j < first + count) (fit : first + count ≤ row) (rooms : length list ≡ windows s.set.layout * count) where
    pub pass_done : passed_u16 s (length src) row first count (length list) ≡ Ok tt
    unfolding passed_u16
    pass_done =
        let t = passes in
        rw (t.size, t.stored, t.frame, le-ltb row (first + count) fit, eq-eqb (length list) (windows s.set.layout * count) rooms)

    -- the pass's sample of display line i and column j
    abbrev pub sample_written : ℕ
    sample_written = get_or (written_u16 s src row first count list) (i * count + (j - first)) 0

    pub final_is : sample_written ≡ value_at 65535 s (frame 0 src row) i j
    unfolding written_u16
    final_is =
        let value = value_at 65535 s (frame 0 src row) in
        let cell : ℕ → ℕ → ℕ = λ i j. value i (first + j) in
        let there = line_there (windows s.set.layout) row i j passes.place in
        let l : j - first < count = omega arith in
        rw pass_done
        (get_d_tab 0 (windows s.set.layout * count) (grid count cell) (i * count + (j - first)) 0 (digits_lt there l)
        ∙ ap (grid count cell) (zero-add (i * count + (j - first)))
        ∙ grid_at count cell i (j - first) l ∙ ap (value i) (omega arith))
