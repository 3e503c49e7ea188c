-- For the customer: a story's last line has the pass's own number, and the pass over the whole row writes that number at the story's place. Cited by the promises.
-- Assumes nothing.
use Rattle.std.specs.Prelude.{Ok}
use mathlib.Core.Path.{◌≡◌, sym, ap, ◌∙◌}
use mathlib.Core.List.{List}
use Prim.Native.Nat.{ℕ, ◌+◌, ◌-◌, ◌*◌, ◌≤◌, ◌<◌}
use native.Mathlib.Omega.{arith}
use lib.ListN.{length, get_or}
use Rattle.windows.specs.Set.{Stored, windows}
use Rattle.vertical.specs.Frame.{frame}
use Rattle.vertical.specs.U16.{value_at, passed_u16, written_u16}
use Rattle.story.specs.Answer.{text_of, answer_of}
use Rattle.story.specs.Story.{rows_of, total_of, story_rows}
use Rattle.story.proofs.Ways.{column_there}
use Rattle.story.proofs.Lines.{story_rows_fact}
use Rattle.story.proofs.Final.{passes, pass_done, sample_written, final_is}

module _ (s : Stored) (src : List ℕ) (row i j room : ℕ) {n : ℕ} (told : answer_of s src row i j room ≡ Ok n) where
  -- a range of columns that has the column
  module _ (first count : ℕ) (list : List ℕ) (from : first ≤ j) (to : j < first + count) (fit : first + count ≤ row) (rooms : length list ≡ windows s.set.layout * count) where
    pub final_told : rows_of (text_of s src row i j) ≡ story_rows s src row i j (total_of s src row i j) (sample_written s src row i j room told first count list from to fit rooms)
    final_told = story_rows_fact s src row i j ∙ ap (story_rows s src row i j (total_of s src row i j)) (sym (final_is s src row i j room told first count list from to fit rooms))

  -- the whole row among them
  pub final_whole : (whole : List ℕ) → length whole ≡ windows s.set.layout * row → (passed_u16 s (length src) row 0 row (length whole) ≡ Ok tt) × (get_or (written_u16 s src row 0 row whole) (i * row + j) 0 ≡ value_at 65535 s (frame 0 src row) i j)
  final_whole whole rooms =
      let to : j < 0 + row = omega (arith, column_there (windows s.set.layout) row i j (passes s src row i j room told).place) in
      let fit : 0 + row ≤ row = omega arith in
      let from : 0 ≤ j = omega arith in
      let same : j ≡ j - 0 = omega arith in (
        pass_done s src row i j room told 0 row whole from to fit rooms,
        ap (λ (k : ℕ). get_or (written_u16 s src row 0 row whole) (i * row + k) 0) same ∙ final_is s src row i j room told 0 row whole from to fit rooms,
      )
