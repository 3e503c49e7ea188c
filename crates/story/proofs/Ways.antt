-- The ways of `tell` and of `story`: each gives the answer and the list that the contract names. A place that exists in a frame that fits has its samples and weights.
-- Cited by the two functions. Assumes nothing.
use Rattle.std.specs.Prelude.{Result, Ok, Err}
use mathlib.Core.Path.{◌≡◌, refl, ap, ◌∙◌}
use mathlib.Core.Bool.{true, false, cond, not}
use mathlib.Core.List.{List}
use Prim.Native.Nat.{ℕ, ◌+◌, ◌*◌, ◌≤◌, ◌<◌}
use native.Mathlib.Omega.{arith}
use lib.Dec.{ltb}
use lib.ListN.{length}
use borrow.Author.Tests.{lt-ltb, le-ltb, ltb-true, not-false}
use Rattle.lists.proofs.BoolLaws.{or_left, or_right}
use Rattle.lists.proofs.TabLaws.{row_end}
use Rattle.text.specs.Text.{over, laid}
use Rattle.text.proofs.TextLaws.{laid_over}
use Rattle.refusal.specs.declared.Refusal.TheVariants.{BadSide, DoesNotFit, NoRoom}
use Rattle.windows.specs.Set.{Layout, Stored, windows, start, size}
use Rattle.windows.specs.Store.{store32}
use Rattle.windows.specs.Fit.{bad_stored, Fits}
use Rattle.sheet.specs.Answer.{no_room}
use Rattle.vertical.specs.Frame.{bad_size, bad_frame}
use Rattle.story_text.specs.There.{There}
use Rattle.refusal.specs.declared.Refusal.{Refusal}
use Rattle.story.specs.Answer.{bad_place, by_case, text_of, answer_of, written_of}

module _ (text old : List ℕ) where
  -- the last rung: room for the text, or not
  abbrev pub Roomy : Result ℕ Refusal → List ℕ → Type 0
  Roomy r new =
      (r ≡ cond (no_room (length old) (length text)) (Err NoRoom) (Ok (length text)))
      × (new ≡ cond (no_room (length old) (length text)) old (over text old))

  pub room_refused : length old < length text → Roomy (Err NoRoom) old
  room_refused h = rw (lt-ltb (length old) (length text) h) (refl, refl)

  pub all_written : {n : ℕ} {new : List ℕ} → length text ≤ length old → n ≡ length text → new ≡ laid old 0 text → Roomy (Ok n) new
  all_written h e-n e = rw (le-ltb (length old) (length text) h) (ap Ok e-n, e ∙ laid_over old text h)

module _ (s : Stored) (src : List ℕ) (row i j : ℕ) (old : List ℕ) where
  -- the answer and the list at exit are the contract's
  abbrev pub Meets : Result ℕ Refusal → List ℕ → Type 0
  Meets r new = (r ≡ answer_of s src row i j (length old)) × (new ≡ written_of s src row i j old)

  pub side_refused : bad_size s.set.layout.lines (windows s.set.layout) row ≡ true → Meets (Err BadSide) old
  unfolding by_case
  side_refused h = rw h (refl, refl)

  module _ (size : bad_size s.set.layout.lines (windows s.set.layout) row ≡ false) where
    pub set_refused : bad_stored s store32 ≡ true → Meets (Err DoesNotFit) old
    unfolding by_case
    set_refused h = rw (size, h) (refl, refl)

    module _ (stored : bad_stored s store32 ≡ false) where
      pub frame_refused : bad_frame (length src) s.set.layout.lines row ≡ true → Meets (Err DoesNotFit) old
      unfolding by_case
      frame_refused h = rw (size, stored, h) (refl, refl)

      module _ (frame : bad_frame (length src) s.set.layout.lines row ≡ false) where
        pub place_refused : bad_place (windows s.set.layout) row i j ≡ true → Meets (Err DoesNotFit) old
        unfolding by_case
        place_refused h = rw (size, stored, frame, h) (refl, refl)

        pub told : bad_place (windows s.set.layout) row i j ≡ false → {r : Result ℕ Refusal} {new : List ℕ} → Roomy (text_of s src row i j) old r new → Meets r new
        unfolding by_case
        told h m = rw (size, stored, frame, h) m

-- the place exists
pub line_there : (windows row i j : ℕ) → bad_place windows row i j ≡ false → i < windows
line_there windows row i j h = ltb-true i windows (not-false (ltb i windows) (or_left (not (ltb i windows)) (not (ltb j row)) h))

pub column_there : (windows row i j : ℕ) → bad_place windows row i j ≡ false → j < row
column_there windows row i j h = ltb-true j row (not-false (ltb j row) (or_right (not (ltb i windows)) (not (ltb j row)) h))

-- its window's weights and samples are in the lists
pub there : (l : Layout) (slots samples row i j : ℕ) → Fits l slots → samples ≡ l.lines * row → i < windows l → j < row → There slots samples row j (i * l.window_size_value) (start l i) (size l i)
there l slots samples row i j f e hi hj = record {
  weights = omega (arith, row_end i (windows l) l.window_size_value hi, f.full, f.small i hi);
  few = omega (arith, f.ends i hi, f.few_lines);
  inside = λ k h. (let m : start l i + k < l.lines = omega (arith, f.ends i hi, h) in omega (arith, e, row_end (start l i + k) l.lines row m, hj));
}
