-- The four ways of a writer, over kind, store, set and the lent list: each gives the answer and the list that the contract names. Cited by both
-- writers. Assumes nothing.
use Rattle.std.specs.Prelude.{Result, Ok, Err}
use mathlib.Core.Path.{◌≡◌, refl, ap, ◌∙◌}
use mathlib.Core.Bool.{true, false}
use mathlib.Core.List.{List}
use Prim.Native.Nat.{ℕ, ◌≤◌, ◌<◌}
use native.Mathlib.Omega.{arith}
use lib.ListN.{length}
use borrow.Author.Tests.{lt-ltb, le-ltb}
use Rattle.lists.specs.Ranges.{bad_sides_value}
use Rattle.text.specs.Text.{laid}
use Rattle.text.proofs.TextLaws.{laid_over}
use Rattle.refusal.specs.declared.Refusal.TheVariants.{BadSide, DoesNotFit, NoRoom}
use Rattle.filters.specs.declared.FilterType.{FilterType}
use Rattle.windows.specs.declared.Store.{Store}
use Rattle.windows.specs.Set.{Stored, windows}
use Rattle.windows.specs.Fit.{bad_stored}
use Rattle.refusal.specs.declared.Refusal.{Refusal}
use Rattle.sheet.specs.Answer.{no_room, by_case, answer_of, written_of}
use Rattle.sheet.specs.Text.{sheet_text_value}

-- a room that is short of the text, by one byte or more, is refused; a room of the text's length or more is not
short_room : (room text : ℕ) → room < text → no_room room text ≡ true
short_room room text h = lt-ltb _ text (omega (arith, h))

enough_room : (room text : ℕ) → text ≤ room → no_room room text ≡ false
enough_room room text h = le-ltb _ text (omega (arith, h))

module _ (kind : FilterType) (store : Store) (s : Stored) (old : List ℕ) where
  -- the answer and the list at exit are the contract's
  abbrev Meets : Result ℕ Refusal → List ℕ → Type 0
  Meets answer new = (answer ≡ answer_of kind store s (length old)) × (new ≡ written_of kind store s old)

  pub side_refused : bad_sides_value s.set.layout.lines (windows s.set.layout) ≡ true → Meets (Err BadSide) old
  unfolding by_case
  side_refused h = rw h (refl, refl)

  module _ (sides : bad_sides_value s.set.layout.lines (windows s.set.layout) ≡ false) where
    pub misfit_refused : bad_stored s store ≡ true → Meets (Err DoesNotFit) old
    unfolding by_case
    misfit_refused h = rw (sides, h) (refl, refl)

    module _ (fits : bad_stored s store ≡ false) where
      pub room_refused : length old < length (sheet_text_value kind store s) → Meets (Err NoRoom) old
      unfolding by_case
      room_refused h = rw (sides, fits, short_room (length old) (length (sheet_text_value kind store s)) h) (refl, refl)

      pub all_written : {n : ℕ} {new : List ℕ} → length (sheet_text_value kind store s) ≤ length old → n ≡ length (sheet_text_value kind store s) → new ≡ laid old 0 (sheet_text_value kind store s) → Meets (Ok n) new
      unfolding by_case
      all_written h e-n e =
          rw (sides, fits, enough_room (length old) (length (sheet_text_value kind store s)) h)
          (ap Ok e-n, e ∙ laid_over old (sheet_text_value kind store s) h)
