-- What `map_err(not_a_sheet)` made of a scanner's answer, back to that answer. Cited by `judge`. Assumes nothing.
use mathlib.Core.Path.{◌≡◌, refl, ap, sym}
use Prim.Native.Nat.{ℕ}
use Rattle.std.specs.Prelude.{Result, Ok, Err, MatchResult}
use Rattle.std.specs.Result.{IsErrAnd, is_ok}
use Rattle.lists.proofs.BoolLaws.{never}
use Rattle.reader.specs.declared.Unread.{Unread}
use Rattle.reader.specs.declared.Unread.TheVariants.{NotASheet}

pub found_before : {T : Type 0} (r : Result T ℕ) (x : T) → MatchResult r (λ y. ◌≡◌ {A = Result T Unread} (Ok x) (Ok y)) (λ e. ⊥) → r ≡ Ok x
found_before (Ok y) x h = cc
found_before (Err e) x h = absurd h

pub stopped_before : {T : Type 0} (r : Result T ℕ) (d : Unread) → MatchResult r (λ x. ◌≡◌ {A = Result T Unread} (Err d) (Ok x)) (λ e. IsErrAnd {T = T} (Err d) (λ a. a ≡ NotASheet e)) → (e : ℕ) × (r ≡ Err e) × (d ≡ NotASheet e)
stopped_before (Ok x) d h = absurd (never (sym (ap is_ok h)))
stopped_before (Err e) d h = (e, refl, h)
