-- The rest of a text, where the run of its sheets ends: at a place where no sheet is, or at its end. Cited by the laws of the report. Assumes nothing.
use mathlib.Core.Path.{◌≡◌, refl}
use mathlib.Core.Bool.{true}
use mathlib.Core.List.{List, [], ◌∷◌, ◌++◌}
use Prim.Native.Nat.{ℕ, ◌-◌, ◌≤◌}
use native.Mathlib.Omega.{arith}
use lib.Dec.{lit≤}
use lib.ListN.{length, drop}
use Rattle.filters.specs.declared.FilterType.TheVariants.{Box}
use Rattle.refusal.specs.declared.Refusal.TheVariants.{NotASheet}
use Rattle.refusal.specs.Refusal.{number_of}
use Rattle.sheet.specs.Text.{kind_text}
use Rattle.scan.specs.Form.{Form, Stopped}
use Rattle.scan.proofs.FormLaws.{found_at, not_both}
use Rattle.sheet_scan.specs.declared.Sizes.{Sizes}
use Rattle.sheet_scan.specs.Language.{Whole, Longest, sheets}
use Rattle.sheet_scan.specs.Lines.{size_lines}
use Rattle.sheet_scan.proofs.WholeLaws.{sheet_no_sizes}
use Rattle.sheet_scan.proofs.LanguageLaws.{stopped_longest}
use Rattle.book.specs.Book.{stopped_at}

-- no sheet begins the text
abbrev pub NoSheet : List ℕ → Type 0
NoSheet rest = (x : Whole) (t : List ℕ) → (sheets true).Good x → rest ≡ (sheets true).text x ++ t → ⊥

no_sheet : {rest : List ℕ} {stop : ℕ} → Stopped (sheets true) rest 0 stop → NoSheet rest
no_sheet {rest} s x t good e = not_both (sheets true) (found_at (sheets true) rest 0 x t good e) s

-- where a text stops being like a form is not before the place where it begins
pub stop_past : {A : Type 0} (F : Form A) {text : List ℕ} {at stop : ℕ} → Stopped F text at stop → at ≤ stop
stop_past F s = let e = s.some.2 in omega arith

-- a place where none is
module _ {text : List ℕ} {at stop : ℕ} (s : Stopped (sheets true) text at stop) where
  from_there : Stopped (sheets true) (drop at text) 0 (stop - at)
  from_there = record {
    most = λ x good. let m = s.most x good in let l = m.0 in (omega arith, m.1);
    some = let e = s.some.2 in (s.some.0, s.some.1, omega arith);
  }

  pub rest_longest : Longest true (drop at text) (stop - at)
  rest_longest = stopped_longest true (drop at text) (stop - at) from_there

  pub rest_ends : NoSheet (drop at text)
  rest_ends = no_sheet from_there

-- the end of a text
one_line : Sizes
one_line = record { kind = Box; lines = 1; windows = 1; window_size = 1 }

nothing_there : Stopped size_lines [] 0 0
unfolding kind_text one_line
nothing_there = record {
  most = λ v good. (omega arith, omega arith);
  some = (one_line, ((lit≤ tt, lit≤ tt), (lit≤ tt, lit≤ tt), (lit≤ tt, lit≤ tt)), refl);
}

pub end_longest : Longest true [] 0
end_longest = stopped_longest true [] 0 (sheet_no_sizes true nothing_there)

pub end_ends : NoSheet []
end_ends = no_sheet (sheet_no_sizes true nothing_there)

pub end_right : (n : ℕ) → Longest true [] n → n ≡ 0
end_right n l = let m = l.within in omega arith

-- why it ended
pub stopped_more : (t : List ℕ) → 1 ≤ length t → stopped_at t ≡ number_of NotASheet
stopped_more [] l = absurd (omega arith)
stopped_more (b ∷ t) l = refl

pub not_stopped : (t : List ℕ) → stopped_at t ≡ 0 → t ≡ []
not_stopped [] e = refl
not_stopped (b ∷ t) e = absurd (omega arith)
