-- The weights of a window added up, one a turn. Cited by `total`. Assumes nothing.
use mathlib.Core.Path.{◌≡◌, sym, ap, ◌∙◌}
use mathlib.Core.List.{List}
use Prim.Native.Nat.{ℕ, ◌+◌, ◌*◌, ◌^◌, ◌≤◌, ◌<◌}
use native.Mathlib.Omega.{arith}
use lib.IntN.{ℤ, pos, nat_abs, ◌+ℤ◌}
use lib.ListN.{length}
use Rattle.integers.specs.Sums.{sum}
use Rattle.excesses.proofs.SumLaws.{sum_none, sum_more, size_more}
use Rattle.scan.specs.Form.{Form, Found, Apart}
use Rattle.scan.specs.Forms.{run}
use Rattle.sheet_scan.specs.Whole.{slot_of}
use Rattle.excess_scan.proofs.AlongLaws.{Along, along_none, along_value, along_more, along_all}

module _ (F : ℕ → Form ℤ) (text : List ℕ) (n at : ℕ) where
  -- j weights are added up; the next is at p
  pub record Summed (t : ℤ) (p j : ℕ) : Type 0 where
    pub along : Along F text n at p j
    pub small : nat_abs t ≤ j * 2 ^ 31
    pub each : (l : List ℤ) (next : ℕ) → Found (run F 0 n) text at l next → t ≡ sum (slot_of l) j

  pub summed_none : at ≤ length text → Summed (pos 0) at 0
  summed_none l = record { along = along_none F text n at l; small = omega arith; each = λ vs next f. sum_none (slot_of vs) }

  pub summed_more : {t u v : ℤ} {p j q : ℕ} → Apart (F j) → Summed t p j → j < n → Found (F j) text p v q → nat_abs v ≤ 2 ^ 31 → u ≡ t +ℤ v → Summed u q (j + 1)
  summed_more {t} {u} {v} {p} {j} {q} apart g l found light e = record {
    along = along_more F text n at (pos 0) apart g.along l found;
    small = rw e (size_more t v j g.small light);
    each = λ vs next f. e ∙ rw (g.each vs next f, sym (along_value F text n at (pos 0) apart g.along l found vs next f)) (sum_more (slot_of vs) j);
  }

  pub summed_all : {t : ℤ} {p j : ℕ} → Summed t p j → n ≤ j → (l : List ℤ) (next : ℕ) → Found (run F 0 n) text at l next → (t ≡ sum (slot_of l) n) × (p ≡ next)
  summed_all {t} {p} {j} g h l next f =
      let few = g.along.few in
      let all : j ≡ n = omega arith in
      (g.each l next f ∙ ap (sum (slot_of l)) all, along_all F text n at g.along h l next f)
