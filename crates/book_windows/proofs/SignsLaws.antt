-- The signs of a window's weights, one a turn. Cited by `some_negative`. Assumes nothing.
use mathlib.Core.Path.{◌≡◌, refl, sym, ap, ◌∙◌}
use mathlib.Core.Bool.{Bool, false, ◌||◌}
use mathlib.Core.List.{List}
use Prim.Native.Nat.{ℕ, ◌+◌, ◌≤◌, ◌<◌}
use native.Mathlib.Numerals.{add-one}
use native.Mathlib.Omega.{arith}
use lib.IntN.{ℤ, pos}
use lib.ListN.{length}
use Rattle.orders.specs.Negative.{negative, some_negative_value}
use Rattle.scan.specs.Form.{Form, Found, Apart}
use Rattle.scan.specs.Forms.{run}
use Rattle.sheet_scan.specs.Whole.{slot_of}
use Rattle.excess_scan.proofs.AlongLaws.{Along, along_none, along_value, along_more}

module _ (F : ℕ → Form ℤ) (text : List ℕ) (n at : ℕ) where
  -- j weights are looked at; the next is at p
  pub record Looked (some : Bool) (p j : ℕ) : Type 0 where
    pub along : Along F text n at p j
    pub each : (l : List ℤ) (next : ℕ) → Found (run F 0 n) text at l next → some ≡ some_negative_value (slot_of l) j

  pub looked_none : at ≤ length text → Looked false at 0
  looked_none l = record { along = along_none F text n at l; each = λ vs next f. refl }

  pub looked_more : {some now : Bool} {v : ℤ} {p j q : ℕ} → Apart (F j) → Looked some p j → j < n → Found (F j) text p v q → now ≡ some || negative v → Looked now q (j + 1)
  looked_more {some} {now} {v} {p} {j} {q} apart g l found e = record {
    along = along_more F text n at (pos 0) apart g.along l found;
    each = λ vs next f.
        e ∙ ap (λ (b : Bool). b || negative v) (g.each vs next f) ∙ ap (λ (z : ℤ). some_negative_value (slot_of vs) j || negative z) (sym (along_value F text n at (pos 0) apart g.along l found vs next f))
        ∙ ap (some_negative_value (slot_of vs)) (sym (add-one j));
  }

  pub looked_all : {some : Bool} {p j : ℕ} → Looked some p j → n ≤ j → (l : List ℤ) (next : ℕ) → Found (run F 0 n) text at l next → some ≡ some_negative_value (slot_of l) n
  looked_all {some} {p} {j} g h l next f =
      let few = g.along.few in
      let all : j ≡ n = omega arith in
      g.each l next f ∙ ap (some_negative_value (slot_of l)) all
