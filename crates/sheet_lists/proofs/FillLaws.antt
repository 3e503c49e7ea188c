-- Reading a run that was scanned before into a lent list, one value a turn. Cited by `put_weights`. Assumes nothing.
use mathlib.Core.Path.{◌≡◌, refl, sym, ap, ◌∙◌}
use mathlib.Core.List.{List}
use Prim.Native.Nat.{ℕ, ◌+◌, ◌≤◌, ◌<◌}
use native.Mathlib.Omega.{arith}
use lib.IntN.{ℤ, pos, negsuc}
use lib.Signed.{mag}
use lib.ListN.{length, set}
use Rattle.lists.specs.Tab.{front}
use Rattle.lists.proofs.TabLaws.{written_none, written_more}
use Rattle.scan.specs.Form.{Form, Found, Apart}
use Rattle.scan.specs.Forms.{run}
use Rattle.scan.specs.Number.{Inside}
use Rattle.sheet_scan.specs.Whole.{slot_of}
use Rattle.excess_scan.proofs.AlongLaws.{Along, along_none, along_value, along_more, along_all}

module _ (F : ℕ → Form ℤ) (text : List ℕ) (n at : ℕ) (old : List ℤ) where
  -- j values are stored; the next is at p
  pub record Filled (now : List ℤ) (p j : ℕ) : Type 0 where
    pub along : Along F text n at p j
    pub long : length now ≡ length old
    pub each : (l : List ℤ) (next : ℕ) → Found (run F 0 n) text at l next → now ≡ front j (slot_of l) old

  pub filled_none : at ≤ length text → Filled old at 0
  filled_none l = record { along = along_none F text n at l; long = refl; each = λ l next f. (written_none {f = slot_of l} {old = old}).is }

  pub filled_more : {now : List ℤ} {p j q : ℕ} {v : ℤ} → Apart (F j) → n ≤ length old → Filled now p j → j < n → Found (F j) text p v q → Filled (set now j v) q (j + 1)
  filled_more {now} {p} {j} {q} {v} apart room g l found = record {
    along = along_more F text n at (pos 0) apart g.along l found;
    long = lib.ListN.length-set now j v ∙ g.long;
    each = λ vs next f.
        (written_more {k = j} {f = slot_of vs} (record { long = g.long; is = g.each vs next f }) (omega arith) (sym (along_value F text n at (pos 0) apart g.along l found vs next f))).is;
  }

  pub filled_all : {now : List ℤ} {p j : ℕ} → Filled now p j → n ≤ j → (l : List ℤ) (next : ℕ) → Found (run F 0 n) text at l next → (p ≡ next) × (now ≡ front n (slot_of l) old)
  filled_all {now} {p} {j} g h l next f =
      let few = g.along.few in
      let all : j ≡ n = omega arith in
      (along_all F text n at g.along h l next f, g.each l next f ∙ ap (λ (k : ℕ). front k (slot_of l) old) all)

-- a weight inside its store's limits, as the store's type takes it
pub inside_mag : (limit : ℕ) (v : ℤ) → Inside limit v → mag v < limit
inside_mag limit (pos n) good = good
inside_mag limit (negsuc n) good = good
