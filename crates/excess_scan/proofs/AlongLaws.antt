-- A run that was scanned before, a piece a turn: where the next piece stands, and that what is found there is what any reading of the run has. Cited by the laws of the
-- functions that read windows' lines again. Assumes nothing.
use mathlib.Core.Path.{◌≡◌, sym, ap, ◌∙◌, subst}
use mathlib.Core.List.{List}
use Prim.Native.Nat.{ℕ, suc, ◌+◌, ◌≤◌, ◌<◌}
use native.Mathlib.Numerals.{add-one}
use native.Mathlib.Omega.{arith}
use lib.ListN.{length, get_or}
use Rattle.scan.specs.Form.{Form, Found, Apart}
use Rattle.scan.specs.Forms.{run}
use Rattle.scan.proofs.PieceLaws.{place_at, place_first, place_last, piece_found, piece_is}
use Rattle.scan.proofs.FieldLaws.{found_within}
use Rattle.sheet_scan.specs.Whole.{There}

module _ {A : Type 0} (F : ℕ → Form A) (text : List ℕ) (n at : ℕ) where
  -- j pieces are read; the next is at p
  pub record Along (p j : ℕ) : Type 0 where
    pub within : p ≤ length text
    pub few : j ≤ n
    pub place : (l : List A) (next : ℕ) → Found (run F 0 n) text at l next → p ≡ place_at F at l j

  pub along_none : at ≤ length text → Along at 0
  along_none l = record { within = l; few = omega arith; place = λ vs next f. sym (place_first F at vs) }

  -- the run is there, so its piece j is
  pub along_there : (d : A) {p j : ℕ} → There (run F 0 n) text at → Along p j → j < n → There (F j) text p
  along_there d {p} {j} there g l =
      let vs = there.0 in
      (get_or vs j d, place_at F at vs (suc j), subst (λ (k : ℕ). Found (F j) text k (get_or vs j d) (place_at F at vs (suc j))) (sym (g.place vs there.1 there.2)) (piece_found F n there.2 d j l))

  module _ (d : A) {p j q : ℕ} {v : A} (apart : Apart (F j)) (g : Along p j) (l : j < n) (found : Found (F j) text p v q) where
    pub along_value : (vs : List A) (next : ℕ) → Found (run F 0 n) text at vs next → get_or vs j d ≡ v
    along_value vs next f = (piece_is F n f d j apart l (g.place vs next f) found).0

    pub along_more : Along q (j + 1)
    along_more = record {
      within = found_within (F j) g.within found;
      few = omega arith;
      place = λ vs next f. sym (piece_is F n f d j apart l (g.place vs next f) found).1 ∙ ap (λ (k : ℕ). place_at F at vs k) (sym (add-one j));
    }

  pub along_all : {p j : ℕ} → Along p j → n ≤ j → (l : List A) (next : ℕ) → Found (run F 0 n) text at l next → p ≡ next
  along_all {p} {j} g h l next f =
      let few = g.few in
      let all : j ≡ n = omega arith in
      g.place l next f ∙ ap (λ (k : ℕ). place_at F at l k) all ∙ place_last F n f
