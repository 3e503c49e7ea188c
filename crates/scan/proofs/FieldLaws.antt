-- A key and then a number; how far a piece that was found reaches. Cited by `take_key`, `take_field` and the reader's lines. Assumes nothing.
use mathlib.Core.Path.{◌≡◌, refl, sym, ap, ◌∙◌}
use mathlib.Core.List.{List, [], ◌∷◌, ◌++◌}
use Prim.Native.Nat.{ℕ, ◌+◌, ◌≤◌, ◌<◌}
use native.Mathlib.Nat.{le_refl}
use native.Mathlib.Omega.{arith}
use lib.ListN.{length, drop, length-append, length-drop}
use lib.Seq.{drop-drop}
use Rattle.text.specs.Text.{decimal}
use Rattle.std.specs.Prelude.{Result, Ok, Err}
use Rattle.text.specs.Words.{common}
use Rattle.scan.specs.Form.{Form, Found, Stopped, Apart}
use Rattle.scan.specs.Forms.{fixed, and_then}
use Rattle.scan.specs.Number.{numbers, fields}
use Rattle.scan.specs.Answer.{Scans}
use Rattle.scan.proofs.CommonLaws.{common_right, common_whole}
use Rattle.scan.proofs.FormLaws.{found_then, stopped_first, stopped_then, stopped_same}

-- what is found at a place of the text ends within it
pub found_within : {A : Type 0} (F : Form A) {text : List ℕ} {at next : ℕ} {a : A} → at ≤ length text → Found F text at a next → next ≤ length text
found_within F {text} {at} {next} {a} l f =
    let long = ap length f.begins ∙ length-append (F.text a) (drop next text) in
    let left = length-drop at text in
    let place = f.place in
    omega arith

pub found_on : {A : Type 0} (F : Form A) {text : List ℕ} {at next : ℕ} {a : A} → Found F text at a next → at ≤ next
found_on F f = let place = f.place in omega arith

pub key_found : (key text : List ℕ) (at n : ℕ) → n ≡ common (drop at text) key → length key ≤ n → Found (fixed key) text at tt (at + n)
key_found key text at n e l =
    let m = common_right (drop at text) key in
    let all : common (drop at text) key ≡ length key = omega arith in
    let long : n ≡ length key = omega arith in
    record {
      good = tt;
      place = ap (λ (k : ℕ). at + k) long;
      begins = common_whole (drop at text) key all ∙ ap (λ (t : List ℕ). key ++ t) (drop-drop (length key) at text ∙ ap (λ (k : ℕ). drop (at + k) text) (sym long));
    }

pub key_stopped : (key text : List ℕ) (at n : ℕ) → n ≡ common (drop at text) key → n < length key → Stopped (fixed key) text at (at + n)
key_stopped key text at n e l = record {
  most = λ a good. (omega arith, omega arith);
  some = (tt, tt, ap (λ (k : ℕ). at + k) (sym e));
}

pub apart_key : (key : List ℕ) → Apart (fixed key)
apart_key key a b good-a good-b t u e = refl

module _ (key : List ℕ) (low high end : ℕ) where
  there : (p : Unit {0} × ℕ) → Unit {0} × ((low ≤ p.1) × (p.1 ≤ high)) → (n : ℕ) × ((low ≤ n) × (n ≤ high)) × (key ++ (decimal n ++ end ∷ []) ≡ key ++ (decimal p.1 ++ end ∷ []))
  there p good = (p.1, good.1, refl)

  back : (n : ℕ) → (low ≤ n) × (n ≤ high) → (p : Unit {0} × ℕ) × (Unit {0} × ((low ≤ p.1) × (p.1 ≤ high))) × (key ++ (decimal p.1 ++ end ∷ []) ≡ key ++ (decimal n ++ end ∷ []))
  back n good = ((tt, n), (tt, good), refl)

  -- the key is not there
  pub field_no_key : {text : List ℕ} {at stop : ℕ} → low ≤ high → Stopped (fixed key) text at stop → Stopped (fields key low high end) text at stop
  field_no_key l s =
      stopped_same (and_then (fixed key) (λ (u : Unit {0}). numbers low high end)) (fields key low high end) there back
      (stopped_first (fixed key) (λ (u : Unit {0}). numbers low high end) (λ a good. (low, (le_refl low, l))) s)

  -- the key is there: what is scanned after it
  pub field_scans : {text : List ℕ} {at mid : ℕ} (r : Result (ℕ × ℕ) ℕ) → Found (fixed key) text at tt mid → Scans (numbers low high end) text mid r → Scans (fields key low high end) text at r
  field_scans (Ok found) f g =
      let both = found_then (fixed key) (λ (u : Unit {0}). numbers low high end) f g in
      record { good = g.good; place = both.place; begins = both.begins }
  field_scans (Err stop) f g =
      stopped_same (and_then (fixed key) (λ (u : Unit {0}). numbers low high end)) (fields key low high end) there back
      (stopped_then (fixed key) (λ (u : Unit {0}). numbers low high end) (apart_key key) f g)
