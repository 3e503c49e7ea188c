-- A sign and then a number: what is found and where it stops. Cited by `take_signed`. Assumes nothing.
use mathlib.Core.Path.{◌≡◌, refl, ap, ◌∙◌}
use mathlib.Core.Bool.{Bool, true, false}
use mathlib.Core.List.{List, [], ◌∷◌, ◌++◌}
use Prim.Native.Nat.{ℕ, zero, suc, ◌+◌, ◌-◌, ◌/◌, ◌%◌, ◌^◌, ◌≤◌, ◌<◌}
use native.Mathlib.Numerals.{add-one}
use native.Mathlib.Omega.{arith}
use lib.Dec.{ltb}
use lib.IntN.{ℤ, pos, negsuc, ◌-ℤ◌}
use lib.ListN.{length, get_or, drop, get_or-eq_default, drop_of_length-le}
use lib.Seq.{drop-cons}
use borrow.Author.Tests.{ltb-true, ltb-false, lt-ltb}
use mir.Facts.{to_z_pos}
use mir.Syntax.{w64}
use mir.Val.{SFits, to_z}
use Rattle.text.specs.Text.{digit_count_value, decimal, signed}
use Rattle.text.specs.Words.{common}
use Rattle.scan.specs.Form.{Found, Stopped}
use Rattle.scan.specs.Number.{numbers, signeds, Inside}
use Rattle.text.proofs.WordLaws.{common_same, common_other}
use Rattle.scan.proofs.DecimalLaws.{lower, decimal_lower, count_least}

-- a decimal begins with a digit
pub record Head (n : ℕ) : Type 0 where
  pub digit : ℕ
  pub rest : List ℕ
  pub is : decimal n ≡ (48 + digit) ∷ rest

pub decimal_head : (n : ℕ) → Head n
decimal_head n = by_count (digit_count_value n) (count_least n) (decimal_lower n)
  where
    by_count : (k : ℕ) → 1 ≤ k → decimal n ≡ lower k n → Head n
    by_count zero l e = absurd (omega arith)
    by_count (suc k) l e = record { digit = n / 10 ^ k % 10; rest = lower k n; is = e }

-- where a minus sign stands at a place, and where none does
minus_there : (text : List ℕ) (at : ℕ) → get_or text at 0 ≡ 45 → drop at text ≡ 45 ∷ drop (at + 1) text
minus_there text at e = by_length (ltb at (length text)) refl
  where
    by_length : (b : Bool) → ltb at (length text) ≡ b → drop at text ≡ 45 ∷ drop (at + 1) text
    by_length true h = rw add-one (drop-cons text at 0 (ltb-true at (length text) h) ∙ ap (λ (x : ℕ). x ∷ drop (suc at) text) e)
    by_length false h = let none : get_or text at 0 ≡ 0 = get_or-eq_default text 0 (ltb-false at (length text) h) in absurd (omega arith)

pub minus_within : (text : List ℕ) (at : ℕ) → get_or text at 0 ≡ 45 → at + 1 ≤ length text
minus_within text at e = by_length (ltb at (length text)) refl
  where
    by_length : (b : Bool) → ltb at (length text) ≡ b → at + 1 ≤ length text
    by_length true h = let l = ltb-true at (length text) h in omega arith
    by_length false h = let none : get_or text at 0 ≡ 0 = get_or-eq_default text 0 (ltb-false at (length text) h) in absurd (omega arith)

none_there : (text : List ℕ) (at : ℕ) (u : List ℕ) → (get_or text at 0 ≡ 45 → ⊥) → common (drop at text) (45 ∷ u) ≡ 0
none_there text at u other = by_length (ltb at (length text)) refl
  where
    by_length : (b : Bool) → ltb at (length text) ≡ b → common (drop at text) (45 ∷ u) ≡ 0
    by_length true h = rw (drop-cons text at 0 (ltb-true at (length text) h)) (common_other (get_or text at 0) 45 (drop (suc at) text) u other)
    by_length false h = rw (drop_of_length-le text (ltb-false at (length text) h))

-- text after a minus sign has nothing in common with a number that has none
digit_first : (t : List ℕ) (n end : ℕ) → (common (45 ∷ t) (decimal n ++ end ∷ []) ≡ 0) × (0 < length (decimal n ++ end ∷ []))
digit_first t n end =
    let h = decimal_head n in
    rw h.is (common_other 45 (48 + h.digit) t (h.rest ++ end ∷ []) (omega arith), omega arith)

abbrev Bound : List ℕ → ℕ → ℕ → List ℕ → Type 0
Bound text at stop u = (at + common (drop at text) u ≤ stop) × (common (drop at text) u < length u)

module _ (limit end : ℕ) (text : List ℕ) (at : ℕ) where
  module _ (minus : get_or text at 0 ≡ 45) where
    pub minus_found : {n next : ℕ} (m : ℕ) → n ≡ suc m → Found (numbers 1 limit end) text (at + 1) n next → Found (signeds limit end) text at (negsuc m) next
    unfolding signed
    minus_found {n} {next} m e f =
        let place = f.place in
        let below = f.good.1 in
        let same : decimal n ++ end ∷ [] ≡ decimal (suc m) ++ end ∷ [] = ap (λ (x : ℕ). decimal x ++ end ∷ []) e in
        let long = ap length same in
        record {
          good = omega arith;
          place = omega arith;
          begins = minus_there text at minus ∙ ap (λ (l : List ℕ). 45 ∷ l) (f.begins ∙ ap (λ (u : List ℕ). u ++ drop next text) same);
        }

    minus_bound : {stop : ℕ} → Stopped (numbers 1 limit end) text (at + 1) stop → (v : ℤ) → Inside limit v → Bound text at stop (signed v ++ end ∷ [])
    unfolding signed
    minus_bound s (pos n) good =
        let none = digit_first (drop (at + 1) text) n end in
        let zero-shared = none.0 in
        let some-long = none.1 in
        let first = s.some.2 in
        rw (minus_there text at minus) (rw zero-shared (omega arith), rw zero-shared some-long)
    minus_bound s (negsuc m) good =
        let both = s.most (suc m) (omega arith, good) in
        let more = both.0 in
        let part = both.1 in
        rw (minus_there text at minus, common_same 45 45 (drop (at + 1) text) (decimal (suc m) ++ end ∷ []) refl) (omega arith, omega arith)

    pub minus_stopped : {stop : ℕ} → Stopped (numbers 1 limit end) text (at + 1) stop → Stopped (signeds limit end) text at stop
    unfolding signed
    minus_stopped {stop} s = record { most = minus_bound s; some = by_number s.some.0 s.some.1 s.some.2 }
      where
        by_number : (n : ℕ) → (1 ≤ n) × (n ≤ limit) → at + 1 + common (drop (at + 1) text) (decimal n ++ end ∷ []) ≡ stop → (v : ℤ) × Inside limit v × (at + common (drop at text) (signed v ++ end ∷ []) ≡ stop)
        by_number zero good e = absurd (let l = good.0 in omega arith)
        by_number (suc m) good e =
            (negsuc m, good.1, rw (minus_there text at minus, common_same 45 45 (drop (at + 1) text) (decimal (suc m) ++ end ∷ []) refl) (omega arith))

  module _ (least : 1 ≤ limit) (plain : get_or text at 0 ≡ 45 → ⊥) where
    pub plain_found : {n next : ℕ} → Found (numbers 0 (limit - 1) end) text at n next → Found (signeds limit end) text at (pos n) next
    unfolding signed
    plain_found f = record { good = let h = f.good.1 in omega arith; place = f.place; begins = f.begins }

    plain_bound : {stop : ℕ} → Stopped (numbers 0 (limit - 1) end) text at stop → (v : ℤ) → Inside limit v → Bound text at stop (signed v ++ end ∷ [])
    unfolding signed
    plain_bound s (pos n) good = s.most n (omega arith)
    plain_bound s (negsuc m) good =
        let first = s.some.2 in
        rw (none_there text at (decimal (suc m) ++ end ∷ []) plain) (omega arith, omega arith)

    pub plain_stopped : {stop : ℕ} → Stopped (numbers 0 (limit - 1) end) text at stop → Stopped (signeds limit end) text at stop
    unfolding signed
    plain_stopped s = record {
      most = plain_bound s;
      some = (pos s.some.0, (let h = s.some.1.1 in omega arith), s.some.2);
    }

-- 0 - n in 64 bits, for an n of 1 or more: as a signed number it is -n
pub record Minus (n : ℕ) : Type 0 where
  pub m : ℕ
  pub is : n ≡ suc m
  pub gives : pos 0 -ℤ to_z w64 n ≡ negsuc m
  pub fits : SFits w64 (negsuc m)

pub minus_of : (n : ℕ) → 1 ≤ n → n < 2 ^ 63 → Minus n
minus_of zero l h = absurd (omega arith)
minus_of (suc m) l h =
    let e : to_z w64 (suc m) ≡ pos (suc m) = to_z_pos w64 h in
    record { m = m; is = refl; gives = rw e (nothing_less m); fits = record { sfits = omega arith } }
  where
    nothing_less : (m : ℕ) → pos 0 -ℤ pos (suc m) ≡ negsuc m
    nothing_less m =
        let l : 0 < suc m = omega arith in
        let e : suc m - 1 ≡ m = omega arith in
        rw (lt-ltb 0 (suc m) l, e)
