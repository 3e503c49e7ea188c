-- Laws of an edge's text: its places lie inside it in their order, its digits are at most 15, and the quotient of two exact numbers is rounded once.
-- Cited by the functions of `decimal` and `pattern`. Assumes nothing.
use Rattle.std.proofs.Common.{◌≡◌, ℕ, ◌+◌, ◌-◌, ◌*◌, ◌^◌, ◌<◌, ◌≤◌, Bool, true, false, cond, not, ◌&&◌, ◌||◌, eqb, ltb, leb, List, [], ◌∷◌, length, get_or, pos, sym, refl, ◌∙◌, le_trans, le_of_eq, le_refl, le-add_right, mul-le-mul_right, zero-lt-suc, one-mul, mul-one, arith, lit<, lit≤, pow-add, ltb-true, eqb-true, leb-true}
use native.Mathlib.Nat.{pow-le-pow_right}
use lib.Ieee.{binary64, round, div, of_int}
use Rattle.floats.proofs.Integers.{whole_val}
use Rattle.floats.proofs.Value.{div_values}
use Rattle.lists.proofs.FirstLaws.{first_ge, first_le}
use Rattle.lists.proofs.BoolLaws.{never, and_left, and_right}
use Rattle.numerals.specs.Digits.{digits, numeral}
use Rattle.crop_edges.specs.Edge.{is_pattern_value, minus, whole_at, is_point, point_at_value, fraction_at_value, before_of_value, places_of_value, is_decimal_value, whole_of_value}
use Rattle.numerals.proofs.DigitLaws.{numeral_small}

-- both tests hold, or one fails
pub both : (a b : Bool) → not a || not b ≡ false → a && b ≡ true
both true true h = refl
both true false h = never h
both false b h = never h

pub not_both : (a b : Bool) → not a || not b ≡ true → a && b ≡ false
not_both true true h = sym h
not_both true false h = refl
not_both false b h = refl

-- a pattern has 18 bytes
pub pattern_long : (text : List ℕ) → is_pattern_value text ≡ true → 18 ≤ length text
unfolding is_pattern_value
pattern_long text h =
    le_of_eq (sym (eqb-true (length text) 18 (and_left (eqb (length text) 18) (eqb (get_or text 0 0) 48 && eqb (get_or text 1 0) 120 && digits 16 text 2 16) h)))

-- an empty text has no minus sign
pub empty_minus : (text : List ℕ) → length text ≡ 0 → false ≡ minus text
unfolding minus
empty_minus [] h = refl
empty_minus (b ∷ text) h = absurd (omega arith)

-- the digits before the point begin inside the text
pub whole_in : (text : List ℕ) → whole_at text ≤ length text
unfolding whole_at minus
whole_in [] = le_refl 0
whole_in (b ∷ text) = by (eqb b 45)
  where
    by : (t : Bool) → cond t 1 0 ≤ length (b ∷ text)
    by true = zero-lt-suc (length text)
    by false = omega arith

pub point_in : (text : List ℕ) → (whole_at text ≤ point_at_value text) × (point_at_value text ≤ length text)
unfolding point_at_value
point_in text =
    let l = whole_in text in
    let n = length text - whole_at text in
    let s = first_le (is_point text) (whole_at text) n in
    (first_ge (is_point text) (whole_at text) n, omega arith)

pub fraction_in : (text : List ℕ) → (point_at_value text ≤ fraction_at_value text) × (fraction_at_value text ≤ length text)
unfolding fraction_at_value
fraction_in text = by (ltb (point_at_value text) (length text)) refl
  where
    by : (t : Bool) → ltb (point_at_value text) (length text) ≡ t → (point_at_value text ≤ cond t (point_at_value text + 1) (point_at_value text)) × (cond t (point_at_value text + 1) (point_at_value text) ≤ length text)
    by true q = let l = ltb-true (point_at_value text) (length text) q in (omega arith, omega arith)
    by false q = (le_refl (point_at_value text), (point_in text).1)

-- the places before the point, and those after it, lie inside the text
pub places_in : (text : List ℕ) → (whole_at text + before_of_value text ≤ length text) × (fraction_at_value text + places_of_value text ≤ length text) × (before_of_value text + places_of_value text ≤ length text)
unfolding before_of_value places_of_value
places_in text =
    let p = point_in text in
    let f = fraction_in text in
    (omega (arith, p.0, p.1), omega (arith, f.1), omega (arith, p.0, p.1, f.0, f.1))

-- a decimal has at most 15 digits
pub digits_few : (text : List ℕ) → is_decimal_value text ≡ true → before_of_value text + places_of_value text ≤ 15
unfolding is_decimal_value
digits_few text h =
    let n = before_of_value text + places_of_value text in
    let d = digits 10 text (whole_at text) (before_of_value text) in
    let e = digits 10 text (fraction_at_value text) (places_of_value text) in
    leb-true n 15 (and_right (leb 1 n) (leb n 15) (and_left (leb 1 n && leb n 15) d (and_left (leb 1 n && leb n 15 && d) e h)))

-- so many digits behind a number of the others stay within 15
pub power_room : (before places v : ℕ) → before + places ≤ 15 → v + 1 ≤ 10 ^ before → (v + 1) * 10 ^ places ≤ 10 ^ 15
power_room before places v few h =
    le_trans (mul-le-mul_right (10 ^ places) h)
    (le_trans (le_of_eq (sym (pow-add 10 before places))) (pow-le-pow_right {n = 10} (lit< tt) {i = before + places} {j = 15} few))

-- so there is room for the digits before the point, and for all of them
pub upper_room : (text : List ℕ) → is_decimal_value text ≡ true → 1 * 10 ^ before_of_value text ≤ 2 ^ 64
upper_room text h =
    let few = digits_few text h in
    le_trans (power_room 0 (before_of_value text) 0 (omega arith) (le_refl 1)) (lit≤ tt)

upper_small : (text : List ℕ) → numeral 10 text (whole_at text) 0 (before_of_value text) + 1 ≤ 10 ^ before_of_value text
upper_small text = le_trans (numeral_small 10 text (whole_at text) 0 (lit< tt) (before_of_value text)) (le_of_eq (one-mul (10 ^ before_of_value text)))

lower_small : (text : List ℕ) → is_decimal_value text ≡ true → (numeral 10 text (whole_at text) 0 (before_of_value text) + 1) * 10 ^ places_of_value text ≤ 10 ^ 15
lower_small text h = power_room (before_of_value text) (places_of_value text) (numeral 10 text (whole_at text) 0 (before_of_value text)) (digits_few text h) (upper_small text)

pub lower_room : (text : List ℕ) → is_decimal_value text ≡ true → (numeral 10 text (whole_at text) 0 (before_of_value text) + 1) * 10 ^ places_of_value text ≤ 2 ^ 64
lower_room text h = le_trans (lower_small text h) (lit≤ tt)

-- the number of all the digits is below 10^15
whole_small : (text : List ℕ) → is_decimal_value text ≡ true → whole_of_value text + 1 ≤ 10 ^ 15
unfolding whole_of_value
whole_small text h =
    le_trans (numeral_small 10 text (fraction_at_value text) (numeral 10 text (whole_at text) 0 (before_of_value text)) (lit< tt) (places_of_value text)) (lower_small text h)

pow_pos_ten : (k : ℕ) → 0 < 10 ^ k
pow_pos_ten k = pow-le-pow_right {n = 10} (lit< tt) {i = 0} {j = k} (omega arith)

-- the quotient of two whole numbers that are exact, rounded once
quotient : (n d : ℕ) → n ≤ 2 ^ 53 → 0 < d → d ≤ 2 ^ 53 → div binary64 (of_int binary64 (pos n)) (of_int binary64 (pos d)) ≡ round binary64 false n d
quotient n d hn some hd =
    div_values binary64 (of_int binary64 (pos n)) (of_int binary64 (pos d)) false false n 1 d 1 (lit< tt) (lit< tt) some (whole_val n hn) (whole_val d hd)
    ∙ rw (mul-one, mul-one)

pub decimal_once : (text : List ℕ) → is_decimal_value text ≡ true → div binary64 (of_int binary64 (pos (whole_of_value text))) (of_int binary64 (pos (10 ^ places_of_value text))) ≡ round binary64 false (whole_of_value text) (10 ^ places_of_value text)
decimal_once text h =
    let few = digits_few text h in
    let small = whole_small text h in
    quotient (whole_of_value text) (10 ^ places_of_value text) (le_trans (le_trans (le-add_right (whole_of_value text) 1) small) (lit≤ tt)) (pow_pos_ten (places_of_value text))
    (le_trans (pow-le-pow_right {n = 10} (lit< tt) {i = places_of_value text} {j = 15} (omega arith)) (lit≤ tt))
