-- No number's text with its end begins another's: the number can be read off it. Cited by the laws of the sheet's lines. Assumes nothing.
use mathlib.Core.Path.{◌≡◌, refl, sym, ap, ◌∙◌}
use mathlib.Core.Bool.{Bool, true, false, cond, ◌&&◌}
use mathlib.Core.List.{List, [], ◌∷◌, ◌++◌, append_assoc}
use Prim.Native.Nat.{ℕ, zero, suc, ◌+◌, ◌-◌, ◌*◌, ◌/◌, ◌%◌, ◌^◌, ◌≤◌, ◌<◌}
use native.Mathlib.Nat.{zero-add, add-zero, mul-one, mul-zero, zero-mul, pow-zero, pow-suc, mod-one, mod-lt, one-le-pow, div-add-mod, mul_comm}
use native.Mathlib.Omega.{arith}
use lib.Arith.{mod-mul}
use lib.Dec.{leb, lit<}
use lib.IntN.{pos, negsuc}
use borrow.Author.Tests.{le-leb, leb-true}
use Rattle.text.specs.Text.{digit_count_value, decimal, signed}
use Rattle.lists.proofs.BoolLaws.{and_left, and_right}
use Rattle.scan.specs.Form.{Apart}
use Rattle.scan.specs.Number.{numbers, fields, signeds, NoDigit}
use Rattle.scan.proofs.DecimalLaws.{lower, decimal_lower, count_top}
use Rattle.scan.proofs.SignLaws.{decimal_head}

is_digit : ℕ → Bool
is_digit b = leb 48 b && leb b 57

-- the number that the digits at the beginning of a text read, after those that read acc
value : ℕ → List ℕ → ℕ
value acc [] = acc
value acc (b ∷ t) = cond (is_digit b) (value (acc * 10 + (b - 48)) t) acc

end_plain : (end : ℕ) → NoDigit end → is_digit end ≡ false
unfolding is_digit
end_plain end plain = by_test (leb 48 end && leb end 57) refl
  where
    by_test : (b : Bool) → leb 48 end && leb end 57 ≡ b → b ≡ false
    by_test false h = refl
    by_test true h =
        let low = leb-true 48 end (and_left (leb 48 end) (leb end 57) h) in
        let high = leb-true end 57 (and_right (leb 48 end) (leb end 57) h) in
        absurd (plain (end - 48) (omega arith) (omega arith))

digit_yes : (x : ℕ) → x < 10 → is_digit (48 + x) ≡ true
unfolding is_digit
digit_yes x l =
    let low : 48 ≤ 48 + x = omega arith in
    let high : 48 + x ≤ 57 = omega arith in
    rw (le-leb 48 (48 + x) low, le-leb (48 + x) 57 high)

value_lower : (end : ℕ) → NoDigit end → (acc j n : ℕ) (t : List ℕ) → value acc (lower j n ++ end ∷ t) ≡ acc * 10 ^ j + n % 10 ^ j
unfolding value
value_lower end plain acc zero n t = rw (end_plain end plain, pow-zero, mod-one, mul-one, add-zero)
value_lower end plain acc (suc j) n t =
    let x = n / 10 ^ j % 10 in
    let small : n / 10 ^ j % 10 < 10 = mod-lt (n / 10 ^ j) (lit< tt) in
    let less : 48 + x - 48 ≡ x = omega arith in
    let split : n % 10 ^ suc j ≡ x * 10 ^ j + n % 10 ^ j = ap (λ (m : ℕ). n % m) (pow-suc 10 j ∙ mul_comm (10 ^ j) 10) ∙ mod-mul n (lit< tt) (one-le-pow j 10 (lit< tt)) in
    let power : 10 ^ suc j ≡ 10 ^ j * 10 = pow-suc 10 j in
    rw (digit_yes x small, less) (value_lower end plain (acc * 10 + x) j n t ∙ rw (split, power) (omega arith))

-- the number itself
value_decimal : (end n : ℕ) (t : List ℕ) → NoDigit end → n < 10 ^ 20 → value 0 (decimal n ++ end ∷ t) ≡ n
value_decimal end n t plain small =
    let k = digit_count_value n in
    let whole : 10 ^ k * (n / 10 ^ k) + n % 10 ^ k ≡ n = div-add-mod n (10 ^ k) in
    let none = count_top n small in
    rw (decimal_lower n) (value_lower end plain 0 k n t ∙ rw (zero-mul, zero-add) (sym (rw (none, mul-zero, zero-add)) ∙ whole))

pub apart_decimal : (end a b : ℕ) (t u : List ℕ) → NoDigit end → a < 10 ^ 20 → b < 10 ^ 20 → decimal a ++ end ∷ t ≡ decimal b ++ end ∷ u → a ≡ b
apart_decimal end a b t u plain small-a small_b e = sym (value_decimal end a t plain small-a) ∙ ap (value 0) e ∙ value_decimal end b u plain small_b

ended : (s t : List ℕ) (end : ℕ) → (s ++ end ∷ []) ++ t ≡ s ++ end ∷ t
ended s t end = append_assoc s (end ∷ []) t

pub apart_numbers : (low high end : ℕ) → high < 10 ^ 20 → NoDigit end → Apart (numbers low high end)
apart_numbers low high end small plain a b good-a good-b t u e =
    let high-a = good-a.1 in
    let high-b = good-b.1 in
    apart_decimal end a b t u plain (omega arith) (omega arith) (sym (ended (decimal a) t end) ∙ e ∙ ended (decimal b) u end)

tail : List ℕ → List ℕ
tail [] = []
tail (a ∷ l) = l

head : List ℕ → ℕ
head [] = 0
head (a ∷ l) = a

cancel : (s t u : List ℕ) → s ++ t ≡ s ++ u → t ≡ u
unfolding tail
cancel [] t u h = h
cancel (a ∷ s) t u h = cancel s t u (ap tail h)

pub apart_fields : (key : List ℕ) (low high end : ℕ) → high < 10 ^ 20 → NoDigit end → Apart (fields key low high end)
apart_fields key low high end small plain a b good-a good-b t u e =
    apart_numbers low high end small plain a b good-a good-b t u
    (cancel key _ _ (sym (append_assoc key (decimal a ++ end ∷ []) t) ∙ e ∙ append_assoc key (decimal b ++ end ∷ []) u))

-- a number with a minus sign is none without
signs_differ : (n end : ℕ) (s t u : List ℕ) → (decimal n ++ end ∷ []) ++ t ≡ 45 ∷ u → ⊥
unfolding head
signs_differ n end s t u e =
    let h = decimal_head n in
    let first : 48 + h.digit ≡ 45 = sym (rw h.is) ∙ ap head e in
    omega arith

pub apart_signeds : (limit end : ℕ) → limit < 10 ^ 19 → NoDigit end → Apart (signeds limit end)
unfolding signed tail
apart_signeds limit end small plain (pos a) (pos b) good-a good-b t u e =
    ap pos (apart_decimal end a b t u plain (omega arith) (omega arith) (sym (ended (decimal a) t end) ∙ e ∙ ended (decimal b) u end))
apart_signeds limit end small plain (pos a) (negsuc b) good-a good-b t u e = absurd (signs_differ a end [] t _ e)
apart_signeds limit end small plain (negsuc a) (pos b) good-a good-b t u e = absurd (signs_differ b end [] u _ (sym e))
apart_signeds limit end small plain (negsuc a) (negsuc b) good-a good-b t u e =
    let same : suc a ≡ suc b = apart_decimal end (suc a) (suc b) t u plain (omega arith) (omega arith) (sym (ended (decimal (suc a)) t end) ∙ ap tail e ∙ ended (decimal (suc b)) u end) in
    let less : a ≡ b = omega arith in
    ap negsuc less
