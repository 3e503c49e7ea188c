-- Digits in a text and the whole numbers that they write, in any base up to 16. Cited by the readers of
-- numbers here and in the crates above. Definitions only. Assumes nothing.
use Rattle.std.specs.Prelude.{Result, Ok, Err, List, Bool, cond, not, ◌||◌, ℕ, ◌+◌, ◌-◌, ◌*◌, eqb, ltb, leb, get_or}
use Rattle.lists.specs.Tab.{any, turns}
use Rattle.numerals.specs.declared.NumberError.{NumberError}
use Rattle.numerals.specs.declared.NumberError.TheVariants.{TooLarge, Malformed}

-- the digit that a byte stands for: 0 to 9, then a to f for 10 to 15; 255 for a byte that is no digit
unfoldable pub digit_of : ℕ → ℕ
digit_of b =
    cond (ltb b 48) 255
    (cond (leb b 57) (b - 48)
    (cond (ltb b 97) 255
    (cond (leb b 102) (b - 97 + 10)
    255)))

-- the byte k places past a is no digit of the base
abbrev pub alien : ℕ → List ℕ → ℕ → ℕ → Bool
alien base text a k = leb base (digit_of (get_or text (a + k) 0))

-- n bytes from the place a on are digits of the base
unfoldable pub digits : ℕ → List ℕ → ℕ → ℕ → Bool
digits base text a n = not (any n (alien base text a))

-- what a byte adds to a number; a byte that is no digit of the base adds 0
unfoldable pub figure : ℕ → ℕ → ℕ
figure base b = cond (ltb (digit_of b) base) (digit_of b) 0

-- a number with the digit k places past a put behind it
abbrev pub behind : ℕ → List ℕ → ℕ → ℕ → ℕ → ℕ
behind base text a v k = v * base + figure base (get_or text (a + k) 0)

-- the number v continued by n digits from the place a on
unfoldable pub numeral : ℕ → List ℕ → ℕ → ℕ → ℕ → ℕ
numeral base text a v n = turns (behind base text a) v n

-- the number that n digits from the place a on write, at most `most`; n is 1 at least
unfoldable pub number_of : ℕ → List ℕ → ℕ → ℕ → ℕ → Result ℕ NumberError
number_of base text a n most =
    cond (eqb n 0 || not (digits base text a n)) (Err Malformed)
    (cond (ltb most (numeral base text a 0 n)) (Err TooLarge)
    (Ok (numeral base text a 0 n)))
