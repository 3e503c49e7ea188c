-- The forms of a sheet's numbers: in decimal, without leading zeros, from `low` to `high`, with the byte that ends them. Cited by the scanners of numbers.
-- Definitions only. Assumes nothing.
use Rattle.std.specs.Prelude.{◌≡◌, List, [], ◌∷◌, ◌++◌, ℕ, ◌+◌, ◌*◌, ◌^◌, ◌/◌, ◌≤◌, ◌<◌, ℤ, pos, negsuc}
use Rattle.text.specs.Text.{decimal, signed, digit_count_value}
use Rattle.scan.specs.Form.{Form}

-- a number from low to high and the byte after it
abbrev pub numbers : ℕ → ℕ → ℕ → Form ℕ
numbers low high end = record { Good = λ n. (low ≤ n) × (n ≤ high); text = λ n. decimal n ++ (end ∷ []) }

-- a signed number of a type whose least is -limit, and whose greatest is limit - 1
abbrev pub Inside : ℕ → ℤ → Type 0
Inside limit (pos n) = n < limit
Inside limit (negsuc n) = n < limit

abbrev pub signeds : ℕ → ℕ → Form ℤ
signeds limit end = record { Good = Inside limit; text = λ v. signed v ++ (end ∷ []) }

-- n is written with k digits that read v, and j more
pub record Opens (k v n : ℕ) : Type 0 where
  pub more : ℕ
  pub digits : digit_count_value n ≡ k + more
  pub opening : n / 10 ^ more ≡ v

-- some number from low to high is written with k digits first that read v
pub record GoesOn (low high k v : ℕ) : Type 0 where
  pub n : ℕ
  pub from : low ≤ n
  pub to : n ≤ high
  pub opens : Opens k v n

-- b is a digit, and some number from low to high begins with it after k digits that read v
pub record NextDigit (low high k v b : ℕ) : Type 0 where
  pub d : ℕ
  pub small : d < 10
  pub is : b ≡ 48 + d
  pub goes : GoesOn low high (k + 1) (v * 10 + d)

-- a byte that is no digit
abbrev pub NoDigit : ℕ → Type 0
NoDigit b = (d : ℕ) → d < 10 → 48 + d ≡ b → ⊥

-- a key, then a number from low to high and the byte after it
abbrev pub fields : List ℕ → ℕ → ℕ → ℕ → Form ℕ
fields key low high end = record { Good = λ n. (low ≤ n) × (n ≤ high); text = λ n. key ++ (decimal n ++ (end ∷ [])) }
