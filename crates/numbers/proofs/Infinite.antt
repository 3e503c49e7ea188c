-- A pattern of binary32 with no sign up to the infinity's is that of an infinity exactly where it is the infinity's. Cited by `narrow_bits`. Assumes nothing.
use Rattle.std.proofs.Common.{◌≡◌, ℕ, ◌+◌, ◌%◌, ◌^◌, ◌<◌, ◌≤◌, Bool, true, false, cond, T, eqb, ℤ, sym, refl, ap, ◌∙◌, subst, arith, eq-eqb, eqb-true}
use lib.Ieee.{Float, nan, inf, fin, binary32, binary64, of_bits, to_bits, fits}
use lib.Ieee.Bits.{of_bits-to_bits}
use Rattle.lists.proofs.BoolLaws.{never}
use Rattle.numbers.specs.declared.NarrowedBits.{NarrowedBits}
use Rattle.numbers.specs.Whole.{narrow, is_infinite}
use Rattle.numbers.specs.Narrowed.{narrowed_bits}
use Rattle.numbers.proofs.Codes.{narrow_fits, narrow_nan}
use Rattle.floats.proofs.Codes.{nan_code}

infinity : (s : Bool) → of_bits binary32 (cond s (2 ^ 31) 0 + 0x7f80_0000) ≡ inf s
unfolding of_bits
infinity true = refl
infinity false = refl

-- what the patterns of the NaN and of an infinity say of a size with a sign put to it
no_nan : (s : Bool) (y : ℕ) → y ≤ 0x7f80_0000 → cond s (2 ^ 31) 0 + y ≡ to_bits binary32 nan → ⊥
unfolding to_bits
no_nan true y h e = omega arith
no_nan false y h e = omega arith

its_size : (s t : Bool) (y : ℕ) → y ≤ 0x7f80_0000 → cond s (2 ^ 31) 0 + y ≡ to_bits binary32 (inf t) → y ≡ 0x7f80_0000
unfolding to_bits
its_size true true y h e = omega arith
its_size true false y h e = omega arith
its_size false true y h e = omega arith
its_size false false y h e = omega arith

infinite_code : (s : Bool) (y : ℕ) (x : Float) → y ≤ 0x7f80_0000 → T (fits binary32 x) → cond s (2 ^ 31) 0 + y ≡ to_bits binary32 x → eqb y 0x7f80_0000 ≡ is_infinite x
infinite_code s y nan h f e = absurd (no_nan s y h e)
infinite_code s y (inf t) h f e = eq-eqb y 0x7f80_0000 (its_size s t y h e)
infinite_code s y (fin t m d) h f e = go (eqb y 0x7f80_0000) refl
  where
    go : (b : Bool) → eqb y 0x7f80_0000 ≡ b → b ≡ false
    go false k = refl
    go true k =
        ap is_infinite
        (sym (infinity s) ∙ ap (λ (z : ℕ). of_bits binary32 (cond s (2 ^ 31) 0 + z)) (sym (eqb-true y 0x7f80_0000 k))
        ∙ ap (of_bits binary32) e ∙ of_bits-to_bits binary32 (fin t m d) f)

-- the answer of `narrow_bits`, from its value v: the size y with the sign put to it
pub narrowed_code : (s : Bool) (b y v : ℕ) → y ≤ 0x7f80_0000 → v ≡ cond s (2 ^ 31) 0 + y → v ≡ to_bits binary32 (narrow (of_bits binary64 b)) → record { value = v; infinite = eqb y 0x7f80_0000 } ≡ narrowed_bits b
narrowed_code s b y v h k e =
    rw (e, infinite_code s y (narrow (of_bits binary64 b)) h (narrow_fits (of_bits binary64 b)) (sym k ∙ e)) refl

-- of a NaN
pub narrowed_nan : (b : ℕ) → 0x7ff0_0000_0000_0000 < b % 2 ^ 63 → record { value = 0x7fc0_0000; infinite = false } ≡ narrowed_bits b
unfolding narrow
narrowed_nan b h = rw (← narrow_nan b h, nan_code binary64 b h) refl
