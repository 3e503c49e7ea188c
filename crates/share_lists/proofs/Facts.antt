-- Plain facts of numbers that the code's needs ask for. Cited by the proofs of functions. Assumes nothing.
use mathlib.Core.Path.{◌≡◌, refl, sym}
use mathlib.Core.Bool.{false, ◌||◌}
use mathlib.Core.List.{List}
use Prim.Native.Nat.{ℕ, zero, suc, ◌+◌, ◌*◌, ◌^◌, ◌≤◌, ◌<◌}
use native.Mathlib.Nat.{mul-le-mul, one-mul, zero-mul}
use native.Mathlib.Omega.{arith}
use lib.Dec.{ltb}
use lib.ListN.{length, get_or}
use borrow.Author.Tests.{ltb-false}
use Rattle.lists.proofs.BoolLaws.{or_left, or_right}
use Rattle.shares.specs.Store.{bad_lengths, closed_by}
use Rattle.shares.proofs.Opened.{lengths}

pub product : (a b : ℕ) → a < 2 ^ 32 → b < 2 ^ 32 → a * b ≤ 18446744065119617025
product a b h k =
    let l : a ≤ 4294967295 = omega arith in
    let m : b ≤ 4294967295 = omega arith in
    omega (arith, mul-le-mul l m)

pub from_zero : (c n : ℕ) → c ≡ 0 → 0 ≡ c * n
from_zero c n e = rw (e, zero-mul)

pub from_one : (c n : ℕ) → c ≤ 1 → (c ≡ 0 → ⊥) → n ≡ c * n
from_one zero n h apart = absurd (apart refl)
from_one (suc zero) n h apart = sym (one-mul n)
from_one (suc (suc c)) n h apart = absurd (omega arith)

-- what a store that is not closed says of its numbers and of the client
pub record Entry (numbers : List ℕ) (c : ℕ) : Type 0 where
  pub ten : length numbers ≡ 10
  pub one_of_two : c ≤ 1

pub entry : (numbers : List ℕ) (slots starts sizes excesses c : ℕ) → closed_by numbers slots starts sizes excesses c ≡ false → Entry numbers c
entry numbers slots starts sizes excesses c h =
    let bad = bad_lengths (length numbers) starts sizes excesses in
    let few = ltb slots (get_or numbers 0 0 + get_or numbers 5 0) in
    let two : bad || few ≡ false = or_left (bad || few) (ltb 1 c) h in
    record { ten = (lengths (length numbers) starts sizes excesses (or_left bad few two)).numbers; one_of_two = ltb-false 1 c (or_right (bad || few) (ltb 1 c) h) }
