-- The two orders of excesses go on: what comes before what comes before, and what does not. Cited by the laws of extremes. Assumes nothing.
use mathlib.Core.Path.{◌≡◌, refl, sym}
use mathlib.Core.Bool.{Bool, true, false}
use Prim.Native.Nat.{◌+◌, ◌≤◌, ◌<◌}
use native.Mathlib.Omega.{arith}
use lib.IntN.{ℤ, pos, negsuc}
use lib.Signed.{lt_z}
use borrow.Author.Tests.{ltb-true, ltb-false}
use Rattle.lists.proofs.BoolLaws.{never}
use Rattle.integers.proofs.Parts.{plus, minus}
use Rattle.book_numbers.specs.Marks.{below, above}

-- an order by which three numbers stand in a row, both ways, and none comes before itself
pub record Order (before : ℤ → ℤ → Bool) : Type 0 where
  pub own : (x : ℤ) → before x x ≡ false
  pub on : (x y z : ℤ) → before x y ≡ true → before y z ≡ true → before x z ≡ true
  pub off : (x y z : ℤ) → before x y ≡ false → before y z ≡ false → before x z ≡ false

-- the order of integers, said of their parts
less : (x y : ℤ) → lt_z x y ≡ true → plus x + minus y < plus y + minus x
unfolding plus minus
less (pos a) (pos b) h = let l = ltb-true a b h in omega arith
less (pos a) (negsuc b) h = never (sym h)
less (negsuc a) (pos b) h = omega arith
less (negsuc a) (negsuc b) h = let l = ltb-true b a h in omega arith

more : (x y : ℤ) → lt_z x y ≡ false → plus y + minus x ≤ plus x + minus y
unfolding plus minus
more (pos a) (pos b) h = let l = ltb-false a b h in omega arith
more (pos a) (negsuc b) h = omega arith
more (negsuc a) (pos b) h = never h
more (negsuc a) (negsuc b) h = let l = ltb-false b a h in omega arith

test : (x y : ℤ) (b : Bool) → lt_z x y ≡ b → (b ≡ true → ⊥) → lt_z x y ≡ false
test x y true h k = absurd (k refl)
test x y false h k = h

test_not : (x y : ℤ) (b : Bool) → lt_z x y ≡ b → (b ≡ false → ⊥) → lt_z x y ≡ true
test_not x y true h k = h
test_not x y false h k = absurd (k refl)

lt_on : (x y z : ℤ) → lt_z x y ≡ true → lt_z y z ≡ true → lt_z x z ≡ true
lt_on x y z h k = test_not x z (lt_z x z) refl (λ e. omega (arith, less x y h, less y z k, more x z e))

lt_off : (x y z : ℤ) → lt_z x y ≡ false → lt_z y z ≡ false → lt_z x z ≡ false
lt_off x y z h k = test x z (lt_z x z) refl (λ e. omega (arith, more x y h, more y z k, less x z e))

lt_own : (x : ℤ) → lt_z x x ≡ false
lt_own x = test x x (lt_z x x) refl (λ e. omega (arith, less x x e))

pub below_order : Order below
below_order = record { own = lt_own; on = lt_on; off = lt_off }

pub above_order : Order above
above_order = record { own = lt_own; on = λ x y z h k. lt_on z y x k h; off = λ x y z h k. lt_off z y x k h }
