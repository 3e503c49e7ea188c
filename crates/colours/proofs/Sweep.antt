-- Multiply, divide and multiply again, by one computed sweep over every colour and alpha. `alpha_three_steps` is cited by the promises.
-- Assumes nothing.
use mathlib.Core.Path.{◌≡◌, refl}
use mathlib.Core.Bool.{Bool, true, false, cond, not, ◌||◌}
use Prim.Native.Nat.{ℕ, ◌+◌, ◌<◌, ◌≤◌}
use native.Mathlib.Omega.{arith}
use lib.Dec.{eqb, ltb}
use borrow.Author.Tests.{eqb-true, ltb-true, ltb-false, not-false}
use Rattle.lists.specs.Tab.{any}
use Rattle.lists.proofs.AnyLaws.{any_none}
use Rattle.lists.proofs.BoolLaws.{or_left, or_right}
use Rattle.colours.specs.Alpha.{multiplied}
use Rattle.colours.specs.Steps.{again, same_up_to, Steps}

-- the product that comes back is not the first one; it is more than 1 away
changed : ℕ → ℕ → Bool
changed a c = not (eqb (again c a) (multiplied c a))

far : ℕ → ℕ → Bool
far a c = ltb (multiplied c a + 1) (again c a) || ltb (again c a + 1) (multiplied c a)

broken : ℕ → ℕ → Bool
broken a c = cond (ltb same_up_to a) (far a c) (changed a c)

none_broken : any 256 (λ a. any 256 (broken a)) ≡ false
unfolding broken changed far
none_broken = refl

kept : (c a : ℕ) (t : Bool) → ltb same_up_to a ≡ t → cond t (far a c) (changed a c) ≡ false → Steps c a
unfolding changed far
kept c a true e h =
    let up = ltb (multiplied c a + 1) (again c a) in
    let down = ltb (again c a + 1) (multiplied c a) in
    let above : same_up_to < a = ltb-true same_up_to a e in
    record {
      same = λ l. absurd (omega arith);
      not_above = ltb-false (multiplied c a + 1) (again c a) (or_left up down h);
      not_below = ltb-false (again c a + 1) (multiplied c a) (or_right up down h);
    }
kept c a false e h =
    let is : again c a ≡ multiplied c a = eqb-true (again c a) (multiplied c a) (not-false (eqb (again c a) (multiplied c a)) h) in
    record { same = λ l. is; not_above = omega arith; not_below = omega arith }

pub alpha_three_steps : (colour alpha : ℕ) → colour ≤ 255 → alpha ≤ 255 → Steps colour alpha
unfolding broken
alpha_three_steps c a h k =
    kept c a (ltb same_up_to a) refl (any_none (broken a) 256 (any_none (λ a. any 256 (broken a)) 256 none_broken a (omega arith)) c (omega arith))
