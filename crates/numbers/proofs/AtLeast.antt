-- The range's ends without their maximum: the cast gives 0 for what is not above 0, so `start` and `stop` are the casts themselves. Cited by Ranges and Window.
-- Assumes nothing.
use Rattle.std.proofs.Common.{◌≡◌, ℕ, ◌-◌, ◌*◌, ◌/◌, ◌^◌, ◌≤◌, min, Bool, true, false, cond, ltb, ℤ, sym, refl, ap, ◌∙◌, arith, ltb-false}
use native.Mathlib.Nat.{zero-div}
use lib.Ieee.{Float, nan, inf, fin, binary64, add, sub, lt, of_bits, to_unsigned, up, down}
use Rattle.lists.proofs.BoolLaws.{never}
use Rattle.numbers.specs.Whole.{floor, ceil}
use Rattle.numbers.specs.Window.{at_least_zero, start, stop}

-- a size that is not above 0 is 0
none : (m : ℕ) (e : ℤ) → lt (of_bits binary64 0) (fin false m e) ≡ false → m * up e ≡ 0
unfolding lt of_bits
none m e h = omega (arith, ltb-false (0 * 1 * down e) (m * up e * 1) h)

-- what is above 0 is itself, and else the cast gives 0
by : (x : Float) (above : Bool) → lt (of_bits binary64 0) x ≡ above → to_unsigned 32 (cond above x (of_bits binary64 0)) ≡ to_unsigned 32 x
unfolding to_unsigned of_bits lt
by x true h = refl
by nan false h = refl
by (inf true) false h = refl
by (inf false) false h = never h
by (fin true m e) false h = refl
by (fin false m e) false h = ap (λ (k : ℕ). min k (2 ^ 32 - 1)) (sym (ap (λ (k : ℕ). k / down e) (none m e h) ∙ zero-div (down e)))

pub start_is : (c r : Float) → start c r ≡ to_unsigned 32 (floor binary64 (sub binary64 c r))
unfolding start
start_is c r = let d = floor binary64 (sub binary64 c r) in by d (lt (of_bits binary64 0) d) refl

pub stop_is : (side : ℕ) (c r : Float) → stop side c r ≡ min (to_unsigned 32 (ceil binary64 (add binary64 c r))) side
unfolding stop
stop_is side c r = let d = ceil binary64 (add binary64 c r) in ap (λ (n : ℕ). min n side) (by d (lt (of_bits binary64 0) d) refl)
