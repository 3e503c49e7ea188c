-- A test that decides a property agrees with the flag of the definition. Cited by the theorems of `Flags`. Assumes nothing.
use mathlib.Core.Path.{◌≡◌, refl}
use mathlib.Core.Bool.{Bool, true, false, not}
use Rattle.lists.proofs.BoolLaws.{never}

-- r decides Q, of which b is the flag that it fails: r is `not b`
pub decided : {Q : Type 0} (r b : Bool) → (r ≡ true → Q) → (r ≡ false → Q → ⊥) → (Q → b ≡ false) → (b ≡ false → Q) → r ≡ not b
decided true true is isnt to from = never (to (is refl))
decided true false is isnt to from = refl
decided false true is isnt to from = refl
decided false false is isnt to from = absurd (isnt refl (from refl))
