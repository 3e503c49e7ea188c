-- What the two comparisons with the infinities say of a sample. Cited by `one`. Assumes nothing.
use mathlib.Core.Path.{◌≡◌, refl}
use mathlib.Core.Bool.{true, false, ◌||◌}
use lib.Ieee.{Float, nan, inf, fin, eq}
use Rattle.numbers.specs.Whole.{is_infinite}

pub equals_either : (x : Float) → eq x (inf false) || eq x (inf true) ≡ is_infinite x
unfolding eq
equals_either nan = refl
equals_either (inf true) = refl
equals_either (inf false) = refl
equals_either (fin s m e) = refl
