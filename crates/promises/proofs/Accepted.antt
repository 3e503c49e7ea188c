-- What answer No. 0 means: no refusal has it, so an answer whose number is 0 is the case that is done, with the values beside it. Assumes nothing.
use Rattle.std.specs.Prelude.{Result, Ok, Err, ⊤, ℕ}
use mathlib.Core.Path.{◌≡◌, refl}
use Prim.Native.Nat.{◌<◌}
use native.Mathlib.Omega.{arith}
use Rattle.refusal.specs.declared.Refusal.{Refusal}
use Rattle.refusal.specs.declared.Refusal.TheVariants.{BadSide, NotFinite, NegativeExtent, StartOutside, EndOutside, NoScale, TooFewSlots, BlankWindow, WeightOutside, DoesNotFit, NoRoom, SampleOutside, NotASheet, NoOffer, SharesDoNotFit, RetiredFilter}
use Rattle.refusal.specs.Refusal.{number_of}
use Rattle.coefficients.specs.declared.NotBuilt.{NotBuilt}
use Rattle.coefficients.specs.declared.NotBuilt.TheVariants as built
use Rattle.coefficients.specs.Answer.{window_of, number_of as numberOfBuilt}
use Rattle.normalizer.specs.Answer.{precision_in, number_of as numberOfNormalized}
use Rattle.vertical.specs.Passed.{number_of as numberOfPassed}
use Rattle.vertical.specs.PassedF32.{number_of as numberOfPassedF32, infinite_in}

-- no refusal has the number 0
numbered : (r : Refusal) → 0 < number_of r
numbered BadSide = omega arith
numbered NotFinite = omega arith
numbered NegativeExtent = omega arith
numbered StartOutside = omega arith
numbered EndOutside = omega arith
numbered NoScale = omega arith
numbered TooFewSlots = omega arith
numbered BlankWindow = omega arith
numbered WeightOutside = omega arith
numbered DoesNotFit = omega arith
numbered NoRoom = omega arith
numbered SampleOutside = omega arith
numbered NotASheet = omega arith
numbered NoOffer = omega arith
numbered SharesDoNotFit = omega arith
numbered RetiredFilter = omega arith

pub passed_done : (a : Result ⊤ Refusal) → numberOfPassed a ≡ 0 → a ≡ Ok tt
passed_done (Ok tt) h = refl
passed_done (Err r) h = absurd (omega (arith, numbered r, h))

pub passed_done_f32 : (a : Result ℕ Refusal) → numberOfPassedF32 a ≡ 0 → a ≡ Ok (infinite_in a)
passed_done_f32 (Ok n) h = refl
passed_done_f32 (Err r) h = absurd (omega (arith, numbered r, h))

pub built_done : (a : Result ℕ NotBuilt) → numberOfBuilt a ≡ 0 → a ≡ Ok (window_of a)
built_done (Ok w) h = refl
built_done (Err (built.Blank line)) h = absurd (omega (arith, h))
built_done (Err (built.Refused r)) h = absurd (omega (arith, numbered r, h))

pub normalized_done : (a : Result ℕ Refusal) → numberOfNormalized a ≡ 0 → a ≡ Ok (precision_in a)
normalized_done (Ok p) h = refl
normalized_done (Err r) h = absurd (omega (arith, numbered r, h))
