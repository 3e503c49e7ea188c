-- The proof of `PremiseOffExcess`: the excesses of a set that was judged are its windows', and an excess is as far from 0 as the total from 2^P. Assumes nothing.
use mathlib.Core.Path.{◌≡◌, refl, ap, ◌∙◌}
use Prim.Native.Nat.{ℕ, ◌*◌, ◌^◌}
use lib.Dec.{ltb}
use lib.IntN.{nat_abs}
use Rattle.windows.specs.Set.{Stored, excess, excess_of, distance_of}
use Rattle.excesses.proofs.RightLaws.{right_excess, judged_excesses}
use Rattle.promises.specs.FlatFrames.{PremiseOffExcess}

distance_is : (s : Stored) (i : ℕ) → distance_of s i ≡ nat_abs (excess_of s i)
unfolding excess
distance_is s i = refl

pub premise_off_excess : PremiseOffExcess
premise_off_excess M store s good i l =
    ap (λ (n : ℕ). ltb (2 * M * n) (2 ^ s.precision)) (distance_is s i ∙ ap nat_abs (right_excess s (judged_excesses s store good) i l))
