-- For the customer: a list function of alpha gives No. 10 exactly when the lists do not fit, and No. 0 exactly when they do; so for every input one row applies and no
-- other. Over any width, so for `alpha_u16` too. Cited by docs/CONTRACTS.md. Assumes nothing.
use Rattle.std.specs.Prelude.{Ok, Err}
use mathlib.Core.Path.{◌≡◌, refl}
use mathlib.Core.Bool.{Bool, true, false, cond}
use mathlib.Core.List.{List}
use Prim.Native.Nat.{ℕ}
use lib.ListN.{length}
use Rattle.lists.specs.Ladder.{Exactly, given, Due}
use Rattle.lists.proofs.LadderLaws.{exactly_due}
use Rattle.refusal.specs.declared.Refusal.TheVariants.{DoesNotFit}
use Rattle.pixel_lists.specs.Lists.{bad_lists_value, applied_to, number_of}
use Rattle.pixel_lists.proofs.Tests.{rows}

numbered : (t : Bool) → number_of (cond t (Err DoesNotFit) (Ok tt)) ≡ cond t 10 0
numbered true = refl
numbered false = refl

module _ (src dst : List ℕ) where
  is : number_of (applied_to src dst) ≡ given (rows src dst)
  is = numbered (bad_lists_value (length src) (length dst))

  pub applied_exactly : (n : ℕ) → Exactly (number_of (applied_to src dst) ≡ n) (Due n (rows src dst))
  applied_exactly n = rw is (exactly_due n (rows src dst) refl)
