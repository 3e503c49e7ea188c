-- The proofs of `BoxPremise` and `BoxFlat`: answers whose number is 0 are done, so BoxPremise has what it asks; then a flat frame is `flat_frame`'s. Assumes nothing.
use Rattle.std.specs.Prelude.{Ok}
use mathlib.Core.Path.{◌≡◌, subst}
use mathlib.Core.List.{List}
use Prim.Native.Nat.{ℕ, ◌*◌, ◌<◌}
use native.Mathlib.Nat.{le_of_eq, lt_of_lt_of_le}
use lib.IntN.{ℤ}
use lib.Ieee.{Float}
use lib.ListN.{length}
use Rattle.lists.specs.Tab.{tab}
use Rattle.windows.specs.Set.{windows}
use Rattle.plans.specs.declared.Request.{Request}
use Rattle.coefficients.specs.Answer.{window_of}
use Rattle.coefficients.specs.Request.{built_of}
use Rattle.normalizer.specs.Answer.{precision_in}
use Rattle.vertical.specs.U16.{written_u16}
use Rattle.promises.specs.FlatFrames.{NearOne}
use Rattle.promises.specs.BoxKeepsFlat.{built, normal, stored, Accepted, BoxPremise, BoxFlat}
use Rattle.promises.proofs.Accepted.{built_done, normalized_done}
use Rattle.promises.proofs.BoxSet as set
use Rattle.promises.proofs.BoxPremise.{near}
use Rattle.promises.proofs.FlatFrame.{flat_frame}

module _ (q : Request) (lines : ℕ) (ws : List Float) (ss zs : List ℕ) (out excesses : List ℤ) (ok : Accepted q lines ws ss zs out excesses) where
  made : built_of q (length ws) (length ss) (length zs) ≡ Ok (window_of (built q lines ws ss zs out excesses))
  made = built_done (built q lines ws ss zs out excesses) ok.1

  premise : (i : ℕ) → i < q.output → NearOne (stored q lines ws ss zs out excesses) i
  premise =
      near q lines ws ss zs (window_of (built q lines ws ss zs out excesses)) out excesses (precision_in (normal q lines ws ss zs out excesses)) ok.0 made
      (normalized_done (normal q lines ws ss zs out excesses) ok.2)

  long : windows (stored q lines ws ss zs out excesses).set.layout ≡ q.output
  long = set.long_starts q ws ss zs (window_of (built q lines ws ss zs out excesses)) made

pub box_premise : BoxPremise
box_premise = premise

pub box_flat : BoxFlat
box_flat q lines ws ss zs out excesses ok src row first count old v done top flat =
    let s = stored q lines ws ss zs out excesses in
    let l = long q lines ws ss zs out excesses ok in
    subst (λ (m : ℕ). written_u16 s src row first count old ≡ tab 0 (m * count) (λ k. v)) l
    (flat_frame s src row first count old v done top flat (λ i h. premise q lines ws ss zs out excesses ok i (lt_of_lt_of_le h (le_of_eq l))))
