-- What a plan keeps of its request besides being sound: the filter that its name picks, and one over the filter scale, which is at most 1. Cited by BoxSet. Assumes nothing.
use Rattle.std.specs.Prelude.{Ok, Some}
use mathlib.Core.Path.{◌≡◌, refl, sym, ◌∙◌, subst}
use mathlib.Core.Bool.{Bool, true, false, cond}
use Prim.Native.Nat.{ℕ, ◌*◌, ◌<◌}
use native.Mathlib.Nat.{le_trans, le_of_eq, le_of_lt, zero-lt-suc, one-mul}
use native.Mathlib.Omega.{arith}
use lib.Dec.{lit≤}
use borrow.Author.Tests.{ltb-true}
use lib.Ieee.{Float, binary64, round, div, lt, of_bits}
use lib.Ieee.Exact.{HasValue}
use lib.Ieee.Positive.{num, den, den_pos}
use Rattle.floats.specs.Within.{Within}
use Rattle.floats.proofs.Within.{within_value, round_within}
use Rattle.floats.proofs.Integers.{int_value}
use Rattle.floats.proofs.Value.{lt_values, div_values}
use Rattle.floats.specs.Doubles.{one64, ◌over◌}
use Rattle.filters.specs.Names.{picked_of}
use Rattle.plans.specs.declared.Request.{Request}
use Rattle.plans.specs.declared.Plan.{Plan}
use Rattle.plans.specs.Plan.{edge_of, scale_of, filter_scale_of, plan_of}
use Rattle.plans.proofs.PlanLaws.{plan_by_fact}
use Rattle.promises.proofs.BoxWindow.{one}

-- one over a scale that is above 1
over_large : (x : Float) (n : ℕ) → Within x n → lt one64 x ≡ true → Within (one64 over x) 1
over_large x n W h =
    let v = (within_value x n W).0 in
    let o : HasValue one64 false 1 1 = subst (λ (z : Float). HasValue z false 1 1) (sym one) (int_value 1 (lit≤ tt)) in
    let more : 1 * den x < num x * 1 = ltb-true (1 * den x) (num x * 1) (sym (lt_values one64 x false false 1 1 (num x) (den x) (zero-lt-suc 0) (den_pos x) o v) ∙ h) in
    let up : 0 < num x = some (den x) (num x) more in
    subst (λ (z : Float). Within z 1) (sym (div_values binary64 one64 x false false 1 1 (num x) (den x) (zero-lt-suc 0) (den_pos x) up o v))
    (round_within binary64 (1 * den x) (num x * 1) 1 (grow (num x) up) (lit≤ tt) (le_trans (le_of_lt more) (le_of_eq (sym (one-mul (num x * 1))))))
  where
    some : (d m : ℕ) → 1 * d < m * 1 → 0 < m
    some d m h = omega arith

    grow : (m : ℕ) → 0 < m → 0 < m * 1
    grow m h = omega arith

one_over_one : Within (one64 over one64) 1
unfolding of_bits div round
one_over_one = lit≤ tt

pub recip_within : (adapts : Bool) (scale : Float) (n : ℕ) → Within scale n → Within (one64 over filter_scale_of adapts scale) 1
unfolding filter_scale_of
recip_within false scale n w = one_over_one
recip_within true scale n w = go (lt one64 scale) refl
  where
    go : (t : Bool) → lt one64 scale ≡ t → Within (one64 over cond t scale one64) 1
    go true e = over_large scale n w e
    go false e = one_over_one

pub record Kept (q : Request) (p : Plan) : Type 0 where
  pub filter_kept : picked_of q.filter ≡ Some p.filter
  pub output_kept : p.output ≡ q.output
  pub recip_small : Within p.recip 1

pub plan_kept : (q : Request) (p : Plan) → plan_of q ≡ Ok p → Kept q p
plan_kept q p =
    plan_by_fact q p (Kept q)
    (λ f is b ok some few w. record { filter_kept = is; output_kept = refl; recip_small = recip_within q.adapts (scale_of (edge_of q.axis q.width q.height b) q.output) 8192 w })
