-- The four equations of `build`, for each of its ways: a refusal, too few slots, and a set built or blank. Cited by the proof of `build`. Assumes nothing.
use Rattle.std.specs.Prelude.{Result, Ok, Err}
use mathlib.Core.Path.{◌≡◌, refl, sym, ap, ◌∙◌}
use mathlib.Core.Bool.{true, false}
use mathlib.Core.List.{List}
use Prim.Native.Nat.{ℕ, ◌*◌, ◌≤◌, ◌<◌}
use native.Mathlib.Omega.{arith}
use lib.ListN.{length}
use lib.Ieee.{Float}
use borrow.Author.Tests.{lt-ltb, le-ltb}
use Rattle.lists.proofs.FirstLaws.{first_le}
use Rattle.refusal.specs.declared.Refusal.{Refusal}
use Rattle.refusal.specs.declared.Refusal.TheVariants.{TooFewSlots}
use Rattle.plans.specs.declared.Request.{Request}
use Rattle.plans.specs.declared.Plan.{Plan}
use Rattle.coefficients.specs.declared.NotBuilt.{NotBuilt}
use Rattle.coefficients.specs.declared.NotBuilt.TheVariants.{Blank, Refused as BuildRefused}
use Rattle.plan_windows.specs.Lines.{blank, first_blank, weights_in, starts_in, sizes_in}
use Rattle.plans.specs.Plan.{plan_of}
use Rattle.coefficients.specs.Request.{too_few_slots, judged, built, built_of, weights_of, starts_of, sizes_of}
use Rattle.plan_windows.proofs.LineLaws.{or_zero_blank, or_zero_done}

-- ---- too few slots, starts or sizes
module _ (p : Plan) (a b c : ℕ) where
  pub short_slots : a < p.output * p.window → too_few_slots p a b c ≡ true
  short_slots h = rw (lt-ltb _ _ h)

  pub short_starts : p.output * p.window ≤ a → b < p.output → too_few_slots p a b c ≡ true
  short_starts g h = rw (le-ltb _ _ g, lt-ltb _ _ h)

  pub short_sizes : p.output * p.window ≤ a → p.output ≤ b → c < p.output → too_few_slots p a b c ≡ true
  short_sizes g h l = rw (le-ltb _ _ g, le-ltb _ _ h, lt-ltb _ _ l)

  pub enough : p.output * p.window ≤ a → p.output ≤ b → p.output ≤ c → too_few_slots p a b c ≡ false
  enough g h l = rw (le-ltb _ _ g, le-ltb _ _ h, le-ltb _ _ l)

-- ---- the answer of a plan
pub built_blank : (p : Plan) (line : ℕ) → line ≡ first_blank p → line < p.output → Err (Blank (record { 0 = line })) ≡ built p
built_blank p line e h =
    ap (λ (k : ℕ). Err (Blank (record { 0 = k }))) e ∙ or_zero_blank p line (Err (Blank (record { 0 = first_blank p }))) (Ok p.window) (sym e) h

pub built_done : (p : Plan) (line : ℕ) → line ≡ first_blank p → p.output ≤ line → Ok p.window ≡ built p
unfolding first_blank
built_done p line e h =
    let l = first_le (blank p) 0 p.output in
    or_zero_done p (Err (Blank (record { 0 = first_blank p }))) (Ok p.window) (omega arith)

module _ (q : Request) (ws : List Float) (ss zs : List ℕ) where
  abbrev pub All : Result ℕ NotBuilt → List Float → List ℕ → List ℕ → Type 0
  All r ws' ss' zs' =
      (r ≡ built_of q (length ws) (length ss) (length zs))
      × ((ws' ≡ weights_of q (length ws) (length ss) (length zs) ws)
      × ((ss' ≡ starts_of q (length ws) (length ss) (length zs) ss) × (zs' ≡ sizes_of q (length ws) (length ss) (length zs) zs)))

  pub all_refused : (refusal : Refusal) → plan_of q ≡ Err refusal → All (Err (BuildRefused refusal)) ws ss zs
  unfolding judged
  all_refused refusal e = rw e (refl, (refl, (refl, refl)))

  module _ (p : Plan) (e : plan_of q ≡ Ok p) where
    pub all_short : too_few_slots p (length ws) (length ss) (length zs) ≡ true → All (Err (BuildRefused TooFewSlots)) ws ss zs
    unfolding judged
    all_short s = rw (e, s) (refl, (refl, (refl, refl)))

    pub all_ready : (r : Result ℕ NotBuilt) (ws' : List Float) (ss' zs' : List ℕ) → too_few_slots p (length ws) (length ss) (length zs) ≡ false
        → r ≡ built p → ws' ≡ weights_in p ws → ss' ≡ starts_in p ss → zs' ≡ sizes_in p zs → All r ws' ss' zs'
    unfolding judged
    all_ready r ws' ss' zs' s er ew es ez = rw (e, s) (er, (ew, (es, ez)))
