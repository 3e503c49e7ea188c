-- Every window of a Box plan: n lines, each with the share 1 / n rounded once, and no slot above 1. Cited by BoxSet. Assumes nothing.
use mathlib.Core.Path.{◌≡◌, refl, sym, ap, ◌∙◌, subst}
use mathlib.Core.Bool.{Bool, true, false}
use Prim.Native.Nat.{ℕ, ◌+◌, ◌^◌, ◌≤◌, ◌<◌, zero-le}
use native.Mathlib.Nat.{le_trans, le_of_eq, lt_of_lt_of_le, zero-lt-suc}
use native.Mathlib.Omega.{arith}
use lib.Dec.{ltb, lit≤}
use borrow.Author.Tests.{lt-ltb, ltb-true, ltb-false}
use lib.Ieee.{Float, binary64, of_bits}
use Rattle.floats.specs.Within.{Within, AtMost}
use Rattle.floats.proofs.Within.{round_within}
use Rattle.floats.proofs.Integers.{int, int_value, within_div_int, int_within}
use Rattle.filters.specs.declared.Filter.{Filter}
use Rattle.filters.specs.declared.Filter.TheVariants.{Box}
use Rattle.floats.specs.Doubles.{zero64, half64, ◌over◌}
use Rattle.plans.specs.declared.Plan.{Plan}
use Rattle.line_weights.specs.Weights.{weighs, weighs_from, weight_from, total_of, size_of, up_to}
use Rattle.plans.specs.Inner.{Sound}
use Rattle.plans.specs.Plan.{centre}
use Rattle.plan_windows.specs.Lines.{middle, lead, held, total, size, slot, blank}
use Rattle.line_weights.proofs.WeightLaws.{up_le}
use Rattle.plan_windows.proofs.WindowLaws.{Fits, window_fits, lead_weighs, held_def, stop_side}
use Rattle.promises.proofs.Box.{weight}
use Rattle.floats.proofs.AtMost.{within_at, sub_at}
use Rattle.promises.proofs.BoxWindow.{none, one, one_weight, no_weight, total_is}

half_at : AtMost half64 (2 ^ 30)
unfolding of_bits
half_at = lit≤ tt

-- a share of a total n: of a weight 1 or 0 it is at most 1
share_within : (w : Float) (n : ℕ) → Within w 1 → 0 < n → n ≤ 8192 → Within (w over int n) 1
share_within w n W h l = within_div_int w 1 n W h (le_trans l (lit≤ tt)) (lit≤ tt)

module _ (p : Plan) (i : ℕ) (box : p.filter ≡ Box) (ok : Sound p) (I : i < 8192) (R : Within p.recip 1) (full : blank p i ≡ false) where
  abbrev c : Float
  c = middle p i

  near : AtMost c (2 ^ 31)
  near = sub_at binary64 (centre p i) half64 (2 ^ 30) (2 ^ 30) (within_at (centre p i) (2 ^ 30) (ok.centred i I)) half_at (int_value (2 ^ 31) (lit≤ tt))

  fit : Fits p i
  fit = window_fits p i ok I full

  size_of_fact : size p i ≡ up_to (weighs_from Box c p.recip (lead p i)) (held p i)
  unfolding size size_of
  size_of_fact = ap (λ (f : Filter). up_to (weighs_from f c p.recip (lead p i)) (held p i)) box

  some : 0 < held p i
  some = let s = fit.some in let u = up_le (weighs_from Box c p.recip (lead p i)) (held p i) in let e = size_of_fact in omega arith

  starts : weighs Box c p.recip (lead p i) ≡ true
  starts = subst (λ (f : Filter). weighs f c p.recip (lead p i) ≡ true) box (lead_weighs p i some)

  ends : lead p i + held p i ≤ 8192
  ends = let e = held_def p i in let s = stop_side p i in let h = some in let k = ok.within in omega arith

  -- the number of lines
  pub lines : (0 < size p i) × (size p i ≤ 8192)
  lines = let f = fit.inside in let k = ok.within in (fit.some, omega arith)

  total_of_fact : total p i ≡ int (size p i)
  unfolding total
  total_of_fact = ap (λ (f : Filter). total_of f c p.recip (lead p i) (held p i)) box ∙ total_is c p.recip near R (lead p i) (held p i) ends some starts ∙ ap int (sym size_of_fact)

  slot_of : (k : ℕ) (w : Float) → weight_from Box c p.recip (lead p i) k ≡ w → k < held p i → slot p i k ≡ w over int (size p i)
  unfolding slot
  slot_of k w e h = rw (lt-ltb k (held p i) h) (ap (λ (f : Filter). weight_from f c p.recip (lead p i) k over total p i) box ∙ ap (λ (v : Float). v over total p i) e ∙ ap (λ (t : Float). w over t) total_of_fact)

  -- each line has the share 1 / n
  pub share : (k : ℕ) → k < size p i → slot p i k ≡ weight (size p i)
  share k h =
      let u = up_le (weighs_from Box c p.recip (lead p i)) (held p i) in
      let e = size_of_fact in
      slot_of k (int 1) (one_weight c p.recip near R (lead p i) (held p i) ends some starts k (lt_of_lt_of_le h (le_of_eq e)) ∙ one) (lt_of_lt_of_le h (le_trans (le_of_eq e) u))

  filled : (k : ℕ) → ltb k (held p i) ≡ false → slot p i k ≡ zero64
  unfolding slot
  filled k h = rw h

  -- no slot is above 1
  pub light : (k : ℕ) → Within (slot p i k) 1
  light k = go (ltb k (size p i)) (ltb k (held p i)) refl refl
    where
      dropped : (k : ℕ) → size p i ≤ k → k < held p i → slot p i k ≡ int 0 over int (size p i)
      dropped k h l = slot_of k (int 0) (no_weight c p.recip near R (lead p i) (held p i) ends some starts k (le_trans (le_of_eq (sym size_of_fact)) h) l ∙ none) l

      go : (b d : Bool) → ltb k (size p i) ≡ b → ltb k (held p i) ≡ d → Within (slot p i k) 1
      go true d e f = subst (λ (x : Float). Within x 1) (sym (share k (ltb-true k (size p i) e))) (share_within (int 1) (size p i) (int_within 1 (lit≤ tt)) lines.0 lines.1)
      go false true e f = subst (λ (x : Float). Within x 1) (sym (dropped k (ltb-false k (size p i) e) (ltb-true k (held p i) f))) (share_within (int 0) (size p i) (round_within binary64 0 1 1 (zero-lt-suc 0) (lit≤ tt) zero-le) lines.0 lines.1)
      go false false e f = subst (λ (x : Float). Within x 1) (sym (filled k f ∙ none)) (round_within binary64 0 1 1 (zero-lt-suc 0) (lit≤ tt) zero-le)
