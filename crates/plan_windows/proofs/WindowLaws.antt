-- What every window of a plan that is not blank keeps, and what a pass asks of it: it is not empty, no larger than the window size, and ends within
-- the image side. And the paper's words on No. 8: where no weight is other than 0 the total is 0. Cited by BuiltLaws. Assumes nothing.
use mathlib.Core.Path.{◌≡◌, refl, sym, ap, ◌∙◌}
use mathlib.Core.Bool.{Bool, true, false, cond, true≢false}
use Prim.Native.Nat.{ℕ, zero, suc, ◌+◌, ◌-◌, ◌≤◌, ◌<◌}
use native.Mathlib.Nat.{add-zero, le_refl, le_trans}
use native.Mathlib.Omega.{arith}
use lib.Ieee.{eq, of_bits}
use Rattle.numbers.specs.Window.{stop}
use Rattle.plans.specs.declared.Plan.{Plan}
use Rattle.line_weights.specs.Weights.{weighs, weighs_from, lead_of, total_of, size_of, up_to}
use Rattle.plan_windows.specs.Lines.{range_start, range_stop, middle, lead, held, total, size, blank}
use Rattle.plans.specs.Inner.{Sound}
use Rattle.plan_windows.specs.Inner.{RowFits}
use Rattle.lists.proofs.FirstLaws.{first_passes}
use Rattle.line_weights.proofs.WeightLaws.{up_le}
use Rattle.plan_windows.proofs.LineLaws.{held_room}

step_pos : (b : Bool) (n r : ℕ) → 0 < r → 0 < cond b (suc n) r
step_pos true n r h = omega arith
step_pos false n r h = h

-- where the first passes, at least one is left
pub up_pos : (t : ℕ → Bool) (n : ℕ) → 0 < n → t 0 ≡ true → 0 < up_to t n
up_pos t zero l h = l
up_pos t (suc zero) l h = rw h (le_refl 1)
up_pos t (suc (suc n)) l h = step_pos (t (suc n)) (suc n) (up_to t (suc n)) (up_pos t (suc n) (omega arith) h)

end_in : (a n k e s : ℕ) → 0 < n → n ≤ k → k ≡ e - a → e ≤ s → a + n ≤ s
end_in a n k e s l m h t = omega arith

pub held_def : (p : Plan) (i : ℕ) → held p i ≡ range_stop p i - lead p i
unfolding held
held_def p i = refl

module _ (p : Plan) (i : ℕ) where
  -- the line at which a window starts weighs
  pub lead_weighs : 0 < held p i → weighs p.filter (middle p i) p.recip (lead p i) ≡ true
  unfolding held lead lead_of
  lead_weighs h = first_passes (weighs p.filter (middle p i) p.recip) (range_start p i) (range_stop p i - range_start p i) (omega arith)

  pub some_size : 0 < held p i → 0 < size p i
  unfolding size size_of
  some_size h =
      up_pos (weighs_from p.filter (middle p i) p.recip (lead p i)) (held p i) h
      (ap (weighs p.filter (middle p i) p.recip) (add-zero (lead p i)) ∙ lead_weighs h)

  -- no weight other than 0: blank
  pub none_blank : (n : ℕ) → held p i ≡ n → n ≡ 0 → blank p i ≡ true
  unfolding total total_of eq of_bits
  none_blank n e z = rw (e, z)

  pub empty_blank : size p i ≡ 0 → blank p i ≡ true
  empty_blank h = go (held p i) refl
    where
      go : (n : ℕ) → held p i ≡ n → blank p i ≡ true
      go zero e = none_blank zero e refl
      go (suc n) e = let l : 0 < held p i = omega arith in let s = some_size l in absurd (omega arith)

  pub stop_side : range_stop p i ≤ p.side
  unfolding stop
  stop_side = omega arith

  pub record Fits : Type 0 where
    pub some : 0 < size p i
    pub room : size p i ≤ p.window
    pub inside : lead p i + size p i ≤ p.side

  pub window_fits : Sound p → i < 8192 → blank p i ≡ false → Fits
  unfolding size size_of
  window_fits ok h b =
      let row : RowFits p i p.window = record {
        room = refl;
        within = ok.within;
        wide = ok.wide;
        narrow = ok.narrow;
        reach = ok.reach;
        centred = ok.centred i h;
      } in
      let few = held_room p i p.window row in
      let le = up_le (weighs_from p.filter (middle p i) p.recip (lead p i)) (held p i) in
      let pos : 0 < size p i = not_empty (size p i) refl in
      record { some = pos; room = le_trans le few; inside = ends (size p i) pos le }
    where
      not_empty : (n : ℕ) → size p i ≡ n → 0 < n
      not_empty zero e = absurd (true≢false (sym (empty_blank e) ∙ b))
      not_empty (suc n) e = omega arith

      ends : (n : ℕ) → 0 < n → n ≤ held p i → lead p i + n ≤ p.side
      ends n l m = end_in (lead p i) n (held p i) (range_stop p i) p.side l m (held_def p i) stop_side
