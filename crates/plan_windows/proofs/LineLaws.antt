-- One window: what the functions that make it gave is what Lines.antt says, and its weights have room in a row. Cited by the proofs of `one_window` and
-- `all_windows`, and by WindowLaws. Assumes nothing.
use mathlib.Core.Path.{◌≡◌, refl, ap, ◌∙◌}
use mathlib.Core.Bool.{Bool, true, false, not}
use mathlib.Core.List.{List}
use Prim.Native.Nat.{ℕ, ◌-◌, ◌≤◌, ◌<◌}
use native.Mathlib.Nat.{zero-add, le_refl}
use native.Mathlib.Omega.{arith}
use lib.Dec.{ltb}
use lib.ListN.{length, get_or}
use lib.Ieee.{Float, nan, eq}
use borrow.Author.Tests.{ltb-true, lt-ltb, le-ltb}
use Rattle.lists.specs.Tab.{tab, front}
use Rattle.lists.proofs.TabLaws.{tab_ext, front_below, length_front}
use Rattle.numbers.proofs.Window.{range_fits_window}
use Rattle.floats.specs.Doubles.{zero64}
use Rattle.line_weights.specs.Weights.{weighs, lead_of, weight_from, total_of, up_to, weighs_from, size_of, share_of}
use Rattle.line_weights.specs.Weights.{weighty, share_at}
use Rattle.plan_windows.specs.Inner.{RowFits, span_of}
use Rattle.plan_windows.specs.Lines.{first_blank, or_zero, range_start, range_stop, middle, lead, held, total, size, slot}
use Rattle.plans.specs.Plan.{centre}
use Rattle.plans.specs.declared.Plan.{Plan}
use Rattle.plan_windows.specs.declared.Span.{Span}
use Rattle.lists.proofs.FirstLaws.{first_ge}
use Rattle.line_weights.proofs.WeightLaws.{up_ext}

-- a range never holds more lines than the window size, and leading zeros dropped leave fewer
pub held_room : (p : Plan) (i row : ℕ) → RowFits p i row → held p i ≤ row
unfolding held lead lead_of
held_room p i row ok =
    let w = range_fits_window p.side (centre p i) p.radius ok.centred ok.reach in
    let g = first_ge (weighs p.filter (middle p i) p.recip) (range_start p i) (range_stop p i - range_start p i) in
    omega (arith, w, g, ok.room, ok.wide)

module _ (p : Plan) (i : ℕ) where
  pub lead_is : (s e a : ℕ) → s ≡ range_start p i → e ≡ range_stop p i → a ≡ lead_of p.filter (middle p i) p.recip s e → a ≡ lead p i
  unfolding lead
  lead_is s e a es ee h =
      h ∙ ap (λ (x : ℕ). lead_of p.filter (middle p i) p.recip x e) es
      ∙ ap (λ (x : ℕ). lead_of p.filter (middle p i) p.recip (range_start p i) x) ee

  pub held_is : (e a n : ℕ) → e ≡ range_stop p i → a ≡ lead p i → n ≡ e - a → n ≡ held p i
  unfolding held
  held_is e a n ee ea h = h ∙ rw (ee, ea)

  pub total_is : (a n : ℕ) (t : Float) → a ≡ lead p i → n ≡ held p i → t ≡ total_of p.filter (middle p i) p.recip a n → t ≡ total p i
  unfolding total
  total_is a n t ea en h = h ∙ rw (ea, en)

  -- a slot that holds a line's weight
  at_slot : (n a : ℕ) (row : List Float) → (k : ℕ) → k < n → get_or (front n (weight_from p.filter (middle p i) p.recip a) row) k nan ≡ weight_from p.filter (middle p i) p.recip a k
  at_slot n a row k h = front_below n (weight_from p.filter (middle p i) p.recip a) row k nan h

  pub size_is : (a n z : ℕ) (row row1 : List Float) → a ≡ lead p i → n ≡ held p i → row1 ≡ front n (weight_from p.filter (middle p i) p.recip a) row → z ≡ up_to (weighty row1) n → z ≡ size p i
  unfolding size size_of
  size_is a n z row row1 ea en er h =
      h ∙ up_ext (weighty row1) (weighs_from p.filter (middle p i) p.recip a) n
      (λ k l. ap (λ (w : Float). not (eq w zero64)) (ap (λ (r : List Float). get_or r k nan) er ∙ at_slot n a row k l))
      ∙ ap (λ (x : ℕ). up_to (weighs_from p.filter (middle p i) p.recip x) n) ea
      ∙ ap (up_to (weighs_from p.filter (middle p i) p.recip (lead p i))) en

  -- equal weights have equal shares, and past the weights any two have
  share_ext : (n : ℕ) (t : Float) (k : ℕ) (v w : Float) → (k < n → v ≡ w) → share_of n t k v ≡ share_of n t k w
  share_ext n t k v w h = go (ltb k n) refl
    where
      go : (b : Bool) → ltb k n ≡ b → share_of n t k v ≡ share_of n t k w
      go true e = ap (share_of n t k) (h (ltb-true k n e))
      go false e = rw e

  pub row_is : (a n : ℕ) (t : Float) (row row1 row2 : List Float) → RowFits p i (length row) → a ≡ lead p i → n ≡ held p i → t ≡ total p i → row1 ≡ front n (weight_from p.filter (middle p i) p.recip a) row → row2 ≡ tab 0 (length row1) (share_at n t row1) → row2 ≡ tab 0 p.window (slot p i)
  unfolding slot
  row_is a n t row row1 row2 ok ea en et er h =
      let room : n ≤ length row = omega (arith, held_room p i (length row) ok) in
      let long : length row1 ≡ p.window =
      ap length er ∙ length_front n (weight_from p.filter (middle p i) p.recip a) row room ∙ ok.room in
      h ∙ ap (λ (x : ℕ). tab 0 x (share_at n t row1)) long
      ∙ tab_ext 0 p.window (share_at n t row1) (λ k. share_of n t k (weight_from p.filter (middle p i) p.recip a k))
      (λ k l. rw zero-add (share_ext n t k (get_or row1 k nan) (weight_from p.filter (middle p i) p.recip a k) (λ m. ap (λ (r : List Float). get_or r k nan) er ∙ at_slot n a row k m)))
      ∙ rw (ea, en, et)

  pub span_is : (a z : ℕ) (t : Float) → a ≡ lead p i → z ≡ size p i → t ≡ total p i → ◌≡◌ {A = Span} (record { window = record { start = record { 0 = a }; size = z }; total = t }) (span_of p i)
  span_is a z t ea ez et = rw (ea, ez, et)

-- which of the two a plan with a blank line, and one without, leaves
pub or_zero_blank : {A : Type 0} (p : Plan) (k : ℕ) (x y : A) → first_blank p ≡ k → k < p.output → x ≡ or_zero p x y
unfolding or_zero
or_zero_blank p k x y e h = rw (e, lt-ltb _ _ h)

pub or_zero_done : {A : Type 0} (p : Plan) (x y : A) → first_blank p ≡ p.output → y ≡ or_zero p x y
unfolding or_zero
or_zero_done p x y e = rw (e, le-ltb _ _ (le_refl p.output))
