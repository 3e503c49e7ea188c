-- The proof of `NeverNegative`: every weight of a Box or Bilinear line has its sign clear, so have their total and their shares; the normaliser's product, rounding and cast keep it so. Nothing else is
-- asked of the request: the bounds on the lists only say which slot a weight stands in. Assumes nothing.
use Rattle.std.specs.Prelude.{Result, Ok, Some}
use mathlib.Core.Path.{◌≡◌, refl, sym, ap, ◌∙◌, subst}
use mathlib.Core.Logic.{◌⊎◌, inl, inr}
use mathlib.Core.Bool.{Bool, true, false, cond}
use mathlib.Core.List.{List}
use Prim.Native.Nat.{ℕ, zero, suc, ◌+◌, ◌*◌, ◌/◌, ◌%◌, ◌^◌, ◌<◌}
use native.Mathlib.Nat.{le_of_eq, lt_of_lt_of_le}
use lib.Arith.{digits_lt}
use lib.Dec.{ltb}
use lib.IntN.{ℤ, pos}
use lib.Ieee.{Float, nan, binary64}
use lib.ListN.{length, get_or, take}
use lib.Seq.{get_or-take}
use Rattle.lists.specs.Tab.{turns, front}
use Rattle.lists.proofs.AnyLaws.{none_any}
use Rattle.lists.proofs.TabLaws.{front_below}
use Rattle.floats.specs.Doubles.{zero64, ◌times◌}
use Rattle.numbers.specs.Whole.{round_away, away}
use Rattle.filters.specs.declared.FilterType.{FilterType}
use Rattle.filters.specs.declared.FilterType.TheVariants.{Box, Bilinear}
use Rattle.filters.specs.declared.Filter.{Filter}
use Rattle.filters.specs.declared.Filter.TheVariants as filter
use Rattle.filters.specs.Names.{picked_of}
use Rattle.windows.specs.declared.Store.{Store}
use Rattle.windows.specs.Set.{Set, windows, size, weight, in_use_value}
use Rattle.windows.specs.Store.{store16, store32}
use Rattle.line_weights.specs.Weights.{line_weight_value, add_to, total_of, weight_from}
use Rattle.plans.specs.declared.Request.{Request}
use Rattle.plans.specs.declared.Plan.{Plan}
use Rattle.plan_windows.specs.Lines.{middle, lead, held, total, slot}
use Rattle.coefficients.specs.Answer.{window_of}
use Rattle.coefficients.specs.Request.{built_of}
use Rattle.weight_precision.specs.Precision.{power, scaled, integer}
use Rattle.weight_slots.specs.Slots.{slot_at}
use Rattle.refusal.specs.declared.Refusal.{Refusal}
use Rattle.normalizer.specs.Answer.{written_by, written_of, precision_in}
use Rattle.normalizer.specs.Left.{answer_for, left_set}
use Rattle.normalizer.proofs.Judged.{Ready, ready}
use Rattle.orders.specs.Negative.{negative}
use Rattle.promises.specs.BoxKeepsFlat.{built, fresh}
use Rattle.promises.proofs.Accepted.{built_done, normalized_done}
use Rattle.promises.proofs.BoxSet as set
use Rattle.ringing.specs.NoRinging.{NoneNegative}
use Rattle.ringing.specs.NeverNegative.{NeverNegative, BuiltNotDarker, BuiltNotDarkerU8, stored}
use Rattle.ringing.proofs.Clear.{Clear, either, zero_clear, int_clear, add_clear, mul_clear, div_clear, whole_clear, cast_clear, value_clear}
use Rattle.ringing.proofs.Passes.{frame_not_darker, frame_not_darker_u8}

-- ---- the builder
module _ (f : Filter) (smooth : (f ≡ filter.Box) ⊎ (f ≡ filter.Bilinear)) (c recip : Float) where
  line_clear : (x : ℕ) → Clear (line_weight_value f c recip x)
  unfolding line_weight_value
  line_clear x = value_clear f _ smooth

  total_clear : (a n : ℕ) → Clear (total_of f c recip a n)
  unfolding total_of
  total_clear a n = go n
    where
      go : (n : ℕ) → Clear (turns (add_to f c recip a) zero64 n)
      go zero = zero_clear
      go (suc n) = add_clear binary64 (turns (add_to f c recip a) zero64 n) (weight_from f c recip a n) (go n) (line_clear (a + n))

-- every slot of a plan, in use or not
slot_clear : (p : Plan) → (p.filter ≡ filter.Box) ⊎ (p.filter ≡ filter.Bilinear) → (i k : ℕ) → Clear (slot p i k)
unfolding slot total
slot_clear p smooth i k =
    either (ltb k (held p i)) _ zero64
    (div_clear binary64 (weight_from p.filter (middle p i) p.recip (lead p i) k) (total p i)
    (line_clear p.filter smooth (middle p i) p.recip (lead p i + k)) (total_clear p.filter smooth (middle p i) p.recip (lead p i) (held p i)))
    zero_clear

-- the two names pick the two filters
picked_smooth : (kind : FilterType) (f : Filter) → (kind ≡ Box) ⊎ (kind ≡ Bilinear) → picked_of kind ≡ Some f → (f ≡ filter.Box) ⊎ (f ≡ filter.Bilinear)
picked_smooth kind f (inl e) h = inl (same (rw e at h))
  where
    same : Some filter.Box ≡ Some f → f ≡ filter.Box
    same k = cc
picked_smooth kind f (inr e) h = inr (same (rw e at h))
  where
    same : Some filter.Bilinear ≡ Some f → f ≡ filter.Bilinear
    same k = cc

module _ (q : Request) (ws : List Float) (ss zs : List ℕ) (w : ℕ) (smooth : (q.filter ≡ Box) ⊎ (q.filter ≡ Bilinear)) (done : built_of q (length ws) (length ss) (length zs) ≡ Ok w) where
  built_clear : (x : ℕ) → x < length (set.weights q ws ss zs w done) → Clear (get_or (set.weights q ws ss zs w done) x nan)
  built_clear x h =
      let p = set.plan q ws ss zs w done in
      subst Clear (sym (set.weight_at q ws ss zs w done x (lt_of_lt_of_le h (le_of_eq (set.long_weights q ws ss zs w done)))))
      (slot_clear p (picked_smooth q.filter p.filter smooth (set.kept q ws ss zs w done).filter_kept) (x / p.window) (x % p.window))

-- ---- the normaliser
integer_clear : (store : Store) (p : ℕ) (w : Float) → Clear w → negative (integer store p w) ≡ false
unfolding integer scaled
integer_clear store p w h = cast_clear store.limit (round_away binary64 (w times power p)) (whole_clear away binary64 (w times power p) (mul_clear binary64 w (power p) h (int_clear (2 ^ p))))

module _ (store : Store) (s : Set Float) (out excesses : List ℤ) (p : ℕ) (normal : answer_for store s out excesses ≡ Ok p)
    (clear : (x : ℕ) → x < length s.weights → Clear (get_or s.weights x nan)) where
  abbrev wide : ℕ
  wide = s.layout.window_size_value

  got : Ready store s (length out) (length excesses) p
  got = ready store s (length out) (length excesses) p normal

  slot_natural : (x : ℕ) → x < length s.weights → negative (slot_at store p wide s.weights s.layout.sizes x) ≡ false
  slot_natural x h = go (in_use_value wide s.layout.sizes x)
    where
      go : (t : Bool) → negative (cond t (integer store p (get_or s.weights x nan)) (pos 0)) ≡ false
      go true = integer_clear store p (get_or s.weights x nan) (clear x h)
      go false = refl

  stored_at : (x : ℕ) → x < windows s.layout * wide → get_or (left_set store s out excesses).set.weights x (pos 0) ≡ slot_at store p wide s.weights s.layout.sizes x
  unfolding written_of written_by
  stored_at x h =
      let n = windows s.layout * wide in
      ap (λ (a : Result ℕ Refusal). get_or (take n (written_by store s a out)) x (pos 0)) normal
      ∙ get_or-take n (front n (slot_at store p wide s.weights s.layout.sizes) out) x (pos 0) h
      ∙ front_below n (slot_at store p wide s.weights s.layout.sizes) out x (pos 0) h

  none_negative : (i : ℕ) → i < windows s.layout → NoneNegative (left_set store s out excesses) i
  none_negative i h =
      none_any (λ k. negative (weight (left_set store s out excesses).set (pos 0) i k)) (size s.layout i)
      (λ k l.
      let x = i * wide + k in
      let there : x < windows s.layout * wide = digits_lt h (lt_of_lt_of_le l (got.fits.small i h)) in
      ap negative (stored_at x there) ∙ slot_natural x (lt_of_lt_of_le there (le_of_eq (sym got.fits.full))))

pub never_negative : NeverNegative
never_negative store q lines ws ss zs out excesses ok =
    let w = window_of (built q lines ws ss zs out excesses) in
    let s = fresh q lines ws ss zs out excesses in
    let answer = answer_for store s out excesses in
    none_negative store s out excesses (precision_in answer) (normalized_done answer ok.2)
    (built_clear q ws ss zs w ok.0 (built_done (built q lines ws ss zs out excesses) ok.1))

pub built_not_darker : BuiltNotDarker
built_not_darker q lines ws ss zs out excesses ok a b row first count old old₂ done too less =
    let s = stored store32 q lines ws ss zs out excesses in
    frame_not_darker s a b row first count old old₂ done too less (never_negative store32 q lines ws ss zs out excesses ok)

pub built_not_darker_u8 : BuiltNotDarkerU8
built_not_darker_u8 q lines ws ss zs out excesses ok a b row first count old old₂ done too less =
    let s = stored store16 q lines ws ss zs out excesses in
    frame_not_darker_u8 s a b row first count old old₂ done too less (never_negative store16 q lines ws ss zs out excesses ok)
