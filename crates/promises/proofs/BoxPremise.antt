-- A Box set that was built and stored meets the premise of the flat frame at every window. The builder's half says that a window is n slots of 1 / n (BoxSet); no weight is above 1, so the precision is 30 to 45
-- (BoxPrecision); no weight in use left its type, so each becomes the same integer K, and `box` gives n K near enough to 2^P. Assumes nothing.
use Rattle.std.specs.Prelude.{Result, Ok}
use mathlib.Core.Path.{◌≡◌, refl, sym, ap, ◌∙◌, subst}
use mathlib.Core.Bool.{Bool, true, false, cond, not, ◌&&◌}
use mathlib.Core.List.{List}
use Prim.Native.Nat.{ℕ, zero, suc, ◌+◌, ◌*◌, ◌^◌, ◌≤◌, ◌<◌}
use native.Mathlib.Nat.{le_trans, le_of_eq, le_of_lt, lt_of_lt_of_le, mul-zero, mul-suc, one-mul, zero-lt-suc}
use native.Mathlib.Omega.{arith}
use lib.Arith.{digits_lt, digits_div, digits_mod}
use lib.Dec.{lit≤}
use lib.Pow.{pow_mono}
use lib.IntN.{ℤ, pos}
use lib.Ieee.{Float, nan, binary64, of_int, neg, lt, to_signed}
use lib.Ieee.Back.{positive_back}
use lib.Ieee.Positive.{num, den, den_pos}
use lib.ListN.{length, get_or, take}
use lib.Seq.{get_or-take}
use borrow.Author.Tests.{lt-ltb, ltb-true}
use Rattle.lists.specs.Tab.{front}
use Rattle.lists.proofs.TabLaws.{front_below}
use Rattle.lists.proofs.BoolLaws.{never}
use Rattle.lists.proofs.AnyLaws.{any_none}
use Rattle.integers.specs.Nearest.{nearest}
use Rattle.integers.specs.Sums.{sum}
use Rattle.integers.proofs.Parts.{distance_pos}
use Rattle.floats.specs.Within.{Within}
use Rattle.floats.proofs.Value.{lt_values}
use Rattle.floats.proofs.Within.{within_value}
use Rattle.floats.proofs.Integers.{int, int_value, within_mul, within_div_int, passes_float, int_within}
use Rattle.numbers.specs.Whole.{round_away}
use Rattle.numbers.proofs.Sizes.{half_le}
use Rattle.windows.specs.Set.{Set, set_of, Stored, stored_of, windows, in_use_value, distance_of}
use Rattle.windows.specs.Store.{store32}
use Rattle.excesses.proofs.SameExcess.{sum_ext}
use Rattle.refusal.specs.declared.Refusal.{Refusal}
use Rattle.weight_precision.specs.Precision.{power, scaled, integer}
use Rattle.weight_precision.specs.Weights.{holds, leaves}
use Rattle.weight_slots.specs.Slots.{slot_at}
use Rattle.normalizer.specs.Answer.{written_by, written_of, excesses_of}
use Rattle.normalizer.specs.Left.{answer_for}
use Rattle.normalizer.proofs.Judged.{Ready, ready}
use Rattle.filters.specs.declared.FilterType.TheVariants.{Box}
use Rattle.plans.specs.declared.Request.{Request}
use Rattle.coefficients.specs.Request.{built_of}
use Rattle.plan_windows.specs.Lines.{size}
use Rattle.promises.specs.FlatFrames.{NearOne}
use Rattle.promises.specs.BoxKeepsFlat.{built_set}
use Rattle.promises.proofs.Box.{weight, box, scaled as product}
use Rattle.promises.proofs.BoxSet as set
use Rattle.promises.proofs.BoxPrecision.{rounded_is, largest_within, precise}

-- a weight in use that does not leave its type is below 2^limit
under : (a b c : Bool) → a ≡ true → a && not (b && c) ≡ false → c ≡ true
under true true true h e = refl
under true true false h e = never e
under true false c h e = never e
under false b c h e = never (sym h)

-- ---- the integer that stands for 1 / n
sum_equal : (K n : ℕ) → sum (λ k. pos K) n ≡ pos (K * n)
unfolding sum
sum_equal K zero = ap pos (sym (mul-zero K))
sum_equal K (suc n) = rw (sum_equal K n, mul-suc)

-- a size that is not negative, rounded and cast
away_cast : (x : Float) (h n : ℕ) → h ≤ 53 → Within x n → nearest (num x) (den x) < 2 ^ h → to_signed h (round_away binary64 x) ≡ pos (nearest (num x) (den x))
unfolding of_int
away_cast x h n l w k = ap (to_signed h) (rounded_is x n w) ∙ cast (nearest (num x) (den x)) k
  where
    cast : (N : ℕ) → N < 2 ^ h → to_signed h (int N) ≡ pos N
    cast N k = (positive_back binary64 h N (passes_float N (le_trans (le_of_lt k) (pow_mono l))) k).1

module _ (n P : ℕ) (some : 0 < n) (many : n ≤ 8192) (high : P ≤ 45) where
  abbrev each : ℕ
  each = nearest (num (product n P)) (den (product n P))

  within : Within (product n P) (1 * 2 ^ P)
  within =
      let e : 2 ^ P ≤ 2 ^ 45 = pow_mono high in
      within_mul (weight n) (int (2 ^ P)) 1 (2 ^ P)
      (within_div_int (int 1) 1 n (int_within 1 (lit≤ tt)) some (le_trans many (lit≤ tt)) (lit≤ tt))
      (int_within (2 ^ P) (le_trans e (lit≤ tt))) (omega arith)

  scaled_is : scaled P (weight n) ≡ int each
  unfolding scaled of_int
  scaled_is = rounded_is (product n P) (1 * 2 ^ P) within

  below_limit : lt (scaled P (weight n)) (power 31) ≡ true → each < 2 ^ 31
  unfolding of_int
  below_limit h =
      let few : each ≤ 1 * 2 ^ P = half_le (num (product n P)) (den (product n P)) (den_pos (product n P)) (1 * 2 ^ P) (within_value (product n P) (1 * 2 ^ P) within).1 in
      let e : 2 ^ P ≤ 2 ^ 45 = pow_mono high in
      let small : each ≤ 2 ^ 53 = le_trans few (le_trans (le_of_eq (one-mul (2 ^ P))) (le_trans e (lit≤ tt))) in
      let l : each * 1 < 2 ^ 31 * 1 =
      ltb-true (each * 1) (2 ^ 31 * 1)
      (sym (lt_values (int each) (int (2 ^ 31)) false false each 1 (2 ^ 31) 1 (zero-lt-suc 0) (zero-lt-suc 0) (int_value each small) (int_value (2 ^ 31) (lit≤ tt)))
      ∙ ap (λ (z : Float). lt z (int (2 ^ 31))) (sym scaled_is) ∙ h) in
      omega arith

  integer_is : each < 2 ^ 31 → integer store32 P (weight n) ≡ pos each
  unfolding integer scaled of_int
  integer_is l = away_cast (product n P) 31 (1 * 2 ^ P) (lit≤ tt) within l

-- ---- a Box set that the builder and the 32-bit normaliser accept
module _ (q : Request) (lines : ℕ) (ws : List Float) (ss zs : List ℕ) (w : ℕ) (out excesses : List ℤ) (P : ℕ)
    (box-asked : q.filter ≡ Box) (built : built_of q (length ws) (length ss) (length zs) ≡ Ok w)
    (normal : answer_for store32 (built_set q lines ws ss zs w) out excesses ≡ Ok P) where
  abbrev s : Set Float
  s = built_set q lines ws ss zs w

  -- what the normaliser leaves of it
  abbrev held : Stored
  held =
      stored_of (set_of s.layout (take (windows s.layout * w) (written_of store32 s (length excesses) out))) P (take (windows s.layout) (excesses_of store32 s (length out) excesses))

  got : Ready store32 s (length out) (length excesses) P
  got = ready store32 s (length out) (length excesses) P normal

  -- the precision
  exact : (30 ≤ P) × (P ≤ 45)
  exact =
      let top = largest_within s.weights 1 (set.none_above q ws ss zs w built box-asked) in
      subst (λ (p : ℕ). (30 ≤ p) × (p ≤ 45)) (sym got.found) (precise s.weights top)

  module _ (i : ℕ) (h : i < q.output) where
    abbrev n : ℕ
    n = size (set.plan q ws ss zs w built) i

    some : 0 < n
    some = (set.some_lines q ws ss zs w built box-asked i h).0

    many : n ≤ 8192
    many = (set.some_lines q ws ss zs w built box-asked i h).1

    size_is : get_or s.layout.sizes i 0 ≡ n
    size_is = set.size_at q ws ss zs w built i h

    -- a line of the window: its slot, and that it is in use
    in_row : (k : ℕ) → k < n → k < w
    in_row k l = lt_of_lt_of_le l (set.in_window q ws ss zs w built box-asked i h)

    used : (k : ℕ) → k < n → in_use_value w s.layout.sizes (i * w + k) ≡ true
    used k l =
        let r = in_row k l in
        rw (digits_mod i r, digits_div i r, size_is) (lt-ltb k n l)

    share : (k : ℕ) → k < n → get_or s.weights (i * w + k) nan ≡ weight n
    share k l = set.share_at q ws ss zs w built box-asked i h k l

    long : windows s.layout ≡ q.output
    long = set.long_starts q ws ss zs w built

    place : (k : ℕ) → k < n → i * w + k < q.output * w
    place k l = digits_lt h (in_row k l)

    -- the weight fits its type
    fits : each n P some many exact.1 < 2 ^ 31
    fits =
        let x = i * w + 0 in
        let there : x < length s.weights = lt_of_lt_of_le (place 0 some) (le_of_eq (sym (set.long_weights q ws ss zs w built))) in
        let kept : in_use_value w s.layout.sizes x && not (holds store32 (scaled P (weight n))) ≡ false =
        subst (λ (v : Float). in_use_value w s.layout.sizes x && not (holds store32 (scaled P v)) ≡ false) (share 0 some) (any_none (leaves store32 P w s.weights s.layout.sizes) (length s.weights) got.inside x there) in
        below_limit n P some many exact.1
        (under (in_use_value w s.layout.sizes x) (not (lt (scaled P (weight n)) (neg (power 31)))) (lt (scaled P (weight n)) (power 31)) (used 0 some) kept)

    -- every slot in use of the stored set holds that integer
    stored_at : (k : ℕ) → k < n → get_or held.set.weights (i * w + k) (pos 0) ≡ pos (each n P some many exact.1)
    unfolding written_of written_by
    stored_at k l =
        let x = i * w + k in
        let there : x < windows s.layout * w = lt_of_lt_of_le (place k l) (le_of_eq (ap (λ (m : ℕ). m * w) (sym long))) in
        ap (λ (a : Result ℕ Refusal). get_or (take (windows s.layout * w) (written_by store32 s a out)) x (pos 0)) normal
        ∙ get_or-take (windows s.layout * w) (front (windows s.layout * w) (slot_at store32 P w s.weights s.layout.sizes) out) x (pos 0) there
        ∙ front_below (windows s.layout * w) (slot_at store32 P w s.weights s.layout.sizes) out x (pos 0) there
        ∙ ap (λ (t : Bool). cond t (integer store32 P (get_or s.weights x nan)) (pos 0)) (used k l)
        ∙ ap (integer store32 P) (share k l)
        ∙ integer_is n P some many exact.1 fits

    pub near : NearOne held i
    near =
        let K = each n P some many exact.1 in
        let all : sum (λ k. get_or held.set.weights (i * w + k) (pos 0)) n ≡ pos (K * n) =
        sum_ext (λ k. get_or held.set.weights (i * w + k) (pos 0)) (λ k. pos K) n stored_at ∙ sum_equal K n in
        lt-ltb (2 * 65535 * distance_of held i) (2 ^ held.precision) (rw (size_is, all, distance_pos (K * n) (2 ^ P)) (box n P some many exact.0 exact.1))
