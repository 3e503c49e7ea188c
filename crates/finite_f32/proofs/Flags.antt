-- The flags of No. 12 in `vertical` and what the scans find: `bad_weights` fails exactly when every weight in use is at most 2^64 in size, `bad_samples` exactly when
-- every sample in use is finite. Cited by `Judged`. Assumes nothing.
use mathlib.Core.Path.{◌≡◌, refl, sym, ap, ◌∙◌, subst}
use mathlib.Core.Bool.{Bool, true, false, not, ◌||◌}
use mathlib.Core.List.{List}
use Prim.Native.Nat.{ℕ, ◌+◌, ◌*◌, ◌^◌}
use native.Mathlib.Nat.{add_assoc, mul-one}
use lib.Dec.{T, ltb}
use lib.IntN.{ℤ, pos}
use lib.ListN.{get_or}
use lib.Ieee.{Float, nan, inf, fin, binary64, up, down, lt, round, of_bits, of_int}
use lib.Ieee.Scale.{finite}
use borrow.Author.Tests.{ltb-false, le-ltb}
use Rattle.lists.specs.Tab.{any}
use Rattle.lists.proofs.AnyLaws.{any_none, none_any}
use Rattle.lists.proofs.BoolLaws.{never}
use Rattle.floats.specs.Doubles.{is_finite}
use Rattle.floats.specs.Within.{AtMost}
use Rattle.floats.proofs.AtMost.{finite_at}
use Rattle.numbers.specs.Whole.{abs}
use Rattle.windows.specs.Set.{Set, windows, size, start}
use Rattle.vertical.specs.F32.{bad_weight, bad_weights, bad_line, bad_samples}
use Rattle.finite_f32.specs.Scan.{FiniteSamples, SmallSamples, SmallWeights}
use Rattle.finite_f32.proofs.Decided.{decided}

-- ---- of one number

limit_is : of_int binary64 (pos 18446744073709551616) ≡ of_bits binary64 0x43f0000000000000
unfolding of_int of_bits round
limit_is = refl

over : (m : ℕ) (e : ℤ) → lt (of_bits binary64 0x43f0000000000000) (fin false m e) ≡ ltb (2 ^ 64 * down e) (m * up e * 1)
unfolding lt of_bits
over m e = refl

weight_small : (w : Float) → not (is_finite w) || lt (of_int binary64 (pos 18446744073709551616)) (abs w) ≡ false → AtMost w (2 ^ 64)
unfolding abs
weight_small nan h = never h
weight_small (inf s) h = never h
weight_small (fin s m e) h = rw mul-one at (ltb-false (2 ^ 64 * down e) (m * up e * 1) (sym (over m e) ∙ ap (λ (x : Float). lt x (fin false m e)) (sym limit_is) ∙ h))

small_weight : (w : Float) → AtMost w (2 ^ 64) → not (is_finite w) || lt (of_int binary64 (pos 18446744073709551616)) (abs w) ≡ false
unfolding abs
small_weight nan h = absurd h
small_weight (inf s) h = absurd h
small_weight (fin s m e) h =
    ap (λ (x : Float). lt x (fin false m e)) limit_is ∙ over m e ∙ le-ltb (2 ^ 64 * down e) (m * up e * 1) (rw mul-one h)

sample_finite : (x : Float) → not (is_finite x) ≡ false → T (finite x)
sample_finite nan h = never h
sample_finite (inf s) h = never h
sample_finite (fin s m e) h = tt

finite_sample : (x : Float) → T (finite x) → not (is_finite x) ≡ false
finite_sample nan h = absurd h
finite_sample (inf s) h = absurd h
finite_sample (fin s m e) h = refl

-- ---- of a set

module _ (s : Set Float) where
  pub weights_good : bad_weights s ≡ false → SmallWeights s.layout.starts s.layout.sizes s.layout.window_size_value s.weights
  weights_good h i l k m =
      weight_small (get_or s.weights (i * s.layout.window_size_value + k) nan)
      (any_none (bad_weight s i) (size s.layout i) (any_none (λ i. any (size s.layout i) (bad_weight s i)) (windows s.layout) h i l) k m)

  pub good_weights : SmallWeights s.layout.starts s.layout.sizes s.layout.window_size_value s.weights → bad_weights s ≡ false
  good_weights w =
      none_any (λ i. any (size s.layout i) (bad_weight s i)) (windows s.layout)
      (λ i l. none_any (bad_weight s i) (size s.layout i) (λ k m. small_weight (get_or s.weights (i * s.layout.window_size_value + k) nan) (w i l k m)))

  -- the scan of the weights says what the flag says
  pub weights_said : (r : Bool) → (r ≡ true → SmallWeights s.layout.starts s.layout.sizes s.layout.window_size_value s.weights) → (r ≡ false → SmallWeights s.layout.starts s.layout.sizes s.layout.window_size_value s.weights → ⊥) → r ≡ not (bad_weights s)
  weights_said r is isnt = decided r (bad_weights s) is isnt good_weights weights_good

  module _ (src : List Float) (row first count : ℕ) where
    place : (i k j : ℕ) → (start s.layout i + k) * row + (first + j) ≡ (start s.layout i + k) * row + first + j
    place i k j = sym (add_assoc ((start s.layout i + k) * row) first j)

    pub samples_good : bad_samples s src row first count ≡ false → FiniteSamples src row first count s.layout.starts s.layout.sizes
    samples_good h i l k m j u =
        subst (λ (y : ℕ). T (finite (get_or src y nan))) (place i k j)
        (sample_finite (get_or src ((start s.layout i + k) * row + (first + j)) nan)
        (any_none (λ j. not (is_finite (get_or src ((start s.layout i + k) * row + (first + j)) nan))) count
        (any_none (bad_line s src row first count i) (size s.layout i) (any_none (λ i. any (size s.layout i) (bad_line s src row first count i)) (windows s.layout) h i l) k m) j u))

    pub good_samples : FiniteSamples src row first count s.layout.starts s.layout.sizes → bad_samples s src row first count ≡ false
    good_samples w =
        none_any (λ i. any (size s.layout i) (bad_line s src row first count i)) (windows s.layout)
        (λ i l. none_any (bad_line s src row first count i) (size s.layout i)
        (λ k m. none_any (λ j. not (is_finite (get_or src ((start s.layout i + k) * row + (first + j)) nan))) count
        (λ j u. finite_sample (get_or src ((start s.layout i + k) * row + (first + j)) nan) (subst (λ (y : ℕ). T (finite (get_or src y nan))) (sym (place i k j)) (w i l k m j u)))))

    -- the scan of the samples says what the flag says
    pub samples_said : (r : Bool) → (r ≡ true → SmallSamples src row first count s.layout.starts s.layout.sizes) → (r ≡ false → FiniteSamples src row first count s.layout.starts s.layout.sizes → ⊥) → r ≡ not (bad_samples s src row first count)
    samples_said r is isnt =
        decided r (bad_samples s src row first count)
        (λ e i l k m j u. finite_at (get_or src ((start s.layout i + k) * row + first + j) nan) (2 ^ 128) (is e i l k m j u)) isnt good_samples samples_good
