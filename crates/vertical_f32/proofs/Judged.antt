-- From what the tests of `vert_convolution_f32` said to its two clauses. Cited by its proof. Assumes nothing.
use Rattle.std.specs.Prelude.{Result, Ok, Err}
use mathlib.Core.Path.{◌≡◌, refl, sym, ap, ◌∙◌}
use mathlib.Core.Bool.{true, false}
use mathlib.Core.List.{List}
use Prim.Native.Nat.{ℕ, ◌+◌, ◌*◌, ◌/◌, ◌%◌, ◌^◌, ◌<◌}
use native.Mathlib.Nat.{mod-lt, div-lt_iff_lt-mul, div-add-mod'}
use native.Mathlib.Omega.{arith}
use lib.Ieee.{Float, nan, inf, fin}
use lib.ListN.{length, get_or}
use Rattle.refusal.specs.declared.Refusal.TheVariants.{BadSide, DoesNotFit, SampleOutside}
use Rattle.floats.specs.Within.{AtMost}
use Rattle.numbers.specs.Whole.{is_infinite}
use Rattle.windows.specs.Set.{Set, windows}
use Rattle.refusal.specs.declared.Refusal.{Refusal}
use Rattle.vertical.specs.Frame.{frame, output, bad_size, bad_shape}
use Rattle.vertical.specs.F32.{value_f32, infinities, bad_weights, bad_samples, passed_f32, written_f32}
use Rattle.vertical.proofs.Answers.{shaped}
use Rattle.vertical.proofs.Columns.{some_column}
use Rattle.vertical.proofs.Turns.{output_is}
use Rattle.row_f32.specs.Column.{window_value}
use Rattle.vertical_f32.proofs.Values.{value_is}

finite_none : (x : Float) (n : ℕ) → AtMost x n → is_infinite x ≡ false
finite_none nan n h = absurd h
finite_none (inf s) n h = absurd h
finite_none (fin s m e) n h = refl

-- where the value of every window at every column is finite, no sample of the list is infinite
pub all_finite : (value : ℕ → ℕ → Float) (n count : ℕ) (new : List Float) → length new ≡ n * count → ((i : ℕ) → i < n → (j : ℕ) → j < count → get_or new (i * count + j) nan ≡ value i j) → ((i : ℕ) → i < n → (j : ℕ) → j < count → AtMost (value i j) (2 ^ 128)) → (k : ℕ) → k < length new → is_infinite (get_or new k nan) ≡ false
all_finite value n count new long each small k h =
    let l : k < n * count = omega (arith, long) in
    let some : 0 < count = some_column n count k l in
    let i : k / count < n = (div-lt_iff_lt-mul some).1 l in
    let j : k % count < count = mod-lt k some in
    ap (λ (y : ℕ). is_infinite (get_or new y nan)) (sym (div-add-mod' k count)) ∙ ap is_infinite (each (k / count) i (k % count) j)
    ∙ finite_none (value (k / count) (k % count)) (2 ^ 128) (small (k / count) i (k % count) j)

module _ (s : Set Float) (src : List Float) (row first count : ℕ) (old : List Float) where
  -- the answer r with the list `new` is what the two clauses say
  abbrev pub Meets : Result ℕ Refusal → List Float → Type 0
  Meets r new = (r ≡ passed_f32 s src row first count (length old)) × (new ≡ written_f32 s src row first count old)

  pub bad_size_fact : bad_size s.layout.lines (windows s.layout) row ≡ true → Meets (Err BadSide) old
  unfolding passed_f32 written_f32
  bad_size_fact size = (rw size, rw size)

  pub bad_shape_fact : bad_size s.layout.lines (windows s.layout) row ≡ false → bad_shape s.layout (length s.weights) (length src) row first count (length old) ≡ true → Meets (Err DoesNotFit) old
  unfolding passed_f32 written_f32
  bad_shape_fact size shape = (rw (size, shape), rw (size, shape))

  module _ (size : bad_size s.layout.lines (windows s.layout) row ≡ false) (shape : bad_shape s.layout (length s.weights) (length src) row first count (length old) ≡ false) where
    pub bad_weights_fact : bad_weights s ≡ true → Meets (Err SampleOutside) old
    unfolding passed_f32 written_f32
    bad_weights_fact weights = (rw (size, shape, weights), rw (size, shape, weights))

    pub bad_samples_fact : bad_weights s ≡ false → bad_samples s src row first count ≡ true → Meets (Err SampleOutside) old
    unfolding passed_f32 written_f32
    bad_samples_fact weights samples = (rw (size, shape, weights, samples), rw (size, shape, weights, samples))

    pub done : bad_weights s ≡ false → bad_samples s src row first count ≡ false → (new : List Float) → length new ≡ length old → ((i : ℕ) → i < windows s.layout → (j : ℕ) → j < count → get_or new (i * count + j) nan ≡ window_value src row first s.layout.starts s.layout.sizes s.layout.window_size_value s.weights i j) → Meets (Ok (infinities new)) new
    unfolding passed_f32 written_f32
    done weights samples new long each =
        let rooms = (shaped s (length src) row first count (length old) size shape).rooms in
        let is : new ≡ output (value_f32 s (frame nan src row)) (windows s.layout) first count =
        output_is nan (value_f32 s (frame nan src row)) (windows s.layout) first count new (long ∙ rooms) (λ i l j k. each i l j k ∙ value_is s src row first i j) in
        (rw (size, shape, weights, samples) (ap (λ (l : List Float). Ok (infinities l)) is), rw (size, shape, weights, samples) is)
