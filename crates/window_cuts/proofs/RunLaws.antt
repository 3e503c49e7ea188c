-- What a run of windows takes over from its set: starts, sizes, weights, excesses, that it fits, and the value of a window. Cited by the cuts by windows. Assumes nothing.
use mathlib.Core.Path.{◌≡◌, refl, sym, ap, ◌∙◌}
use mathlib.Core.Bool.{false, ◌||◌}
use mathlib.Core.List.{List}
use Prim.Native.Nat.{ℕ, ◌+◌, ◌*◌, ◌≤◌, ◌<◌}
use native.Mathlib.Nat.{add-mul, mul-le-mul_right}
use native.Mathlib.Omega.{arith}
use lib.Arith.{digits_lt}
use lib.IntN.{pos}
use lib.ListN.{length, get_or, drop, length-drop}
use lib.Seq.{get_or-take, get_or-drop, length-take-le}
use borrow.Author.Tests.{le-ltb, eq-eqb}
use Rattle.lists.specs.Ranges.{outside}
use Rattle.lists.proofs.AnyLaws.{none_any}
use Rattle.lists.proofs.BoolLaws.{or_left, or_right}
use Rattle.integers.proofs.Sums.{total_ext}
use Rattle.windows.specs.declared.Store.{Store}
use Rattle.windows.specs.Set.{Stored, windows, start, size, weight, sample, excess_of}
use Rattle.windows.specs.Store.{bad_precision}
use Rattle.windows.specs.Fit.{bad_at, bad_set, bad_excesses, bad_stored, Fits}
use Rattle.excesses.proofs.RightLaws.{right_count, right_excess, right_excesses, judged_excesses}
use Rattle.excesses.proofs.SameExcess.{excess_ext}
use Rattle.vertical.specs.U16.{value_at}
use Rattle.vertical.proofs.Answers.{Tests, tests_shaped}
use Rattle.window_cuts.specs.Run.{run, run_of}

pub get_d_run : {A : Type 0} (a n : ℕ) (l : List A) (i : ℕ) (d : A) → i < n → get_or (run a n l) i d ≡ get_or l (a + i) d
get_d_run a n l i d h = get_or-take n (drop a l) i d h ∙ get_or-drop a l i d

pub length_run : {A : Type 0} (a n : ℕ) (l : List A) → a + n ≤ length l → length (run a n l) ≡ n
length_run a n l h = length-take-le n (drop a l) (rw (length-drop a l) (omega arith))

-- a number inside its range
pub within_not : (low high n : ℕ) → low ≤ n → n ≤ high → outside low high n ≡ false
within_not low high n h k = rw (le-ltb n low h, le-ltb high n k)

module _ (s : Stored) (a n : ℕ) where
  abbrev w : ℕ
  w = s.set.layout.window_size_value

  -- a weight in use of window i of the run
  pub weight_run : (i k : ℕ) → i < n → k < w → weight (run_of s a n).set (pos 0) i k ≡ weight s.set (pos 0) (a + i) k
  weight_run i k hi hk =
      get_d_run (a * w) (n * w) s.set.weights (i * w + k) (pos 0) (digits_lt hi hk) ∙ ap (λ (z : ℕ). get_or s.set.weights z (pos 0)) (omega (arith, add-mul a i w))

  -- the value of window i of the run
  pub value_run : (M : ℕ) (f : ℕ → ℕ → ℕ) (i j : ℕ) → i < n → size s.set.layout (a + i) ≤ w → value_at M (run_of s a n) f i j ≡ value_at M s f (a + i) j
  value_run M f i j h small =
      let l = s.set.layout in
      rw (get_d_run a n l.sizes i 0 h, get_d_run a n l.starts i 0 h)
      (rw (total_ext (weight (run_of s a n).set (pos 0) i) (weight s.set (pos 0) (a + i)) (sample l f (a + i) j) (sample l f (a + i) j) (size l (a + i))
      (λ k l. weight_run i k h (omega arith)) (λ k l. refl)))

  excess_run : (i : ℕ) → i < n → size s.set.layout (a + i) ≤ w → excess_of (run_of s a n) i ≡ excess_of s (a + i)
  excess_run i h small =
      rw (get_d_run a n s.set.layout.sizes i 0 h)
      (excess_ext (weight (run_of s a n).set (pos 0) i) (weight s.set (pos 0) (a + i)) s.precision (size s.set.layout (a + i)) (λ k l. weight_run i k h (omega arith)))

  module _ (f : Fits s.set.layout (length s.set.weights)) (fit : a + n ≤ windows s.set.layout) where
    pub windows_run : windows (run_of s a n).set.layout ≡ n
    windows_run = length_run a n s.set.layout.starts fit

    set_run : bad_set (run_of s a n).set.layout (length (run_of s a n).set.weights) ≡ false
    set_run =
        let l = s.set.layout in
        let few : a + n ≤ length l.sizes = omega (arith, f.pairs) in
        let slots : a * w + n * w ≤ length s.set.weights = omega (arith, add-mul a n w, f.full, mul-le-mul_right w fit) in
        rw (
          length_run (a * w) (n * w) s.set.weights slots,
          windows_run,
          length_run a n l.sizes few,
          within_not 1 32769 w f.some_slot f.few_slots,
          eq-eqb n n refl,
          eq-eqb (n * w) (n * w) refl,
        )
        (none_any (bad_at (run_of s a n).set.layout) n
        (λ i h.
        let inside : a + i < windows l = omega arith in
        rw (
          get_d_run a n l.starts i 0 h,
          get_d_run a n l.sizes i 0 h,
          within_not 1 w (size l (a + i)) (f.some (a + i) inside) (f.small (a + i) inside),
          le-ltb l.lines (start l (a + i) + size l (a + i)) (f.ends (a + i) inside),
        )))

    excesses_run : bad_excesses s ≡ false → bad_excesses (run_of s a n) ≡ false
    excesses_run h =
        let few : a + n ≤ length s.excesses = omega (arith, right_count s h) in
        right_excesses (run_of s a n) (length_run a n s.excesses few ∙ sym windows_run)
        (λ i l.
        let hi : i < n = omega (arith, windows_run) in
        let inside : a + i < windows s.set.layout = omega arith in
        excess_run i hi (f.small (a + i) inside) ∙ right_excess s h (a + i) inside ∙ sym (get_d_run a n s.excesses i (pos 0) hi))

    pub stored_run : (store : Store) → bad_stored s store ≡ false → bad_stored (run_of s a n) store ≡ false
    stored_run store h =
        let set = bad_set s.set.layout (length s.set.weights) in
        rw (
          set_run,
          or_right set (bad_precision store s.precision) (or_left (set || bad_precision store s.precision) (bad_excesses s) h),
          excesses_run (judged_excesses s store h),
        )

-- where the whole set is not refused, a run of one window at least is not
module _ (store : Store) (s : Stored) (samples row first count room : ℕ) (t : Tests store s samples row first count room) (a n room₂ : ℕ) (some : 1 ≤ n)
    (fit : a + n ≤ windows s.set.layout) (rooms : room₂ ≡ n * count) where
  pub tests_run : Tests store (run_of s a n) samples row first count room₂
  tests_run =
      let q = tests_shaped store s samples row first count room t in
      let f = q.set in
      record {
        size = rw (
          windows_run s a n f fit,
          within_not 1 8192 s.set.layout.lines f.some_line f.few_lines,
          within_not 1 8192 n some (omega (arith, f.few_windows)),
          within_not 1 32768 row q.narrow.least q.narrow.most,
        );
        stored = stored_run s a n f fit store t.stored;
        area = rw (eq-eqb samples (s.set.layout.lines * row) q.whole, le-ltb row (first + count) q.fit, windows_run s a n f fit, eq-eqb room₂ (n * count) rooms);
      }
