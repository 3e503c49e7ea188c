-- From what the tests of `horiz_convolution_u16` said to what the worker asks, and to its two clauses. Cited by its proof. Assumes nothing.
use Rattle.std.specs.Prelude.{Result, Ok, Err, ⊤}
use mathlib.Core.Path.{◌≡◌, refl, ap, ◌∙◌}
use mathlib.Core.Bool.{Bool, true, false, ◌||◌}
use mathlib.Core.List.{List}
use Prim.Native.Nat.{ℕ, ◌+◌, ◌*◌, ◌/◌, ◌%◌, ◌^◌, ◌≤◌, ◌<◌}
use native.Mathlib.Nat.{mul-le-mul, mul-le-mul_right, mul_left_comm, le_of_mul-le-mul_right, le-mul_of_pos_right, mod-lt, add-mul, mul-add-div_right, mul-add-mod_self_right, mod-eq_of_lt, div-eq_of_lt}
use native.Mathlib.Omega.{arith}
use lib.IntN.{pos}
use lib.ListN.{length, get_or}
use Rattle.lists.specs.Tab.{tab, grid}
use Rattle.lists.specs.Ranges.{bad_sides_value, outside}
use Rattle.lists.proofs.BoolLaws.{or_left, or_right}
use Rattle.lists.proofs.RangeLaws.{not_outside}
use Rattle.integers.proofs.Sums.{total_ext}
use Rattle.refusal.specs.declared.Refusal.TheVariants.{BadSide, DoesNotFit}
use Rattle.windows.specs.Set.{Stored, windows, start, size, weight, sample}
use Rattle.windows.specs.Store.{store32}
use Rattle.windows.specs.Fit.{bad_stored}
use Rattle.windows.proofs.Fits.{fits_most}
use Rattle.refusal.specs.declared.Refusal.{Refusal}
use Rattle.vertical.specs.Column.{window_value}
use Rattle.vertical.specs.Frame.{frame, bad_size, bad_area}
use Rattle.vertical.specs.Ready.{Ready}
use Rattle.vertical.specs.U16.{value_at, passed_u16}
use Rattle.vertical.proofs.Answers.{Shaped, Tests, tests_shaped}
use Rattle.vertical.proofs.Values.{value_is}
use Rattle.sideways.specs.Exchange.{turned}
use Rattle.sideways.specs.Sideways.{bad_pixels, passed_sideways, written_sideways}
use Rattle.sideways.proofs.Answers.{Pixels, pixels_fit}
use Rattle.sideways.proofs.FrameLaws.{frame_ext}
use Rattle.pixels_u16.specs.Places.{row_values}

module _ (s : Stored) (src : List ℕ) (components rows row first count : ℕ) (old : List ℕ) where
  -- the answer r with the list `new` is what the two clauses say
  abbrev pub Meets : Result ⊤ Refusal → List ℕ → Type 0
  Meets r new = (r ≡ passed_sideways s (length src) components rows row first count (length old)) × (new ≡ written_sideways s src components rows row first count old)

  abbrev sizes : Bool
  sizes = bad_size s.set.layout.lines (windows s.set.layout) (rows * components)

  abbrev area : Bool
  area = bad_area s.set.layout.lines (windows s.set.layout) (length src) (rows * components) (first * components) (count * components) (length old)

  part_pixels : bad_pixels components row ≡ true → Meets (Err BadSide) old
  unfolding passed_sideways written_sideways
  part_pixels h = (rw h, rw h)

  too_large : bad_pixels components row ≡ false → sizes ≡ true → Meets (Err BadSide) old
  unfolding passed_sideways written_sideways passed_u16
  too_large h size = (rw (h, size), rw (h, size))

  pub bad_size_fact : bad_pixels components row || sizes ≡ true → Meets (Err BadSide) old
  bad_size_fact h = go (bad_pixels components row) refl h
    where
      go : (b : Bool) → bad_pixels components row ≡ b → b || sizes ≡ true → Meets (Err BadSide) old
      go true e q = part_pixels e
      go false e q = too_large e q

  module _ (good : bad_pixels components row || sizes ≡ false) where
    pixels : bad_pixels components row ≡ false
    pixels = or_left (bad_pixels components row) sizes good

    pub size_good : sizes ≡ false
    size_good = or_right (bad_pixels components row) sizes good

    pub whole_pixels : Pixels components row
    whole_pixels = pixels_fit components row pixels

    pub few_rows : (1 ≤ components) × (components ≤ 4) × (rows ≤ 32768)
    few_rows =
        let p = whole_pixels.few in
        let wide = not_outside 1 32768 (rows * components) (or_right (bad_sides_value s.set.layout.lines (windows s.set.layout)) (outside 1 32768 (rows * components)) size_good) in
        (p.least, p.most, omega (arith, wide, le-mul_of_pos_right rows p.least))

    pub bad_stored_fact : bad_stored s store32 ≡ true → Meets (Err DoesNotFit) old
    unfolding passed_sideways written_sideways passed_u16
    bad_stored_fact stored = (rw (pixels, size_good, stored), rw (pixels, size_good, stored))

    pub bad_area_fact : bad_stored s store32 ≡ false → area ≡ true → Meets (Err DoesNotFit) old
    unfolding passed_sideways written_sideways passed_u16
    bad_area_fact stored rest = (rw (pixels, size_good, stored, rest), rw (pixels, size_good, stored, rest))

    -- all tests failed
    module _ (lines : s.set.layout.lines ≡ row / components) (t : Tests store32 s (length src) (rows * components) (first * components) (count * components) (length old)) where
      fits : Shaped s.set (length src) (rows * components) (first * components) (count * components) (length old)
      fits = tests_shaped store32 s (length src) (rows * components) (first * components) (count * components) (length old) t

      inside : (i : ℕ) → i < windows s.set.layout → start s.set.layout i + size s.set.layout i ≤ row / components
      inside i l = omega (arith, fits.set.ends i l, lines)

      -- one row as a frame of one pixel a line
      pub ready_row : Ready row components 0 components s.set.layout.starts s.set.layout.sizes s.set.layout.window_size_value (length s.set.weights) (windows s.set.layout * components)
      ready_row = record {
        set = fits_most s.set.layout (length s.set.weights) fits.set;
        narrow = omega (arith, whole_pixels.few);
        fit = omega arith;
        lines = (let l : row / components ≤ 8192 = omega (arith, lines, fits.set.few_lines) in omega (arith, whole_pixels.full, mul-le-mul_right components l));
        rooms = refl;
        inside = λ i l. omega (arith, whole_pixels.full, mul-le-mul_right components (inside i l));
      }

      rows_there : first + count ≤ rows
      rows_there = le_of_mul-le-mul_right {m = first + count} {n = rows} {k = components} (omega (arith, fits.fit)) (omega (arith, whole_pixels.few))

      -- the frame is rows x row samples
      whole : length src ≡ rows * row
      whole = fits.whole ∙ ap (λ (n : ℕ). n * (rows * components)) lines ∙ mul_left_comm (row / components) rows components ∙ ap (λ (n : ℕ). rows * n) whole_pixels.full

      pub rows_fit : ((first + count) * row ≤ length src) × (length src < 2 ^ 40) × (length old ≡ count * (windows s.set.layout * components)) × (length old < 2 ^ 40)
      rows_fit =
          let l : count * components ≤ 32768 = omega (arith, fits.fit, fits.narrow) in (
            omega (arith, whole, mul-le-mul_right row rows_there),
            omega (arith, fits.whole, mul-le-mul fits.set.few_lines fits.narrow.most),
            fits.rooms ∙ mul_left_comm (windows s.set.layout) count components,
            omega (arith, fits.rooms, mul-le-mul fits.set.few_windows l),
          )

      -- a value of the frame as it lies is that of the exchanged frame
      value_turned : (y i k : ℕ) → k < components → window_value 65535 src components (first * row + y * row) s.set.layout.starts s.set.layout.sizes s.set.layout.window_size_value s.set.weights s.precision i k ≡ value_at 65535 s (turned 0 src components row) i ((first + y) * components + k)
      value_turned y i k l =
          let some : 0 < components = omega (arith, whole_pixels.few) in
          value_is 65535 s src components (first * row + y * row) i k
          ∙ rw (total_ext (weight s.set (pos 0) i) (weight s.set (pos 0) i) (sample s.set.layout (frame 0 src components) i (first * row + y * row + k)) (sample s.set.layout (turned 0 src components row) i ((first + y) * components + k)) (size s.set.layout i) (λ x h. refl)
          (λ x h. rw (mul-add-div_right some (first + y) k, mul-add-mod_self_right (first + y) components k, div-eq_of_lt l, mod-eq_of_lt l) (ap (λ (z : ℕ). get_or src z 0) (omega (arith, add-mul first y row)))))

      pub done : (new : List ℕ) → new ≡ tab 0 (count * (windows s.set.layout * components)) (row_values src (first * row) components row s.set.layout.starts s.set.layout.sizes s.set.layout.window_size_value s.set.weights s.precision) → Meets (Ok tt) new
      unfolding passed_sideways written_sideways passed_u16
      done new e =
          let n = windows s.set.layout in
          let some : 0 < components = omega (arith, whole_pixels.few) in
          let cells = e ∙ frame_ext count (n * components)
          (λ y. grid components (window_value 65535 src components (first * row + y * row) s.set.layout.starts s.set.layout.sizes s.set.layout.window_size_value s.set.weights s.precision))
          (λ y. grid components (λ i k. value_at 65535 s (turned 0 src components row) i ((first + y) * components + k)))
          (λ y c hy hc. value_turned y (c / components) (c % components) (mod-lt c some)) in
          (rw (pixels, t.size, t.stored, t.area), rw (pixels, t.size, t.stored, t.area) cells)
