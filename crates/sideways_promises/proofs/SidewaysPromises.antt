-- The proofs: a call that is not refused has every sample in use inside the frame, and what stands at a place of its output is the value of its window at the exchanged frame's
-- column, of which the laws of the vertical pass speak. Assumes nothing.
use Rattle.std.specs.Prelude.{Ok}
use mathlib.Core.Path.{◌≡◌, refl, sym, ap, ◌∙◌, subst}
use mathlib.Core.List.{List}
use Prim.Native.Nat.{ℕ, ◌+◌, ◌*◌, ◌/◌, ◌%◌, ◌^◌, ◌≤◌, ◌<◌}
use native.Mathlib.Nat.{mod-lt, div-lt_iff_lt-mul, div-add-mod', le_of_eq, lt_of_lt_of_le, le_of_mul-le-mul_right, mul_left_comm, add-mul}
use native.Mathlib.Omega.{arith}
use lib.Arith.{digits_lt, digits_div, digits_mod}
use lib.IntN.{pos}
use lib.ListN.{length, get_or}
use borrow.Author.Tests.{ltb-true}
use Rattle.lists.specs.Tab.{grid}
use Rattle.lists.proofs.TabLaws.{length_tab}
use Rattle.integers.proofs.Sums.{total_ext}
use Rattle.windows.specs.Set.{Stored, windows, start, size, weight, distance_of}
use Rattle.windows.specs.Store.{store32}
use Rattle.excesses.proofs.StoredLaws.{stored_precise}
use Rattle.vertical.specs.Frame.{frame}
use Rattle.vertical.specs.U16.{value_at}
use Rattle.vertical.proofs.Answers.{Shaped, Tests, tests_u16, tests_shaped}
use Rattle.vertical.proofs.Columns.{some_column}
use Rattle.sideways.specs.Exchange.{turned, side_output}
use Rattle.sideways.specs.Sideways.{passed_sideways, written_sideways}
use Rattle.sideways.proofs.Answers.{Pixels, pixels_fit, DoneSideways, done_sideways}
use Rattle.sideways.proofs.ExchangeLaws.{side_place}
use Rattle.sideways.proofs.FrameLaws.{frame_ext}
use Rattle.promises.proofs.Accepted.{passed_done}
use Rattle.promises.proofs.Frames.{sum_within_one, flat_unchanged}
use Rattle.ringing.proofs.Windows.{window_not_darker, window_between}
use Rattle.sideways_promises.specs.SidewaysPromises.{along, Taken, Place, placed, ValueAlong, SumsSideways, FlatSideways, FlatFrameSideways, NotDarkerSideways, FrameNotDarkerSideways, BetweenSideways}

-- ---- a call that is not refused
module _ (s : Stored) (samples components rows row first count room : ℕ) (taken : Taken s samples components rows row first count room) where
  accepted : passed_sideways s samples components rows row first count room ≡ Ok tt
  accepted = passed_done (passed_sideways s samples components rows row first count room) taken.done

  both : DoneSideways s samples components rows row first count room
  both = done_sideways s samples components rows row first count room accepted

  pixels : Pixels components row
  pixels = pixels_fit components row both.pixels

  some : 0 < components
  some = omega (arith, pixels.few)

  tests : Tests store32 s samples (rows * components) (first * components) (count * components) room
  tests = tests_u16 s samples (rows * components) (first * components) (count * components) room both.vertical

  fits : Shaped s.set samples (rows * components) (first * components) (count * components) room
  fits = tests_shaped store32 s samples (rows * components) (first * components) (count * components) room tests

  precise : 1 ≤ s.precision
  precise = omega (arith, stored_precise s store32 tests.stored)

  -- the frame is `rows` rows of `row` samples, and the range is inside
  long : samples ≡ rows * row
  long =
      fits.whole ∙ ap (λ (n : ℕ). n * (rows * components)) taken.pixels ∙ mul_left_comm (row / components) rows components ∙ ap (λ (n : ℕ). rows * n) pixels.full

  range : first + count ≤ rows
  range = le_of_mul-le-mul_right {m = first + count} {n = rows} {k = components} (omega (arith, fits.fit, add-mul first count components)) some

  -- pixel x of window i is in the frame
  inside : (y k i x : ℕ) → Place s components count y k i → x < size s.set.layout i → (first + y) * row + ((start s.set.layout i + x) * components + k) < samples
  inside y k i x p h =
      let l : start s.set.layout i + x < row / components = omega (arith, fits.set.ends i p.a_window, taken.pixels) in
      rw long (digits_lt (omega (arith, range, p.in_range)) (lt_of_lt_of_le (digits_lt l p.a_component) (le_of_eq pixels.full)))

-- what stands at a place is the window's value at a column of the exchanged frame; there a sample is one of the frame as it lies
module _ (s : Stored) (src : List ℕ) (components rows row first count : ℕ) (old : List ℕ) (taken : Taken s (length src) components rows row first count (length old)) where
  abbrev at : ℕ → ℕ → ℕ
  at = value_at 65535 s (turned 0 src components row)

  abbrev out : List ℕ
  out = written_sideways s src components rows row first count old

  out_is : out ≡ side_output at components (windows s.set.layout) first count
  unfolding written_sideways
  out_is = rw (accepted s (length src) components rows row first count (length old) taken)

  place : (y k i : ℕ) → Place s components count y k i → placed s components out y k i ≡ at i ((first + y) * components + k)
  place y k i p =
      ap (λ (l : List ℕ). placed s components l y k i) out_is
      ∙ side_place 0 components (some s (length src) components rows row first count (length old) taken) at (windows s.set.layout) first count y i k p.in_range p.a_window p.a_component

pub value_along : ValueAlong
value_along s src components rows row first count old taken y k i p =
    place s src components rows row first count old taken y k i p
    ∙ rw (digits_div (first + y) p.a_component, digits_mod (first + y) p.a_component)

pub sums_sideways : SumsSideways
sums_sideways s a b c components rows row first count room taken added y k i p =
    let w = weight s.set (pos 0) i in
    let n = size s.set.layout i in
    let one = along s a components row (first + y) k i in
    let two = along s b components row (first + y) k i in
    rw (total_ext w w (along s c components row (first + y) k i) (λ x. one x + two x) n (λ x l. refl)
    (λ x l. added.each ((first + y) * row + ((start s.set.layout i + x) * components + k)) (inside s (length c) components rows row first count room taken y k i x p l)))
    (sum_within_one w one two n s.precision (precise s (length c) components rows row first count room taken))

pub flat_sideways : FlatSideways
flat_sideways s src components rows row first count old v taken top flat y k i p near =
    let w = weight s.set (pos 0) i in
    let n = size s.set.layout i in
    value_along s src components rows row first count old taken y k i p
    ∙ rw (total_ext w w (along s src components row (first + y) k i) (λ x. v) n (λ x l. refl)
    (λ x l. flat ((first + y) * row + ((start s.set.layout i + x) * components + k)) (inside s (length src) components rows row first count (length old) taken y k i x p l)))
    (flat_unchanged w n 65535 s.precision v (precise s (length src) components rows row first count (length old) taken) (ltb-true (131070 * distance_of s i) (2 ^ s.precision) near) top)

-- row y at component k, as a frame of one column
abbrev lying : List ℕ → ℕ → ℕ → ℕ → ℕ → ℕ → ℕ → ℕ
lying src components row y k x column = frame 0 src row y (x * components + k)

pub not_darker_sideways : NotDarkerSideways
not_darker_sideways s a b components rows row first count old old₂ taken too less y k i p none =
    rw (value_along s a components rows row first count old taken y k i p, value_along s b components rows row first count old₂ too y k i p)
    (window_not_darker 65535 s (lying a components row (first + y) k) (lying b components row (first + y) k) i 0 none
    (λ x l. less ((first + y) * row + ((start s.set.layout i + x) * components + k)) (inside s (length a) components rows row first count (length old) taken y k i x p l)))

pub between_sideways : BetweenSideways
between_sideways s src components rows row first count old taken top y k i p none exact =
    rw (value_along s src components rows row first count old taken y k i p)
    (window_between 65535 s (lying src components row (first + y) k) i 0 (precise s (length src) components rows row first count (length old) taken) none exact
    (λ x l. top ((first + y) * row + ((start s.set.layout i + x) * components + k)) (inside s (length src) components rows row first count (length old) taken y k i x p l)))

-- ---- the whole output, place by place
-- z is the place of a window's component in its row
in_row : (s : Stored) (components count y z : ℕ) → 0 < components → y < count → z < windows s.set.layout * components → Place s components count y (z % components) (z / components)
in_row s components count y z few hy hz = record { in_range = hy; a_window = (div-lt_iff_lt-mul few).1 hz; a_component = mod-lt z few }

pub flat_frame_sideways : FlatFrameSideways
flat_frame_sideways s src components rows row first count old v taken top flat near =
    let wide = windows s.set.layout * components in
    let few = some s (length src) components rows row first count (length old) taken in
    let at = value_at 65535 s (turned 0 src components row) in
    out_is s src components rows row first count old taken
    ∙ frame_ext count wide (λ y. grid components (λ i k. at i ((first + y) * components + k))) (λ y z. v)
    (λ y z hy hz.
    let p = in_row s components count y z few hy hz in
    sym (place s src components rows row first count old taken y (z % components) (z / components) p)
    ∙ flat_sideways s src components rows row first count old v taken top flat y (z % components) (z / components) p (near (z / components) p.a_window))

pub frame_not_darker_sideways : FrameNotDarkerSideways
frame_not_darker_sideways s a b components rows row first count old old₂ taken too less none x l =
    let wide = windows s.set.layout * components in
    let few = some s (length a) components rows row first count (length old) taken in
    let at = value_at 65535 s (turned 0 a components row) in
    let long = ap length (out_is s a components rows row first count old taken) ∙ length_tab 0 (count * wide) (grid wide (λ y. grid components (λ i k. at i ((first + y) * components + k)))) in
    let h : x < count * wide = lt_of_lt_of_le l (le_of_eq long) in
    let full = some_column count wide x h in
    let y = x / wide in
    let z = x % wide in
    let p = in_row s components count y z few ((div-lt_iff_lt-mul full).1 h) (mod-lt x full) in
    let e : y * wide + (z / components * components + z % components) ≡ x = ap (λ (r : ℕ). y * wide + r) (div-add-mod' z components) ∙ div-add-mod' x wide in
    subst (λ (r : ℕ). get_or (written_sideways s a components rows row first count old) r 0 ≤ get_or (written_sideways s b components rows row first count old₂) r 0) e
    (not_darker_sideways s a b components rows row first count old old₂ taken too less y (z % components) (z / components) p (none (z / components) p.a_window))
