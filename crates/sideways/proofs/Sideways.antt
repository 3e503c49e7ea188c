-- The proofs of `SidewaysAnswers`, `SidewaysIsVertical` and `RowsCut`. The value is defined on the exchanged frame; what is left is that the exchanged list has that frame, and
-- where the values stand. Assumes nothing.
use Rattle.std.specs.Prelude.{Ok}
use mathlib.Core.Path.{◌≡◌, refl, sym, ap, ◌∙◌, subst}
use mathlib.Core.Bool.{false}
use mathlib.Core.List.{List}
use Prim.Native.Nat.{ℕ, ◌+◌, ◌*◌, ◌/◌, ◌≤◌, ◌<◌}
use native.Mathlib.Nat.{add-mul, mul-le-mul_right, mul_left_comm, le_of_mul-le-mul_right}
use native.Mathlib.Omega.{arith}
use lib.IntN.{pos}
use lib.ListN.{length}
use Rattle.lists.specs.Tab.{grid}
use Rattle.lists.proofs.TabLaws.{length_tab}
use Rattle.integers.proofs.Sums.{total_ext}
use Rattle.windows.specs.Set.{Stored, windows, start, size, weight, sample}
use Rattle.windows.specs.Store.{store32}
use Rattle.vertical.specs.Frame.{frame, output}
use Rattle.vertical.specs.U16.{value_at, passed_u16, written_u16}
use Rattle.vertical.proofs.Answers.{Shaped, tests_u16, tests_shaped, same_frame}
use Rattle.sideways.specs.Exchange.{turned, exchanged, side_output}
use Rattle.sideways.specs.Sideways.{bad_pixels, passed_sideways, written_sideways}
use Rattle.sideways.specs.Statements.{SidewaysAnswers, SidewaysIsVertical, RowsCut}
use Rattle.sideways.proofs.ExchangeLaws.{exchanged_at, length_exchanged, exchange_output, exchanged_twice, rows_cut}
use Rattle.sideways.proofs.FrameLaws.{frame_ext}
use Rattle.sideways.proofs.Answers.{pixels_fit, done_sideways, answer_of}

-- a window inside the row, at column j of the exchanged frame
value_exchanged : (M : ℕ) (s : Stored) (src : List ℕ) (components rows pixels i j : ℕ) → 0 < components → start s.set.layout i + size s.set.layout i ≤ pixels → j < rows * components
    → value_at M s (turned 0 src components (pixels * components)) i j ≡ value_at M s (frame 0 (exchanged 0 components rows (pixels * components) src) (rows * components)) i j
value_exchanged M s src components rows pixels i j some inside hj =
    let l = s.set.layout in
    let f = exchanged 0 components rows (pixels * components) src in
    rw (total_ext (weight s.set (pos 0) i) (weight s.set (pos 0) i) (sample l (turned 0 src components (pixels * components)) i j) (sample l (frame 0 f (rows * components)) i j) (size l i) (λ k h. refl)
    (λ x h. sym (exchanged_at 0 components some rows pixels src (start l i + x) j (omega arith) hj)))

-- the outputs
module _ (M : ℕ) (s : Stored) (src : List ℕ) (components rows pixels first count : ℕ) (some : 0 < components) (fit : first + count ≤ rows)
    (inside : (i : ℕ) → i < windows s.set.layout → start s.set.layout i + size s.set.layout i ≤ pixels) where
  abbrev n : ℕ
  n = windows s.set.layout

  abbrev out : List ℕ
  out = side_output (value_at M s (turned 0 src components (pixels * components))) components n first count

  abbrev vertical : List ℕ
  vertical = output (value_at M s (frame 0 (exchanged 0 components rows (pixels * components) src) (rows * components))) n (first * components) (count * components)

  output_exchanged : exchanged 0 components count (n * components) out ≡ vertical
  output_exchanged =
      let f = exchanged 0 components rows (pixels * components) src in
      let at = value_at M s (turned 0 src components (pixels * components)) in
      exchange_output 0 components some at n first count
      ∙ frame_ext n (count * components) (λ i j. at i (first * components + j)) (λ i j. value_at M s (frame 0 f (rows * components)) i (first * components + j))
      (λ i j hi hj.
      let l : first * components + j < rows * components = omega (arith, add-mul first count components, mul-le-mul_right components fit) in
      value_exchanged M s src components rows pixels i (first * components + j) some (inside i hi) l)

  output_back : out ≡ exchanged 0 components n (count * components) vertical
  output_back =
      let at = value_at M s (turned 0 src components (pixels * components)) in
      let long : length out ≡ count * (n * components) = length_tab 0 (count * (n * components)) (grid (n * components) (λ y. grid components (λ i k. at i ((first + y) * components + k)))) in
      sym (exchanged_twice 0 components some count n out long)
      ∙ ap (exchanged 0 components n (count * components)) output_exchanged

-- where row is pixels x components
module _ (s : Stored) (src : List ℕ) (components rows pixels first count : ℕ) (some : 0 < components) where
  abbrev list : List ℕ
  list = exchanged 0 components rows (pixels * components) src

  answers : (room : ℕ) → bad_pixels components (pixels * components) ≡ false → length src ≡ rows * (pixels * components)
      → passed_sideways s (length src) components rows (pixels * components) first count room ≡ passed_u16 s (length list) (rows * components) (first * components) (count * components) room
  answers room h long =
      let same : length src ≡ length list = long ∙ mul_left_comm rows pixels components ∙ sym (length_exchanged 0 components some rows pixels src) in
      answer_of s (length src) components rows (pixels * components) first count room h
      ∙ ap (λ (n : ℕ). passed_u16 s n (rows * components) (first * components) (count * components) room) same

  module _ (old : List ℕ) (lines : s.set.layout.lines ≡ pixels) (done : passed_sideways s (length src) components rows (pixels * components) first count (length old) ≡ Ok tt) where
    fits : Shaped s.set (length src) (rows * components) (first * components) (count * components) (length old)
    fits =
        let t = done_sideways s (length src) components rows (pixels * components) first count (length old) done in
        tests_shaped store32 s (length src) (rows * components) (first * components) (count * components) (length old) (tests_u16 s (length src) (rows * components) (first * components) (count * components) (length old) t.vertical)

    inside : (i : ℕ) → i < windows s.set.layout → start s.set.layout i + size s.set.layout i ≤ pixels
    inside i l = omega (arith, fits.set.ends i l, lines)

    -- the rows are inside the frame
    fit : first + count ≤ rows
    fit = le_of_mul-le-mul_right {m = first + count} {n = rows} {k = components} (omega (arith, fits.fit)) some

    long : length src ≡ rows * (pixels * components)
    long = fits.whole ∙ ap (λ (n : ℕ). n * (rows * components)) lines ∙ mul_left_comm pixels rows components

    vertical_done : passed_u16 s (length list) (rows * components) (first * components) (count * components) (length old) ≡ Ok tt
    vertical_done = sym (answers (length old) (done_sideways s (length src) components rows (pixels * components) first count (length old) done).pixels long) ∙ done

    both : (exchanged 0 components count (windows s.set.layout * components) (written_sideways s src components rows (pixels * components) first count old) ≡ written_u16 s list (rows * components) (first * components) (count * components) old)
        × (written_sideways s src components rows (pixels * components) first count old ≡ exchanged 0 components (windows s.set.layout) (count * components) (written_u16 s list (rows * components) (first * components) (count * components) old))
    unfolding written_u16 written_sideways
    both = (
      rw (vertical_done, done) (output_exchanged 65535 s src components rows pixels first count some fit inside),
      rw (vertical_done, done) (output_back 65535 s src components rows pixels first count some fit inside),
    )

pub sideways_answers : SidewaysAnswers
sideways_answers s src components rows row first count room h long =
    let p = pixels_fit components row h in
    let some : 0 < components = omega (arith, p.few) in
    subst
    (λ (r : ℕ). bad_pixels components r ≡ false → length src ≡ rows * r → passed_sideways s (length src) components rows r first count room ≡ passed_u16 s (length (exchanged 0 components rows r src)) (rows * components) (first * components) (count * components) room)
    p.full (λ h long. answers s src components rows (row / components) first count some room h long) h long

pub sideways_is_vertical : SidewaysIsVertical
sideways_is_vertical s src components rows row first count old lines done =
    let t = done_sideways s (length src) components rows row first count (length old) done in
    let p = pixels_fit components row t.pixels in
    let some : 0 < components = omega (arith, p.few) in
    subst
    (λ (r : ℕ). passed_sideways s (length src) components rows r first count (length old) ≡ Ok tt
    → (passed_u16 s (length (exchanged 0 components rows r src)) (rows * components) (first * components) (count * components) (length old) ≡ Ok tt)
    × (exchanged 0 components count (windows s.set.layout * components) (written_sideways s src components rows r first count old) ≡ written_u16 s (exchanged 0 components rows r src) (rows * components) (first * components) (count * components) old)
    × (written_sideways s src components rows r first count old ≡ exchanged 0 components (windows s.set.layout) (count * components) (written_u16 s (exchanged 0 components rows r src) (rows * components) (first * components) (count * components) old)))
    p.full
    (λ done. (
      vertical_done s src components rows (row / components) first count some old lines done,
      (both s src components rows (row / components) first count some old lines done).0,
      (both s src components rows (row / components) first count some old lines done).1,
    ))
    done

range_done : (s : Stored) (samples components rows row room : ℕ) → passed_sideways s samples components rows row 0 rows room ≡ Ok tt
    → (first count room₂ : ℕ) → first + count ≤ rows → room₂ ≡ count * (windows s.set.layout * components) → passed_sideways s samples components rows row first count room₂ ≡ Ok tt
unfolding passed_sideways passed_u16
range_done s samples components rows row room done first count room₂ fit rooms =
    let d = done_sideways s samples components rows row 0 rows room done in
    let t = tests_u16 s samples (rows * components) (0 * components) (rows * components) room d.vertical in
    let l : first * components + count * components ≤ rows * components = omega (arith, add-mul first count components, mul-le-mul_right components fit) in
    rw (
      d.pixels,
      t.size,
      t.stored,
      same_frame s.set samples (rows * components) (0 * components) (rows * components) room (first * components) (count * components) room₂ l (rooms ∙ mul_left_comm count (windows s.set.layout) components) t.area,
    )

pub rows_cut_u16 : RowsCut
unfolding written_sideways
rows_cut_u16 s src components rows row whole done first count list fit rooms =
    let range = range_done s (length src) components rows row (length whole) done first count (length list) fit rooms in
    (range, rw (range, done) (rows_cut (value_at 65535 s (turned 0 src components row)) components (windows s.set.layout) rows first count fit))
