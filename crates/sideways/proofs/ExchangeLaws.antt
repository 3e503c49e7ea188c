-- The laws of the exchange of rows and columns, over any element type: what stands where, exchanging twice, a flat frame, the exchange of a sideways output, and runs of
-- its rows. Cited by the theorems on the sideways pass. Assumes nothing.
use mathlib.Core.Path.{◌≡◌, refl, sym, ap, ◌∙◌}
use mathlib.Core.List.{List}
use Prim.Native.Nat.{ℕ, ◌+◌, ◌*◌, ◌/◌, ◌%◌, ◌≤◌, ◌<◌}
use native.Mathlib.Nat.{zero-add, mod-lt, div-lt_iff_lt-mul, mul-div_cancel, div-add-mod', add-mul, mul-le-mul_right}
use native.Mathlib.Omega.{arith}
use lib.Arith.{digits_lt, digits_div, digits_mod}
use lib.ListN.{length, get_or}
use Rattle.lists.specs.Tab.{tab, grid}
use Rattle.lists.proofs.TabLaws.{length_tab}
use Rattle.vertical.specs.Frame.{frame, output}
use Rattle.sideways.specs.Exchange.{turned, exchanged, side_output, rows_of}
use Rattle.sideways.proofs.FrameLaws.{frame_at, frame_ext, frame_shift, tab_cut, frame_whole}

module _ {A : Type 0} where
  module _ (d : A) (components : ℕ) (some : 0 < components) where
    -- the exchanged list has the exchanged frame
    pub exchanged_at : (rows pixels : ℕ) (src : List A) (x c : ℕ) → x < pixels → c < rows * components → frame d (exchanged d components rows (pixels * components) src) (rows * components) x c ≡ turned d src components (pixels * components) x c
    unfolding exchanged
    exchanged_at rows pixels src x c hx hc =
        rw (mul-div_cancel pixels some)
        (frame_at d pixels (rows * components) (turned d src components (pixels * components)) x c hx hc)

    pub length_exchanged : (rows pixels : ℕ) (src : List A) → length (exchanged d components rows (pixels * components) src) ≡ pixels * (rows * components)
    unfolding exchanged
    length_exchanged rows pixels src =
        length_tab 0 (pixels * components / components * (rows * components)) (grid (rows * components) (turned d src components (pixels * components)))
        ∙ rw (mul-div_cancel pixels some)

    -- the value of window i at row y and component k stands at its place
    pub side_place : (at : ℕ → ℕ → A) (windows first count y i k : ℕ) → y < count → i < windows → k < components → get_or (side_output at components windows first count) (y * (windows * components) + (i * components + k)) d ≡ at i ((first + y) * components + k)
    side_place at windows first count y i k hy hi hk =
        frame_at d count (windows * components) (λ y. grid components (λ i k. at i ((first + y) * components + k))) y (i * components + k) hy (digits_lt hi hk)
        ∙ rw (digits_div i hk, digits_mod i hk)

    -- exchanged, a sideways output is an output as of the vertical pass
    pub exchange_output : (at : ℕ → ℕ → A) (windows first count : ℕ) → exchanged d components count (windows * components) (side_output at components windows first count) ≡ output at windows (first * components) (count * components)
    unfolding exchanged
    exchange_output at windows first count =
        rw (mul-div_cancel windows some)
        (frame_ext windows (count * components) (turned d (side_output at components windows first count) components (windows * components)) (λ i j. at i (first * components + j))
        (λ x c hx hc.
        let e : (first + c / components) * components + c % components ≡ first * components + c = omega (arith, add-mul first (c / components) components, div-add-mod' c components) in
        side_place at windows first count (c / components) x (c % components) ((div-lt_iff_lt-mul some).1 hc) hx (mod-lt c some) ∙ ap (at x) e))

    cell : (rows pixels : ℕ) (src : List A) (y c : ℕ) → y < rows → c < pixels * components → turned d (exchanged d components rows (pixels * components) src) components (rows * components) y c ≡ get_or src (y * (pixels * components) + c) d
    cell rows pixels src y c hy hc =
        let r = mod-lt c some in
        exchanged_at rows pixels src (c / components) (y * components + c % components) ((div-lt_iff_lt-mul some).1 hc) (digits_lt hy r)
        ∙ rw (digits_div y r, digits_mod y r, div-add-mod' c components)

    -- exchanging twice changes nothing
    pub exchanged_twice : (rows pixels : ℕ) (src : List A) → length src ≡ rows * (pixels * components) → exchanged d components pixels (rows * components) (exchanged d components rows (pixels * components) src) ≡ src
    unfolding exchanged
    exchanged_twice rows pixels src long =
        let w = pixels * components in
        let e = exchanged d components rows w src in
        ap (λ (n : ℕ). tab 0 (n * w) (grid w (turned d e components (rows * components)))) (mul-div_cancel rows some)
        ∙ frame_ext rows w (turned d e components (rows * components)) (λ y c. get_or src (y * w + c) d) (λ y c hy hc. cell rows pixels src y c hy hc)
        ∙ frame_whole d src rows w long

    -- a flat frame is flat exchanged
    pub exchanged_flat : (rows pixels : ℕ) (src : List A) (v : A) → length src ≡ rows * (pixels * components) → ((x : ℕ) → x < length src → get_or src x d ≡ v)
        → exchanged d components rows (pixels * components) src ≡ tab 0 (pixels * (rows * components)) (λ z. v)
    unfolding exchanged
    exchanged_flat rows pixels src v long flat =
        rw (mul-div_cancel pixels some)
        (frame_ext pixels (rows * components) (turned d src components (pixels * components)) (λ x c. v)
        (λ x c hx hc.
        flat (c / components * (pixels * components) + (x * components + c % components))
        (rw long (digits_lt ((div-lt_iff_lt-mul some).1 hc) (digits_lt hx (mod-lt c some))))))

  -- a range of rows is those rows of the whole
  pub rows_cut : (at : ℕ → ℕ → A) (components windows rows first count : ℕ) → first + count ≤ rows → side_output at components windows first count ≡ rows_of (windows * components) first count (side_output at components windows 0 rows)
  rows_cut at components windows rows first count fit =
      let w = windows * components in
      let cell : ℕ → ℕ → A = λ y. grid components (λ i k. at i ((0 + y) * components + k)) in
      let l : first * w + count * w ≤ rows * w = omega (arith, add-mul first count w, mul-le-mul_right w fit) in
      sym (tab_cut (first * w) (count * w) (rows * w) (grid w cell) l
      ∙ frame_shift (first * w) (count * w) w first count refl refl cell
      ∙ frame_ext count w (λ y. cell (first + y)) (λ y. grid components (λ i k. at i ((first + y) * components + k))) (λ y c hy hc. rw (zero-add (first + y))))
