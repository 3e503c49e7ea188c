-- The proofs over what a pass writes, once over the largest sample, and at 65535 and 255: a call that is not refused has every sample in use inside its frame, and each place of its
-- output is the value of its window and column. Assumes nothing.
use Rattle.std.specs.Prelude.{Result, ⊤}
use mathlib.Core.Path.{◌≡◌, ap, ◌∙◌}
use mathlib.Core.List.{List}
use Prim.Native.Nat.{ℕ, ◌+◌, ◌*◌, ◌/◌, ◌%◌, ◌≤◌, ◌<◌}
use native.Mathlib.Nat.{zero-add, mod-lt, div-lt_iff_lt-mul, le_of_eq, lt_of_lt_of_le}
use lib.Arith.{digits_lt}
use lib.ListN.{length}
use Rattle.lists.specs.Tab.{grid}
use Rattle.lists.proofs.TabLaws.{length_tab, get_d_tab, grid_at}
use Rattle.windows.specs.Set.{Stored, windows, start}
use Rattle.vertical.specs.Frame.{frame, output, row_of}
use Rattle.refusal.specs.declared.Refusal.{Refusal}
use Rattle.vertical.specs.Passed.{number_of}
use Rattle.vertical.specs.U16.{value_at, passed_u16, written_u16}
use Rattle.vertical.proofs.Answers.{Shaped}
use Rattle.vertical.proofs.Columns.{some_column}
use Rattle.vertical_u8.specs.U8.{passed_u8, written_u8}
use Rattle.promises.proofs.FlatFrame.{row_of_output, inside, fits, some_u16, written, fits_u8, some_u8, written_u8_fact}
use Rattle.ringing.specs.NoRinging.{NoneNegative, NowhereDarker, NotDarkerOf, FrameNotDarkerOf, BetweenOf, NotDarker, FrameNotDarker, Between, NotDarkerU8, FrameNotDarkerU8, BetweenU8}
use Rattle.ringing.proofs.Windows.{window_not_darker, window_between}

-- what is known of a call that is not refused, for samples up to M
record Pass (M : ℕ) (passed : Stored → ℕ → ℕ → ℕ → ℕ → ℕ → Result ⊤ Refusal) (written : Stored → List ℕ → ℕ → ℕ → ℕ → List ℕ → List ℕ) : Type 0 where
  fit : (s : Stored) (samples row first count room : ℕ) → number_of (passed s samples row first count room) ≡ 0 → Shaped s.set samples row first count room
  precise : (s : Stored) (samples row first count room : ℕ) → number_of (passed s samples row first count room) ≡ 0 → 1 ≤ s.precision
  out_is : (s : Stored) (src : List ℕ) (row first count : ℕ) (old : List ℕ) → number_of (passed s (length src) row first count (length old)) ≡ 0
      → written s src row first count old ≡ output (value_at M s (frame 0 src row)) (windows s.set.layout) first count

u16 : Pass 65535 passed_u16 written_u16
u16 = record { fit = fits; precise = some_u16; out_is = written }

u8 : Pass 255 passed_u8 written_u8
u8 = record { fit = fits_u8; precise = some_u8; out_is = written_u8_fact }

module _ (M : ℕ) (passed : Stored → ℕ → ℕ → ℕ → ℕ → ℕ → Result ⊤ Refusal) (written : Stored → List ℕ → ℕ → ℕ → ℕ → List ℕ → List ℕ) (pass : Pass M passed written) where
  module _ (s : Stored) (a b : List ℕ) (row first count : ℕ) (old old₂ : List ℕ) (done : number_of (passed s (length a) row first count (length old)) ≡ 0)
      (too : number_of (passed s (length b) row first count (length old₂)) ≡ 0) (less : NowhereDarker a b) where
    abbrev n : ℕ
    n = windows s.set.layout

    abbrev at_a : ℕ → ℕ → ℕ
    at_a = value_at M s (frame 0 a row)

    abbrev at_b : ℕ → ℕ → ℕ
    at_b = value_at M s (frame 0 b row)

    -- window i at the j-th column of the range
    here : (i j : ℕ) → i < n → j < count → NoneNegative s i → at_a i (first + j) ≤ at_b i (first + j)
    here i j hi hj none =
        window_not_darker M s (frame 0 a row) (frame 0 b row) i (first + j) none
        (λ k l.
        less ((start s.set.layout i + k) * row + (first + j))
        (inside s (length a) row first count (length old) (pass.fit s (length a) row first count (length old) done) i j k hi hj l))

    rows : (i : ℕ) → i < n → NoneNegative s i → NowhereDarker (row_of count i (written s a row first count old)) (row_of count i (written s b row first count old₂))
    rows i hi none =
        rw (
          ap (row_of count i) (pass.out_is s a row first count old done) ∙ row_of_output at_a n first count i hi,
          ap (row_of count i) (pass.out_is s b row first count old₂ too) ∙ row_of_output at_b n first count i hi,
        )
        (λ x l.
        let h : x < count = lt_of_lt_of_le l (le_of_eq (length_tab 0 count (λ j. at_a i (first + j)))) in
        rw (get_d_tab 0 count (λ j. at_a i (first + j)) x 0 h, get_d_tab 0 count (λ j. at_b i (first + j)) x 0 h, zero-add) (here i x hi h none))

    frames : ((i : ℕ) → i < n → NoneNegative s i) → NowhereDarker (written s a row first count old) (written s b row first count old₂)
    frames none =
        rw (pass.out_is s a row first count old done, pass.out_is s b row first count old₂ too)
        (λ x l.
        let cell_a : ℕ → ℕ → ℕ = λ i j. at_a i (first + j) in
        let cellB : ℕ → ℕ → ℕ = λ i j. at_b i (first + j) in
        let h : x < n * count = lt_of_lt_of_le l (le_of_eq (length_tab 0 (n * count) (grid count cell_a))) in
        let some = some_column n count x h in
        let i = (div-lt_iff_lt-mul some).1 h in
        rw (get_d_tab 0 (n * count) (grid count cell_a) x 0 h, get_d_tab 0 (n * count) (grid count cellB) x 0 h, zero-add)
        (here (x / count) (x % count) i (mod-lt x some) (none (x / count) i)))

  not_darker_of : NotDarkerOf NoneNegative passed written
  not_darker_of s a b row first count old old₂ done too less i hi none = rows s a b row first count old old₂ done too less i hi none

  frame_not_darker_of : FrameNotDarkerOf NoneNegative passed written
  frame_not_darker_of s a b row first count old old₂ done too less none = frames s a b row first count old old₂ done too less none

  -- what stands at the place of window i and the j-th column
  place : (s : Stored) (src : List ℕ) (row first count i j : ℕ) → i < windows s.set.layout → j < count
      → frame 0 (output (value_at M s (frame 0 src row)) (windows s.set.layout) first count) count i j ≡ value_at M s (frame 0 src row) i (first + j)
  place s src row first count i j hi hj =
      let cell : ℕ → ℕ → ℕ = λ i j. value_at M s (frame 0 src row) i (first + j) in
      get_d_tab 0 (windows s.set.layout * count) (grid count cell) (i * count + j) 0 (digits_lt hi hj) ∙ ap (grid count cell) (zero-add (i * count + j)) ∙ grid_at count cell i j hj

  between_of : BetweenOf NoneNegative passed written M
  between_of s src row first count old done top i j hi hj none exact =
      rw (pass.out_is s src row first count old done, place s src row first count i j hi hj)
      (window_between M s (frame 0 src row) i (first + j) (pass.precise s (length src) row first count (length old) done) none exact
      (λ k l.
      top ((start s.set.layout i + k) * row + (first + j))
      (inside s (length src) row first count (length old) (pass.fit s (length src) row first count (length old) done) i j k hi hj l)))

-- ---- the two passes
pub not_darker : NotDarker
not_darker = not_darker_of 65535 passed_u16 written_u16 u16

pub frame_not_darker : FrameNotDarker
frame_not_darker = frame_not_darker_of 65535 passed_u16 written_u16 u16

pub between : Between
between = between_of 65535 passed_u16 written_u16 u16

pub not_darker_u8 : NotDarkerU8
not_darker_u8 = not_darker_of 255 passed_u8 written_u8 u8

pub frame_not_darker_u8 : FrameNotDarkerU8
frame_not_darker_u8 = frame_not_darker_of 255 passed_u8 written_u8 u8

pub between_u8 : BetweenU8
between_u8 = between_of 255 passed_u8 written_u8 u8
