-- The proof of `RectangleCut`: the unit's rows are its own columns of the whole's, and of these it writes its own lines. Assumes nothing.
use Rattle.std.specs.Prelude.{Ok}
use mathlib.Core.Path.{◌≡◌, sym, ap, ◌∙◌}
use mathlib.Core.List.{List}
use Prim.Native.Nat.{ℕ, ◌+◌, ◌*◌, ◌≤◌}
use native.Mathlib.Nat.{add-mul, mul-le-mul, mul-le-mul_right, le_of_mul-le-mul_right, le_antisymm}
use native.Mathlib.Omega.{arith}
use lib.ListN.{length}
use Rattle.lists.specs.Tab.{tab, grid}
use Rattle.lists.proofs.TabLaws.{length_tab}
use Rattle.windows.specs.Set.{Stored, windows}
use Rattle.windows.specs.Store.{store32}
use Rattle.vertical.specs.Frame.{columns}
use Rattle.vertical.specs.Passed.{number_of}
use Rattle.vertical.specs.U16.{value_at, passed_u16, written_u16}
use Rattle.vertical.proofs.Answers.{Shaped, tests_u16, tests_shaped}
use Rattle.sideways.specs.Exchange.{turned, rows_of}
use Rattle.sideways.specs.Sideways.{passed_sideways, written_sideways}
use Rattle.sideways.proofs.Answers.{pixels_fit, done_sideways}
use Rattle.promises.proofs.Accepted.{passed_done}
use Rattle.promises.proofs.ColumnCuts.{columns_cut_u16}
use Rattle.strips.proofs.Strips.{strip_u16}
use Rattle.window_cuts.specs.Run.{run_of}
use Rattle.window_cuts.specs.Rectangle.{rectangle, BothDone, displayed, RectangleCut}
use Rattle.window_cuts.proofs.RunLaws.{windows_run}
use Rattle.window_cuts.proofs.WindowCuts.{windows_cut_u16, windows_cut_sideways}

module _ (across down : Stored) (src : List ℕ) (components rows row : ℕ) (between whole : List ℕ) (done : BothDone across down src components rows row between whole)
    (a n b m : ℕ) (part list : List ℕ) (some-n : 1 ≤ n) (fit_n : a + n ≤ windows across.set.layout) (some-m : 1 ≤ m) (fit-m : b + m ≤ windows down.set.layout)
    (rooms-part : length part ≡ rows * (n * components)) (rooms : length list ≡ m * (n * components)) where
  abbrev wide : ℕ
  wide = windows across.set.layout * components

  abbrev narrowed : List ℕ
  narrowed = written_sideways across src components rows row 0 rows between

  abbrev own : List ℕ
  own = written_sideways (run_of across a n) src components rows row 0 rows part

  -- the list that the lines of the unit, over all columns, would be lent
  abbrev spare : List ℕ
  spare = tab 0 (m * wide) (λ k. 0)

  taken : passed_sideways across (length src) components rows row 0 rows (length between) ≡ Ok tt
  taken = passed_done (passed_sideways across (length src) components rows row 0 rows (length between)) done.sideways

  fits_across : Shaped across.set (length src) (rows * components) (0 * components) (rows * components) (length between)
  fits_across =
      tests_shaped store32 across (length src) (rows * components) (0 * components) (rows * components) (length between)
      (tests_u16 across (length src) (rows * components) (0 * components) (rows * components) (length between) (done_sideways across (length src) components rows row 0 rows (length between) taken).vertical)

  fits_down : Shaped down.set (length narrowed) wide 0 wide (length whole)
  fits_down = tests_shaped store32 down (length narrowed) wide 0 wide (length whole) (tests_u16 down (length narrowed) wide 0 wide (length whole) (passed_done (passed_u16 down (length narrowed) wide 0 wide (length whole)) done.vertical))

  some : 1 ≤ components
  some = omega (arith, (pixels_fit components row (done_sideways across (length src) components rows row 0 rows (length between) taken).pixels).few)

  long : length narrowed ≡ rows * wide
  unfolding written_sideways
  long =
      rw taken
      (length_tab 0 (rows * wide) (grid wide (λ y. grid components (λ i k. value_at 65535 across (turned 0 src components row) i ((0 + y) * components + k)))))

  -- the set down has the rows for its lines
  lines_are : down.set.layout.lines ≡ rows
  lines_are =
      let e : down.set.layout.lines * wide ≡ rows * wide = sym fits_down.whole ∙ long in
      let l = fits_down.narrow.least in
      le_antisymm (le_of_mul-le-mul_right {m = down.set.layout.lines} {n = rows} {k = wide} (omega arith) l) (le_of_mul-le-mul_right {m = rows} {n = down.set.layout.lines} {k = wide} (omega arith) l)

  across_is : windows (run_of across a n).set.layout ≡ n
  across_is = windows_run across a n fits_across.set fit_n

  down_is : windows (run_of down b m).set.layout ≡ m
  down_is = windows_run down b m fits_down.set fit-m

  own_done : number_of (passed_sideways (run_of across a n) (length src) components rows row 0 rows (length part)) ≡ 0
  own_done = (windows_cut_sideways across src components rows row 0 rows between done.sideways a n part some-n fit_n rooms-part).0

  own_is : own ≡ columns 0 wide down.set.layout.lines (a * components) (n * components) narrowed
  own_is =
      (windows_cut_sideways across src components rows row 0 rows between done.sideways a n part some-n fit_n rooms-part).1
      ∙ ap (λ (r : ℕ). columns 0 wide r (a * components) (n * components) narrowed) (sym lines_are)

  -- its lines over all columns; of these its columns; and these alone
  lines_cut : (number_of (passed_u16 (run_of down b m) (length narrowed) wide 0 wide (length spare)) ≡ 0) × (written_u16 (run_of down b m) narrowed wide 0 wide spare ≡ rows_of wide b m (written_u16 down narrowed wide 0 wide whole))
  lines_cut = windows_cut_u16 down narrowed wide 0 wide whole done.vertical b m spare some-m fit-m (length_tab 0 (m * wide) (λ k. 0))

  cut : (number_of (passed_u16 (run_of down b m) (length narrowed) wide (a * components) (n * components) (length list)) ≡ 0)
      × (written_u16 (run_of down b m) narrowed wide (a * components) (n * components) list ≡ columns 0 wide (windows (run_of down b m).set.layout) (a * components) (n * components) (written_u16 (run_of down b m) narrowed wide 0 wide spare))
  cut =
      columns_cut_u16 (run_of down b m) narrowed wide spare lines_cut.0 (a * components) (n * components) list
      (omega (arith, add-mul a n components, mul-le-mul_right components fit_n)) (rooms ∙ ap (λ (k : ℕ). k * (n * components)) (sym down_is))

  own_columns : (number_of (passed_u16 (run_of down b m) (length own) (n * components) 0 (n * components) (length list)) ≡ 0)
      × (written_u16 (run_of down b m) own (n * components) 0 (n * components) list ≡ written_u16 (run_of down b m) narrowed wide (a * components) (n * components) list)
  own_columns =
      rw own_is
      (strip_u16 (run_of down b m) narrowed wide (a * components) (n * components) list (mul-le-mul some-n some) cut.0)

  both_done : BothDone (run_of across a n) (run_of down b m) src components rows row part list
  both_done = record { sideways = own_done; vertical = rw across_is own_columns.0 }

  is_rectangle : displayed (run_of across a n) (run_of down b m) src components rows row part list ≡ rectangle wide b m (a * components) (n * components) (displayed across down src components rows row between whole)
  is_rectangle =
      ap (λ (k : ℕ). written_u16 (run_of down b m) own (k * components) 0 (k * components) list) across_is
      ∙ own_columns.1
      ∙ cut.1
      ∙ ap (λ (k : ℕ). columns 0 wide k (a * components) (n * components) (written_u16 (run_of down b m) narrowed wide 0 wide spare)) down_is
      ∙ ap (columns 0 wide m (a * components) (n * components)) lines_cut.1

pub rectangle_cut : RectangleCut
rectangle_cut across down src components rows row between whole done a n b m part list some-n fit_n some-m fit-m rooms-part rooms =
    (both_done across down src components rows row between whole done a n b m part list some-n fit_n some-m fit-m rooms-part rooms, is_rectangle across down src components rows row between whole done a n b m part list some-n fit_n some-m fit-m rooms-part rooms)
