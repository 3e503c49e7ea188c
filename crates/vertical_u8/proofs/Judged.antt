-- From what the tests of `vert_convolution_u8` said to its two clauses. Cited by its proof. Assumes nothing.
use Rattle.std.specs.Prelude.{Result, Ok, Err, ⊤}
use mathlib.Core.Path.{◌≡◌}
use mathlib.Core.Bool.{true, false}
use mathlib.Core.List.{List}
use Prim.Native.Nat.{ℕ, ◌*◌}
use lib.ListN.{length}
use Rattle.lists.specs.Tab.{tab, grid}
use Rattle.refusal.specs.declared.Refusal.TheVariants.{BadSide, DoesNotFit, WeightOutside}
use Rattle.windows.specs.Set.{Stored, windows}
use Rattle.windows.specs.Store.{store16}
use Rattle.windows.specs.Fit.{bad_stored}
use Rattle.refusal.specs.declared.Refusal.{Refusal}
use Rattle.vertical.specs.Column.{window_value}
use Rattle.vertical.specs.Frame.{bad_size, bad_area}
use Rattle.vertical.proofs.Answers.{Tests}
use Rattle.vertical.proofs.Values.{output_of_cells}
use Rattle.vertical_u8.specs.U8.{heavy_windows, passed_u8, written_u8}

module _ (s : Stored) (src : List ℕ) (row first count : ℕ) (old : List ℕ) where
  -- the answer r with the list `new` is what the two clauses say
  abbrev pub Meets : Result ⊤ Refusal → List ℕ → Type 0
  Meets r new = (r ≡ passed_u8 s (length src) row first count (length old)) × (new ≡ written_u8 s src row first count old)

  pub bad_size_fact : bad_size s.set.layout.lines (windows s.set.layout) row ≡ true → Meets (Err BadSide) old
  unfolding passed_u8 written_u8
  bad_size_fact size = (rw size, rw size)

  module _ (size : bad_size s.set.layout.lines (windows s.set.layout) row ≡ false) where
    pub bad_stored_fact : bad_stored s store16 ≡ true → Meets (Err DoesNotFit) old
    unfolding passed_u8 written_u8
    bad_stored_fact stored = (rw (size, stored), rw (size, stored))

    pub bad_area_fact : bad_stored s store16 ≡ false → bad_area s.set.layout.lines (windows s.set.layout) (length src) row first count (length old) ≡ true → Meets (Err DoesNotFit) old
    unfolding passed_u8 written_u8
    bad_area_fact stored area = (rw (size, stored, area), rw (size, stored, area))

  module _ (t : Tests store16 s (length src) row first count (length old)) where
    pub too_heavy : heavy_windows s ≡ true → Meets (Err WeightOutside) old
    unfolding passed_u8 written_u8
    too_heavy heavy = (rw (t.size, t.stored, t.area, heavy), rw (t.size, t.stored, t.area, heavy))

    pub done : heavy_windows s ≡ false → (new : List ℕ) → new ≡ tab 0 (windows s.set.layout * count) (grid count (window_value 255 src row first s.set.layout.starts s.set.layout.sizes s.set.layout.window_size_value s.set.weights s.precision)) → Meets (Ok tt) new
    unfolding passed_u8 written_u8
    done heavy new cells = (rw (t.size, t.stored, t.area, heavy), rw (t.size, t.stored, t.area, heavy) (output_of_cells 255 s src row first count cells))
