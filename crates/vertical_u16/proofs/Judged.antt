-- From what the tests of `vert_convolution_u16` said to its two clauses. Cited by its proof. Assumes nothing.
use Rattle.std.specs.Prelude.{Result, Ok, Err, ⊤}
use mathlib.Core.Path.{◌≡◌}
use mathlib.Core.Bool.{true, false}
use mathlib.Core.List.{List}
use Prim.Native.Nat.{ℕ, ◌*◌}
use lib.ListN.{length}
use Rattle.lists.specs.Tab.{tab, grid}
use Rattle.refusal.specs.declared.Refusal.TheVariants.{BadSide, DoesNotFit}
use Rattle.windows.specs.Set.{Stored, windows}
use Rattle.windows.specs.Store.{store32}
use Rattle.windows.specs.Fit.{bad_stored}
use Rattle.refusal.specs.declared.Refusal.{Refusal}
use Rattle.vertical.specs.Frame.{bad_size, bad_area}
use Rattle.vertical.specs.U16.{passed_u16, written_u16}
use Rattle.vertical.specs.Column.{window_value}
use Rattle.vertical.proofs.Answers.{Tests}
use Rattle.vertical.proofs.Values.{output_of_cells}

module _ (s : Stored) (src : List ℕ) (row first count : ℕ) (old : List ℕ) where
  -- the answer r with the list `new` is what the two clauses say
  abbrev pub Meets : Result ⊤ Refusal → List ℕ → Type 0
  Meets r new = (r ≡ passed_u16 s (length src) row first count (length old)) × (new ≡ written_u16 s src row first count old)

  pub bad_size_fact : bad_size s.set.layout.lines (windows s.set.layout) row ≡ true → Meets (Err BadSide) old
  unfolding passed_u16 written_u16
  bad_size_fact size = (rw size, rw size)

  module _ (size : bad_size s.set.layout.lines (windows s.set.layout) row ≡ false) where
    pub bad_stored_fact : bad_stored s store32 ≡ true → Meets (Err DoesNotFit) old
    unfolding passed_u16 written_u16
    bad_stored_fact stored = (rw (size, stored), rw (size, stored))

    pub bad_area_fact : bad_stored s store32 ≡ false → bad_area s.set.layout.lines (windows s.set.layout) (length src) row first count (length old) ≡ true → Meets (Err DoesNotFit) old
    unfolding passed_u16 written_u16
    bad_area_fact stored area = (rw (size, stored, area), rw (size, stored, area))

  pub done : Tests store32 s (length src) row first count (length old) → (new : List ℕ) → new ≡ tab 0 (windows s.set.layout * count) (grid count (window_value 65535 src row first s.set.layout.starts s.set.layout.sizes s.set.layout.window_size_value s.set.weights s.precision)) → Meets (Ok tt) new
  unfolding passed_u16 written_u16
  done t new cells = (rw (t.size, t.stored, t.area), rw (t.size, t.stored, t.area) (output_of_cells 65535 s src row first count cells))
