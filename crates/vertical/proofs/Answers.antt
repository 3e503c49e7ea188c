-- What the answer "done" says of a pass, in plain numbers. Cited by the passes, the column cut and the promises. Assumes nothing.
use Rattle.std.specs.Prelude.{Result, Ok, Err, ⊤}
use mathlib.Core.Path.{◌≡◌, sym, ap}
use mathlib.Core.Bool.{Bool, true, false, not, ◌||◌}
use mathlib.Core.List.{List}
use Prim.Native.Nat.{ℕ, ◌+◌, ◌*◌, ◌≤◌}
use lib.Dec.{eqb, ltb}
use lib.Ieee.{Float}
use lib.ListN.{length}
use borrow.Author.Tests.{ltb-false, eqb-true, not-false, le-ltb, eq-eqb}
use Rattle.lists.specs.Ranges.{outside, bad_sides_value}
use Rattle.lists.proofs.BoolLaws.{never, ladder, or_left, or_right}
use Rattle.lists.proofs.RangeLaws.{InRange, not_outside}
use Rattle.refusal.specs.declared.Refusal.{Refusal}
use Rattle.windows.specs.Set.{Set, Stored, windows}
use Rattle.windows.specs.declared.Store.{Store}
use Rattle.windows.specs.Store.{store32, bad_precision}
use Rattle.windows.specs.Fit.{bad_set, bad_excesses, bad_stored, Fits}
use Rattle.windows.proofs.Fits.{fits}
use Rattle.vertical.specs.Frame.{bad_frame, bad_range, bad_area, bad_size, bad_shape}
use Rattle.vertical.specs.U16.{passed_u16}
use Rattle.vertical.specs.F32.{passed_f32, bad_weights, bad_samples}

-- a refusal is not done
abbrev done : Result ⊤ Refusal → Bool
done (Ok tt) = true
done (Err r) = false

pub refused : {r : Refusal} → ◌≡◌ {A = Result ⊤ Refusal} (Err r) (Ok tt) → ⊥
refused h = never (sym (ap done h))

abbrev done_f32 : Result ℕ Refusal → Bool
done_f32 (Ok n) = true
done_f32 (Err r) = false

refused_f32 : {r : Refusal} {n : ℕ} → Err r ≡ Ok n → ⊥
refused_f32 h = never (sym (ap done_f32 h))

-- sides, set, frame and columns fit: neither pass refuses for these
pub record Shaped {W : Type 0} (s : Set W) (samples row first count room : ℕ) : Type 0 where
  pub narrow : InRange 1 32768 row
  pub set : Fits s.layout (length s.weights)
  pub whole : samples ≡ s.layout.lines * row
  pub fit : first + count ≤ row
  pub rooms : room ≡ windows s.layout * count

module _ {W : Type 0} (s : Set W) (samples row first count room : ℕ) where
  abbrev set : Bool
  set = bad_set s.layout (length s.weights)

  abbrev frame : Bool
  frame = bad_frame samples s.layout.lines row

  abbrev range : Bool
  range = bad_range row first count (windows s.layout) room

  abbrev full : Bool
  full = eqb room (windows s.layout * count)

  pub shaped_of : bad_size s.layout.lines (windows s.layout) row ≡ false → set ≡ false → frame || range ≡ false → Shaped s samples row first count room
  shaped_of size lists area =
      let columns = or_right frame range area in record {
        narrow = not_outside 1 32768 row (or_right (bad_sides_value s.layout.lines (windows s.layout)) (outside 1 32768 row) size);
        set = fits s.layout (length s.weights) (or_left (bad_sides_value s.layout.lines (windows s.layout)) (outside 1 32768 row) size) lists;
        whole = eqb-true samples (s.layout.lines * row) (not-false (eqb samples (s.layout.lines * row)) (or_left frame range area));
        fit = ltb-false row (first + count) (or_left (ltb row (first + count)) (not full) columns);
        rooms = eqb-true room (windows s.layout * count) (not-false full (or_right (ltb row (first + count)) (not full) columns));
      }

  pub shaped : bad_size s.layout.lines (windows s.layout) row ≡ false → bad_shape s.layout (length s.weights) samples row first count room ≡ false → Shaped s samples row first count room
  shaped size shape = shaped_of size (or_left set (frame || range) shape) (or_right set (frame || range) shape)

  -- another range of columns that fits
  module _ (first₂ count₂ room₂ : ℕ) (fit : first₂ + count₂ ≤ row) (rooms : room₂ ≡ windows s.layout * count₂) where
    pub same_frame : frame || range ≡ false → bad_area s.layout.lines (windows s.layout) samples row first₂ count₂ room₂ ≡ false
    same_frame area = rw (or_left frame range area, le-ltb row (first₂ + count₂) fit, eq-eqb room₂ (windows s.layout * count₂) rooms)

  pub reshaped : bad_shape s.layout (length s.weights) samples row first count room ≡ false → (first₂ count₂ room₂ : ℕ) → first₂ + count₂ ≤ row → room₂ ≡ windows s.layout * count₂ → bad_shape s.layout (length s.weights) samples row first₂ count₂ room₂ ≡ false
  reshaped shape first₂ count₂ room₂ fit rooms =
      rw (or_left set (frame || range) shape) (same_frame first₂ count₂ room₂ fit rooms (or_right set (frame || range) shape))

-- the tests that the passes over integers share failed: sides and row, the stored set, frame and columns
pub record Tests (store : Store) (s : Stored) (samples row first count room : ℕ) : Type 0 where
  pub size : bad_size s.set.layout.lines (windows s.set.layout) row ≡ false
  pub stored : bad_stored s store ≡ false
  pub area : bad_area s.set.layout.lines (windows s.set.layout) samples row first count room ≡ false

module _ (store : Store) (s : Stored) where
  abbrev layout : Bool
  layout = bad_set s.set.layout (length s.set.weights)

  -- the windows of a stored set that fits
  stored_set : bad_stored s store ≡ false → layout ≡ false
  stored_set h = or_left layout (bad_precision store s.precision) (or_left (layout || bad_precision store s.precision) (bad_excesses s) h)

  pub tests_shaped : (samples row first count room : ℕ) → Tests store s samples row first count room → Shaped s.set samples row first count room
  tests_shaped samples row first count room t = shaped_of s.set samples row first count room t.size (stored_set t.stored) t.area

-- each test of the u16 pass failed
pub tests_u16 : (s : Stored) (samples row first count room : ℕ) → passed_u16 s samples row first count room ≡ Ok tt → Tests store32 s samples row first count room
unfolding passed_u16
tests_u16 s samples row first count room h =
    let size = ladder (bad_size s.set.layout.lines (windows s.set.layout) row) refused h in
    let stored = ladder (bad_stored s store32) refused size.1 in
    let area = ladder (bad_area s.set.layout.lines (windows s.set.layout) samples row first count room) refused stored.1 in
    record { size = size.0; stored = stored.0; area = area.0 }

-- each test of the f32 pass failed
pub record TestsF32 (s : Set Float) (src : List Float) (row first count room : ℕ) : Type 0 where
  pub size : bad_size s.layout.lines (windows s.layout) row ≡ false
  pub shape : bad_shape s.layout (length s.weights) (length src) row first count room ≡ false
  pub weights : bad_weights s ≡ false
  pub samples : bad_samples s src row first count ≡ false

pub tests_f32 : (s : Set Float) (src : List Float) (row first count room : ℕ) {n : ℕ} → passed_f32 s src row first count room ≡ Ok n → TestsF32 s src row first count room
unfolding passed_f32
tests_f32 s src row first count room h =
    let size = ladder (bad_size s.layout.lines (windows s.layout) row) refused_f32 h in
    let shape = ladder (bad_shape s.layout (length s.weights) (length src) row first count room) refused_f32 size.1 in
    let weights = ladder (bad_weights s) refused_f32 shape.1 in
    let samples = ladder (bad_samples s src row first count) refused_f32 weights.1 in
    record { size = size.0; shape = shape.0; weights = weights.0; samples = samples.0 }
