-- What the answer "done" says of a u8 pass: each of its tests failed. Cited by the column cuts, the flat frames and the sums. Assumes nothing.
use Rattle.std.specs.Prelude.{Ok}
use mathlib.Core.Path.{◌≡◌}
use mathlib.Core.Bool.{false}
use Prim.Native.Nat.{ℕ}
use Rattle.lists.proofs.BoolLaws.{ladder}
use Rattle.windows.specs.Set.{Stored, windows}
use Rattle.windows.specs.Store.{store16}
use Rattle.windows.specs.Fit.{bad_stored}
use Rattle.vertical.specs.Frame.{bad_size, bad_area}
use Rattle.vertical.proofs.Answers.{refused, Tests}
use Rattle.vertical_u8.specs.U8.{heavy_windows, passed_u8}

pub record TestsU8 (s : Stored) (samples row first count room : ℕ) : Type 0 where
  pub tests : Tests store16 s samples row first count room
  pub light : heavy_windows s ≡ false

pub tests_u8 : (s : Stored) (samples row first count room : ℕ) → passed_u8 s samples row first count room ≡ Ok tt → TestsU8 s samples row first count room
unfolding passed_u8
tests_u8 s samples row first count room h =
    let size = ladder (bad_size s.set.layout.lines (windows s.set.layout) row) refused h in
    let stored = ladder (bad_stored s store16) refused size.1 in
    let area = ladder (bad_area s.set.layout.lines (windows s.set.layout) samples row first count room) refused stored.1 in
    let light = ladder (heavy_windows s) refused area.1 in
    record { tests = record { size = size.0; stored = stored.0; area = area.0 }; light = light.0 }
