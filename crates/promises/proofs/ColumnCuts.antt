-- The column cuts by the answers' numbers: those of the u16 and the f32 pass are proved beside their definitions, that of the u8 pass is here. Assumes nothing.
use Rattle.std.specs.Prelude.{Ok}
use mathlib.Core.Path.{◌≡◌, ap}
use Prim.Native.Nat.{ℕ, ◌+◌, ◌*◌, ◌≤◌}
use lib.ListN.{length}
use Rattle.windows.specs.Set.{Stored, windows}
use Rattle.vertical.specs.Frame.{frame}
use Rattle.vertical.specs.Passed.{number_of}
use Rattle.vertical.specs.PassedF32.{number_of as numberOfF32}
use Rattle.vertical.specs.U16.{value_at, passed_u16}
use Rattle.vertical.specs.F32.{passed_f32}
use Rattle.vertical.proofs.Answers.{same_frame}
use Rattle.vertical.proofs.Columns as columns
use Rattle.vertical_u8.specs.U8.{passed_u8, written_u8}
use Rattle.promises.specs.ColumnCuts.{ColumnsCutU16, ColumnsCutU8, ColumnsCutF32}
use Rattle.promises.proofs.Accepted.{passed_done, passed_done_f32}
use Rattle.promises.proofs.DoneU8.{tests_u8}

pub columns_cut_u16 : ColumnsCutU16
columns_cut_u16 s src row whole done first count list fit room =
    let cut = columns.columns_cut_u16 s src row whole (passed_done (passed_u16 s (length src) row 0 row (length whole)) done) first count list fit room in
    (ap number_of cut.0, cut.1)

-- where the whole frame is not refused, a range of columns that fits is not
range_done_u8 : (s : Stored) (samples row whole : ℕ) → passed_u8 s samples row 0 row whole ≡ Ok tt → (first count room : ℕ) → first + count ≤ row → room ≡ windows s.set.layout * count → passed_u8 s samples row first count room ≡ Ok tt
unfolding passed_u8
range_done_u8 s samples row whole done first count room fit rooms =
    let t = tests_u8 s samples row 0 row whole done in
    rw (t.tests.size, t.tests.stored, same_frame s.set samples row 0 row whole first count room fit rooms t.tests.area, t.light)

pub columns_cut_u8 : ColumnsCutU8
unfolding written_u8
columns_cut_u8 s src row whole done first count list fit room =
    let all = passed_done (passed_u8 s (length src) row 0 row (length whole)) done in
    let part = range_done_u8 s (length src) row (length whole) all first count (length list) fit room in
    (ap number_of part, rw (part, all) (columns.columns_cut (value_at 255 s (frame 0 src row)) 0 (windows s.set.layout) row first count fit))

pub columns_cut_f32 : ColumnsCutF32
columns_cut_f32 s src row whole done first count list fit room =
    let cut = columns.columns_cut_f32 s src row whole (passed_done_f32 (passed_f32 s src row 0 row (length whole)) done) first count list fit room in
    (ap numberOfF32 cut.0, cut.1)
