-- Each way out is one lemma of `Judged`, at the set that the lists make; what the judges said gives `fill_rows` its premises. Assumes nothing.
use mathlib.Core.Path.{ap, refl}
use mathlib.Core.Bool.{not, ◌||◌}
use Prim.Native.Nat.{◌*◌, ◌/◌}
use native.Mathlib.Omega.{arith}
use lib.ListN.{length}
use Rattle.lists.proofs.BoolLaws.{asked_bad, asked_good}
use Rattle.windows.specs.Set.{layout_of, set_of, Stored, stored_of, windows}
use Rattle.windows.specs.Store.{store32}
use Rattle.excesses.proofs.StoredLaws.{stored_precise}
use Rattle.vertical.specs.Frame.{bad_size, bad_area}
use Rattle.vertical.proofs.Answers.{Tests}
use Rattle.vertical.proofs.Judges.{stored_bad, stored_good}
use Rattle.sideways.specs.Sideways.{bad_pixels}
use Rattle.sideways_u16.proofs.Judged.{bad_size_fact, size_good, few_rows, bad_stored_fact, bad_area_fact, ready_row, rows_fit, done}
use Rattle.sideways_u16.proofs.horiz_convolution_u16.Goals as goal

pub returns-then-not-sizes_fit : goal.returns-then-not-sizes_fit
returns-then-not-sizes_fit c =
    let a = c.args in
    let f = a.frame in
    let s : Stored = stored_of (set_of (layout_of (f.row / f.components) a.window_size a.starts.now a.sizes.now) a.weights.now) a.precision a.excesses.now in
    let d =
    bad_size_fact s a.src.now f.components f.rows f.row f.first f.count a.out.now (asked_bad (bad_pixels f.components f.row || bad_size (f.row / f.components) (windows s.set.layout) (f.rows * f.components)) c.sizes_fit.ensures (ap not c.if-not-sizes_fit.true)) in
    record { answer = d.0; written = d.1 }

pub nonzero_div-frame : goal.nonzero_div-frame
nonzero_div-frame c =
    let a = c.args in
    let f = a.frame in
    let s : Stored = stored_of (set_of (layout_of (f.row / f.components) a.window_size a.starts.now a.sizes.now) a.weights.now) a.precision a.excesses.now in
    let good = asked_good (bad_pixels f.components f.row || bad_size (f.row / f.components) (windows s.set.layout) (f.rows * f.components)) c.sizes_fit.ensures (ap not c.if-not-sizes_fit.false) in
    omega (arith, few_rows s a.src.now f.components f.rows f.row f.first f.count a.out.now good)

pub returns-then-not-stored_fits32 : goal.returns-then-not-stored_fits32
returns-then-not-stored_fits32 c =
    let a = c.args in
    let f = a.frame in
    let s : Stored = stored_of (set_of (layout_of (f.row / f.components) a.window_size a.starts.now a.sizes.now) a.weights.now) a.precision a.excesses.now in
    let good = asked_good (bad_pixels f.components f.row || bad_size (f.row / f.components) (windows s.set.layout) (f.rows * f.components)) c.sizes_fit.ensures (ap not c.if-not-sizes_fit.false) in
    let d =
    bad_stored_fact s a.src.now f.components f.rows f.row f.first f.count a.out.now good (stored_bad store32 s (f.rows * f.components) (size_good s a.src.now f.components f.rows f.row f.first f.count a.out.now good) c.stored_fits32.ensures.answer (ap not c.if-not-stored_fits32.true)) in
    record { answer = d.0; written = d.1 }

pub rows_fit-requires : goal.rows_fit-requires
rows_fit-requires c =
    let a = c.args in
    let f = a.frame in
    let s : Stored = stored_of (set_of (layout_of (f.row / f.components) a.window_size a.starts.now a.sizes.now) a.weights.now) a.precision a.excesses.now in
    let good = asked_good (bad_pixels f.components f.row || bad_size (f.row / f.components) (windows s.set.layout) (f.rows * f.components)) c.sizes_fit.ensures (ap not c.if-not-sizes_fit.false) in
    few_rows s a.src.now f.components f.rows f.row f.first f.count a.out.now good

pub returns-then-not-rows_fit : goal.returns-then-not-rows_fit
returns-then-not-rows_fit c =
    let a = c.args in
    let f = a.frame in
    let s : Stored = stored_of (set_of (layout_of (f.row / f.components) a.window_size a.starts.now a.sizes.now) a.weights.now) a.precision a.excesses.now in
    let good = asked_good (bad_pixels f.components f.row || bad_size (f.row / f.components) (windows s.set.layout) (f.rows * f.components)) c.sizes_fit.ensures (ap not c.if-not-sizes_fit.false) in
    let d =
    bad_area_fact s a.src.now f.components f.rows f.row f.first f.count a.out.now good (stored_good store32 s (f.rows * f.components) (size_good s a.src.now f.components f.rows f.row f.first f.count a.out.now good) c.stored_fits32.ensures.answer (ap not c.if-not-stored_fits32.false))
    (asked_bad (bad_area (f.row / f.components) (windows s.set.layout) (length a.src.now) (f.rows * f.components) (f.first * f.components) (f.count * f.components) (length a.out.now)) c.rows_fit.ensures (ap not c.if-not-rows_fit.true)) in
    record { answer = d.0; written = d.1 }

pub fill_rows-requires : goal.fill_rows-requires
fill_rows-requires c =
    let a = c.args in
    let f = a.frame in
    let s : Stored = stored_of (set_of (layout_of (f.row / f.components) a.window_size a.starts.now a.sizes.now) a.weights.now) a.precision a.excesses.now in
    let good = asked_good (bad_pixels f.components f.row || bad_size (f.row / f.components) (windows s.set.layout) (f.rows * f.components)) c.sizes_fit.ensures (ap not c.if-not-sizes_fit.false) in
    let size = size_good s a.src.now f.components f.rows f.row f.first f.count a.out.now good in
    let t : Tests store32 s (length a.src.now) (f.rows * f.components) (f.first * f.components) (f.count * f.components) (length a.out.now) = record {
      size = size;
      stored = stored_good store32 s (f.rows * f.components) size c.stored_fits32.ensures.answer (ap not c.if-not-stored_fits32.false);
      area = asked_good (bad_area (f.row / f.components) (windows s.set.layout) (length a.src.now) (f.rows * f.components) (f.first * f.components) (f.count * f.components) (length a.out.now)) c.rows_fit.ensures (ap not c.if-not-rows_fit.false);
    } in
    let p = stored_precise s store32 t.stored in
    let few = few_rows s a.src.now f.components f.rows f.row f.first f.count a.out.now good in
    record { le_p = (omega (arith, p), p.most); le_components = (few.0, few.1); ready = ready_row s a.src.now f.components f.rows f.row f.first f.count a.out.now good refl t; row_in_bounds = rows_fit s a.src.now f.components f.rows f.row f.first f.count a.out.now good refl t }

pub returns : goal.returns
returns c =
    let a = c.args in
    let f = a.frame in
    let s : Stored = stored_of (set_of (layout_of (f.row / f.components) a.window_size a.starts.now a.sizes.now) a.weights.now) a.precision a.excesses.now in
    let good = asked_good (bad_pixels f.components f.row || bad_size (f.row / f.components) (windows s.set.layout) (f.rows * f.components)) c.sizes_fit.ensures (ap not c.if-not-sizes_fit.false) in
    let size = size_good s a.src.now f.components f.rows f.row f.first f.count a.out.now good in
    let d =
    let t : Tests store32 s (length a.src.now) (f.rows * f.components) (f.first * f.components) (f.count * f.components) (length a.out.now) = record {
      size = size;
      stored = stored_good store32 s (f.rows * f.components) size c.stored_fits32.ensures.answer (ap not c.if-not-stored_fits32.false);
      area = asked_good (bad_area (f.row / f.components) (windows s.set.layout) (length a.src.now) (f.rows * f.components) (f.first * f.components) (f.count * f.components) (length a.out.now)) c.rows_fit.ensures (ap not c.if-not-rows_fit.false);
    } in
    let r = c.fill_rows in
    done s a.src.now f.components f.rows f.row f.first f.count a.out.now good refl t r.new.out r.ensures.written in
    record { answer = d.0; written = d.1 }
