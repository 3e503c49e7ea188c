-- Each way out is one lemma of `Judged`, at the set that the lists make; what the judges said gives `rows` its premises. Assumes nothing.
use mathlib.Core.Bool.{not}
use mathlib.Core.Path.{ap}
use native.Mathlib.Omega.{arith}
use lib.ListN.{length}
use Rattle.lists.proofs.BoolLaws.{asked_bad, asked_good}
use Rattle.windows.specs.Set.{layout_of, set_of, Stored, stored_of, windows}
use Rattle.windows.specs.Store.{store32}
use Rattle.excesses.proofs.StoredLaws.{stored_precise}
use Rattle.vertical.specs.Frame.{bad_size, bad_area}
use Rattle.vertical.proofs.Answers.{tests_shaped}
use Rattle.vertical.proofs.Judges.{stored_bad, stored_good, tests}
use Rattle.vertical.proofs.Turns.{ready}
use Rattle.vertical_u16.proofs.Judged.{bad_size_fact, bad_stored_fact, bad_area_fact, done}
use Rattle.vertical_u16.proofs.vert_convolution_u16.Goals as goal

pub returns-then-not-size_fits : goal.returns-then-not-size_fits
returns-then-not-size_fits c =
    let a = c.args in
    let s : Stored = stored_of (set_of (layout_of a.frame.lines a.window_size a.starts.now a.sizes.now) a.weights.now) a.precision a.excesses.now in
    let d =
    bad_size_fact s a.src.now a.frame.row a.frame.first a.frame.count a.out.now (asked_bad (bad_size s.set.layout.lines (windows s.set.layout) a.frame.row) c.size_fits.ensures.answer (ap not c.if-not-size_fits.true)) in
    record { answer = d.0; written = d.1 }

pub returns-then-not-stored_fits32 : goal.returns-then-not-stored_fits32
returns-then-not-stored_fits32 c =
    let a = c.args in
    let s : Stored = stored_of (set_of (layout_of a.frame.lines a.window_size a.starts.now a.sizes.now) a.weights.now) a.precision a.excesses.now in
    let size = asked_good (bad_size s.set.layout.lines (windows s.set.layout) a.frame.row) c.size_fits.ensures.answer (ap not c.if-not-size_fits.false) in
    let d =
    bad_stored_fact s a.src.now a.frame.row a.frame.first a.frame.count a.out.now size (stored_bad store32 s a.frame.row size c.stored_fits32.ensures.answer (ap not c.if-not-stored_fits32.true)) in
    record { answer = d.0; written = d.1 }

pub returns-then-not-frame_fits : goal.returns-then-not-frame_fits
returns-then-not-frame_fits c =
    let a = c.args in
    let s : Stored = stored_of (set_of (layout_of a.frame.lines a.window_size a.starts.now a.sizes.now) a.weights.now) a.precision a.excesses.now in
    let size = asked_good (bad_size s.set.layout.lines (windows s.set.layout) a.frame.row) c.size_fits.ensures.answer (ap not c.if-not-size_fits.false) in
    let d =
    bad_area_fact s a.src.now a.frame.row a.frame.first a.frame.count a.out.now size (stored_good store32 s a.frame.row size c.stored_fits32.ensures.answer (ap not c.if-not-stored_fits32.false))
    (asked_bad (bad_area s.set.layout.lines (windows s.set.layout) (length a.src.now) a.frame.row a.frame.first a.frame.count (length a.out.now)) c.frame_fits.ensures.answer (ap not c.if-not-frame_fits.true)) in
    record { answer = d.0; written = d.1 }

pub rows-requires : goal.rows-requires
rows-requires c =
    let a = c.args in
    let s : Stored = stored_of (set_of (layout_of a.frame.lines a.window_size a.starts.now a.sizes.now) a.weights.now) a.precision a.excesses.now in
    let t = tests store32 s a.frame.row (length a.src.now) a.frame.first a.frame.count (length a.out.now) c.size_fits.ensures.answer (ap not c.if-not-size_fits.false) c.stored_fits32.ensures.answer (ap not c.if-not-stored_fits32.false) c.frame_fits.ensures.answer (ap not c.if-not-frame_fits.false) in
    let p = stored_precise s store32 t.stored in
    record { le_p = (omega (arith, p), p.most); ready = ready s.set (length a.src.now) a.frame.row a.frame.first a.frame.count (length a.out.now) (tests_shaped store32 s (length a.src.now) a.frame.row a.frame.first a.frame.count (length a.out.now) t) }

pub returns : goal.returns
returns c =
    let a = c.args in
    let s : Stored = stored_of (set_of (layout_of a.frame.lines a.window_size a.starts.now a.sizes.now) a.weights.now) a.precision a.excesses.now in
    let t = tests store32 s a.frame.row (length a.src.now) a.frame.first a.frame.count (length a.out.now) c.size_fits.ensures.answer (ap not c.if-not-size_fits.false) c.stored_fits32.ensures.answer (ap not c.if-not-stored_fits32.false) c.frame_fits.ensures.answer (ap not c.if-not-frame_fits.false) in
    let r = c.rows in
    let d =
    done s a.src.now a.frame.row a.frame.first a.frame.count a.out.now t r.new.out r.ensures in
    record { answer = d.0; written = d.1 }
