-- Each way out is one lemma of `Judged`, at the set that the lists make; what the judge and the scans said gives `rows` its premises. Assumes nothing.
use Rattle.std.specs.Prelude.{Ok}
use mathlib.Core.Bool.{not}
use mathlib.Core.Path.{ap, ◌∙◌}
use Prim.Native.Nat.{◌≤◌}
use native.Mathlib.Nat.{mul-le-mul}
use native.Mathlib.Omega.{arith}
use lib.Ieee.{Float}
use lib.ListN.{length}
use Rattle.lists.proofs.BoolLaws.{asked_bad, asked_good}
use Rattle.vertical.proofs.Answers.{shaped}
use Rattle.vertical.proofs.Turns.{ready}
use Rattle.vertical.specs.F32.{bad_weights, bad_samples}
use Rattle.vertical.specs.Frame.{bad_size, bad_shape}
use Rattle.windows.specs.Set.{Set, layout_of, set_of, windows}
use Rattle.finite_f32.proofs.Flags.{weights_said, samples_said}
use Rattle.row_f32.specs.Column.{window_value}
use Rattle.vertical_f32.proofs.Judged.{bad_size_fact, bad_shape_fact, bad_weights_fact, bad_samples_fact, all_finite, done}
use Rattle.vertical_f32.proofs.vert_convolution_f32.Goals as goal

pub returns-then-not-size_fits : goal.returns-then-not-size_fits
returns-then-not-size_fits c =
    let a = c.args in
    let s : Set Float = set_of (layout_of a.frame.lines a.window_size a.starts.now a.sizes.now) a.weights.now in
    let d =
    bad_size_fact s a.src.now a.frame.row a.frame.first a.frame.count a.out.now (asked_bad (bad_size s.layout.lines (windows s.layout) a.frame.row) c.size_fits.ensures.answer (ap not c.if-not-size_fits.true)) in
    record { answer = d.0; written = d.1 }

pub returns-then-not-shape_fits : goal.returns-then-not-shape_fits
returns-then-not-shape_fits c =
    let a = c.args in
    let s : Set Float = set_of (layout_of a.frame.lines a.window_size a.starts.now a.sizes.now) a.weights.now in
    let d =
    bad_shape_fact s a.src.now a.frame.row a.frame.first a.frame.count a.out.now
    (asked_good (bad_size s.layout.lines (windows s.layout) a.frame.row) c.size_fits.ensures.answer (ap not c.if-not-size_fits.false))
    (asked_bad (bad_shape s.layout (length s.weights) (length a.src.now) a.frame.row a.frame.first a.frame.count (length a.out.now)) c.shape_fits.ensures.answer (ap not c.if-not-shape_fits.true)) in
    record { answer = d.0; written = d.1 }

pub weights_fit-requires : goal.weights_fit-requires
weights_fit-requires c =
    let a = c.args in
    let s : Set Float = set_of (layout_of a.frame.lines a.window_size a.starts.now a.sizes.now) a.weights.now in
    let r = ready s (length a.src.now) a.frame.row a.frame.first a.frame.count (length a.out.now)
    (shaped s (length a.src.now) a.frame.row a.frame.first a.frame.count (length a.out.now)
    (asked_good (bad_size s.layout.lines (windows s.layout) a.frame.row) c.size_fits.ensures.answer (ap not c.if-not-size_fits.false))
    (asked_good (bad_shape s.layout (length s.weights) (length a.src.now) a.frame.row a.frame.first a.frame.count (length a.out.now)) c.shape_fits.ensures.answer (ap not c.if-not-shape_fits.false))) in
    record { starts_len = (r.set.pairs, r.set.full, r.set.few_windows, r.set.few_slots); by_index = r.set.small }

pub returns-then-not-weights_fit : goal.returns-then-not-weights_fit
returns-then-not-weights_fit c =
    let a = c.args in
    let s : Set Float = set_of (layout_of a.frame.lines a.window_size a.starts.now a.sizes.now) a.weights.now in
    let d =
    bad_weights_fact s a.src.now a.frame.row a.frame.first a.frame.count a.out.now
    (asked_good (bad_size s.layout.lines (windows s.layout) a.frame.row) c.size_fits.ensures.answer (ap not c.if-not-size_fits.false))
    (asked_good (bad_shape s.layout (length s.weights) (length a.src.now) a.frame.row a.frame.first a.frame.count (length a.out.now)) c.shape_fits.ensures.answer (ap not c.if-not-shape_fits.false))
    (asked_bad (bad_weights s) (weights_said s c.weights_fit.result c.weights_fit.ensures.small_weights c.weights_fit.ensures.fact) (ap not c.if-not-weights_fit.true)) in
    record { answer = d.0; written = d.1 }

pub samples_fit-requires : goal.samples_fit-requires
samples_fit-requires c =
    let a = c.args in
    let s : Set Float = set_of (layout_of a.frame.lines a.window_size a.starts.now a.sizes.now) a.weights.now in
    let r = ready s (length a.src.now) a.frame.row a.frame.first a.frame.count (length a.out.now)
    (shaped s (length a.src.now) a.frame.row a.frame.first a.frame.count (length a.out.now)
    (asked_good (bad_size s.layout.lines (windows s.layout) a.frame.row) c.size_fits.ensures.answer (ap not c.if-not-size_fits.false))
    (asked_good (bad_shape s.layout (length s.weights) (length a.src.now) a.frame.row a.frame.first a.frame.count (length a.out.now)) c.shape_fits.ensures.answer (ap not c.if-not-shape_fits.false))) in
    record { row_bound = (r.narrow, r.fit, r.set.pairs); by_index = r.set.ends; by_index_2 = r.inside }

pub returns-then-not-samples_fit : goal.returns-then-not-samples_fit
returns-then-not-samples_fit c =
    let a = c.args in
    let s : Set Float = set_of (layout_of a.frame.lines a.window_size a.starts.now a.sizes.now) a.weights.now in
    let d =
    bad_samples_fact s a.src.now a.frame.row a.frame.first a.frame.count a.out.now
    (asked_good (bad_size s.layout.lines (windows s.layout) a.frame.row) c.size_fits.ensures.answer (ap not c.if-not-size_fits.false))
    (asked_good (bad_shape s.layout (length s.weights) (length a.src.now) a.frame.row a.frame.first a.frame.count (length a.out.now)) c.shape_fits.ensures.answer (ap not c.if-not-shape_fits.false))
    (asked_good (bad_weights s) (weights_said s c.weights_fit.result c.weights_fit.ensures.small_weights c.weights_fit.ensures.fact) (ap not c.if-not-weights_fit.false))
    (asked_bad (bad_samples s a.src.now a.frame.row a.frame.first a.frame.count) (samples_said s a.src.now a.frame.row a.frame.first a.frame.count c.samples_fit.result c.samples_fit.ensures.small_samples c.samples_fit.ensures.fact) (ap not c.if-not-samples_fit.true)) in
    record { answer = d.0; written = d.1 }

pub rows-finite-requires : goal.rows-finite-requires
rows-finite-requires c =
    let a = c.args in
    let s : Set Float = set_of (layout_of a.frame.lines a.window_size a.starts.now a.sizes.now) a.weights.now in
    record {
      ready = ready s (length a.src.now) a.frame.row a.frame.first a.frame.count (length a.out.now)
          (shaped s (length a.src.now) a.frame.row a.frame.first a.frame.count (length a.out.now)
          (asked_good (bad_size s.layout.lines (windows s.layout) a.frame.row) c.size_fits.ensures.answer (ap not c.if-not-size_fits.false))
          (asked_good (bad_shape s.layout (length s.weights) (length a.src.now) a.frame.row a.frame.first a.frame.count (length a.out.now)) c.shape_fits.ensures.answer (ap not c.if-not-shape_fits.false)));
      small_weights = c.weights_fit.ensures.small_weights (c.if-not-weights_fit.false);
      small_samples = c.samples_fit.ensures.small_samples (c.if-not-samples_fit.false);
    }

pub counted-requires : goal.counted-requires
counted-requires c =
    let a = c.args in
    let s : Set Float = set_of (layout_of a.frame.lines a.window_size a.starts.now a.sizes.now) a.weights.now in
    let q = ready s (length a.src.now) a.frame.row a.frame.first a.frame.count (length a.out.now)
    (shaped s (length a.src.now) a.frame.row a.frame.first a.frame.count (length a.out.now)
    (asked_good (bad_size s.layout.lines (windows s.layout) a.frame.row) c.size_fits.ensures.answer (ap not c.if-not-size_fits.false))
    (asked_good (bad_shape s.layout (length s.weights) (length a.src.now) a.frame.row a.frame.first a.frame.count (length a.out.now)) c.shape_fits.ensures.answer (ap not c.if-not-shape_fits.false))) in
    let r = c.rows-finite in
    let few : a.frame.count ≤ 32768 = omega (arith, q.fit, q.narrow) in
    record {
      out_len_bound = omega (arith, r.auto.out, q.rooms, mul-le-mul q.set.few_windows few);
      nan_value = (λ e. all_finite (window_value a.src.now a.frame.row a.frame.first a.starts.now a.sizes.now a.window_size a.weights.now) (length a.starts.now) a.frame.count
          r.new.out (r.auto.out ∙ q.rooms) r.ensures.by_index (r.ensures.at_most e));
    }

pub returns : goal.returns
returns c =
    let a = c.args in
    let s : Set Float = set_of (layout_of a.frame.lines a.window_size a.starts.now a.sizes.now) a.weights.now in
    let r = c.rows-finite in
    let d =
    done s a.src.now a.frame.row a.frame.first a.frame.count a.out.now
    (asked_good (bad_size s.layout.lines (windows s.layout) a.frame.row) c.size_fits.ensures.answer (ap not c.if-not-size_fits.false))
    (asked_good (bad_shape s.layout (length s.weights) (length a.src.now) a.frame.row a.frame.first a.frame.count (length a.out.now)) c.shape_fits.ensures.answer (ap not c.if-not-shape_fits.false))
    (asked_good (bad_weights s) (weights_said s c.weights_fit.result c.weights_fit.ensures.small_weights c.weights_fit.ensures.fact) (ap not c.if-not-weights_fit.false))
    (asked_good (bad_samples s a.src.now a.frame.row a.frame.first a.frame.count) (samples_said s a.src.now a.frame.row a.frame.first a.frame.count c.samples_fit.result c.samples_fit.ensures.small_samples c.samples_fit.ensures.fact) (ap not c.if-not-samples_fit.false))
    r.new.out
    r.auto.out
    r.ensures.by_index in
    record { answer = ap Ok c.counted.ensures ∙ d.0; written = d.1 }
