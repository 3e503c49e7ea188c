-- Each way out is one lemma of `Judged`, at the set that the lists make; what the judges said gives `some_heavy` and `rows` their premises. Assumes nothing.
use mathlib.Core.Path.{◌≡◌, ◌∙◌, sym, ap}
use mathlib.Core.Bool.{not, Bool}
use Prim.Native.Nat.{ℕ}
use native.Mathlib.Nat.{le_refl}
use native.Mathlib.Omega.{arith}
use lib.ListN.{length}
use Rattle.lists.specs.Tab.{any}
use Rattle.lists.proofs.BoolLaws.{asked_bad, asked_good}
use Rattle.windows.specs.Set.{layout_of, set_of, Stored, stored_of, windows}
use Rattle.windows.specs.Store.{store16}
use Rattle.windows.proofs.Fits.{in_slots}
use Rattle.excesses.proofs.StoredLaws.{stored_precise}
use Rattle.vertical.specs.Frame.{bad_size, bad_area}
use Rattle.vertical.proofs.Answers.{tests_shaped}
use Rattle.vertical.proofs.Judges.{stored_bad, stored_good, tests}
use Rattle.vertical.proofs.Turns.{ready}
use Rattle.vertical_u8.specs.Inner.{slot_heavy}
use Rattle.vertical_u8.proofs.Judged.{bad_size_fact, bad_stored_fact, bad_area_fact, too_heavy, done}
use Rattle.vertical_u8.proofs.vert_convolution_u8.Goals as goal

pub returns-then-not-size_fits : goal.returns-then-not-size_fits
returns-then-not-size_fits c =
    let a = c.args in
    let s : Stored = stored_of (set_of (layout_of a.frame.lines a.window_size a.starts.now a.sizes.now) a.weights.now) a.precision a.excesses.now in
    let d =
    bad_size_fact s a.src.now a.frame.row a.frame.first a.frame.count a.out.now (asked_bad (bad_size s.set.layout.lines (windows s.set.layout) a.frame.row) c.size_fits.ensures.answer (ap not c.if-not-size_fits.true)) in
    record { answer = d.0; written = d.1 }

pub returns-then-not-stored_fits16 : goal.returns-then-not-stored_fits16
returns-then-not-stored_fits16 c =
    let a = c.args in
    let s : Stored = stored_of (set_of (layout_of a.frame.lines a.window_size a.starts.now a.sizes.now) a.weights.now) a.precision a.excesses.now in
    let size = asked_good (bad_size s.set.layout.lines (windows s.set.layout) a.frame.row) c.size_fits.ensures.answer (ap not c.if-not-size_fits.false) in
    let d =
    bad_stored_fact s a.src.now a.frame.row a.frame.first a.frame.count a.out.now size (stored_bad store16 s a.frame.row size c.stored_fits16.ensures.answer (ap not c.if-not-stored_fits16.true)) in
    record { answer = d.0; written = d.1 }

pub returns-then-not-frame_fits : goal.returns-then-not-frame_fits
returns-then-not-frame_fits c =
    let a = c.args in
    let s : Stored = stored_of (set_of (layout_of a.frame.lines a.window_size a.starts.now a.sizes.now) a.weights.now) a.precision a.excesses.now in
    let size = asked_good (bad_size s.set.layout.lines (windows s.set.layout) a.frame.row) c.size_fits.ensures.answer (ap not c.if-not-size_fits.false) in
    let d =
    bad_area_fact s a.src.now a.frame.row a.frame.first a.frame.count a.out.now size (stored_good store16 s a.frame.row size c.stored_fits16.ensures.answer (ap not c.if-not-stored_fits16.false))
    (asked_bad (bad_area s.set.layout.lines (windows s.set.layout) (length a.src.now) a.frame.row a.frame.first a.frame.count (length a.out.now)) c.frame_fits.ensures.answer (ap not c.if-not-frame_fits.true)) in
    record { answer = d.0; written = d.1 }

pub some_heavy-requires : goal.some_heavy-requires
some_heavy-requires c =
    let a = c.args in
    let s : Stored = stored_of (set_of (layout_of a.frame.lines a.window_size a.starts.now a.sizes.now) a.weights.now) a.precision a.excesses.now in
    let t = tests store16 s a.frame.row (length a.src.now) a.frame.first a.frame.count (length a.out.now) c.size_fits.ensures.answer (ap not c.if-not-size_fits.false) c.stored_fits16.ensures.answer (ap not c.if-not-stored_fits16.false) c.frame_fits.ensures.answer (ap not c.if-not-frame_fits.false) in
    let f = tests_shaped store16 s (length a.src.now) a.frame.row a.frame.first a.frame.count (length a.out.now) t in
    let p = stored_precise s store16 t.stored in
    record { le_p = (omega (arith, p), p.most); in_slots = in_slots s.set.layout (length a.weights.now) f.set (length a.weights.now) (le_refl (length a.weights.now)) }

-- as many windows as sizes
same_count : {n m : ℕ} (t : ℕ → Bool) {r : Bool} {b : Bool} → n ≡ m → r ≡ any m t → r ≡ b → any n t ≡ b
same_count t e h k = ap (λ (n : ℕ). any n t) e ∙ sym h ∙ k

pub returns-then-some_heavy : goal.returns-then-some_heavy
returns-then-some_heavy c =
    let a = c.args in
    let s : Stored = stored_of (set_of (layout_of a.frame.lines a.window_size a.starts.now a.sizes.now) a.weights.now) a.precision a.excesses.now in
    let t = tests store16 s a.frame.row (length a.src.now) a.frame.first a.frame.count (length a.out.now) c.size_fits.ensures.answer (ap not c.if-not-size_fits.false) c.stored_fits16.ensures.answer (ap not c.if-not-stored_fits16.false) c.frame_fits.ensures.answer (ap not c.if-not-frame_fits.false) in
    let f = tests_shaped store16 s (length a.src.now) a.frame.row a.frame.first a.frame.count (length a.out.now) t in
    let d =
    too_heavy s a.src.now a.frame.row a.frame.first a.frame.count a.out.now t (same_count (slot_heavy a.window_size a.weights.now a.sizes.now a.precision) f.set.pairs c.some_heavy.ensures c.if-some_heavy.true) in
    record { answer = d.0; written = d.1 }

pub rows-requires : goal.rows-requires
rows-requires c =
    let a = c.args in
    let s : Stored = stored_of (set_of (layout_of a.frame.lines a.window_size a.starts.now a.sizes.now) a.weights.now) a.precision a.excesses.now in
    let t = tests store16 s a.frame.row (length a.src.now) a.frame.first a.frame.count (length a.out.now) c.size_fits.ensures.answer (ap not c.if-not-size_fits.false) c.stored_fits16.ensures.answer (ap not c.if-not-stored_fits16.false) c.frame_fits.ensures.answer (ap not c.if-not-frame_fits.false) in
    let f = tests_shaped store16 s (length a.src.now) a.frame.row a.frame.first a.frame.count (length a.out.now) t in
    let p = stored_precise s store16 t.stored in
    record { le_p = (omega (arith, p), p.most); ready = ready s.set (length a.src.now) a.frame.row a.frame.first a.frame.count (length a.out.now) f; p_value = sym c.some_heavy.ensures ∙ c.if-some_heavy.false }

pub returns : goal.returns
returns c =
    let a = c.args in
    let s : Stored = stored_of (set_of (layout_of a.frame.lines a.window_size a.starts.now a.sizes.now) a.weights.now) a.precision a.excesses.now in
    let t = tests store16 s a.frame.row (length a.src.now) a.frame.first a.frame.count (length a.out.now) c.size_fits.ensures.answer (ap not c.if-not-size_fits.false) c.stored_fits16.ensures.answer (ap not c.if-not-stored_fits16.false) c.frame_fits.ensures.answer (ap not c.if-not-frame_fits.false) in
    let f = tests_shaped store16 s (length a.src.now) a.frame.row a.frame.first a.frame.count (length a.out.now) t in
    let r = c.rows in
    let d =
    done s a.src.now a.frame.row a.frame.first a.frame.count a.out.now t (same_count (slot_heavy a.window_size a.weights.now a.sizes.now a.precision) f.set.pairs c.some_heavy.ensures c.if-some_heavy.false) r.new.out r.ensures in
    record { answer = d.0; written = d.1 }
