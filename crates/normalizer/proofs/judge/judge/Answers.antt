-- `judge`: each way is a row of `normalized_of`, the rows before it having failed; what each test left is named once. Assumes nothing.
use mathlib.Core.Path.{◌≡◌, sym, ap, ◌∙◌}
use mathlib.Core.Bool.{not, false, ◌||◌}
use Prim.Native.Nat.{ℕ, ◌*◌}
use native.Mathlib.Nat.{lt_of_le_of_lt, le_of_eq}
use lib.Dec.{ltb}
use lib.ListN.{length}
use Rattle.lists.specs.Ranges.{bad_sides_value}
use Rattle.lists.specs.Tab.{any}
use Rattle.lists.proofs.BoolLaws.{asked_bad, asked_good}
use Rattle.windows.specs.Set.{Layout, layout_of}
use Rattle.windows.specs.Fit.{bad_set}
use Rattle.windows.proofs.Fits.{fits}
use Rattle.weight_precision.specs.Weights.{not_finite_value}
use Rattle.normalizer.proofs.Judged.{precision_small, slots_fit, first_row, second_row, third_row, weight_row, precision_row, no_row}
use Rattle.normalizer.proofs.judge.judge.Goals as goal

pub returns-then-not-sides_fit : goal.returns-then-not-sides_fit
returns-then-not-sides_fit c = first_row _ _ _ _ (asked_bad _ c.sides_fit.ensures.answer (ap not c.if-not-sides_fit.true))

pub overflow_mul-starts : goal.overflow_mul-starts
overflow_mul-starts c =
    let sides : bad_sides_value c.args.lines (length c.args.starts.now) ≡ false = asked_good _ c.sides_fit.ensures.answer (ap not c.if-not-sides_fit.false) in
    record { fits = slots_fit c.args.lines _ _ sides c.ranges.window_size.fits }

pub returns-then-room-starts : goal.returns-then-room-starts
returns-then-room-starts c =
    let sides : bad_sides_value c.args.lines (length c.args.starts.now) ≡ false = asked_good _ c.sides_fit.ensures.answer (ap not c.if-not-sides_fit.false) in
    second_row _ _ _ _ sides c.if-room-starts.true

pub returns-then-not-set_fits : goal.returns-then-not-set_fits
returns-then-not-set_fits c =
    let sides : bad_sides_value c.args.lines (length c.args.starts.now) ≡ false = asked_good _ c.sides_fit.ensures.answer (ap not c.if-not-sides_fit.false) in
    let room : let a = c.args in ltb a.room (length a.starts.now * a.window_size) || ltb a.places (length a.starts.now) ≡ false = c.if-room-starts.false in
    third_row _ _ _ _ sides room (asked_bad _ c.set_fits.ensures.answer (ap not c.if-not-set_fits.true))

pub returns-then-some_not_finite : goal.returns-then-some_not_finite
returns-then-some_not_finite c =
    let sides : bad_sides_value c.args.lines (length c.args.starts.now) ≡ false = asked_good _ c.sides_fit.ensures.answer (ap not c.if-not-sides_fit.false) in
    let room : let a = c.args in ltb a.room (length a.starts.now * a.window_size) || ltb a.places (length a.starts.now) ≡ false = c.if-room-starts.false in
    let layout : Layout = let a = c.args in layout_of a.lines a.window_size a.starts.now a.sizes.now in
    let lists : bad_set layout (length c.args.weights.now) ≡ false = asked_good _ c.set_fits.ensures.answer (ap not c.if-not-set_fits.false) in
    weight_row _ _ _ _ sides room lists (sym c.some_not_finite.ensures ∙ c.if-some_not_finite.true)

pub unstorable-requires : goal.unstorable-requires
unstorable-requires c =
    let layout : Layout = let a = c.args in layout_of a.lines a.window_size a.starts.now a.sizes.now in
    let sides : bad_sides_value c.args.lines (length c.args.starts.now) ≡ false = asked_good _ c.sides_fit.ensures.answer (ap not c.if-not-sides_fit.false) in
    let lists : bad_set layout (length c.args.weights.now) ≡ false = asked_good _ c.set_fits.ensures.answer (ap not c.if-not-set_fits.false) in
    let a = c.args in
    let set = fits layout (length a.weights.now) sides lists in
    let small = precision_small a.store a.weights.now c.requires.fact_1 c.requires.fact_2 in
    record { fact_1 = c.requires.fact_3; fact_2 = lt_of_le_of_lt (le_of_eq c.precision-p.ensures) small; fact_3 = set.some_slot; fact_4 = set.full ∙ ap (λ (n : ℕ). n * a.window_size) set.pairs }

pub returns-then-unstorable : goal.returns-then-unstorable
returns-then-unstorable c =
    let sides : bad_sides_value c.args.lines (length c.args.starts.now) ≡ false = asked_good _ c.sides_fit.ensures.answer (ap not c.if-not-sides_fit.false) in
    let room : let a = c.args in ltb a.room (length a.starts.now * a.window_size) || ltb a.places (length a.starts.now) ≡ false = c.if-room-starts.false in
    let layout : Layout = let a = c.args in layout_of a.lines a.window_size a.starts.now a.sizes.now in
    let lists : bad_set layout (length c.args.weights.now) ≡ false = asked_good _ c.set_fits.ensures.answer (ap not c.if-not-set_fits.false) in
    let numbers : let a = c.args in any (length a.weights.now) (not_finite_value a.weights.now) ≡ false = sym c.some_not_finite.ensures ∙ c.if-some_not_finite.false in
    precision_row _ _ _ _ sides room lists numbers _ c.precision-p.ensures (sym c.unstorable.ensures ∙ c.if-unstorable.true)

pub returns : goal.returns
returns c =
    let sides : bad_sides_value c.args.lines (length c.args.starts.now) ≡ false = asked_good _ c.sides_fit.ensures.answer (ap not c.if-not-sides_fit.false) in
    let room : let a = c.args in ltb a.room (length a.starts.now * a.window_size) || ltb a.places (length a.starts.now) ≡ false = c.if-room-starts.false in
    let layout : Layout = let a = c.args in layout_of a.lines a.window_size a.starts.now a.sizes.now in
    let lists : bad_set layout (length c.args.weights.now) ≡ false = asked_good _ c.set_fits.ensures.answer (ap not c.if-not-set_fits.false) in
    let numbers : let a = c.args in any (length a.weights.now) (not_finite_value a.weights.now) ≡ false = sym c.some_not_finite.ensures ∙ c.if-some_not_finite.false in
    no_row _ _ _ _ sides room lists numbers _ c.precision-p.ensures (sym c.unstorable.ensures ∙ c.if-unstorable.false)
