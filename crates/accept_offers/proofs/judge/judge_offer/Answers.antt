-- `judge::judge_offer` meets its contract: the ways are those of `Judged`. What No. 1 and No. 10 leave true of the set, and the test of the offer's shape of its length, is what
-- the walk over the windows asks. Assumes nothing.
use mathlib.Core.Path.{◌≡◌, sym, ap, refl, ◌∙◌}
use mathlib.Core.Bool.{not, Bool, false}
use Prim.Native.Nat.{ℕ, ◌≤◌}
use native.Mathlib.Omega.{arith}
use lib.ListN.{length}
use Rattle.lists.specs.Ranges.{bad_sides_value}
use Rattle.lists.specs.Tab.{any}
use Rattle.lists.proofs.BoolLaws.{or_right, asked_bad, asked_good}
use Rattle.windows.specs.Set.{layout_of, set_of, Stored, stored_of}
use Rattle.windows.specs.Fit.{bad_stored, unfit}
use Rattle.windows.proofs.WeightLaws.{length_values}
use Rattle.excesses.proofs.StoredLaws.{stored_precise}
use Rattle.repairs.specs.Offer.{Offer, offer_of, other_set, refused_at}
use Rattle.repairs.proofs.Judged.{judged_1, judged_10, judged_14, judged_0, or_one, or_two, or_none, shape_is, same_slots, whole, inside}
use Rattle.accept_offers.proofs.judge.judge_offer.Goals as goal

pub returns-then-not-sides_fit : goal.returns-then-not-sides_fit
returns-then-not-sides_fit g c =
    let a = c.args in
    let set : Stored = stored_of (set_of (layout_of a.lines a.window_size a.starts.now a.sizes.now) (g.W.Weight.values a.weights.now)) a.precision a.excesses.now in
    let offer : Offer = offer_of a.offered_window_size a.offered_precision a.offered_starts.now a.offered_sizes.now (g.W.Weight.values a.offered_weights.now) in
    record { answer = judged_1 g.W.Weight.STORE set offer (asked_bad (bad_sides_value a.lines (length a.starts.now)) c.sides_fit.ensures.answer (ap not c.if-not-sides_fit.true)) }

pub returns-then-not-fits : goal.returns-then-not-fits
returns-then-not-fits g c =
    let a = c.args in
    let store = g.W.Weight.STORE in
    let set : Stored = stored_of (set_of (layout_of a.lines a.window_size a.starts.now a.sizes.now) (g.W.Weight.values a.weights.now)) a.precision a.excesses.now in
    let offer : Offer = offer_of a.offered_window_size a.offered_precision a.offered_starts.now a.offered_sizes.now (g.W.Weight.values a.offered_weights.now) in
    let good : bad_sides_value a.lines (length a.starts.now) ≡ false = asked_good _ c.sides_fit.ensures.answer (ap not c.if-not-sides_fit.false) in
    record { answer = judged_10 store set offer good (rw good at (asked_bad (unfit set store) c.stored_fits-fits.ensures.answer (ap not c.if-not-fits.true))) }

pub returns-then-shape_differs : goal.returns-then-shape_differs
returns-then-shape_differs g c =
    let a = c.args in
    let each = g.met.W.Weight.each in
    let store = g.W.Weight.STORE in
    let set : Stored = stored_of (set_of (layout_of a.lines a.window_size a.starts.now a.sizes.now) (g.W.Weight.values a.weights.now)) a.precision a.excesses.now in
    let offer : Offer = offer_of a.offered_window_size a.offered_precision a.offered_starts.now a.offered_sizes.now (g.W.Weight.values a.offered_weights.now) in
    let refused : Bool = any (length a.starts.now) (refused_at set offer store) in
    let sides : Bool = bad_sides_value a.lines (length a.starts.now) in
    let good : sides ≡ false = asked_good sides c.sides_fit.ensures.answer (ap not c.if-not-sides_fit.false) in
    let fine : bad_stored set store ≡ false = or_right sides (bad_stored set store) (asked_good (unfit set store) c.stored_fits-fits.ensures.answer (ap not c.if-not-fits.false)) in
    let shape : c.shape_differs.result ≡ other_set set offer = shape_is a.window_size a.precision (length a.weights.now) (length set.set.weights) a.offered_window_size a.offered_precision (length a.offered_weights.now) (length offer.weights) a.starts.now a.sizes.now a.offered_starts.now a.offered_sizes.now c.shape_differs.ensures.answer (sym (length_values each a.weights.now)) (sym (length_values each a.offered_weights.now)) in
    record { answer = judged_14 store set offer good fine (or_one (other_set set offer) refused (sym shape ∙ c.if-shape_differs.true)) }

pub some_refused-requires : goal.some_refused-requires
some_refused-requires g c =
    let a = c.args in
    let laws = g.met.W.Weight in
    let store = g.W.Weight.STORE in
    let set : Stored = stored_of (set_of (layout_of a.lines a.window_size a.starts.now a.sizes.now) (g.W.Weight.values a.weights.now)) a.precision a.excesses.now in
    let offer : Offer = offer_of a.offered_window_size a.offered_precision a.offered_starts.now a.offered_sizes.now (g.W.Weight.values a.offered_weights.now) in
    let sides : Bool = bad_sides_value a.lines (length a.starts.now) in
    let good : sides ≡ false = asked_good sides c.sides_fit.ensures.answer (ap not c.if-not-sides_fit.false) in
    let fine : bad_stored set store ≡ false = or_right sides (bad_stored set store) (asked_good (unfit set store) c.stored_fits-fits.ensures.answer (ap not c.if-not-fits.false)) in
    let stored = length_values laws.each a.weights.now in
    let offered = length_values laws.each a.offered_weights.now in
    let shape : c.shape_differs.result ≡ other_set set offer = shape_is a.window_size a.precision (length a.weights.now) (length set.set.weights) a.offered_window_size a.offered_precision (length a.offered_weights.now) (length offer.weights) a.starts.now a.sizes.now a.offered_starts.now a.offered_sizes.now c.shape_differs.ensures.answer (sym stored) (sym offered) in
    let alike : other_set set offer ≡ false = sym shape ∙ c.if-shape_differs.false in
    let slots = same_slots a.window_size a.precision (length set.set.weights) a.offered_window_size a.offered_precision (length offer.weights) a.starts.now a.sizes.now a.offered_starts.now a.offered_sizes.now alike in
    let small : a.precision ≤ 45 = omega (arith, (stored_precise set store fine).most, laws.bits_small) in
    record { limit_bound = (rw c.STORE.ensures laws.limit_small, small); in_slots = rw stored at (inside store set good fine); offered_len = rw (stored, offered) at slots }

pub returns-then-some_refused : goal.returns-then-some_refused
returns-then-some_refused g c =
    let a = c.args in
    let each = g.met.W.Weight.each in
    let store = g.W.Weight.STORE in
    let set : Stored = stored_of (set_of (layout_of a.lines a.window_size a.starts.now a.sizes.now) (g.W.Weight.values a.weights.now)) a.precision a.excesses.now in
    let offer : Offer = offer_of a.offered_window_size a.offered_precision a.offered_starts.now a.offered_sizes.now (g.W.Weight.values a.offered_weights.now) in
    let refused : Bool = any (length a.starts.now) (refused_at set offer store) in
    let sides : Bool = bad_sides_value a.lines (length a.starts.now) in
    let good : sides ≡ false = asked_good sides c.sides_fit.ensures.answer (ap not c.if-not-sides_fit.false) in
    let fine : bad_stored set store ≡ false = or_right sides (bad_stored set store) (asked_good (unfit set store) c.stored_fits-fits.ensures.answer (ap not c.if-not-fits.false)) in
    let shape : c.shape_differs.result ≡ other_set set offer = shape_is a.window_size a.precision (length a.weights.now) (length set.set.weights) a.offered_window_size a.offered_precision (length a.offered_weights.now) (length offer.weights) a.starts.now a.sizes.now a.offered_starts.now a.offered_sizes.now c.shape_differs.ensures.answer (sym (length_values each a.weights.now)) (sym (length_values each a.offered_weights.now)) in
    let alike : other_set set offer ≡ false = sym shape ∙ c.if-shape_differs.false in
    let said : c.some_refused.result ≡ refused = c.some_refused.ensures.answer ∙ rw c.STORE.ensures refl ∙ ap (λ (n : ℕ). any n (refused_at set offer store)) (sym (whole store set good fine).pairs) in
    record { answer = judged_14 store set offer good fine (or_two (other_set set offer) refused alike (sym said ∙ c.if-some_refused.true)) }

pub returns : goal.returns
returns g c =
    let a = c.args in
    let each = g.met.W.Weight.each in
    let store = g.W.Weight.STORE in
    let set : Stored = stored_of (set_of (layout_of a.lines a.window_size a.starts.now a.sizes.now) (g.W.Weight.values a.weights.now)) a.precision a.excesses.now in
    let offer : Offer = offer_of a.offered_window_size a.offered_precision a.offered_starts.now a.offered_sizes.now (g.W.Weight.values a.offered_weights.now) in
    let refused : Bool = any (length a.starts.now) (refused_at set offer store) in
    let sides : Bool = bad_sides_value a.lines (length a.starts.now) in
    let good : sides ≡ false = asked_good sides c.sides_fit.ensures.answer (ap not c.if-not-sides_fit.false) in
    let fine : bad_stored set store ≡ false = or_right sides (bad_stored set store) (asked_good (unfit set store) c.stored_fits-fits.ensures.answer (ap not c.if-not-fits.false)) in
    let shape : c.shape_differs.result ≡ other_set set offer = shape_is a.window_size a.precision (length a.weights.now) (length set.set.weights) a.offered_window_size a.offered_precision (length a.offered_weights.now) (length offer.weights) a.starts.now a.sizes.now a.offered_starts.now a.offered_sizes.now c.shape_differs.ensures.answer (sym (length_values each a.weights.now)) (sym (length_values each a.offered_weights.now)) in
    let alike : other_set set offer ≡ false = sym shape ∙ c.if-shape_differs.false in
    let said : c.some_refused.result ≡ refused = c.some_refused.ensures.answer ∙ rw c.STORE.ensures refl ∙ ap (λ (n : ℕ). any n (refused_at set offer store)) (sym (whole store set good fine).pairs) in
    record { answer = judged_0 store set offer good fine (or_none (other_set set offer) refused alike (sym said ∙ c.if-some_refused.false)) }
