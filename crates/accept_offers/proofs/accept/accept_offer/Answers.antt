-- `accept::accept_offer` meets its contract: it asks the judge; a refusal leaves both lists as they were, and else the judge says what the writers ask. Assumes nothing.
use Rattle.std.specs.Prelude.{Err}
use Rattle.std.proofs.Common.{rules}
use mathlib.Core.Path.{◌≡◌, refl, sym, ap, ◌∙◌}
use Prim.Native.Nat.{ℕ, ◌*◌}
use Rattle.windows.specs.Set.{layout_of, set_of, Stored, stored_of}
use Rattle.windows.proofs.WeightLaws.{length_values}
use Rattle.repairs.specs.Offer.{Offer, offer_of}
use Rattle.repairs.specs.Answer.{accepted_of, number_of, weights_by, weights_of, excesses_by, excesses_of}
use Rattle.repairs.proofs.Taken.{fits, as_many, weights_in, excesses_in}
use Rattle.accept_offers.proofs.accept.accept_offer.Goals as goal

pub returns-in_err-judged : goal.returns-in_err-judged
unfolding weights_of weights_by excesses_of excesses_by
returns-in_err-judged g c =
    let a = c.args in
    let store = g.W.Weight.STORE in
    let set : Stored = stored_of (set_of (layout_of a.lines a.window_size a.starts.now a.sizes.now) (g.W.Weight.values a.weights.now)) a.precision a.excesses.now in
    let offer : Offer = offer_of a.offered_window_size a.offered_precision a.offered_starts.now a.offered_sizes.now (g.W.Weight.values a.offered_weights.now) in
    let refused : accepted_of store set offer ≡ Err c.in_err-judged.field-0.0 = sym c.judge_offer-judged.ensures.answer ∙ c.in_err-judged.was in
    let told : c.from_residual.result ≡ Err c.in_err-judged.field-0.0 = search rules in
    record { answer = told ∙ sym refused; written = rw refused refl; written2 = rw refused refl }

pub replace-requires : goal.replace-requires
replace-requires g c =
    let a = c.args in
    let each = g.met.W.Weight.each in
    let store = g.W.Weight.STORE in
    let set : Stored = stored_of (set_of (layout_of a.lines a.window_size a.starts.now a.sizes.now) (g.W.Weight.values a.weights.now)) a.precision a.excesses.now in
    let offer : Offer = offer_of a.offered_window_size a.offered_precision a.offered_starts.now a.offered_sizes.now (g.W.Weight.values a.offered_weights.now) in
    let zero : number_of (accepted_of store set offer) ≡ 0 = ap number_of (sym c.judge_offer-judged.ensures.answer ∙ c.in_ok-judged.was) in
    let fit = fits store set offer zero in
    let stored = length_values each a.weights.now in
    let offered = length_values each a.offered_weights.now in
    (fit.some_slot, sym stored ∙ fit.full ∙ ap (λ (n : ℕ). n * a.window_size) fit.pairs, sym offered ∙ as_many store set offer zero ∙ stored)

pub returns : goal.returns
returns g c =
    let a = c.args in
    let store = g.W.Weight.STORE in
    let set : Stored = stored_of (set_of (layout_of a.lines a.window_size a.starts.now a.sizes.now) (g.W.Weight.values a.weights.now)) a.precision a.excesses.now in
    let offer : Offer = offer_of a.offered_window_size a.offered_precision a.offered_starts.now a.offered_sizes.now (g.W.Weight.values a.offered_weights.now) in
    let zero : number_of (accepted_of store set offer) ≡ 0 = ap number_of (sym c.judge_offer-judged.ensures.answer ∙ c.in_ok-judged.was) in
    let slots = length_values g.met.W.Weight.each a.weights.now in
    record {
      answer = sym c.in_ok-judged.was ∙ c.judge_offer-judged.ensures.answer;
      written = c.replace.ensures.written ∙ rw (← slots) (sym (weights_in store set offer zero));
      written2 = c.clear.ensures.written ∙ sym (excesses_in store set offer zero);
    }
