-- `make::make_offer` meets its contract: it asks the judge; an offer that is not made leaves the list as it was, and else the judge says what the writer asks (`making`). Assumes nothing.
use Rattle.std.specs.Prelude.{Err}
use Rattle.std.proofs.Common.{rules}
use mathlib.Core.Path.{◌≡◌, sym, ap, refl, ◌∙◌}
use Prim.Native.Nat.{ℕ, ◌*◌}
use native.Mathlib.Omega.{arith}
use lib.ListN.{length}
use Rattle.windows.specs.Set.{layout_of, set_of, Stored, stored_of}
use Rattle.windows.proofs.WeightLaws.{length_values}
use Rattle.excesses.proofs.StoredLaws.{excess_count}
use Rattle.repairs.specs.Answer.{offered_of, offered_number, written_by, written_of}
use Rattle.repairs.proofs.Judged.{answered_0, offer_written, whole, offer_is}
use Rattle.repairs.proofs.Own.{Making, making}
use Rattle.make_offers.proofs.make.make_offer.Goals as goal

pub returns-in_err-judge_set : goal.returns-in_err-judge_set
unfolding written_of written_by
returns-in_err-judge_set g c =
    let a = c.args in
    let store = g.W.Weight.STORE in
    let set : Stored = stored_of (set_of (layout_of a.lines a.window_size a.starts.now a.sizes.now) (g.W.Weight.values a.weights.now)) a.precision a.excesses.now in
    let held = g.W.Weight.values a.out.now in
    let room = length_values g.met.W.Weight.each a.out.now in
    let refused : offered_of store set (length a.out.now) ≡ Err c.in_err-judge_set.field-0.0 = sym c.judge_set.ensures.answer ∙ c.in_err-judge_set.was in
    let told : c.from_residual.result ≡ Err c.in_err-judge_set.field-0.0 = search rules in
    record { answer = told ∙ sym refused; written = rw (room, refused) refl }

pub write_offers-requires : goal.write_offers-requires
write_offers-requires g c =
    let a = c.args in
    let store = g.W.Weight.STORE in
    let set : Stored = stored_of (set_of (layout_of a.lines a.window_size a.starts.now a.sizes.now) (g.W.Weight.values a.weights.now)) a.precision a.excesses.now in
    let made : Making store set (length a.out.now) = making store set (length a.out.now) (ap offered_number (sym c.judge_set.ensures.answer ∙ c.in_ok-judge_set.was)) in
    let fit = whole store set made.sides made.fine in
    let slots = length_values g.met.W.Weight.each a.weights.now in
    (sym slots ∙ fit.full ∙ ap (λ (n : ℕ). n * a.window_size) fit.pairs, excess_count set store made.fine ∙ fit.pairs, omega (arith, slots, fit.full, made.enough))

pub returns : goal.returns
returns g c =
    let a = c.args in
    let store = g.W.Weight.STORE in
    let set : Stored = stored_of (set_of (layout_of a.lines a.window_size a.starts.now a.sizes.now) (g.W.Weight.values a.weights.now)) a.precision a.excesses.now in
    let held = g.W.Weight.values a.out.now in
    let room = length_values g.met.W.Weight.each a.out.now in
    let made : Making store set (length held) = making store set (length held) (rw room (ap offered_number (sym c.judge_set.ensures.answer ∙ c.in_ok-judge_set.was))) in
    record {
      answer = sym c.in_ok-judge_set.was ∙ c.judge_set.ensures.answer;
      written = c.write_offers.ensures.written ∙ offer_is store set made.sides made.fine held ∙ offer_written store set held (answered_0 store set (length held) made.sides made.enough made.fine made.all);
    }
