-- `make` meets its contract: refused by the builder, nothing is made (`not_built`); else the builder's lists begin with the planned set (`set_left`), and the normaliser's answer
-- and lists are those of `made_of` (Making). That `normal` may be called is `room`. Assumes nothing.
use Rattle.std.specs.Prelude.{Ok, Err}
use Rattle.std.proofs.Common.{rules}
use Rattle.coefficients.specs.declared.NotBuilt.TheVariants.{Refused}
use mathlib.Core.Path.{◌≡◌, refl, sym, ap, ◌∙◌}
use Prim.Native.Nat.{◌*◌}
use native.Mathlib.Nat.{le_trans, le_of_eq}
use lib.ListN.{length, take}
use Rattle.windows.specs.Set.{layout_of, set_of}
use Rattle.made_sets.specs.Made.{planned_set, Made, none, made_of}
use Rattle.made_sets.proofs.Planned.{plan, room, set_left}
use Rattle.made_sets.proofs.Choice.{not_built}
use Rattle.store_sets.specs.Inner.{outcome, slots_after, excesses_after}
use Rattle.store_sets.proofs.Making.{lists_same, make_answer, make_slots, make_excesses}
use Rattle.store_sets.proofs.make.Goals as goal

pub returns-in_err-window : goal.returns-in_err-window
unfolding outcome slots_after excesses_after
returns-in_err-window c =
    let a = c.args in
    let b = c.build_in-built in
    let n = length a.part.now in
    let x = c.in_err-window.field-0.0 in
    let m : made_of a.request n ≡ none x = not_built a.request n x (sym b.ensures.answer ∙ c.in_err-window.was) in
    let told : c.from_residual.result ≡ Err x = search rules in
    record { answer = told ∙ sym (ap outcome m); written = sym (ap (λ (k : Made). slots_after k a.part.now) m); written2 = sym (ap (λ (k : Made). excesses_after k a.excesses.now) m); written3 = b.ensures.written; written4 = b.ensures.written2; written5 = b.ensures.written3 }

pub normal-requires : goal.normal-requires
normal-requires c =
    let a = c.args in
    let b = c.build_in-built in
    let n = length a.part.now in
    let r = room a.request n c.in_ok-window.window (sym b.ensures.answer ∙ c.in_ok-window.was) in
    record { fact_1 = le_trans r.slots_there (le_trans c.requires.fact_2 (le_of_eq (sym b.auto.doubles))); fact_2 = le_trans r.few (le_trans c.requires.fact_3 (le_of_eq (sym b.auto.firsts))); fact_3 = le_trans r.few (le_trans c.requires.fact_4 (le_of_eq (sym b.auto.counts))) }

pub returns-in_err-precision : goal.returns-in_err-precision
returns-in_err-precision c =
    let a = c.args in
    let b = c.build_in-built in
    let side = c.side_of in
    let nm = c.normal in
    let q = a.request in
    let w = c.in_ok-window.window in
    let n = length a.part.now in
    let done = sym b.ensures.answer ∙ c.in_ok-window.was in
    let set = set_of (layout_of side.result w (take q.output b.new.firsts) (take q.output b.new.counts)) (take (q.output * w) b.new.doubles) in
    let same : set ≡ planned_set (plan q n w done) =
    lists_same w q.output (q.output * w) side.ensures.answer b.ensures.written b.ensures.written2 b.ensures.written3
    ∙ set_left q n w done a.doubles.now a.firsts.now a.counts.now in
    let refused : c.from_residual-in_err-precision.result ≡ Err (Refused c.in_err-precision.field-0.0) = search rules in
    record { answer = refused ∙ make_answer q n w done a.part.now a.excesses.now refl c.requires.fact_1 set same (Err c.in_err-precision.field-0.0) (sym c.in_err-precision.was ∙ nm.ensures.answer); written = nm.ensures.written ∙ make_slots q n w done a.part.now a.excesses.now refl c.requires.fact_1 set same; written2 = nm.ensures.written2 ∙ make_excesses q n w done a.part.now a.excesses.now refl c.requires.fact_1 set same; written3 = b.ensures.written; written4 = b.ensures.written2; written5 = b.ensures.written3 }

pub returns : goal.returns
returns c =
    let a = c.args in
    let b = c.build_in-built in
    let side = c.side_of in
    let nm = c.normal in
    let q = a.request in
    let w = c.in_ok-window.window in
    let n = length a.part.now in
    let done = sym b.ensures.answer ∙ c.in_ok-window.was in
    let set = set_of (layout_of side.result w (take q.output b.new.firsts) (take q.output b.new.counts)) (take (q.output * w) b.new.doubles) in
    let same : set ≡ planned_set (plan q n w done) =
    lists_same w q.output (q.output * w) side.ensures.answer b.ensures.written b.ensures.written2 b.ensures.written3
    ∙ set_left q n w done a.doubles.now a.firsts.now a.counts.now in
    record { answer = make_answer q n w done a.part.now a.excesses.now refl c.requires.fact_1 set same (Ok c.in_ok-precision.precision) (sym c.in_ok-precision.was ∙ nm.ensures.answer); written = nm.ensures.written ∙ make_slots q n w done a.part.now a.excesses.now refl c.requires.fact_1 set same; written2 = nm.ensures.written2 ∙ make_excesses q n w done a.part.now a.excesses.now refl c.requires.fact_1 set same; written3 = b.ensures.written; written4 = b.ensures.written2; written5 = b.ensures.written3 }
