-- `put` meets its contract: a set of a retired filter, and one that is barred, leave everything as it was (`retired_put`, `barred_put`), and one that is neither is placed (`placed_put`). Assumes nothing.
use mathlib.Core.Path.{◌∙◌, sym}
use Rattle.shares.specs.Store.{store_of, closed}
use Rattle.shares.specs.Scratch.{scratch_of}
use Rattle.shared_store.proofs.Entering.{retired_put, barred_put, placed_put}
use Rattle.shared_store.proofs.put.Goals as goal

pub returns-then-retired : goal.returns-then-retired
returns-then-retired c =
    let a = c.args in
    let all = retired_put (store_of a.numbers.now a.slots.now a.starts.now a.sizes.now a.excesses.now) a.client a.request (scratch_of a.doubles.now a.firsts.now a.counts.now)
    (sym c.retired.ensures.answer ∙ c.if-retired.true) in
    record { answer = all.0; written = all.1.0; written2 = all.1.1.0; written3 = all.1.1.1.0; written4 = all.1.1.1.1.0; written5 = all.1.1.1.1.1.0; written6 = all.1.1.1.1.1.1.0; written7 = all.1.1.1.1.1.1.1.0; written8 = all.1.1.1.1.1.1.1.1 }

pub returns-then-barred : goal.returns-then-barred
unfolding closed
returns-then-barred c =
    let a = c.args in
    let all = barred_put (store_of a.numbers.now a.slots.now a.starts.now a.sizes.now a.excesses.now) a.client a.request (scratch_of a.doubles.now a.firsts.now a.counts.now)
    (sym c.retired.ensures.answer ∙ c.if-retired.false) (sym c.barred.ensures.answer ∙ c.if-barred.true) in
    record { answer = all.0; written = all.1.0; written2 = all.1.1.0; written3 = all.1.1.1.0; written4 = all.1.1.1.1.0; written5 = all.1.1.1.1.1.0; written6 = all.1.1.1.1.1.1.0; written7 = all.1.1.1.1.1.1.1.0; written8 = all.1.1.1.1.1.1.1.1 }

pub place-requires : goal.place-requires
unfolding closed
place-requires c = sym c.barred.ensures.answer ∙ c.if-barred.false

pub returns : goal.returns
unfolding closed
returns c =
    let a = c.args in
    let p = c.place in
    let all = placed_put (store_of a.numbers.now a.slots.now a.starts.now a.sizes.now a.excesses.now) a.client a.request (scratch_of a.doubles.now a.firsts.now a.counts.now)
    (sym c.retired.ensures.answer ∙ c.if-retired.false)
    (sym c.barred.ensures.answer ∙ c.if-barred.false)
    p.result p.new.numbers p.new.slots p.new.starts p.new.sizes p.new.excesses p.new.doubles p.new.firsts p.new.counts
    (p.ensures.answer, (p.ensures.written, (p.ensures.written2, (p.ensures.written3, (p.ensures.written4, (p.ensures.written5, (p.ensures.written6, (p.ensures.written7, p.ensures.written8)))))))) in
    record { answer = all.0; written = all.1.0; written2 = all.1.1.0; written3 = all.1.1.1.0; written4 = all.1.1.1.1.0; written5 = all.1.1.1.1.1.0; written6 = all.1.1.1.1.1.1.0; written7 = all.1.1.1.1.1.1.1.0; written8 = all.1.1.1.1.1.1.1.1 }
