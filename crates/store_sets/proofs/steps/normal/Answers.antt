-- `steps::normal` meets its contract: the normaliser is lent the beginnings of three lists. Assumes nothing.
use mathlib.Core.Path.{ap, ◌∙◌}
use Prim.Native.Nat.{◌*◌}
use native.Mathlib.Omega.{arith}
use lib.Ieee.{Float}
use lib.ListN.{length}
use Rattle.windows.specs.Set.{Set}
use Rattle.windows.specs.Store.{store32}
use Rattle.normalizer.specs.Answer.{normalized_of, written_of, excesses_of}
use Rattle.store_sets.proofs.Lending.{product_fits, set_begun}
use Rattle.store_sets.proofs.steps.normal.Goals as goal

pub overflow_mul-m : goal.overflow_mul-m
overflow_mul-m c = record { fits = product_fits c.args.n c.args.w (omega arith) (omega arith) }

pub returns : goal.returns
returns c =
    let a = c.args in
    let nm = c.normalize32 in
    let part = a.part.now in
    let excesses = a.excesses.now in
    let e = set_begun a.lines a.w (a.n * a.w) a.n a.doubles.now a.firsts.now a.counts.now in
    record { answer = nm.ensures.answer ∙ ap (λ (s : Set Float). normalized_of store32 s (length part) (length excesses)) e; written = nm.ensures.written ∙ ap (λ (s : Set Float). written_of store32 s (length excesses) part) e; written2 = nm.ensures.written2 ∙ ap (λ (s : Set Float). excesses_of store32 s (length part) excesses) e }
