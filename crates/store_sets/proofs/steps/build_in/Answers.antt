-- `steps::build_in` meets its contract: the builder is lent three beginnings, and what it leaves comes back in front of the rest. Assumes nothing.
use mathlib.Core.Path.{◌∙◌}
use Prim.Native.Nat.{◌-◌}
use lib.ListN.{take, drop}
use Rattle.coefficients.specs.Request.{built_of, weights_of, starts_of, sizes_of}
use Rattle.store_sets.proofs.Lending.{begun_long, begun_back, by_lengths}
use Rattle.store_sets.proofs.steps.build_in.Goals as goal

pub returns : goal.returns
returns c =
    let a = c.args in
    let b = c.build-built in
    let q = a.request in
    let ld = begun_long a.room a.doubles.now c.requires.fact_1 in
    let lf = begun_long 8192 a.firsts.now c.requires.fact_2 in
    let lc = begun_long 8192 a.counts.now c.requires.fact_3 in
    record { answer = c.staged.ensures.answer ∙ b.ensures.answer ∙ by_lengths (built_of q) ld lf lc; written = begun_back a.room (weights_of q a.room 8192 8192) b.new.weights a.doubles.now (b.ensures.written ∙ by_lengths (λ i j k. weights_of q i j k (take (a.room - 0) (drop 0 a.doubles.now))) ld lf lc); written2 = begun_back 8192 (starts_of q a.room 8192 8192) b.new.starts a.firsts.now (b.ensures.written2 ∙ by_lengths (λ i j k. starts_of q i j k (take (8192 - 0) (drop 0 a.firsts.now))) ld lf lc); written3 = begun_back 8192 (sizes_of q a.room 8192 8192) b.new.sizes a.counts.now (b.ensures.written3 ∙ by_lengths (λ i j k. sizes_of q i j k (take (8192 - 0) (drop 0 a.counts.now))) ld lf lc) }
