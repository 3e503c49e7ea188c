-- `slot`: a scaled weight that the type holds is cut to itself by the library's truncation, and fits. Assumes nothing.
use Rattle.std.proofs.Common.{◌≡◌, ◌∙◌, ap, arith, le_trans, to_z, of_z, to_z-of_z, w64}
use Rattle.weight_precision.proofs.Casts.{Cut, held, in_type}
use lib.Ieee.Casts.{to_signed_in}
use Rattle.weight_precision.specs.Precision.{scaled, integer}
use lib.Ieee.{to_signed}
use Rattle.weight_slots.proofs.slots.slot.Goals as goal

pub truncating_f64_to_i64-requires : goal.truncating_f64_to_i64-requires
truncating_f64_to_i64-requires g c =
    let store = g.W.Weight.STORE in
    let cut : Cut store.limit (scaled c.args.p c.args.w) = held store (le_trans g.met.W.Weight.limit_small (omega arith)) (scaled c.args.p c.args.w) (in_type c.args.used _ c.requires.fact_2 c.if-used.true) in
    rw c.scaled.ensures (record { lower_bound = cut.low; upper_bound = cut.high })

pub from_number-requires : goal.from_number-requires
from_number-requires g c =
    let store = g.W.Weight.STORE in
    let cut : Cut store.limit (scaled c.args.p c.args.w) = held store (le_trans g.met.W.Weight.limit_small (omega arith)) (scaled c.args.p c.args.w) (in_type c.args.used _ c.requires.fact_2 c.if-used.true) in
    let back : to_z w64 (of_z w64 c.truncating_f64_to_i64.result) ≡ to_signed store.limit (scaled c.args.p c.args.w) =
    to_z-of_z {w = w64} (record { sfits = c.truncating_f64_to_i64.type_inv }) ∙ c.truncating_f64_to_i64.ensures ∙ ap (to_signed 63) c.scaled.ensures ∙ cut.same in
    rw back (to_signed_in store.limit (scaled c.args.p c.args.w))

pub returns-then-used : goal.returns-then-used
unfolding integer
returns-then-used g c =
    let store = g.W.Weight.STORE in
    let cut : Cut store.limit (scaled c.args.p c.args.w) = held store (le_trans g.met.W.Weight.limit_small (omega arith)) (scaled c.args.p c.args.w) (in_type c.args.used _ c.requires.fact_2 c.if-used.true) in
    let back : to_z w64 (of_z w64 c.truncating_f64_to_i64.result) ≡ to_signed store.limit (scaled c.args.p c.args.w) =
    to_z-of_z {w = w64} (record { sfits = c.truncating_f64_to_i64.type_inv }) ∙ c.truncating_f64_to_i64.ensures ∙ ap (to_signed 63) c.scaled.ensures ∙ cut.same in
    rw c.if-used.true (c.from_number.ensures ∙ back)
