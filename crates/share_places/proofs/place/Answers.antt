-- `place` meets its contract: the parts end inside the lists and are as long as `make` asks, and what `make` and `keep` leave is `after` (Placed). Assumes nothing.
use Rattle.std.specs.Prelude.{Result, ℕ}
use mathlib.Core.Path.{sym, subst}
use native.Mathlib.Nat.{le_trans, le_of_eq}
use lib.ListN.{length}
use Rattle.made_sets.specs.Made.{made_of}
use Rattle.coefficients.specs.declared.NotBuilt.{NotBuilt}
use Rattle.share_lists.specs.Inner.{Few}
use Rattle.shares.specs.Store.{store_of}
use Rattle.shares.specs.Scratch.{scratch_of}
use Rattle.share_places.proofs.Placed.{new_made, few_made, opens, lists_lent, ends_in_slots, ends_in_excesses, slots_long, excesses_long, part_slots, placed}
use Rattle.share_places.proofs.place.Goals as goal

pub share-room-requires : goal.share-room-requires
share-room-requires c =
    let a = c.args in
    let o = opens (store_of a.numbers.now a.slots.now a.starts.now a.sizes.now a.excesses.now) a.client (scratch_of a.doubles.now a.firsts.now a.counts.now) c.requires in
    (o.ten, o.one_of_two)

pub slot_base-a-requires : goal.slot_base-a-requires
slot_base-a-requires c =
    let a = c.args in
    let o = opens (store_of a.numbers.now a.slots.now a.starts.now a.sizes.now a.excesses.now) a.client (scratch_of a.doubles.now a.firsts.now a.counts.now) c.requires in
    record { fact_1 = o.ten; fact_2 = o.one_of_two }

pub line_base-b-requires : goal.line_base-b-requires
line_base-b-requires c =
    let a = c.args in
    (opens (store_of a.numbers.now a.slots.now a.starts.now a.sizes.now a.excesses.now) a.client (scratch_of a.doubles.now a.firsts.now a.counts.now) c.requires).one_of_two

pub slice_bounds-make-end : goal.slice_bounds-make-end
slice_bounds-make-end c =
    let a = c.args in
    ends_in_slots (store_of a.numbers.now a.slots.now a.starts.now a.sizes.now a.excesses.now) a.client (scratch_of a.doubles.now a.firsts.now a.counts.now) c.requires
    c.slot_base-a.result c.share-room.result c.slot_base-a.ensures.answer.0 c.share-room.ensures.answer.0

pub slice_bounds-make-end-2 : goal.slice_bounds-make-end-2
slice_bounds-make-end-2 c =
    let a = c.args in
    ends_in_excesses (store_of a.numbers.now a.slots.now a.starts.now a.sizes.now a.excesses.now) a.client (scratch_of a.doubles.now a.firsts.now a.counts.now) c.requires
    c.line_base-b.result c.line_base-b.ensures.answer

pub make-made-requires : goal.make-made-requires
make-made-requires c =
    let a = c.args in
    let s = store_of a.numbers.now a.slots.now a.starts.now a.sizes.now a.excesses.now in
    let lent = scratch_of a.doubles.now a.firsts.now a.counts.now in
    let l = lists_lent s a.client lent c.requires in
    record { fact_1 = excesses_long s a.client lent c.requires c.line_base-b.result c.line_base-b.ensures.answer; fact_2 = le_trans (le_of_eq (slots_long s a.client lent c.requires c.slot_base-a.result c.share-room.result c.slot_base-a.ensures.answer.0 c.share-room.ensures.answer.0)) l.doubles_there; fact_3 = l.firsts_there; fact_4 = l.counts_there }

pub keep-requires : goal.keep-requires
keep-requires c =
    let a = c.args in
    let s = store_of a.numbers.now a.slots.now a.starts.now a.sizes.now a.excesses.now in
    let lent = scratch_of a.doubles.now a.firsts.now a.counts.now in
    let o = opens s a.client lent c.requires in
    let l = lists_lent s a.client lent c.requires in
    let mk = c.make-made in
    let n = length (part_slots s a.client lent c.requires a.request c.slot_base-a.result c.share-room.result c.line_base-b.result c.slot_base-a.ensures.answer.0 c.share-room.ensures.answer.0 c.line_base-b.ensures.answer) in
    record { numbers_len_1 = o.ten; numbers_len_2 = o.one_of_two; numbers_len_3 = o.all_starts; numbers_len_4 = o.all_sizes; few_1 = subst (λ (m : Result (ℕ × ℕ) NotBuilt). Few m a.request.output) (sym mk.ensures.answer) (few_made a.request n (made_of a.request n) (new_made a.request n)); few_2 = le_trans l.firsts_there (le_of_eq (sym mk.auto.firsts)); few_3 = le_trans l.counts_there (le_of_eq (sym mk.auto.counts)) }

pub returns : goal.returns
returns c =
    let a = c.args in
    let s = store_of a.numbers.now a.slots.now a.starts.now a.sizes.now a.excesses.now in
    let lent = scratch_of a.doubles.now a.firsts.now a.counts.now in
    let mk = c.make-made in
    let kp = c.keep in
    let all = placed s a.client lent c.requires a.request c.slot_base-a.result c.share-room.result c.line_base-b.result c.slot_base-a.ensures.answer.0 c.share-room.ensures.answer.0 c.line_base-b.ensures.answer
    mk.result mk.new.part mk.new.excesses mk.new.doubles mk.new.firsts mk.new.counts kp.new.numbers kp.new.starts kp.new.sizes kp.result
    mk.ensures.answer mk.ensures.written mk.ensures.written2 mk.ensures.written3 mk.ensures.written4 mk.ensures.written5
    kp.ensures.answer kp.ensures.written kp.ensures.written2 kp.ensures.written3 in
    record { answer = all.0; written = all.1.0; written2 = all.1.1.0; written3 = all.1.1.1.0; written4 = all.1.1.1.1.0; written5 = all.1.1.1.1.1.0; written6 = all.1.1.1.1.1.1.0; written7 = all.1.1.1.1.1.1.1.0; written8 = all.1.1.1.1.1.1.1.1 }
