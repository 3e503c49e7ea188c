-- `read`: a text that is judged right is read, starts, sizes and excesses first and then the slots; every other leaves the lists as they were. Assumes nothing.
use Rattle.std.specs.Prelude.{Err}
use Rattle.std.proofs.Common.{◌≡◌, rules}
use Prim.Native.Nat.{zero-le}
use native.Mathlib.Nat.{le_trans}
use lib.ListN.{length}
use mathlib.Core.Path.{sym}
use Rattle.windows.proofs.WeightLaws.{length_values}
use Rattle.scan.proofs.FieldLaws.{found_within}
use Rattle.sheet_scan.proofs.StoreLaws.{most_most}
use Rattle.sheet_scan.proofs.WholeLaws.{limit_least}
use Rattle.reader.specs.Reading.{lists, room_for}
use Rattle.reader.proofs.ReadLaws.{enough_slots, enough_starts, enough_sizes, enough_excesses, limit_31, unread, loads}
use Rattle.reader.proofs.read.read.Goals as goal

pub returns-in_err-v : goal.returns-in_err-v
returns-in_err-v g c =
    let lent = lists (g.W.Weight.values c.args.weights.now) c.args.starts.now c.args.sizes.now c.args.excesses.now in
    let unread_for = unread c.args.wide c.args.text.now lent c.in_err-v.field-0.0 (rw (sym (length_values g.met.W.Weight.each c.args.weights.now)) at c.in_err-v.ensures.answer) in
    let told : c.from_residual.result ≡ Err c.in_err-v.field-0.0 = search rules in
    record { reads = rw told unread_for }

pub fill_layout-requires : goal.fill_layout-requires
fill_layout-requires g c =
    let r = c.in_ok-v.ensures.answer in
    let v = c.in_ok-v.v in
    let bits = c.in_ok-v.store.bits in
    let room = room_for (length c.args.weights.now) (length c.args.starts.now) (length c.args.sizes.now) (length c.args.excesses.now) in
    record { le_lines = (r.sized.good.0.0, r.sized.good.0.1, r.sized.good.2.0, rw c.limit_of-limit.ensures.answer (limit_least bits), rw c.limit_of-limit.ensures.answer (limit_31 bits), le_trans r.stored.good.1.1 (most_most bits), found_within _ (found_within _ zero-le r.sized) r.stored); outs_in_bounds = (enough_starts v room r.enough, enough_sizes v room r.enough, enough_excesses v room r.enough); there = (r.rows, r.tail, rw c.limit_of-limit.ensures.answer r.lined) }

pub fill_slots-requires : goal.fill_slots-requires
fill_slots-requires g c =
    let r = c.in_ok-v.ensures.answer in
    let v = c.in_ok-v.v in
    let bits = c.in_ok-v.store.bits in
    let room = room_for (length c.args.weights.now) (length c.args.starts.now) (length c.args.sizes.now) (length c.args.excesses.now) in
    record { le_lines = (r.sized.good.0.0, r.sized.good.2.0, rw c.limit_of-limit.ensures.answer (limit_least bits), rw c.limit_of-limit.ensures.answer (c.requires.held bits r.stored.good.0), found_within _ (found_within _ zero-le r.sized) r.stored); window_in_bounds = enough_slots v room r.enough; there = (r.rows, r.tail, rw c.limit_of-limit.ensures.answer r.lined) }

pub returns : goal.returns
returns g c =
    let r = rw (sym (length_values g.met.W.Weight.each c.args.weights.now)) at c.in_ok-v.ensures.answer in
    let starts_filled = rw c.limit_of-limit.ensures.answer at c.fill_layout.ensures.starts in
    let sizes_filled = rw c.limit_of-limit.ensures.answer at c.fill_layout.ensures.sizes in
    let excesses_filled = rw c.limit_of-limit.ensures.answer at c.fill_layout.ensures.excesses in
    let slots = rw c.limit_of-limit.ensures.answer at c.fill_slots.ensures.written in
    record { reads = loads c.args.text.now (lists (g.W.Weight.values c.args.weights.now) c.args.starts.now c.args.sizes.now c.args.excesses.now) r _ (slots r.rows r.tail r.lined) (starts_filled r.rows r.tail r.lined) (sizes_filled r.rows r.tail r.lined) (excesses_filled r.rows r.tail r.lined) }
