-- `one_window` meets its contract: what each call gave is what Lines.antt says (LineLaws), and the row has room by `held_room`. Assumes nothing.
use Rattle.plans.specs.Plan.{centre}
use Rattle.plan_windows.specs.Lines.{lead, held, total, middle}
use native.Mathlib.Omega.{arith}
use mathlib.Core.Path.{◌≡◌, sym}
use Prim.Native.Nat.{ℕ, ◌≤◌, ◌<◌, ◌^◌, ◌+◌, ◌-◌}
use lib.ListN.{length}
use native.Mathlib.Nat.{le_trans, le_of_eq}
use Rattle.lists.proofs.TabLaws.{length_front}
use Rattle.line_weights.specs.Weights.{weight_from}
use Rattle.line_weights.specs.Weights.{weighty}
use Rattle.plan_windows.proofs.LineLaws.{held_room, lead_is, held_is, total_is, size_is, row_is, span_is}
use Rattle.line_weights.proofs.WeightLaws.{up_le}
use Rattle.plan_windows.proofs.lines.one_window.Goals as goal

small : (a e n : ℕ) → n ≡ e - a → a < 2 ^ 32 → e < 2 ^ 32 → a + n < 2 ^ 32
small a e n h l m = omega arith

pub range_start-start-requires : goal.range_start-start-requires
unfolding centre
range_start-start-requires c = record { fact_1 = c.requires.centred; fact_2 = c.requires.reach }

pub range_end-stop-requires : goal.range_end-stop-requires
unfolding centre
range_end-stop-requires c = record { fact_1 = c.requires.centred; fact_2 = c.requires.reach }

pub weigh-total-requires : goal.weigh-total-requires
unfolding centre
weigh-total-requires c =
    let lead-eq : c.lead-first.result.line.0 ≡ lead c.args.p c.args.line.0 = let s = c.args in lead_is s.p s.line.0 c.range_start-start.result.0 c.range_end-stop.result.0 c.lead-first.result.line.0 c.range_start-start.ensures.answer c.range_end-stop.ensures.answer c.lead-first.ensures.answer.0 in
    let held-eq : c.lines_left-n.result ≡ held c.args.p c.args.line.0 = let s = c.args in held_is s.p s.line.0 c.range_end-stop.result.0 c.lead-first.result.line.0 c.lines_left-n.result c.range_end-stop.ensures.answer lead-eq c.lines_left-n.ensures.answer in
    let room : c.lines_left-n.result ≤ length c.args.row.now = omega (arith, held-eq, held_room c.args.p c.args.line.0 (length c.args.row.now) c.requires) in
    let a = c.lead-first in
    let n = c.lines_left-n in (
      room,
      small a.result.line.0 c.range_end-stop.result.0 n.result n.ensures.answer (omega arith) (omega arith),
      rw n.ensures.answer a.ensures.answer.1,
    )

pub trim-size-requires : goal.trim-size-requires
unfolding centre
trim-size-requires c =
    let lead-eq : c.lead-first.result.line.0 ≡ lead c.args.p c.args.line.0 = let s = c.args in lead_is s.p s.line.0 c.range_start-start.result.0 c.range_end-stop.result.0 c.lead-first.result.line.0 c.range_start-start.ensures.answer c.range_end-stop.ensures.answer c.lead-first.ensures.answer.0 in
    let held-eq : c.lines_left-n.result ≡ held c.args.p c.args.line.0 = let s = c.args in held_is s.p s.line.0 c.range_end-stop.result.0 c.lead-first.result.line.0 c.lines_left-n.result c.range_end-stop.ensures.answer lead-eq c.lines_left-n.ensures.answer in
    let room : c.lines_left-n.result ≤ length c.args.row.now = omega (arith, held-eq, held_room c.args.p c.args.line.0 (length c.args.row.now) c.requires) in
    let s = c.args in
    let n = c.lines_left-n.result in
    let f = weight_from s.p.filter (middle s.p s.line.0) s.p.recip c.lead-first.result.line.0 in
    let long : length c.weigh-total.new.row ≡ length s.row.now =
    rw c.weigh-total.ensures.written (length_front n f s.row.now room) in
    le_trans room (le_of_eq (sym long))

pub overflow_cast-size : goal.overflow_cast-size
unfolding centre
overflow_cast-size c =
    let lead-eq : c.lead-first.result.line.0 ≡ lead c.args.p c.args.line.0 = let s = c.args in lead_is s.p s.line.0 c.range_start-start.result.0 c.range_end-stop.result.0 c.lead-first.result.line.0 c.range_start-start.ensures.answer c.range_end-stop.ensures.answer c.lead-first.ensures.answer.0 in
    let held-eq : c.lines_left-n.result ≡ held c.args.p c.args.line.0 = let s = c.args in held_is s.p s.line.0 c.range_end-stop.result.0 c.lead-first.result.line.0 c.lines_left-n.result c.range_end-stop.ensures.answer lead-eq c.lines_left-n.ensures.answer in
    let room : c.lines_left-n.result ≤ length c.args.row.now = omega (arith, held-eq, held_room c.args.p c.args.line.0 (length c.args.row.now) c.requires) in
    let n = c.lines_left-n.result in
    let few : c.trim-size.result ≤ n = le_trans (le_of_eq c.trim-size.ensures.answer) (up_le (weighty c.weigh-total.new.row) n) in
    omega (arith, few, room, c.requires.room, c.requires.narrow)

pub returns : goal.returns
unfolding centre
returns c =
    let lead-eq : c.lead-first.result.line.0 ≡ lead c.args.p c.args.line.0 = let s = c.args in lead_is s.p s.line.0 c.range_start-start.result.0 c.range_end-stop.result.0 c.lead-first.result.line.0 c.range_start-start.ensures.answer c.range_end-stop.ensures.answer c.lead-first.ensures.answer.0 in
    let held-eq : c.lines_left-n.result ≡ held c.args.p c.args.line.0 = let s = c.args in held_is s.p s.line.0 c.range_end-stop.result.0 c.lead-first.result.line.0 c.lines_left-n.result c.range_end-stop.ensures.answer lead-eq c.lines_left-n.ensures.answer in
    let p = c.args.p in
    let i = c.args.line.0 in
    let a = c.lead-first.result.line.0 in
    let n = c.lines_left-n.result in
    let t = c.weigh-total.result in
    let row1 = c.weigh-total.new.row in
    let ea : a ≡ lead p i = lead-eq in
    let en : n ≡ held p i = held-eq in
    let et : t ≡ total p i = total_is p i a n t ea en c.weigh-total.ensures.answer in
    record { answer = span_is p i a c.trim-size.result t ea (size_is p i a n c.trim-size.result c.args.row.now row1 ea en c.weigh-total.ensures.written c.trim-size.ensures.answer) et; written = row_is p i a n t c.args.row.now row1 c.finish.new.row c.requires ea en et c.weigh-total.ensures.written c.finish.ensures.written }
