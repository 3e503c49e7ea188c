-- `fill_row` meets its contract: weights over zeros. Assumes nothing.
use lib.ListN.{length}
use Rattle.sheet_lists.proofs.SlotLaws.{row_slots}
use Rattle.sheet_lists.proofs.slots.fill_row.Goals as goal

pub returns : goal.returns
returns g c = record { answer = c.put_weights.ensures.answer; written = row_slots c.args.limit c.args.size c.args.text.now c.args.at (length c.args.out.now) _ _ c.zero.ensures.written c.requires.le_limit.3 c.put_weights.ensures.written }
