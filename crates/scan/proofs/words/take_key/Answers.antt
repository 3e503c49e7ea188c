-- `take_key` meets its contract: what is shared is the whole word or ends where the text leaves it. Assumes nothing.
use borrow.Author.Rules.{rules}
use lib.ListN.{length-drop, drop}
use Rattle.scan.proofs.CommonLaws.{common_left}
use Rattle.scan.proofs.FieldLaws.{key_found, key_stopped}
use Rattle.scan.proofs.words.take_key.Goals as goal

pub returns-then-n-key : goal.returns-then-n-key
returns-then-n-key c = record { answer = key_stopped _ _ _ _ c.shared-n.ensures.answer (search rules) }

pub overflow_add-result-2 : goal.overflow_add-result-2
overflow_add-result-2 c =
    let l = common_left (drop c.args.at c.args.text.now) c.args.key.now in
    let left = length-drop c.args.at c.args.text.now in
    let room = c.requires in
    search rules

pub returns : goal.returns
returns c = record { answer = (tt, key_found _ _ _ _ c.shared-n.ensures.answer (search rules)) }
