-- `shared_line`: what is shared ends within the name, or is the name and perhaps the newline after it. Assumes nothing.
use borrow.Author.Rules.{rules}
use mathlib.Core.Path.{sym, ap, ◌∙◌}
use Prim.Native.Nat.{ℕ, ◌+◌, ◌<◌}
use native.Mathlib.Nat.{add-zero}
use lib.ListN.{length, length-drop, drop}
use Rattle.sheet.specs.Keys.{newline}
use Rattle.scan.proofs.CommonLaws.{common_short, common_left}
use Rattle.sheet_scan.proofs.NameLaws.{shared_on, newline_there, newline_not, newline_past}
use Rattle.sheet_scan.proofs.names.shared_line.Goals as goal

pub returns-then-n-name : goal.returns-then-n-name
returns-then-n-name c =
    let l : c.shared-n.result < length c.args.name.now = search rules in
    record { answer = c.shared-n.ensures.answer ∙ sym (common_short (drop c.args.at c.args.text.now) c.args.name.now newline (rw (← c.shared-n.ensures.answer) l)) }

pub overflow_add-end : goal.overflow_add-end
overflow_add-end c =
    let l = common_left (drop c.args.at c.args.text.now) c.args.name.now in
    let left = length-drop c.args.at c.args.text.now in
    let room = c.requires in
    search rules

pub returns-then-text-end : goal.returns-then-text-end
returns-then-text-end c = record { answer = sym (shared_on c.args.text.now c.args.name.now newline c.args.at _ c.shared-n.ensures.answer (search rules) ∙ ap (λ (k : ℕ). c.shared-n.result + k) (newline_past c.args.text.now (c.args.at + c.shared-n.result) (search rules)) ∙ add-zero c.shared-n.result) }

pub returns-then-text-end-eq-NEWLINE : goal.returns-then-text-end-eq-NEWLINE
returns-then-text-end-eq-NEWLINE c = record { answer = sym (shared_on c.args.text.now c.args.name.now newline c.args.at _ c.shared-n.ensures.answer (search rules) ∙ ap (λ (k : ℕ). c.shared-n.result + k) (newline_there c.args.text.now (c.args.at + c.shared-n.result) (search rules) c.if-text-end-eq-NEWLINE.true)) }

pub returns : goal.returns
returns c = record { answer = sym (shared_on c.args.text.now c.args.name.now newline c.args.at _ c.shared-n.ensures.answer (search rules) ∙ ap (λ (k : ℕ). c.shared-n.result + k) (newline_not c.args.text.now (c.args.at + c.shared-n.result) (search rules) c.if-text-end-eq-NEWLINE.false) ∙ add-zero c.shared-n.result) }
