-- `compared` meets its contract: the right text fits and is what stands in the room (`KnownLaws`), so the word that is taken is that text. Assumes nothing.
use mathlib.Core.Path.{◌∙◌, subst}
use mathlib.Core.List.{List}
use Prim.Native.Nat.{ℕ}
use mir.Facts.{to_z-of_z}
use borrow.Author.Rules.{rules}
use Rattle.scan.specs.Forms.{fixed}
use Rattle.scan.specs.Answer.{Passes}
use Rattle.scan.proofs.KnownLaws.{right_fits, right_long, right_is}
use Rattle.scan.proofs.known.compared.Goals as goal

pub slice_bounds-take_key-end : goal.slice_bounds-take_key-end
slice_bounds-take_key-end c =
    let same = to_z-of_z c.ranges.v in
    let fits = right_fits c.args.v c.args.end c.args.right.now c.requires.1 (c.put_signed-b.ensures.answer ∙ rw same) (c.put_signed-b.ensures.written ∙ rw same) c.put_byte-e.ensures.answer c.put_byte-e.ensures.written in
    let long = right_long c.args.v c.args.end c.args.right.now c.requires.1 (c.put_signed-b.ensures.answer ∙ rw same) (c.put_signed-b.ensures.written ∙ rw same) c.put_byte-e.ensures.answer c.put_byte-e.ensures.written in
    search rules

pub returns : goal.returns
returns c =
    let same = to_z-of_z c.ranges.v in
    let is = right_is c.args.v c.args.end c.args.right.now c.requires.1 (c.put_signed-b.ensures.answer ∙ rw same) (c.put_signed-b.ensures.written ∙ rw same) c.put_byte-e.ensures.answer c.put_byte-e.ensures.written in
    record { answer = subst (λ (t : List ℕ). Passes (fixed t) c.args.text.now c.args.at c.take_key.result) is c.take_key.ensures.answer }
