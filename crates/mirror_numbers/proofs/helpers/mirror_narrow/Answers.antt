-- `mirror_narrow`: the library's two answers, the truth as a number. Assumes nothing.
use mathlib.Core.Path.{◌∙◌, ap}
use mathlib.Core.Bool.{cond}
use Rattle.numbers.specs.declared.NarrowedBits.{NarrowedBits}
use Rattle.mirror_numbers.proofs.helpers.mirror_narrow.Goals as goal

pub returns : goal.returns
returns c = record { answer = ap (λ (n : NarrowedBits). n.value) c.narrow_bits-narrowed.ensures.answer; written = c.flag.ensures.answer ∙ ap (λ (n : NarrowedBits). cond n.infinite 1 0) c.narrow_bits-narrowed.ensures.answer }
