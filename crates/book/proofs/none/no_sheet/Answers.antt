-- `no_sheet` meets its contract: the number is the refusal's. Assumes nothing.
use mathlib.Core.List.{[]}
use mathlib.Core.Path.{ap}
use Prim.Native.Nat.{ℕ, ◌-◌}
use Rattle.book_numbers.specs.Marks.{numbers_of}
use Rattle.book.proofs.none.no_sheet.Goals as goal

pub returns : goal.returns
returns c = record { answer = ap (λ (n : ℕ). numbers_of 0 [] n (c.args.stop - c.args.at)) c.number.ensures.answer }
