-- `minus_at` meets its contract: past the text's end there is no byte, which reads as 0. Assumes nothing.
use borrow.Author.Rules.{rules}
use mathlib.Core.Path.{sym, ap}
use lib.ListN.{get_or-eq_default}
use lib.Dec.{eqb}
use Prim.Native.Nat.{ℕ}
use Rattle.scan.proofs.signs.minus_at.Goals as goal

pub returns-then-text-at : goal.returns-then-text-at
returns-then-text-at c = record { answer = sym (ap (λ (x : ℕ). eqb x 45) (get_or-eq_default c.args.text.now 0 (search rules))) }
