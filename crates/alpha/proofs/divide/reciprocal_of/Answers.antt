-- `divide::reciprocal_of` meets its contract: the table is the list of the rule's values, so each entry follows the rule. Assumes nothing.
use mathlib.Core.Path.{◌≡◌, ◌∙◌, ap}
use mathlib.Core.List.{List}
use Prim.Native.Nat.{ℕ}
use native.Mathlib.Nat.{zero-add}
use native.Mathlib.Omega.{arith}
use lib.ListN.{get_or}
use borrow.Author.Rules.{rules}
use Rattle.lists.proofs.TabLaws.{get_d_tab}
use Rattle.colours.specs.Alpha.{reciprocal}
use Rattle.colours.proofs.Colours.{reciprocal_small}
use Rattle.alpha.proofs.divide.reciprocal_of.Goals as goal

pub returns : goal.returns
returns c =
    let a = c.args.alpha in
    let e : get_or c.args.reciprocals.now a 0 ≡ reciprocal a =
    ap (λ (l : List ℕ). get_or l a 0) c.requires ∙ get_d_tab 0 256 reciprocal a 0 (search rules) ∙ ap reciprocal (zero-add a) in
    record { answer = e; small = omega (arith, reciprocal_small a) }
