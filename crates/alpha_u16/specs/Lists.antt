-- The lent list after a call, 16 bits: `pixel_lists`' rule with the operations of 16. Cited by the contracts of the four list functions. Definitions only. Assumes nothing.
use Rattle.std.specs.Prelude.{List, ℕ}
use Rattle.pixel_lists.specs.Lists.{applied_list}
use Rattle.colours_u16.specs.Alpha.{multiplied, divided}

unfoldable pub multiplied_list : List ℕ → List ℕ → List ℕ
multiplied_list = applied_list multiplied

unfoldable pub divided_list : List ℕ → List ℕ → List ℕ
divided_list = applied_list divided
