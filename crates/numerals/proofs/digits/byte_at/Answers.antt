-- `digits::byte_at` meets its contract: past the end the default is read. Assumes nothing.
use mathlib.Core.Path.{◌≡◌, sym}
use mathlib.Core.List.{List}
use Prim.Native.Nat.{ℕ, ◌+◌, ◌≤◌}
use native.Mathlib.Omega.{arith}
use lib.ListN.{length, get_or, get_or-eq_default}
use Rattle.numerals.proofs.digits.byte_at.Goals as goal

past : (l : List ℕ) (n : ℕ) → length l ≤ n → 0 ≡ get_or l n 0
past l n h = sym (get_or-eq_default l 0 {n = n} h)

pub returns-then-n-a : goal.returns-then-n-a
returns-then-n-a c =
    let a = c.args in
    record { answer = past a.text.now (a.a + a.k) (omega arith) }

pub returns-then-n-a-2 : goal.returns-then-n-a-2
returns-then-n-a-2 c =
    let a = c.args in
    record { answer = past a.text.now (a.a + a.k) (omega arith) }
