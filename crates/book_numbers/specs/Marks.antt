-- What a release book asks of each window, and its numbers: counts and extremes over all windows. Cited by the reports of a window, of a sheet and of a text.
-- Definitions only. Assumes nothing.
use Rattle.std.specs.Prelude.{Bool, cond, not, List, [], ◌∷◌, ℕ, ◌+◌, ◌*◌, ◌^◌, ltb, ℤ, pos, nat_abs, length}
use Rattle.std.specs.Int.Signed.{lt_z}
use Rattle.lists.specs.Tab.{tab}
use Rattle.orders.specs.Negative.{some_negative_value}
use Rattle.windows.specs.Set.{Stored, windows, size, weight, excess_of}
use Rattle.vertical.specs.U16.{keeps_flat}
use Rattle.book_numbers.specs.declared.Report.{Report}

-- what is asked of a window: its excess, whether it fails the flat premise, whether it has a negative weight
pub record Mark : Type 0 where
  pub excess : ℤ
  pub not_flat : Bool
  pub negative : Bool

-- window i of a stored set: the flat premise for 16-bit samples, whatever the store; only weights in use count
abbrev pub mark_of : Stored → ℕ → Mark
mark_of s i = record {
  excess = excess_of s i;
  not_flat = not (keeps_flat 65535 s i);
  negative = some_negative_value (weight s.set (pos 0) i) (size s.set.layout i);
}

-- all of them, in line order
abbrev pub marks_of : Stored → List Mark
marks_of s = tab 0 (windows s.set.layout) (mark_of s)

-- the premise fails, read off an excess at a precision p: 131070 times its size is not under 2^p
abbrev pub far_from_one : ℕ → ℤ → Bool
far_from_one p e = not (ltb (2 * 65535 * nat_abs e) (2 ^ p))

abbrev pub mark : ℕ → ℤ → Bool → Mark
mark p e negative = record { excess = e; not_flat = far_from_one p e; negative = negative }

-- 1 for a test that holds, else 0
abbrev pub bit : Bool → ℕ
bit b = cond b 1 0

-- how many windows pass a test
abbrev pub how_many : (Mark → Bool) → List Mark → ℕ
how_many t [] = 0
how_many t (m ∷ l) = bit (t m) + how_many t l

-- two orders of excesses
abbrev pub below : ℤ → ℤ → Bool
below x y = lt_z x y

abbrev pub above : ℤ → ℤ → Bool
above x y = lt_z y x

-- of two excesses the one that comes first in an order
abbrev pub former : (ℤ → ℤ → Bool) → ℤ → ℤ → ℤ
former before x y = cond (before y x) y x

-- of e and the excesses of some windows
abbrev pub former_of : (ℤ → ℤ → Bool) → ℤ → List Mark → ℤ
former_of before e [] = e
former_of before e (m ∷ l) = former_of before (former before e m.excess) l

-- the first of all in an order: the smallest by `below`, the largest by `above`; 0 where there is no window
abbrev pub extreme : (ℤ → ℤ → Bool) → List Mark → ℤ
extreme before [] = pos 0
extreme before (m ∷ l) = former_of before m.excess l

-- the numbers of so many sheets with these windows
abbrev pub numbers_of : ℕ → List Mark → ℕ → ℕ → Report
numbers_of sheets marks stopped byte = record {
  sheets = sheets;
  windows = length marks;
  least = extreme below marks;
  most = extreme above marks;
  notflat = how_many (λ m. m.not_flat) marks;
  negative = how_many (λ m. m.negative) marks;
  stopped = stopped;
  byte = byte;
}
