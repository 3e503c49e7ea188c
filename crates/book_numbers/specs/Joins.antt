-- The report of two parts, one after the other. Cited by `join`. Definitions only. Assumes nothing.
use Rattle.std.specs.Prelude.{Bool, cond, ℕ, ◌+◌, ◌-◌, ◌^◌, min, eqb, ℤ}
use Rattle.book_numbers.specs.declared.Report.{Report}
use Rattle.book_numbers.specs.Marks.{below, above, former}

-- a sum that stays at the largest number where it would be past it; no two parts of a text that fits in memory have such
abbrev pub added : ℕ → ℕ → ℕ
added x y = min (x + y) (2 ^ 64 - 1)

-- of n windows with the extreme x and m windows with the extreme y: the extreme of a part without windows does not count
abbrev pub extreme_of : (ℤ → ℤ → Bool) → ℕ → ℤ → ℕ → ℤ → ℤ
extreme_of before n x m y = cond (eqb n 0) y (cond (eqb m 0) x (former before x y))

-- both parts together
abbrev pub together : Report → Report → Report
together a b = record {
  sheets = added a.sheets b.sheets;
  windows = added a.windows b.windows;
  least = extreme_of below a.windows a.least b.windows b.least;
  most = extreme_of above a.windows a.most b.windows b.most;
  notflat = added a.notflat b.notflat;
  negative = added a.negative b.negative;
  stopped = b.stopped;
  byte = added a.byte b.byte;
}

-- the first alone where it stopped, else both
unfoldable pub join_of : Report → Report → Report
join_of a b = cond (eqb a.stopped 0) (together a b) a
