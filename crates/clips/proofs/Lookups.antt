-- The rule of CLIP8_LOOKUPS at each of its entries. No statement can name a table of the code, so it is said of `lookup`, which reads it: whatever its contract
-- lets it give at place k follows the rule. Cited by the promises. Assumes nothing.
use mathlib.Core.Path.{◌≡◌, refl, ◌∙◌}
use mathlib.Core.Bool.{Bool, true, false, cond}
use Prim.Native.Nat.{ℕ, suc, ◌-◌, ◌<◌, min}
use native.Mathlib.Omega.{arith}
use lib.Dec.{ltb}
use lib.IntN.{pos, negsuc}
use borrow.Author.Tests.{ltb-true}
use contract.Lifetimes.{Lfts}
use denote.Triple.Clauses.{AtExit}
use borrow.Fn.Kinds.{Dens, ended_of, res_t}
use Rattle.integers.specs.Sums.{clipped}
use Rattle.clips.specs.Table.{entry_of}
use Rattle.clips.proofs.lookup.Kinds as lookup
use Rattle.clips.proofs.lookup.Reads as lookup-reads

-- the entry at place k, which stands for k - 640: 0 below 0, the number itself from 0 to 255, 255 above (k - 640 is 0 for a k below 640)
abbrev pub TableRule : Type 0
TableRule =
    (κs : Lfts 0) (a : Dens κs lookup.ps) (x : (res_t lookup.r κs).Denot) (s : AtExit (ended_of 0 lookup.ps lookup.r) κs)
    → lookup-reads.Post κs a x s → x ≡ min (a.0 - 640) 255

pub entry_rule : (k : ℕ) → entry_of k ≡ min (k - 640) 255
unfolding clipped
entry_rule k = go (ltb k 640) refl
  where
    go : (b : Bool) → ltb k 640 ≡ b → clipped 255 (cond b (negsuc (640 - suc k)) (pos (k - 640))) ≡ min (k - 640) 255
    go true h = let l : k < 640 = ltb-true k 640 h in omega arith
    go false h = refl

pub table_rule : TableRule
table_rule κs a x s p = p ∙ entry_rule a.0
