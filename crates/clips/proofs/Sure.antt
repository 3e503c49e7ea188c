-- The contracts of the clips decide their answers, and the two clips to 0 .. 255 give the same of every number. Cited by docs/CONTRACTS.md. Assumes nothing.
use mathlib.Core.Path.{◌≡◌, ◌∙◌, sym, ap}
use contract.Lifetimes.{Lfts}
use denote.Triple.Clauses.{AtExit}
use borrow.Fn.Kinds.{Dens, ended_of, res_t}
use Rattle.integers.specs.Sums.{clipped}
use Rattle.lists.proofs.Sure.{DecidesResult}
use Rattle.clips.proofs.clip8.Kinds as clip8
use Rattle.clips.proofs.clip8.Reads as clip8-reads
use Rattle.clips.proofs.clamp8.Kinds as clamp8
use Rattle.clips.proofs.clamp8.Reads as clamp8-reads
use Rattle.clips.proofs.clip16.Kinds as clip16
use Rattle.clips.proofs.clip16.Reads as clip16-reads

pub clip8_decides : DecidesResult clip8.ps clip8.r clip8-reads.Post
clip8_decides κs a x y s t p q = p ∙ sym q

pub clamp8_decides : DecidesResult clamp8.ps clamp8.r clamp8-reads.Post
clamp8_decides κs a x y s t p q = p ∙ sym q

-- inside the table's span and outside it: whatever the two contracts let them give of one number is one sample
pub clamp8_is_clip8 : (κs : Lfts 0) (a : Dens κs clip8.ps) (b : Dens κs clamp8.ps) (x : (res_t clip8.r κs).Denot) (y : (res_t clamp8.r κs).Denot) (s : AtExit (ended_of 0 clip8.ps clip8.r) κs) (t : AtExit (ended_of 0 clamp8.ps clamp8.r) κs) → a.0 ≡ b.0 → clip8-reads.Post κs a x s → clamp8-reads.Post κs b y t → x ≡ y
clamp8_is_clip8 κs a b x y s t e p q = p ∙ ap (clipped 255) e ∙ sym q

pub clip16_decides : DecidesResult clip16.ps clip16.r clip16-reads.Post
clip16_decides κs a x y s t p q = p ∙ sym q
