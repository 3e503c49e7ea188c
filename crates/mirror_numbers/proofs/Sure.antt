-- The contract of every export decides its answer, every lent list and every number beside it. Cited by docs/CONTRACTS.md. Assumes nothing.
use mathlib.Core.Path.{◌≡◌, ◌∙◌, sym}
use Rattle.lists.proofs.Sure.{Decides, DecidesResult}
use Rattle.mirror_numbers.proofs.helpers.mirror_abs.Kinds as abs
use Rattle.mirror_numbers.proofs.helpers.mirror_abs.Reads as abs-reads
use Rattle.mirror_numbers.proofs.helpers.mirror_floor.Kinds as floor
use Rattle.mirror_numbers.proofs.helpers.mirror_floor.Reads as floor-reads
use Rattle.mirror_numbers.proofs.helpers.mirror_ceil.Kinds as ceil
use Rattle.mirror_numbers.proofs.helpers.mirror_ceil.Reads as ceil-reads
use Rattle.mirror_numbers.proofs.helpers.mirror_round.Kinds as round
use Rattle.mirror_numbers.proofs.helpers.mirror_round.Reads as round-reads
use Rattle.mirror_numbers.proofs.helpers.mirror_widen.Kinds as widen
use Rattle.mirror_numbers.proofs.helpers.mirror_widen.Reads as widen-reads
use Rattle.mirror_numbers.proofs.helpers.mirror_narrow.Kinds as narrow
use Rattle.mirror_numbers.proofs.helpers.mirror_narrow.Reads as narrow-reads
use Rattle.mirror_numbers.proofs.helpers.mirror_clip8.Kinds as clip8
use Rattle.mirror_numbers.proofs.helpers.mirror_clip8.Reads as clip8-reads

pub mirror_abs_decides : DecidesResult abs.ps abs.r abs-reads.Post
mirror_abs_decides κs a x y s t p q = p ∙ sym q

pub mirror_floor_decides : DecidesResult floor.ps floor.r floor-reads.Post
mirror_floor_decides κs a x y s t p q = p ∙ sym q

pub mirror_ceil_decides : DecidesResult ceil.ps ceil.r ceil-reads.Post
mirror_ceil_decides κs a x y s t p q = p ∙ sym q

pub mirror_round_decides : DecidesResult round.ps round.r round-reads.Post
mirror_round_decides κs a x y s t p q = p ∙ sym q

pub mirror_widen_decides : DecidesResult widen.ps widen.r widen-reads.Post
mirror_widen_decides κs a x y s t p q = p ∙ sym q

pub mirror_narrow_decides : Decides narrow.ps narrow.r narrow-reads.Post (λ κs s t. s.1.0.now ≡ t.1.0.now)
mirror_narrow_decides κs a x y s t p q = (p.0 ∙ sym q.0, p.1 ∙ sym q.1)

pub mirror_clip8_decides : DecidesResult clip8.ps clip8.r clip8-reads.Post
mirror_clip8_decides κs a x y s t p q = p ∙ sym q
