-- The contract of every export decides its answer, every lent list and every number beside it. Cited by docs/CONTRACTS.md. Assumes nothing.
use mathlib.Core.Path.{◌≡◌, ◌∙◌, sym}
use Rattle.lists.proofs.Sure.{Decides}
use Rattle.mirror_store_calls.proofs.restart.mirror_store_restart.Kinds as restart
use Rattle.mirror_store_calls.proofs.restart.mirror_store_restart.Reads as restart-reads
use Rattle.mirror_store_calls.proofs.pass.mirror_store_u16.Kinds as pass
use Rattle.mirror_store_calls.proofs.pass.mirror_store_u16.Reads as pass-reads

pub mirror_store_restart_decides : Decides restart.ps restart.r restart-reads.Post (λ κs s t. s.0.now ≡ t.0.now)
mirror_store_restart_decides κs a x y s t p q = (p.0 ∙ sym q.0, p.1 ∙ sym q.1)

pub mirror_store_u16_decides : Decides pass.ps pass.r pass-reads.Post (λ κs s t. s.1.1.1.1.1.1.1.1.1.1.0.now ≡ t.1.1.1.1.1.1.1.1.1.1.0.now)
mirror_store_u16_decides κs a x y s t p q = (p.0 ∙ sym q.0, p.1 ∙ sym q.1)
