-- The contract of `restart` decides its answer and the numbers that it may write. Cited by docs/CONTRACTS.md. Assumes nothing.
use mathlib.Core.Path.{◌≡◌, ◌∙◌, sym}
use Rattle.lists.proofs.Sure.{Decides}
use Rattle.share_restarts.proofs.restarting.restart.Kinds as restart
use Rattle.share_restarts.proofs.restarting.restart.Reads as restart-reads

pub restart_decides : Decides restart.ps restart.r restart-reads.Post (λ κs s t. s.0.now ≡ t.0.now)
restart_decides κs a x y s t p q = (p.0 ∙ sym q.0, p.1 ∙ sym q.1)
