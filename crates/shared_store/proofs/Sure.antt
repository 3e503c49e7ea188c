-- The contracts of `put` and `pass` decide their answers and every list that they may write. Cited by docs/CONTRACTS.md. Assumes nothing.
use mathlib.Core.Path.{◌≡◌, ◌∙◌, sym}
use Rattle.lists.proofs.Sure.{Decides}
use Rattle.shared_store.proofs.put.Kinds as put
use Rattle.shared_store.proofs.put.Reads as put_reads
use Rattle.shared_store.proofs.pass.Kinds as pass
use Rattle.shared_store.proofs.pass.Reads as pass-reads

pub put_decides : Decides put.ps put.r put_reads.Post
    (λ κs s t. (s.0.now ≡ t.0.now)
    × ((s.1.0.now ≡ t.1.0.now)
    × ((s.1.1.0.now ≡ t.1.1.0.now)
    × ((s.1.1.1.0.now ≡ t.1.1.1.0.now)
    × ((s.1.1.1.1.0.now ≡ t.1.1.1.1.0.now)
    × ((s.1.1.1.1.1.1.1.0.now ≡ t.1.1.1.1.1.1.1.0.now)
    × ((s.1.1.1.1.1.1.1.1.0.now ≡ t.1.1.1.1.1.1.1.1.0.now)
    × (s.1.1.1.1.1.1.1.1.1.0.now ≡ t.1.1.1.1.1.1.1.1.1.0.now))))))))
put_decides κs a x y s t p q = (
  p.0 ∙ sym q.0,
  (
    p.1.0 ∙ sym q.1.0,
    (
      p.1.1.0 ∙ sym q.1.1.0,
      (
        p.1.1.1.0 ∙ sym q.1.1.1.0,
        (
          p.1.1.1.1.0 ∙ sym q.1.1.1.1.0,
          (
            p.1.1.1.1.1.0 ∙ sym q.1.1.1.1.1.0,
            (
              p.1.1.1.1.1.1.0 ∙ sym q.1.1.1.1.1.1.0,
              (p.1.1.1.1.1.1.1.0 ∙ sym q.1.1.1.1.1.1.1.0, p.1.1.1.1.1.1.1.1 ∙ sym q.1.1.1.1.1.1.1.1),
            ),
          ),
        ),
      ),
    ),
  ),
)

pub pass_decides : Decides pass.ps pass.r pass-reads.Post (λ κs s t. s.1.1.1.1.1.1.1.1.1.1.0.now ≡ t.1.1.1.1.1.1.1.1.1.1.0.now)
pass_decides κs a x y s t p q = (p.0 ∙ sym q.0, p.1 ∙ sym q.1)
