-- The contract of the export decides its answer, the lent list and the number beside it. Cited by docs/CONTRACTS.md. Assumes nothing.
use mathlib.Core.Path.{◌≡◌, ◌∙◌, sym}
use Rattle.lists.proofs.Sure.{Decides}
use Rattle.mirror_stories.proofs.stories.mirror_story.Kinds as story
use Rattle.mirror_stories.proofs.stories.mirror_story.Reads as story-reads

pub mirror_story_decides : Decides story.ps story.r story-reads.Post (λ κs s t. (s.1.1.1.1.1.1.1.1.1.1.1.0.now ≡ t.1.1.1.1.1.1.1.1.1.1.1.0.now) × (s.1.1.1.1.1.1.1.1.1.1.1.1.0.now ≡ t.1.1.1.1.1.1.1.1.1.1.1.1.0.now))
mirror_story_decides κs a x y s t p q = (p.0 ∙ sym q.0, (p.1.0 ∙ sym q.1.0, p.1.1 ∙ sym q.1.1))
