-- The contract of `put_story` decides its answer and every byte of the lent list, which is the ninth parameter. Assumes nothing.
use mathlib.Core.Path.{◌≡◌, ◌∙◌, sym}
use Rattle.lists.proofs.Sure.{Decides}
use Rattle.story_ends.proofs.put_story.Kinds as put-story
use Rattle.story_ends.proofs.put_story.Reads as put-story-reads

pub put_story_decides : Decides put-story.ps put-story.r put-story-reads.Post (λ κs s t. s.1.1.1.1.1.1.1.1.0.now ≡ t.1.1.1.1.1.1.1.1.0.now)
put_story_decides κs a x y s t p q = (p.0 ∙ sym q.0, p.1 ∙ sym q.1)
