-- The contract of `story` decides its answer and every byte of the lent list, which is the twelfth parameter; that of `length` its answer. Assumes nothing.
use mathlib.Core.Path.{◌≡◌, ◌∙◌, sym}
use Rattle.lists.proofs.Sure.{Decides, DecidesResult}
use Rattle.story.proofs.story.Kinds as story
use Rattle.story.proofs.story.Reads as story-reads
use Rattle.story.proofs.answer.length.Kinds as length
use Rattle.story.proofs.answer.length.Reads as length-reads

pub story_decides : Decides story.ps story.r story-reads.Post (λ κs s t. s.1.1.1.1.1.1.1.1.1.1.1.0.now ≡ t.1.1.1.1.1.1.1.1.1.1.1.0.now)
story_decides κs a x y s t p q = (p.0 ∙ sym q.0, p.1 ∙ sym q.1)

pub length_decides : DecidesResult length.ps length.r length-reads.Post
length_decides κs a x y s t p q = p ∙ sym q
