-- `mirror_story`: number, list and length are the library's. Assumes nothing.
use mathlib.Core.Path.{◌∙◌, ap}
use Rattle.story.specs.Answer.{number_of, length_of}
use Rattle.mirror_stories.proofs.stories.mirror_story.Goals as goal

pub returns : goal.returns
returns c = record { answer = c.number.ensures.answer ∙ ap number_of c.story-answer.ensures.answer; written = c.story-answer.ensures.written; written2 = c.length.ensures.answer ∙ ap length_of c.story-answer.ensures.answer }
