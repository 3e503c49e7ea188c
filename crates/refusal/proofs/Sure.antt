-- The contract of a refusal's `number` decides its answer, and so does that of the number of an answer, whatever its value and its error. Assumes nothing.
use mathlib.Core.Path.{◌∙◌, sym}
use denote.RattleType.{RattleType}
use denote.Param.Laws.{Laws}
use mir.Syntax.{Dict}
use Rattle.lists.proofs.Sure.{DecidesResult}
use Rattle.refusal.specs.declared.Numbered.{Ghosts}
use Rattle.refusal.proofs.RefusalNumbered.number.Kinds as number
use Rattle.refusal.proofs.RefusalNumbered.number.Reads as number-reads
use Rattle.refusal.proofs.ResultNumbered.number.Kinds as answer
use Rattle.refusal.proofs.ResultNumbered.number.Reads as answer-reads

pub number_decides : DecidesResult number.ps number.r number-reads.Post
number_decides κs a x y s t p q = p ∙ sym q

pub answer_number_decides : (T E : RattleType) (t : Laws T) (e : Laws E) (numbered : Ghosts E.Denot) (dict : Dict) → DecidesResult (answer.ps T E t e) (answer.r T E t e) (answer-reads.Post T E t e numbered dict)
answer_number_decides T E t e numbered dict κs a x y s u p q = p ∙ sym q
