-- `bytes::next` meets its contract: below the last place one more is reached, and the last is `reached` by itself. Assumes nothing.
use borrow.Author.Rules.{rules}
use Rattle.text.specs.Text.{reached}
use Rattle.text.proofs.bytes.next.Goals as goal

pub returns-then-at-lt18446744073709551615 : goal.returns-then-at-lt18446744073709551615
unfolding reached
returns-then-at-lt18446744073709551615 c = record { answer = search rules }

pub returns : goal.returns
unfolding reached
returns c = record { answer = search rules }
