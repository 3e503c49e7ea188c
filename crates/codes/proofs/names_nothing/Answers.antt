-- `names_nothing`: the test is that of `no_codes`, with the name and its being retired as the two calls gave them. Assumes nothing.
use Rattle.codes.proofs.names_nothing.Goals as goal

pub returns : goal.returns
returns c = record { answer = rw (c.retired-gone.ensures.answer, c.filter_named.ensures.answer) }
