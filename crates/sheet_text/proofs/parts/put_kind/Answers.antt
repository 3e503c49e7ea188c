-- `parts::put_kind` meets its contract: each kind's bytes are its name, by computing. Assumes nothing.
use Rattle.sheet.specs.Keys.{kind_name}
use Rattle.sheet_text.proofs.parts.put_kind.Goals as goal

pub returns-in-Box : goal.returns-in-Box
unfolding kind_name
returns-in-Box c = rw c.in-Box.is (record { answer = c.put.ensures.answer; written = c.put.ensures.written })

pub returns-in-Bilinear : goal.returns-in-Bilinear
unfolding kind_name
returns-in-Bilinear c = rw c.in-Bilinear.is (record { answer = c.put-in-Bilinear.ensures.answer; written = c.put-in-Bilinear.ensures.written })

pub returns-in-CatmullRom : goal.returns-in-CatmullRom
unfolding kind_name
returns-in-CatmullRom c = rw c.in-CatmullRom.is (record { answer = c.put-in-CatmullRom.ensures.answer; written = c.put-in-CatmullRom.ensures.written })

pub returns-in-Mitchell : goal.returns-in-Mitchell
unfolding kind_name
returns-in-Mitchell c = rw c.in-Mitchell.is (record { answer = c.put-in-Mitchell.ensures.answer; written = c.put-in-Mitchell.ensures.written })
