-- `value` meets its contract: each arm of the match is the line of `value_of` for that filter, with the distance as `abs` gave it. Assumes nothing.
use borrow.Author.Rules.{rules}
use mathlib.Core.Path.{sym, ap, ◌∙◌}
use Rattle.filters.specs.declared.Filter.{Filter}
use Rattle.filters.specs.Filters.{value_of, bilinear_of, catmull_rom_of}
use Rattle.filters.proofs.value.Goals as goal

pub returns-in-Box : goal.returns-in-Box
unfolding value_of
returns-in-Box c = record { answer = c.box_filter.ensures.answer ∙ sym (ap (λ (f : Filter). value_of f c.args.x) c.in-Box.is) }

pub returns-in-Bilinear : goal.returns-in-Bilinear
unfolding value_of
returns-in-Bilinear c =
    record {
      answer = c.bilinear_filter.ensures.answer ∙ ap bilinear_of c.abs.ensures.answer
          ∙ sym (ap (λ (f : Filter). value_of f c.args.x) c.in-Bilinear.is);
    }

pub returns-in-CatmullRom : goal.returns-in-CatmullRom
unfolding value_of
returns-in-CatmullRom c =
    record {
      answer = c.catmul_filter.ensures.answer ∙ ap catmull_rom_of c.abs-in-CatmullRom.ensures.answer
          ∙ sym (ap (λ (f : Filter). value_of f c.args.x) c.in-CatmullRom.is);
    }
