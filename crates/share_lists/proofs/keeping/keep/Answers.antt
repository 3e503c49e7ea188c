-- `keeping::keep` meets its contract: without a new set nothing is written; with one the four numbers are laid (`label`), and the starts and sizes (`copy`), which are at most
-- 8,192. Assumes nothing.
use Rattle.std.specs.Prelude.{Result, Err}
use Rattle.std.proofs.Common.{◌≡◌, rules}
use mathlib.Core.Path.{sym, ap, ◌∙◌, subst}
use mathlib.Core.List.{[], ◌∷◌}
use Prim.Native.Nat.{ℕ, ◌+◌, ◌*◌, ◌≤◌}
use native.Mathlib.Nat.{le_trans, le_of_eq}
use native.Mathlib.Omega.{arith}
use lib.ListN.{take}
use Rattle.text.specs.Text.{laid}
use Rattle.coefficients.specs.declared.NotBuilt.{NotBuilt}
use Rattle.share_lists.specs.Inner.{Few, answer_by, numbers_by, laid_by}
use Rattle.share_lists.proofs.Laying.{laid_at}
use Rattle.share_lists.proofs.keeping.keep.Goals as goal

pub returns-in_err-window : goal.returns-in_err-window
unfolding numbers_by laid_by
returns-in_err-window c =
    let a = c.args in
    let old = c.in_err-window.was in
    let told : c.from_residual.result ≡ Err c.in_err-window.field-0.0 = search rules in
    record { answer = told ∙ sym (ap answer_by old); written = sym (ap (λ (m : Result (ℕ × ℕ) NotBuilt). numbers_by m a.client a.request a.numbers.now) old); written2 = sym (ap (λ (m : Result (ℕ × ℕ) NotBuilt). laid_by m a.client (take a.request.output a.firsts.now) a.starts.now) old); written3 = sym (ap (λ (m : Result (ℕ × ℕ) NotBuilt). laid_by m a.client (take a.request.output a.counts.now) a.sizes.now) old) }

pub copy-requires : goal.copy-requires
copy-requires c =
    let few : c.args.request.output ≤ 8192 = subst (λ (m : Result (ℕ × ℕ) NotBuilt). Few m c.args.request.output) c.in_ok-window.was c.requires.few_1 in
    record { fact_1 = le_trans (le_of_eq c.wide-n.ensures.answer.0) (le_trans few c.requires.few_2); fact_2 = omega (arith, c.wide-n.ensures.answer.0, c.line_base-b.ensures.answer, few, c.requires.numbers_len_2, c.requires.numbers_len_3) }

pub copy-requires-2 : goal.copy-requires-2
copy-requires-2 c =
    let few : c.args.request.output ≤ 8192 = subst (λ (m : Result (ℕ × ℕ) NotBuilt). Few m c.args.request.output) c.in_ok-window.was c.requires.few_1 in
    record { fact_1 = le_trans (le_of_eq c.wide-n.ensures.answer.0) (le_trans few c.requires.few_3); fact_2 = omega (arith, c.wide-n.ensures.answer.0, c.line_base-b.ensures.answer, few, c.requires.numbers_len_2, c.requires.numbers_len_4) }

pub returns : goal.returns
unfolding numbers_by laid_by
returns c =
    let a = c.args in
    let n = c.wide-n.ensures.answer.0 in
    record {
      answer = sym (ap answer_by c.in_ok-window.was);
      written = c.label.ensures.written ∙ ap (λ (side : ℕ). laid a.numbers.now (a.client * 5 + 1) (side ∷ a.request.output ∷ c.in_ok-window.window ∷ c.in_ok-window.precision ∷ [])) c.side_of.ensures.answer
          ∙ sym (ap (λ (m : Result (ℕ × ℕ) NotBuilt). numbers_by m a.client a.request a.numbers.now) c.in_ok-window.was);
      written2 = c.copy.ensures.written ∙ laid_at a.starts.now a.firsts.now c.line_base-b.ensures.answer n ∙ sym (ap (λ (m : Result (ℕ × ℕ) NotBuilt). laid_by m a.client (take a.request.output a.firsts.now) a.starts.now) c.in_ok-window.was);
      written3 = c.copy-2.ensures.written ∙ laid_at a.sizes.now a.counts.now c.line_base-b.ensures.answer n ∙ sym (ap (λ (m : Result (ℕ × ℕ) NotBuilt). laid_by m a.client (take a.request.output a.counts.now) a.sizes.now) c.in_ok-window.was);
    }
