-- A length is rows x each exactly when the quotient by each is rows and leaves nothing: `exact-quotient`, the hard need. Assumes nothing.
use mathlib.Core.Path.{◌≡◌, refl, sym, ap, ◌∙◌}
use mathlib.Core.Bool.{Bool, true, false, ◌&&◌}
use Prim.Native.Nat.{ℕ, ◌*◌, ◌/◌, ◌%◌, ◌<◌}
use native.Mathlib.Nat.{add-zero, mul-zero, div-add-mod'}
use native.Mathlib.Omega.{arith}
use lib.Dec.{eqb}
use lib.Arith.{digits_div, digits_mod}
use borrow.Author.Tests.{eqb-true, eqb-false, eq-eqb, ne_eqb}
use Rattle.windows.proofs.counts.fills.Goals as goal

module _ (places rows each : ℕ) (some : 0 < each) where
  whole : places / each ≡ rows → places % each ≡ 0 → places ≡ rows * each
  whole q r = sym (div-add-mod' places each) ∙ rw (q, r, add-zero)

  quotient : places ≡ rows * each → places / each ≡ rows
  quotient e = ap (λ (m : ℕ). m / each) (e ∙ sym (add-zero (rows * each))) ∙ digits_div rows some

  rest : places ≡ rows * each → places % each ≡ 0
  rest e = ap (λ (m : ℕ). m % each) (e ∙ sym (add-zero (rows * each))) ∙ digits_mod rows some

  by_tests : (a b : Bool) → eqb (places / each) rows ≡ a → eqb (places % each) 0 ≡ b → a && b ≡ eqb places (rows * each)
  by_tests true true q r = rw (eq-eqb places (rows * each) (whole (eqb-true (places / each) rows q) (eqb-true (places % each) 0 r)))
  by_tests true false q r = rw (ne_eqb places (rows * each) (λ e. eqb-false (places % each) 0 r (rest e)))
  by_tests false b q r = rw (ne_eqb places (rows * each) (λ e. eqb-false (places / each) rows q (quotient e)))

  exact-quotient : eqb (places / each) rows && eqb (places % each) 0 ≡ eqb places (rows * each)
  exact-quotient = by_tests (eqb (places / each) rows) (eqb (places % each) 0) refl refl

-- src/lib.rt
pub returns-then-each-eq0 : goal.returns-then-each-eq0
returns-then-each-eq0 c = record { answer = rw (c.if-each-eq0.true, mul-zero) }

pub returns : goal.returns
returns c = record { answer = exact-quotient c.args.places c.args.rows c.args.each (omega arith) }
