-- A line with a signed number, after what is laid already: w is what the machine reads back of z. How long such a line can be. Cited by whoever writes such lines. Assumes nothing.
use mathlib.Core.Path.{◌≡◌, ap, ◌∙◌}
use mathlib.Core.List.{List, ◌++◌}
use Prim.Native.Nat.{ℕ, ◌+◌, ◌≤◌}
use native.Mathlib.Omega.{arith}
use lib.IntN.{ℤ}
use lib.ListN.{length, length-append}
use Rattle.text.specs.Text.{laid, reached}
use Rattle.text.proofs.TextLaws.{Laid, laid_then, signed_small}
use Rattle.signed_lines.specs.Lines.{number_text}

pub number_small : (key : List ℕ) (z : ℤ) → length (number_text key z) ≤ length key + 22
unfolding number_text
number_small key z = simp length-append (omega (arith, signed_small z))

pub laid_number : (key : List ℕ) {z w : ℤ} → w ≡ z → {a p q : ℕ} {t old now new : List ℕ} → Laid a t old p now → q ≡ reached p (length (number_text key w)) → new ≡ laid now p (number_text key w) → Laid a (t ++ number_text key z) old q new
laid_number key {z} e {a} {p} {q} {t} {old} {now} l place is =
    laid_then (number_text key z) l (place ∙ ap (λ (x : ℤ). reached p (length (number_text key x))) e) (is ∙ ap (λ (x : ℤ). laid now p (number_text key x)) e)
