-- A signed number and the byte after it, written out into 24 bytes: they fit, and what is written is their text. Cited by `take_known`. Assumes nothing.
use mathlib.Core.Path.{◌≡◌, ap, ◌∙◌}
use mathlib.Core.List.{List, [], ◌∷◌, ◌++◌}
use Prim.Native.Nat.{ℕ, ◌-◌, ◌≤◌}
use native.Mathlib.Omega.{arith}
use lib.Dec.{lit<}
use lib.IntN.{ℤ}
use lib.ListN.{length, set, take, drop, length-append}
use lib.Seq.{take-append_seam}
use Rattle.text.specs.Text.{laid, reached, signed, over}
use Rattle.text.proofs.TextLaws.{Laid, laid_none, laid_then, laid_byte, laid_long, laid_over, reached_whole, signed_small}

take_over : (t old : List ℕ) → take (length t) (over t old) ≡ t
unfolding over
take_over t old = take-append_seam t (drop (length t) old)

module _ (v : ℤ) (end : ℕ) (old : List ℕ) (room : length old ≡ 24) {b e : ℕ} {o1 o2 : List ℕ} (e-b : b ≡ reached 0 (length (signed v))) (e_1 : o1 ≡ laid old 0 (signed v)) (e-e : e ≡ reached b 1) (e_2 : o2 ≡ set o1 b end) where
  abbrev text : List ℕ
  text = signed v ++ (end ∷ [])

  written : Laid 0 text old e o2
  written = laid_byte end (laid_then (signed v) (laid_none 0 old (lit< tt) (rw room (lit< tt))) e-b e_1) e-e e_2

  short : length text ≤ 22
  short = omega (arith, signed_small v, length-append (signed v) (end ∷ []))

  ends : e ≡ length text
  ends = written.place ∙ reached_whole (length text) (omega (arith, short))

  -- it fits
  pub right_fits : e ≤ 24
  right_fits = omega (arith, ends, short)

  pub right_long : length o2 ≡ 24
  right_long = laid_long written ∙ room

  -- and is the text
  pub right_is : take (e - 0) o2 ≡ text
  right_is =
      let all : e - 0 ≡ length text = omega (arith, ends) in
      ap (λ (n : ℕ). take n o2) all ∙ ap (λ (l : List ℕ). take (length text) l) (written.is ∙ laid_over old text (omega (arith, short, room))) ∙ take_over text old
