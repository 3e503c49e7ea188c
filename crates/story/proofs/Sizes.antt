-- A story's length is far below 2^64, so that a run over any list counts it whole. Cited by `tell`. Assumes nothing.
use mathlib.Core.Path.{◌≡◌}
use mathlib.Core.Bool.{Bool, true, false, cond}
use Prim.Native.Nat.{ℕ, ◌+◌, ◌-◌, ◌*◌, ◌^◌, ◌≤◌, ◌<◌}
use native.Mathlib.Omega.{arith}
use lib.IntN.{ℤ, pos}
use lib.ListN.{length, length-append}
use lib.Signed.{lt_z}
use Rattle.integers.specs.Sums.{total, rounded, value}
use Rattle.text.specs.Text.{reached, signed}
use Rattle.text.proofs.TextLaws.{reached_whole, signed_small, joined_small, field_small, line_small}
use Rattle.signed_lines.proofs.LineLaws.{number_small}
use Rattle.sheet.specs.Keys.{comma}
use Rattle.story_text.specs.Keys.{key_line, key_total, key_half, key_shifted, key_final, word_low, word_high, word_none}
use Rattle.story_text.specs.Text.{product, part_text, camera_text, camera_at, lines_text, clip_word, clip_text, end_text, window_text}

part_small : (z : ℤ) → length (part_text z) ≤ 22
unfolding part_text
part_small z = omega (arith, length-append comma (signed z), signed_small z)

camera_small : (line : ℕ) (w : ℤ) (s : ℕ) → length (camera_text line w s) ≤ 100
unfolding camera_text
camera_small line w s = simp length-append (omega (arith, field_small key_line line, part_small w, field_small comma s, part_small (product w s)))

lines_small : (start : ℕ) (w : ℕ → ℤ) (s : ℕ → ℕ) (n : ℕ) → length (lines_text start w s n) ≤ n * 100
unfolding lines_text
lines_small start w s n = joined_small (camera_at start w s) 100 n (λ k l. camera_small (start + k) (w k) (s k))

three : (a b : Bool) → length (cond a word_low (cond b word_high word_none)) ≤ 4
three true b = omega arith
three false true = omega arith
three false false = omega arith

clip_small : (z : ℤ) → length (clip_text z) ≤ 10
unfolding clip_text clip_word
clip_small z = simp length-append (omega (arith, three (lt_z z (pos 0)) (lt_z (pos 65535) z)))

end_small : (t : ℤ) (half : ℕ) (v : ℤ) (final : ℕ) → length (end_text t half v final) ≤ 200
unfolding end_text
end_small t half v final =
    simp length-append
    (omega (arith, number_small key_total t, number_small key_half (pos half), number_small key_shifted v, clip_small v, line_small key_final final))

module _ (p start : ℕ) (w : ℕ → ℤ) (s : ℕ → ℕ) (n : ℕ) where
  text_small : n ≤ 8192 → length (window_text p start w s n) < 2 ^ 64
  unfolding window_text
  text_small few =
      let end = end_text (total w s n) (2 ^ (p - 1)) (rounded p w s n) (value 65535 p w s n) in
      omega (arith, length-append (lines_text start w s n) end, lines_small start w s n, end_small (total w s n) (2 ^ (p - 1)) (rounded p w s n) (value 65535 p w s n), few)

  pub counted : n ≤ 8192 → reached 0 (length (window_text p start w s n)) ≡ length (window_text p start w s n)
  counted few = reached_whole (length (window_text p start w s n)) (text_small few)
