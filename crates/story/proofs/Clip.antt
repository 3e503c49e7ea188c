-- For the customer: the word of the clip says which side was cut off, and `none` exactly where the shifted value is inside; the final number is then 0, the largest sample,
-- or the shifted value itself. Cited by docs/CONTRACTS.md. Assumes nothing.
use mathlib.Core.Path.{◌≡◌, refl, sym, ap}
use mathlib.Core.Bool.{Bool, true, false, cond}
use mathlib.Core.List.{List}
use Prim.Native.Nat.{ℕ, ◌≤◌}
use native.Mathlib.Omega.{arith}
use lib.IntN.{ℤ, pos, negsuc}
use lib.ListN.{get_or}
use lib.Signed.{lt_z}
use borrow.Author.Tests.{ltb-false, le-ltb}
use Rattle.lists.specs.Ladder.{Exactly}
use Rattle.lists.proofs.BoolLaws.{never}
use Rattle.integers.specs.Sums.{clipped}
use Rattle.integers.proofs.Clips.{clipped_low, clipped_high}
use Rattle.story_text.specs.Keys.{word_low, word_high, word_none}
use Rattle.story_text.specs.Text.{clip_word}
use Rattle.story.specs.Story.{Inside}

-- the three words differ in their first letters
first : List ℕ → ℕ
first word = get_or word 0 0

abbrev chosen : Bool → Bool → List ℕ
chosen a b = cond a word_low (cond b word_high word_none)

is_low : (a b : Bool) → chosen a b ≡ word_low → a ≡ true
unfolding first
is_low true b h = refl
is_low false true h = let e = ap first h in absurd (omega arith)
is_low false false h = let e = ap first h in absurd (omega arith)

is_high : (a b : Bool) → chosen a b ≡ word_high → (a ≡ false) × (b ≡ true)
unfolding first
is_high true b h = let e = ap first h in absurd (omega arith)
is_high false true h = (refl, refl)
is_high false false h = let e = ap first h in absurd (omega arith)

is_none : (a b : Bool) → chosen a b ≡ word_none → (a ≡ false) × (b ≡ false)
unfolding first
is_none true b h = let e = ap first h in absurd (omega arith)
is_none false true h = let e = ap first h in absurd (omega arith)
is_none false false h = (refl, refl)

-- what is above M is not below 0
above : (M : ℕ) (z : ℤ) → lt_z (pos M) z ≡ true → lt_z z (pos 0) ≡ false
above M (pos n) h = le-ltb n 0 (omega arith)
above M (negsuc n) h = never (sym h)

between : (M : ℕ) (z : ℤ) → lt_z z (pos 0) ≡ false → lt_z (pos M) z ≡ false → Inside M z
between M (pos n) low high = record { n = n; is = refl; most = ltb-false M n high }
between M (negsuc n) low high = never low

inside_low : (M : ℕ) (z : ℤ) → Inside M z → lt_z z (pos 0) ≡ false
inside_low M z h = rw h.is (le-ltb h.n 0 (omega arith))

inside_high : (M : ℕ) (z : ℤ) → Inside M z → lt_z (pos M) z ≡ false
inside_high M z h = rw h.is (le-ltb M h.n h.most)

module _ (M : ℕ) (z : ℤ) where
  pub low_exactly : Exactly (clip_word M z ≡ word_low) (lt_z z (pos 0) ≡ true)
  unfolding clip_word
  low_exactly = (is_low (lt_z z (pos 0)) (lt_z (pos M) z), λ h. rw h)

  pub high_exactly : Exactly (clip_word M z ≡ word_high) (lt_z (pos M) z ≡ true)
  unfolding clip_word
  high_exactly = (λ h. (is_high (lt_z z (pos 0)) (lt_z (pos M) z) h).1, λ h. rw (above M z h, h))

  pub none_exactly : Exactly (clip_word M z ≡ word_none) (Inside M z)
  unfolding clip_word
  none_exactly = (
    λ h. (let t = is_none (lt_z z (pos 0)) (lt_z (pos M) z) h in between M z t.0 t.1),
    λ h. rw (inside_low M z h, inside_high M z h),
  )

  -- the final number by the word
  pub low_gives : clip_word M z ≡ word_low → clipped M z ≡ 0
  low_gives h = clipped_low M z (pos 0) refl (low_exactly.0 h)

  pub high_gives : clip_word M z ≡ word_high → clipped M z ≡ M
  high_gives h = clipped_high M M z (omega arith) (high_exactly.0 h)

  pub none_gives : clip_word M z ≡ word_none → pos (clipped M z) ≡ z
  unfolding clipped
  none_gives h = let t = none_exactly.0 h in rw t.is (ap pos (let l : t.n ≤ M = t.most in omega arith))
