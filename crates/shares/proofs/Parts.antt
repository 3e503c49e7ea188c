-- Parts of a list, and texts laid into a list: what is laid in one part is read there, and nowhere else. Cited by OtherView, OwnView and Kept. Assumes nothing.
use mathlib.Core.Path.{◌≡◌, refl, sym, ap, ◌∙◌}
use mathlib.Core.List.{List, [], ◌∷◌, ◌++◌, append_assoc}
use Prim.Native.Nat.{ℕ, zero, suc, ◌+◌, ◌-◌, ◌≤◌, ◌<◌}
use native.Mathlib.Nat.{add-zero, add-suc, suc-add, not-suc-le-zero}
use native.Mathlib.Omega.{arith}
use lib.ListN.{length, get_or, take, drop, set, length-set}
use lib.Seq.{sets, sets-eq, take_at, drop_at, length-take-le, take-set-le, drop-set-lt, drop-set-add, get_or-set_same, get_or-set_other}
use Rattle.text.specs.Text.{laid}
use Rattle.shares.specs.Store.{part}

module _ {A : Type 0} where
  -- read where it was laid
  pub part_laid : (l text : List A) (a : ℕ) → a + length text ≤ length l → part a (length text) (laid l a text) ≡ text
  unfolding laid
  part_laid l text a h =
      let long : length (take a l) ≡ a = length-take-le a l (omega arith) in
      rw (sets-eq text l a h, append_assoc (take a l) text (drop (a + length text) l), drop_at (take a l) (text ++ drop (a + length text) l) a long)
      (take_at text (drop (a + length text) l) (length text) refl)

  set_past : (l : List A) (i b n : ℕ) (v : A) → b + n ≤ i → part b n (set l i v) ≡ part b n l
  set_past l i b n v h =
      let e : b + (i - b) ≡ i = omega arith in
      ap (λ (k : ℕ). part b n (set l k v)) (sym e)
      ∙ ap (take n) (drop-set-add b l (i - b) v) ∙ take-set-le n (drop b l) (i - b) v (omega arith)

  -- laid past a part, or before it: the part is as it was
  pub part_before : (l text : List A) (a b n : ℕ) → b + n ≤ a → part b n (laid l a text) ≡ part b n l
  unfolding laid
  part_before l [] a b n h = refl
  part_before l (v ∷ vs) a b n h = part_before (set l a v) vs (suc a) b n (omega arith) ∙ set_past l a b n v h

  pub part_behind : (l text : List A) (a b n : ℕ) → a + length text ≤ b → part b n (laid l a text) ≡ part b n l
  unfolding laid
  part_behind l [] a b n h = refl
  part_behind l (v ∷ vs) a b n h = part_behind (set l a v) vs (suc a) b n (omega arith) ∙ ap (take n) (drop-set-lt b l a v (omega arith))

  -- the same of one place
  pub at_before : (l text : List A) (a i : ℕ) (d : A) → i < a → get_or (laid l a text) i d ≡ get_or l i d
  unfolding laid
  at_before l [] a i d h = refl
  at_before l (v ∷ vs) a i d h = at_before (set l a v) vs (suc a) i d (omega arith) ∙ get_or-set_other l a i v d (λ (s : i ≡ a). omega arith)

  pub at_behind : (l text : List A) (a i : ℕ) (d : A) → a + length text ≤ i → get_or (laid l a text) i d ≡ get_or l i d
  unfolding laid
  at_behind l [] a i d h = refl
  at_behind l (v ∷ vs) a i d h = at_behind (set l a v) vs (suc a) i d (omega arith) ∙ get_or-set_other l a i v d (λ (s : i ≡ a). omega arith)

  pub at_laid : (l text : List A) (a k : ℕ) (d : A) → k < length text → a + length text ≤ length l → get_or (laid l a text) (a + k) d ≡ get_or text k d
  unfolding laid
  at_laid l [] a k d h f = absurd (not-suc-le-zero h)
  at_laid l (v ∷ vs) a zero d h f =
      ap (λ (i : ℕ). get_or (sets (set l a v) (suc a) vs) i d) (add-zero a)
      ∙ at_before (set l a v) vs (suc a) a d (omega arith) ∙ get_or-set_same l a v d (omega arith)
  at_laid l (v ∷ vs) a (suc k) d h f =
      ap (λ (i : ℕ). get_or (sets (set l a v) (suc a) vs) i d) (add-suc a k ∙ sym (suc-add a k))
      ∙ at_laid (set l a v) vs (suc a) k d (omega arith) (omega (arith, length-set l a v))
