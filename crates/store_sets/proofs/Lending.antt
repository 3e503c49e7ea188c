-- Beginnings of lists that are lent: `l[0..k]` is read as `take (k - 0) (drop 0 l)`, and comes back in front of the rest. Cited by the proofs of `steps`. Assumes nothing.
use mathlib.Core.Path.{◌≡◌, ap, ◌∙◌}
use mathlib.Core.List.{List, ◌++◌}
use Prim.Native.Nat.{ℕ, ◌-◌, ◌*◌, ◌^◌, ◌≤◌, ◌<◌}
use native.Mathlib.Nat.{mul-le-mul}
use native.Mathlib.Omega.{arith}
use lib.Ieee.{Float}
use lib.ListN.{length, take, drop}
use lib.Seq.{length-take-le}
use Rattle.windows.specs.Set.{layout_of, set_of}
use Rattle.made_sets.specs.Lent.{lent_by}

pub product_fits : (a b : ℕ) → a < 2 ^ 32 → b < 2 ^ 32 → a * b < 2 ^ 64
product_fits a b h k =
    let l : a ≤ 4294967295 = omega arith in
    let m : b ≤ 4294967295 = omega arith in
    omega (arith, mul-le-mul l m)

less_none : (k : ℕ) → k - 0 ≡ k
less_none k = omega arith

pub begun_long : {A : Type 0} (k : ℕ) (l : List A) → k ≤ length l → length (take (k - 0) (drop 0 l)) ≡ k
begun_long k l h = ap (λ (j : ℕ). length (take j l)) (less_none k) ∙ length-take-le k l h

-- a list whose beginning was lent to one that leaves it as `left` says
pub begun_back : {A : Type 0} (k : ℕ) (left : List A → List A) (last old : List A) → last ≡ left (take (k - 0) (drop 0 old)) → last ++ drop (k - 0) (drop 0 old) ≡ lent_by k left old
unfolding lent_by
begun_back {A = A} k left last old e = ap (λ (l : List A). l ++ drop (k - 0) old) e ∙ ap (λ (j : ℕ). left (take j old) ++ drop j old) (less_none k)

-- a set in three beginnings
pub set_begun : (lines w m k : ℕ) (ds : List Float) (fs cs : List ℕ)
    → set_of (layout_of lines w (take (k - 0) (drop 0 fs)) (take (k - 0) (drop 0 cs))) (take (m - 0) (drop 0 ds)) ≡ set_of (layout_of lines w (take k fs) (take k cs)) (take m ds)
set_begun lines w m k ds fs cs = rw (less_none m, less_none k)

pub by_lengths : {A : Type 0} (f : ℕ → ℕ → ℕ → A) {a a1 b b1 c c1 : ℕ} → a ≡ a1 → b ≡ b1 → c ≡ c1 → f a b c ≡ f a1 b1 c1
by_lengths f e1 e2 e3 = rw (e1, e2, e3)
