-- The first slots of a list filled with one value by the library, the slots past those unchanged. Cited by what sets lists to 0. Assumes nothing.
use Rattle.std.proofs.Common.{◌≡◌, ℕ, zero, suc, ◌≤◌, List, ◌∷◌, ◌++◌, length, take, drop, refl, ap, ◌∙◌, arith}
use Rattle.std.proofs.lemmas.List.{length-take}
use Rattle.std.proofs.Math.ListN.{replicate}
use Rattle.lists.specs.Tab.{tab, front}

module _ {A : Type 0} (v : A) where
  same : (i n : ℕ) → replicate n v ≡ tab i n (λ k. v)
  same i zero = refl
  same i (suc n) = ap (λ (l : List A). v ∷ l) (same (suc i) n)

  pub filled : (n : ℕ) (old part : List A) → n ≤ length old → part ≡ replicate (length (take n old)) v → part ++ drop n old ≡ front n (λ k. v) old
  unfolding front
  filled n old part h e =
      let long : length (take n old) ≡ n = length-take n old ∙ omega arith in
      rw (e, long, same 0 n) refl
