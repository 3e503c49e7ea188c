-- The numbers after a restart: all 0, and the shares written. Cited by the proof of `restart`. Assumes nothing.
use Rattle.std.proofs.Common.{◌≡◌, ◌∙◌, ℕ, List, length, ap, set, replicate}
use Rattle.shares.specs.Machine.{emptied}

pub new_numbers : (old l : List ℕ) (a b : ℕ) → length old ≡ 10 → l ≡ replicate (length old) 0 → set (set l 0 a) 5 b ≡ emptied a b
new_numbers old l a b ten is = ap (λ (x : List ℕ). set (set x 0 a) 5 b) (is ∙ ap (λ (n : ℕ). replicate n 0) ten)
