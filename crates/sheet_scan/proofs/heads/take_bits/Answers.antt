-- `take_bits`: 16, or 32 where it is taken; the text stops where it leaves the one that it shares more with. Assumes nothing.
use borrow.Author.Rules.{rules}
use mathlib.Core.Path.{◌≡◌, refl}
use mathlib.Core.List.{List, [], ◌∷◌}
use mathlib.Core.Logic.{inl, inr}
use Prim.Native.Nat.{ℕ, ◌≤◌, ◌<◌, max}
use lib.ListN.{length, drop}
use Rattle.text.specs.Words.{common}
use Rattle.scan.proofs.CommonLaws.{common_right}
use Rattle.sheet_scan.specs.Lines.{bits_line}
use Rattle.sheet_scan.proofs.StoreLaws.{value_found, sixteen, thirty_two, bits_stopped, sixteen_stopped}
use native.Mathlib.Omega.{arith}
use native.Mathlib.Omega.{arith}
use Rattle.sheet_scan.proofs.heads.take_bits.Goals as goal

below : (t w : List ℕ) (n long : ℕ) → n ≡ common t w → long ≡ length w → (n ≡ long → ⊥) → n < long
below t w n long e e-l other = let m = common_right t w in omega arith

larger : (a b m : ℕ) → a < 3 → b < 3 → m ≡ max a b → m ≤ 3
larger a b m l-a l-b e = omega arith

pub returns-then-a-eq3 : goal.returns-then-a-eq3
returns-then-a-eq3 c = record { answer = value_found (bits_line _) 16 _ _ _ (inl refl) (rw sixteen c.shared-a.ensures.answer) (rw sixteen c.if-a-eq3.true) }

pub returns-then-not-wide : goal.returns-then-not-wide
returns-then-not-wide c =
    let l-a = below (drop c.args.at c.args.text.now) (49 ∷ 54 ∷ 10 ∷ []) _ 3 c.shared-a.ensures.answer refl c.if-a-eq3.false in
    record { answer = rw (c.if-not-wide.true) (sixteen_stopped _ _ _ c.shared-a.ensures.answer l-a) }

pub returns-then-b-eq3 : goal.returns-then-b-eq3
returns-then-b-eq3 c = record { answer = value_found (bits_line _) 32 _ _ _ (inr (c.if-not-wide.false, refl)) (rw thirty_two c.shared-b.ensures.answer) (rw thirty_two c.if-b-eq3.true) }

pub overflow_add-result-2 : goal.overflow_add-result-2
overflow_add-result-2 c =
    let l-a = below (drop c.args.at c.args.text.now) (49 ∷ 54 ∷ 10 ∷ []) _ 3 c.shared-a.ensures.answer refl c.if-a-eq3.false in
    let l-b = below (drop c.args.at c.args.text.now) (51 ∷ 50 ∷ 10 ∷ []) _ 3 c.shared-b.ensures.answer refl c.if-b-eq3.false in
    let m : c.max.result ≤ 3 = larger _ _ _ l-a l-b c.max.ensures in
    search rules

pub returns : goal.returns
returns c =
    let l-a = below (drop c.args.at c.args.text.now) (49 ∷ 54 ∷ 10 ∷ []) _ 3 c.shared-a.ensures.answer refl c.if-a-eq3.false in
    let l-b = below (drop c.args.at c.args.text.now) (51 ∷ 50 ∷ 10 ∷ []) _ 3 c.shared-b.ensures.answer refl c.if-b-eq3.false in
    record { answer = rw (c.if-not-wide.false, c.max.ensures) (bits_stopped _ _ _ _ c.shared-a.ensures.answer c.shared-b.ensures.answer l-a l-b) }

pub overflow_add-result-then-not-wide : goal.overflow_add-result-then-not-wide
overflow_add-result-then-not-wide c =
    let l-a = below (drop c.args.at c.args.text.now) (49 ∷ 54 ∷ 10 ∷ []) _ 3 c.shared-a.ensures.answer refl c.if-a-eq3.false in
    search rules
