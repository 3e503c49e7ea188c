-- A part of a list that was lent and came back. Cited by Placed. Assumes nothing.
use mathlib.Core.Path.{◌≡◌, sym, ap, ◌∙◌}
use mathlib.Core.List.{List, ◌++◌, append_assoc}
use Prim.Native.Nat.{ℕ, ◌+◌, ◌≤◌}
use native.Mathlib.Nat.{zero-add}
use native.Mathlib.Omega.{arith}
use lib.ListN.{length, take, drop, length-drop, take-append-drop}
use lib.Seq.{drop-drop, drop-append-le, sets, sets-eq, length-take-le}
use Rattle.text.specs.Text.{laid}

-- with a text laid at its beginning: the whole list with the text laid there
pub part_back : {A : Type 0} (l text : List A) (a n : ℕ) → a + n ≤ length l → length text ≤ n → take a l ++ (laid (take n (drop a l)) 0 text ++ drop n (drop a l)) ≡ laid l a text
unfolding laid
part_back l text a n h k =
    let lp : length (take n (drop a l)) ≡ n = length-take-le n (drop a l) (omega (arith, length-drop a l)) in
    let ep : sets (take n (drop a l)) 0 text ≡ text ++ drop (length text) (take n (drop a l)) =
    sets-eq text (take n (drop a l)) 0 (omega (arith, lp)) ∙ ap (λ (m : ℕ). text ++ drop m (take n (drop a l))) (zero-add (length text)) in
    let back : drop (length text) (take n (drop a l)) ++ drop n (drop a l) ≡ drop (a + length text) l =
    sym (drop-append-le (length text) (take n (drop a l)) (drop n (drop a l)) (omega (arith, lp))) ∙ ap (drop (length text)) (take-append-drop n (drop a l)) ∙ drop-drop (length text) a l in
    rw (ep, append_assoc text (drop (length text) (take n (drop a l))) (drop n (drop a l)), back, sets-eq text l a (omega arith), append_assoc (take a l) text (drop (a + length text) l))

-- and unchanged, where the part is
pub part_same : {A : Type 0} (l : List A) (a n : ℕ) → take a l ++ (take n (drop a l) ++ drop n (drop a l)) ≡ l
part_same {A = A} l a n = ap (λ (x : List A). take a l ++ x) (take-append-drop n (drop a l)) ∙ take-append-drop a l
