-- A window's weights as a slice of the set's slots, and as the set says them. Cited by the judge and by `rows`. Assumes nothing.
use mathlib.Core.Path.{◌≡◌, ap, ◌∙◌}
use mathlib.Core.Bool.{Bool, false}
use mathlib.Core.List.{List}
use Prim.Native.Nat.{ℕ, ◌+◌, ◌-◌, ◌*◌, ◌^◌, ◌≤◌, ◌<◌}
use native.Mathlib.Omega.{arith}
use lib.Dec.{ltb}
use lib.IntN.{ℤ, pos}
use lib.ListN.{length, get_or, take, drop}
use lib.Seq.{get_or-take, get_or-drop}
use borrow.Author.Tests.{ltb-false}
use Rattle.lists.specs.Tab.{any}
use Rattle.lists.proofs.AnyLaws.{any_none}
use Rattle.vertical.specs.Column.{weight_at}
use Rattle.row_u8.specs.Sizes.{sizes_total_value}
use Rattle.vertical_u8.specs.U8.{heavy}
use Rattle.vertical_u8.specs.Inner.{slot_heavy}
use Rattle.row_u8.proofs.Sizes.{total_ext}

-- d and m are what the code has for the size n
slice_total : (weights : List ℤ) (a n : ℕ) {d m : ℕ} → d ≡ n → m ≡ n → sizes_total_value (weight_at (take d (drop a weights))) m ≡ sizes_total_value (λ k. get_or weights (a + k) (pos 0)) n
slice_total weights a n ed em =
    rw (ed, em)
    (total_ext (weight_at (take n (drop a weights))) (λ k. get_or weights (a + k) (pos 0)) n (λ k l. get_or-take n (drop a weights) k (pos 0) l ∙ get_or-drop a weights k (pos 0)))

pub slice_heavy : (window : ℕ) (weights : List ℤ) (sizes : List ℕ) (p i : ℕ) {d m : ℕ} {r : Bool} → d ≡ get_or sizes i 0 → m ≡ get_or sizes i 0 → r ≡ heavy p (weight_at (take d (drop (i * window) weights))) m → r ≡ slot_heavy window weights sizes p i
slice_heavy window weights sizes p i ed em e = e ∙ ap (λ (t : ℕ). ltb 2147483647 (255 * t + 2 ^ (p - 1))) (slice_total weights (i * window) (get_or sizes i 0) ed em)

-- where no window is too heavy, a sum over window i has room
pub slice_room : (window : ℕ) (weights : List ℤ) (sizes : List ℕ) (p i : ℕ) {d m : ℕ} → any (length sizes) (slot_heavy window weights sizes p) ≡ false → i < length sizes → d ≡ get_or sizes i 0 → m ≡ get_or sizes i 0 → 2 ^ (p - 1) + 255 * sizes_total_value (weight_at (take d (drop (i * window) weights))) m ≤ 2147483647
slice_room window weights sizes p i none l ed em =
    let h = ltb-false 2147483647 (255 * sizes_total_value (λ k. get_or weights (i * window + k) (pos 0)) (get_or sizes i 0) + 2 ^ (p - 1)) (any_none (slot_heavy window weights sizes p) (length sizes) none i l) in
    rw (slice_total weights (i * window) (get_or sizes i 0) ed em) (omega arith)
