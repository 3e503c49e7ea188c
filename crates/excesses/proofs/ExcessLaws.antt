-- Where windows stand in their slots, for a loop that goes from window to window, and what its turn finds. Cited by the judge and the writer of excesses. Assumes nothing.
use mathlib.Core.Path.{◌≡◌, refl, sym, ◌∙◌}
use mathlib.Core.Bool.{Bool, true, false, ◌||◌}
use mathlib.Core.List.{List}
use Prim.Native.Nat.{ℕ, ◌+◌, ◌*◌, ◌<◌, ◌≤◌}
use native.Mathlib.Nat.{mul-le-mul}
use native.Mathlib.Numerals.{add-one}
use native.Mathlib.Omega.{arith}
use lib.IntN.{ℤ}
use lib.ListN.{length, get_or}
use Rattle.lists.specs.Tab.{any}
use Rattle.lists.proofs.AnyLaws.{any_none}
use Rattle.lists.proofs.BoolLaws.{never}
use Rattle.lists.proofs.TabLaws.{row_end}
use Rattle.windows.specs.Set.{excess}
use Rattle.windows.specs.Fit.{InSlots}
use Rattle.excesses.specs.Slots.{slot_from}

-- window i, whose slots begin at a
module _ (window slots : ℕ) (sizes : List ℕ) (r : InSlots window sizes slots) (a i : ℕ) (e : a ≡ i * window) (l : i < length sizes) where
  -- its weights in use end within the slots
  pub weights_end : a + get_or sizes i 0 ≤ slots
  weights_end = rw e (r.there i l)

  -- its slots end far below 2^64
  pub window_ends : a + window ≤ 268443648
  window_ends =
      let h : length sizes * window ≤ 8192 * 32769 = mul-le-mul r.many r.wide in
      omega (arith, row_end i (length sizes) window l)

-- one more of a row of tests
pub any_turn : (t : ℕ → Bool) (i : ℕ) {b r : Bool} → b ≡ any i t → r ≡ t i → b || r ≡ any (i + 1) t
any_turn t i eb er = rw (add-one, eb, er)

-- what a call said of a window, its slots beginning at a
pub excess_is : (ws : List ℤ) (p n a b : ℕ) {z : ℤ} → z ≡ excess p (slot_from ws a) n → a ≡ b → z ≡ excess p (slot_from ws b) n
excess_is ws p n a b ez ea = ez ∙ rw ea refl

-- one of a row of tests passes: so does the row
pub some_any : (t : ℕ → Bool) (n k : ℕ) → k < n → t k ≡ true → any n t ≡ true
some_any t n k l h = go (any n t) refl
  where
    go : (b : Bool) → any n t ≡ b → b ≡ true
    go true e = refl
    go false e = never (sym h ∙ any_none t n e k l)
