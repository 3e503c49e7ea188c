-- The turns of the walks over the windows and over the slots: where a window's slots end, the row that was written for it, a slot that is kept. Cited by the walks. Assumes nothing.
use mathlib.Core.Path.{◌≡◌, refl, sym, ap, ◌∙◌}
use mathlib.Core.List.{List, ◌∷◌}
use Prim.Native.Nat.{ℕ, zero, suc, ◌+◌, ◌*◌, ◌≤◌, ◌<◌}
use native.Mathlib.Omega.{arith}
use lib.IntN.{ℤ, pos}
use lib.ListN.{length, get_or, set, replicate}
use Rattle.std.proofs.lemmas.List.{set-get_or}
use Rattle.lists.specs.Tab.{tab}
use Rattle.lists.proofs.TabLaws.{row_end, Written, written_more, front_past}
use Rattle.excesses.specs.Slots.{slot_from}
use Rattle.offers.specs.Own.{offered_slot}
use Rattle.offer_windows.specs.Walks.{no_excess}

-- a row that was written for the excess x and so many slots, x being what the machine reads back for e
pub row_is : (limit : ℕ) (ws : List ℤ) (n a m w : ℕ) (e : ℤ) {row : List ℤ} {x : ℤ} → row ≡ tab 0 m (offered_slot limit x (slot_from ws a) n) → x ≡ e → m ≡ w → row ≡ tab 0 w (offered_slot limit e (slot_from ws a) n)
row_is limit ws n a m w e er ex em = er ∙ rw (ex, em) refl

-- the slots of window i end within those of all windows
pub ends_within : (window slots windows i : ℕ) → slots ≡ windows * window → i < windows → i * window + window ≤ slots
ends_within window slots windows i full l = rw full (row_end i windows window l)

-- a loop that fills from the front passes over a slot that holds what is asked
pub written_kept : {k : ℕ} {f : ℕ → ℤ} {old now : List ℤ} → Written k f old now → k < length old → get_or old k (pos 0) ≡ f k → Written (k + 1) f old now
written_kept {k} {f} {old} {now} w h e =
    let held : get_or now k (pos 0) ≡ f k = ap (λ (l : List ℤ). get_or l k (pos 0)) w.is ∙ front_past k f old k (pos 0) (omega arith) ∙ e in
    let same : set now k (f k) ≡ now = ap (set now k) (sym held) ∙ set-get_or now k (pos 0) in
    rw same at (written_more w h refl)

-- as many zeros
pub no_excesses : (i n : ℕ) → replicate n (pos 0) ≡ tab i n no_excess
no_excesses i zero = refl
no_excesses i (suc n) = ap (λ (l : List ℤ). pos 0 ∷ l) (no_excesses (suc i) n)
