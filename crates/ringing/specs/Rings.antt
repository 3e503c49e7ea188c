-- "The first premise is needed."
-- The set of `./mirror sheet catmullrom 6 0 6 4`, with either store: window 0 has negative weights and the excess 0. The frame `flat` is nowhere darker than `dark`, and comes out darker there; the frame
-- `spot`, flat but for a line, comes out darker than its darkest sample. So without the first premise neither statement of `NoRinging` holds. Statements only. Assumes nothing.
use Rattle.std.specs.Prelude.{◌≡◌, true, List, [], ◌∷◌, ℕ, ℤ, pos, negsuc, Result, Ok, ⊤}
use Rattle.lists.specs.Tab.{tab}
use Rattle.floats.specs.Doubles.{zero64, one64, double}
use Rattle.orders.specs.Negative.{some_negative_value}
use Rattle.filters.specs.declared.FilterType.TheVariants.{CatmullRom}
use Rattle.windows.specs.declared.Store.{Store}
use Rattle.windows.specs.Set.{Stored, stored_of, set_of, layout_of, size, weight, excess_of}
use Rattle.windows.specs.Store.{store16, store32}
use Rattle.plans.specs.declared.Axis.TheVariants.{Down}
use Rattle.plans.specs.declared.Request.{Request}
use Rattle.normalizer.specs.Left.{left_set}
use Rattle.refusal.specs.declared.Refusal.{Refusal}
use Rattle.vertical.specs.U16.{passed_u16, written_u16}
use Rattle.vertical_u8.specs.U8.{passed_u8, written_u8}
use Rattle.promises.specs.BoxKeepsFlat.{fresh}
use Rattle.ringing.specs.NoRinging.{NotDarkerOf, BetweenOf}

-- 6 camera lines to 4 display lines, adapting
abbrev pub asked : Request
asked = record {
  width = 1;
  height = 6;
  crop = record { left = zero64; top = zero64; width = one64; height = double 6 };
  axis = Down;
  output = 4;
  filter = CatmullRom;
  adapts = true;
}

-- n places that hold 0
abbrev zeros : {A : Type 0} → A → ℕ → List A
zeros x n = tab 0 n (λ k. x)

-- what the builder and the normaliser of a store leave of it in lists of just the places that they need
abbrev pub made_in : Store → Stored
made_in store = left_set store (fresh asked 6 (zeros zero64 28) (zeros 0 4) (zeros 0 4) (zeros (pos 0) 28) (zeros (pos 0) 4)) (zeros (pos 0) 28) (zeros (pos 0) 4)

-- its sheet, of a precision, windows' weights and excesses
abbrev sheet : ℕ → List ℤ → List ℤ → Stored
sheet precision weights excesses = stored_of (set_of (layout_of 6 7 (0 ∷ 0 ∷ 1 ∷ 2 ∷ []) (4 ∷ 5 ∷ 5 ∷ 4 ∷ [])) weights) precision excesses

abbrev pub sheet32 : Stored
sheet32 =
    sheet 31
    (pos 1407331517 ∷ pos 844398910 ∷ negsuc 86872315 ∷ negsuc 17374462 ∷ pos 0 ∷ pos 0 ∷ pos 0
    ∷ negsuc 82216065 ∷ pos 799140163 ∷ pos 1331900272 ∷ pos 187452631 ∷ negsuc 88793350 ∷ pos 0 ∷ pos 0
    ∷ negsuc 88793350 ∷ pos 187452631 ∷ pos 1331900272 ∷ pos 799140163 ∷ negsuc 82216065 ∷ pos 0 ∷ pos 0
    ∷ negsuc 17374462 ∷ negsuc 86872315 ∷ pos 844398910 ∷ pos 1407331517 ∷ pos 0 ∷ pos 0 ∷ pos 0 ∷ [])
    (pos 0 ∷ pos 1 ∷ pos 1 ∷ pos 0 ∷ [])

abbrev pub sheet16 : Stored
sheet16 =
    sheet 15
    (pos 21474 ∷ pos 12885 ∷ negsuc 1325 ∷ negsuc 264 ∷ pos 0 ∷ pos 0 ∷ pos 0
    ∷ negsuc 1254 ∷ pos 12194 ∷ pos 20323 ∷ pos 2860 ∷ negsuc 1354 ∷ pos 0 ∷ pos 0
    ∷ negsuc 1354 ∷ pos 2860 ∷ pos 20323 ∷ pos 12194 ∷ negsuc 1254 ∷ pos 0 ∷ pos 0
    ∷ negsuc 264 ∷ negsuc 1325 ∷ pos 12885 ∷ pos 21474 ∷ pos 0 ∷ pos 0 ∷ pos 0 ∷ [])
    (pos 0 ∷ negsuc 0 ∷ negsuc 0 ∷ pos 0 ∷ [])

-- frames of 6 lines and one column
abbrev pub dark : List ℕ
dark = 100 ∷ 100 ∷ 0 ∷ 0 ∷ 0 ∷ 0 ∷ []

abbrev pub flat : List ℕ
flat = 100 ∷ 100 ∷ 100 ∷ 100 ∷ 100 ∷ 100 ∷ []

abbrev pub spot : List ℕ
spot = 100 ∷ 100 ∷ 200 ∷ 100 ∷ 100 ∷ 100 ∷ []

-- of a store's set s and a pass over integers
module _ (store : Store) (s : Stored) (passed : Stored → ℕ → ℕ → ℕ → ℕ → ℕ → Result ⊤ Refusal) (written : Stored → List ℕ → ℕ → ℕ → ℕ → List ℕ → List ℕ) where
  -- the four display lines of a frame
  abbrev shown : List ℕ → List ℕ
  shown frame = written s frame 1 0 1 (zeros 0 4)

  -- s is what was made; window 0 has a negative weight, and its excess is 0; the pass takes s; and what it writes
  abbrev pub RingsIn : Type 0
  RingsIn =
      (made_in store ≡ s) × (some_negative_value (weight s.set (pos 0) 0) (size s.set.layout 0) ≡ true) × (excess_of s 0 ≡ pos 0) × (passed s 6 1 0 1 4 ≡ Ok tt)
      × (shown dark ≡ 105 ∷ 33 ∷ 0 ∷ 0 ∷ [])
      × (shown flat ≡ 100 ∷ 100 ∷ 100 ∷ 100 ∷ [])
      × (shown spot ≡ 96 ∷ 162 ∷ 109 ∷ 99 ∷ [])

abbrev pub Rings : Type 0
Rings = RingsIn store32 sheet32 passed_u16 written_u16

abbrev pub RingsU8 : Type 0
RingsU8 = RingsIn store16 sheet16 passed_u8 written_u8

-- both statements of a pass, with nothing in the place of the first premise, are false
abbrev pub Needed : (Stored → ℕ → ℕ → ℕ → ℕ → ℕ → Result ⊤ Refusal) → (Stored → List ℕ → ℕ → ℕ → ℕ → List ℕ → List ℕ) → ℕ → Type 0
Needed passed written M = (NotDarkerOf (λ s i. Unit) passed written → ⊥) × (BetweenOf (λ s i. Unit) passed written M → ⊥)

abbrev pub FirstPremiseNeeded : Type 0
FirstPremiseNeeded = Needed passed_u16 written_u16 65535

abbrev pub FirstPremiseNeededU8 : Type 0
FirstPremiseNeededU8 = Needed passed_u8 written_u8 255
