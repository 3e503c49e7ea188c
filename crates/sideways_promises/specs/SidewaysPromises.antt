-- Demand 3 and "no ringing", of the sideways pass: the value is the vertical pass's on the exchanged frame, so what is proved at a window and column holds at a window, row and
-- component. Here of the frame as it lies: a window's samples are those of its own pixels, in one row, of one component. Statements only. Assumes nothing.
use Rattle.std.specs.Prelude.{◌≡◌, List, ℕ, ◌+◌, ◌*◌, ◌/◌, ◌≤◌, ◌<◌, ℤ, pos, ◌+ℤ◌, length}
use Rattle.lists.specs.Tab.{tab}
use Rattle.integers.specs.Sums.{rounded, clipped, distance}
use Rattle.windows.specs.Set.{Stored, windows, start, size, weight, excess_of}
use Rattle.vertical.specs.Frame.{frame}
use Rattle.vertical.specs.Passed.{number_of}
use Rattle.sideways.specs.Sideways.{passed_sideways, written_sideways}
use Rattle.promises.specs.SumOfFrames.{Added}
use Rattle.promises.specs.FlatFrames.{NearOne, Flat}
use Rattle.ringing.specs.NoRinging.{NoneNegative, smallest, largest, NowhereDarker, UpTo}

-- pixel x of window i, in row y of the frame, at component k; and the window's value there before the clip
module _ (s : Stored) (src : List ℕ) (components row y k i : ℕ) where
  abbrev pub along : ℕ → ℕ
  along x = frame 0 src row y ((start s.set.layout i + x) * components + k)

  abbrev pub rounded_along : ℤ
  rounded_along = rounded s.precision (weight s.set (pos 0) i) along (size s.set.layout i)

-- a call that is not refused, with a set over the pixels of a row
pub record Taken (s : Stored) (samples components rows row first count room : ℕ) : Type 0 where
  pub pixels : s.set.layout.lines ≡ row / components
  pub done : number_of (passed_sideways s samples components rows row first count room) ≡ 0

-- a place of the output: the y-th row of the range, window i, component k; and what stands there
pub record Place (s : Stored) (components count y k i : ℕ) : Type 0 where
  pub in_range : y < count
  pub a_window : i < windows s.set.layout
  pub a_component : k < components

abbrev pub placed : Stored → ℕ → List ℕ → ℕ → ℕ → ℕ → ℕ
placed s components out y k i = frame 0 out (windows s.set.layout * components) y (i * components + k)

-- the sum runs over the pixels of a row, component by component, with the vertical pass's rounding and clip
abbrev pub ValueAlong : Type 0
ValueAlong =
    (s : Stored) (src : List ℕ) (components rows row first count : ℕ) (old : List ℕ) → Taken s (length src) components rows row first count (length old)
    → (y k i : ℕ) → Place s components count y k i
    → placed s components (written_sideways s src components rows row first count old) y k i ≡ clipped 65535 (rounded_along s src components row (first + y) k i)

-- the frame c is a and b added
abbrev pub SumsSideways : Type 0
SumsSideways =
    (s : Stored) (a b c : List ℕ) (components rows row first count room : ℕ) → Taken s (length c) components rows row first count room → Added a b c
    → (y k i : ℕ) → Place s components count y k i
    → distance (rounded_along s c components row (first + y) k i) (rounded_along s a components row (first + y) k i +ℤ rounded_along s b components row (first + y) k i) ≤ 1

-- a flat frame: v wherever window i meets the premise, whatever the other windows do; and all of it, where every window does
module _ (s : Stored) (src : List ℕ) (components rows row first count : ℕ) (old : List ℕ) (v : ℕ) where
  abbrev FlatCall : Type 0 → Type 0
  FlatCall claim = Taken s (length src) components rows row first count (length old) → v ≤ 65535 → Flat v src → claim

  abbrev flat_out : List ℕ
  flat_out = written_sideways s src components rows row first count old

  abbrev pub FlatPlaceOf : Type 0
  FlatPlaceOf = FlatCall ((y k i : ℕ) → Place s components count y k i → NearOne s i → placed s components flat_out y k i ≡ v)

  abbrev pub FlatFrameOf : Type 0
  FlatFrameOf = FlatCall (((i : ℕ) → i < windows s.set.layout → NearOne s i) → flat_out ≡ tab 0 (count * (windows s.set.layout * components)) (λ z. v))

abbrev pub FlatSideways : Type 0
FlatSideways = (s : Stored) (src : List ℕ) (components rows row first count : ℕ) (old : List ℕ) (v : ℕ) → FlatPlaceOf s src components rows row first count old v

abbrev pub FlatFrameSideways : Type 0
FlatFrameSideways = (s : Stored) (src : List ℕ) (components rows row first count : ℕ) (old : List ℕ) (v : ℕ) → FlatFrameOf s src components rows row first count old v

-- two frames, b nowhere darker than a, through one set and the same rows: so is what is written for window i, and all of it where no window has a negative weight
module _ (s : Stored) (a b : List ℕ) (components rows row first count : ℕ) (old old₂ : List ℕ) where
  abbrev Lighter : Type 0 → Type 0
  Lighter claim =
      Taken s (length a) components rows row first count (length old) → Taken s (length b) components rows row first count (length old₂) → NowhereDarker a b → claim

  abbrev out_a : List ℕ
  out_a = written_sideways s a components rows row first count old

  abbrev out_b : List ℕ
  out_b = written_sideways s b components rows row first count old₂

  abbrev pub NotDarkerPlace : Type 0
  NotDarkerPlace = Lighter ((y k i : ℕ) → Place s components count y k i → NoneNegative s i → placed s components out_a y k i ≤ placed s components out_b y k i)

  abbrev pub NotDarkerFrame : Type 0
  NotDarkerFrame = Lighter (((i : ℕ) → i < windows s.set.layout → NoneNegative s i) → NowhereDarker out_a out_b)

abbrev pub NotDarkerSideways : Type 0
NotDarkerSideways = (s : Stored) (a b : List ℕ) (components rows row first count : ℕ) (old old₂ : List ℕ) → NotDarkerPlace s a b components rows row first count old old₂

abbrev pub FrameNotDarkerSideways : Type 0
FrameNotDarkerSideways = (s : Stored) (a b : List ℕ) (components rows row first count : ℕ) (old old₂ : List ℕ) → NotDarkerFrame s a b components rows row first count old old₂

-- with an excess of 0 besides: between the smallest and the largest of the window's own pixels, in its row and component
abbrev pub BetweenSideways : Type 0
BetweenSideways =
    (s : Stored) (src : List ℕ) (components rows row first count : ℕ) (old : List ℕ) → Taken s (length src) components rows row first count (length old) → UpTo 65535 src
    → (y k i : ℕ) → Place s components count y k i → NoneNegative s i → excess_of s i ≡ pos 0
    → let samples = along s src components row (first + y) k i in
    let out = placed s components (written_sideways s src components rows row first count old) y k i in
    (smallest samples (size s.set.layout i) ≤ out) × (out ≤ largest samples (size s.set.layout i))
