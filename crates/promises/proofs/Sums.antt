-- The proofs of `FramesWithinOne` and `FramesWithinOneU8`: a pass that did not refuse has every sample in use inside the lists, so the sum frame's are the two added, and the precision is
-- from 4 on. Assumes nothing.
use mathlib.Core.Path.{◌≡◌, refl}
use mathlib.Core.List.{List}
use Prim.Native.Nat.{ℕ, ◌+◌, ◌*◌, ◌≤◌, ◌<◌}
use lib.IntN.{pos, ◌+ℤ◌}
use lib.ListN.{length}
use Rattle.integers.proofs.Sums.{total_ext}
use Rattle.integers.specs.Sums.{distance}
use Rattle.windows.specs.Set.{Stored, windows, start, size, weight, sample}
use Rattle.vertical.proofs.Answers.{Shaped}
use Rattle.vertical.specs.Frame.{frame}
use Rattle.promises.specs.SumOfFrames.{Added, rounded_at, FramesWithinOne, FramesWithinOneU8}
use Rattle.promises.proofs.FlatFrame.{inside, fits, some_u16, fits_u8, some_u8}
use Rattle.promises.proofs.Frames.{sum_within_one}

module _ (s : Stored) (a b c : List ℕ) (row first count room : ℕ) (fits : Shaped s.set (length c) row first count room) (some : 1 ≤ s.precision) (added : Added a b c) where
  within_one : (i j : ℕ) → i < windows s.set.layout → j < count → distance (rounded_at s (frame 0 c row) i (first + j)) (rounded_at s (frame 0 a row) i (first + j) +ℤ rounded_at s (frame 0 b row) i (first + j)) ≤ 1
  within_one i j hi hj =
      let w = weight s.set (pos 0) i in
      let n = size s.set.layout i in
      let at : (k : ℕ) → k < n → sample s.set.layout (frame 0 c row) i (first + j) k ≡ sample s.set.layout (frame 0 a row) i (first + j) k + sample s.set.layout (frame 0 b row) i (first + j) k =
      λ k l. added.each ((start s.set.layout i + k) * row + (first + j)) (inside s (length c) row first count room fits i j k hi hj l) in
      rw (total_ext w w (sample s.set.layout (frame 0 c row) i (first + j)) (λ k. sample s.set.layout (frame 0 a row) i (first + j) k + sample s.set.layout (frame 0 b row) i (first + j) k) n (λ k l. refl) at)
      (sum_within_one w (sample s.set.layout (frame 0 a row) i (first + j)) (sample s.set.layout (frame 0 b row) i (first + j)) n s.precision some)

pub frames_within_one : FramesWithinOne
frames_within_one s a b c row first count room none added = within_one s a b c row first count room (fits s (length c) row first count room none) (some_u16 s (length c) row first count room none) added

pub frames_within_one_u8 : FramesWithinOneU8
frames_within_one_u8 s a b c row first count room none added = within_one s a b c row first count room (fits_u8 s (length c) row first count room none) (some_u8 s (length c) row first count room none) added
