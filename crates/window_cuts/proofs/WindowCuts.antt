-- The proofs of `WindowsCut` and `WindowsCutSideways`: a window of the run has the start, the size and the weights that it has in the whole set. Assumes nothing.
use Rattle.std.specs.Prelude.{Ok}
use mathlib.Core.Path.{◌≡◌, refl, sym, ap, ◌∙◌}
use Prim.Native.Nat.{ℕ, ◌+◌, ◌*◌, ◌/◌, ◌%◌, ◌≤◌, ◌<◌}
use native.Mathlib.Nat.{add-mul, mul-le-mul_right, mod-lt, div-lt_iff_lt-mul, div-add-mod', mul_left_comm}
use native.Mathlib.Omega.{arith}
use lib.ListN.{length, get_or}
use Rattle.lists.specs.Tab.{grid}
use Rattle.windows.specs.Set.{Stored, windows, size}
use Rattle.windows.specs.Store.{store32}
use Rattle.vertical.specs.Frame.{frame, output, columns}
use Rattle.vertical.specs.Passed.{number_of}
use Rattle.vertical.specs.U16.{value_at, passed_u16, written_u16}
use Rattle.vertical.proofs.Answers.{Tests, tests_u16, tests_shaped}
use Rattle.promises.proofs.Accepted.{passed_done}
use Rattle.sideways.specs.Exchange.{turned, side_output, rows_of}
use Rattle.sideways.specs.Sideways.{passed_sideways, written_sideways}
use Rattle.sideways.proofs.Answers.{pixels_fit, done_sideways, answer_of}
use Rattle.sideways.proofs.ExchangeLaws.{side_place}
use Rattle.sideways.proofs.FrameLaws.{tab_cut, frame_ext, frame_shift}
use Rattle.window_cuts.specs.Run.{run_of}
use Rattle.window_cuts.specs.WindowCuts.{WindowsCut, WindowsCutSideways}
use Rattle.window_cuts.proofs.RunLaws.{windows_run, value_run, tests_run}

-- none of the tests refuses
pub done_u16 : (s : Stored) (samples row first count room : ℕ) → Tests store32 s samples row first count room → passed_u16 s samples row first count room ≡ Ok tt
unfolding passed_u16
done_u16 s samples row first count room t = rw (t.size, t.stored, t.area)

-- the outputs, of any integer pass
module _ (M : ℕ) (s : Stored) (f : ℕ → ℕ → ℕ) (a n : ℕ) (fit : a + n ≤ windows s.set.layout) (small : (i : ℕ) → i < windows s.set.layout → size s.set.layout i ≤ s.set.layout.window_size_value) where
  abbrev part : ℕ → ℕ → ℕ
  part = value_at M (run_of s a n) f

  abbrev all : ℕ → ℕ → ℕ
  all = value_at M s f

  same : (i j : ℕ) → i < n → part i j ≡ all (a + i) j
  same i j h = value_run s a n M f i j h (small (a + i) (omega arith))

  pub output_run : (first count : ℕ) → output part n first count ≡ rows_of count a n (output all (windows s.set.layout) first count)
  output_run first count =
      let cell : ℕ → ℕ → ℕ = λ i j. all i (first + j) in
      let l : a * count + n * count ≤ windows s.set.layout * count = omega (arith, add-mul a n count, mul-le-mul_right count fit) in
      sym (tab_cut (a * count) (n * count) (windows s.set.layout * count) (grid count cell) l
      ∙ frame_shift (a * count) (n * count) count a n refl refl cell
      ∙ frame_ext n count (λ i j. cell (a + i) j) (λ i j. part i (first + j)) (λ i j hi hj. sym (same i (first + j) hi)))

  pub side_run : (components : ℕ) → 0 < components → (first count : ℕ)
      → side_output part components n first count ≡ columns 0 (windows s.set.layout * components) count (a * components) (n * components) (side_output all components (windows s.set.layout) first count)
  side_run components some first count =
      let wide = windows s.set.layout * components in
      let out = side_output all components (windows s.set.layout) first count in
      frame_ext count (n * components) (λ y. grid components (λ i k. part i ((first + y) * components + k))) (λ y z. get_or out (y * wide + (a * components + z)) 0)
      (λ y z hy hz.
      let hi : z / components < n = (div-lt_iff_lt-mul some).1 hz in
      let e : (a + z / components) * components + z % components ≡ a * components + z = omega (arith, add-mul a (z / components) components, div-add-mod' z components) in
      same (z / components) ((first + y) * components + z % components) hi
      ∙ sym (side_place 0 components some all (windows s.set.layout) first count y (a + z / components) (z % components) hy (omega arith) (mod-lt z some))
      ∙ ap (λ (x : ℕ). get_or out (y * wide + x) 0) e)

pub windows_cut_u16 : WindowsCut
unfolding written_u16
windows_cut_u16 s src row first count whole zero a n list some fit rooms =
    let done = passed_done (passed_u16 s (length src) row first count (length whole)) zero in
    let t = tests_u16 s (length src) row first count (length whole) done in
    let f = (tests_shaped store32 s (length src) row first count (length whole) t).set in
    let run-done = done_u16 (run_of s a n) (length src) row first count (length list) (tests_run store32 s (length src) row first count (length whole) t a n (length list) some fit rooms) in
    (ap number_of run-done, rw (run-done, done, windows_run s a n f fit) (output_run 65535 s (frame 0 src row) a n fit f.small first count))

pub windows_cut_sideways : WindowsCutSideways
unfolding written_sideways
windows_cut_sideways s src components rows row first count whole zero a n list some fit rooms =
    let done = passed_done (passed_sideways s (length src) components rows row first count (length whole)) zero in
    let d = done_sideways s (length src) components rows row first count (length whole) done in
    let t = tests_u16 s (length src) (rows * components) (first * components) (count * components) (length whole) d.vertical in
    let f = (tests_shaped store32 s (length src) (rows * components) (first * components) (count * components) (length whole) t).set in
    let run-done =
    answer_of (run_of s a n) (length src) components rows row first count (length list) d.pixels
    ∙ done_u16 (run_of s a n) (length src) (rows * components) (first * components) (count * components) (length list)
    (tests_run store32 s (length src) (rows * components) (first * components) (count * components) (length whole) t a n (length list) some fit (rooms ∙ mul_left_comm count n components)) in
    let few : 0 < components = omega (arith, (pixels_fit components row d.pixels).few) in
    (ap number_of run-done, rw (run-done, done, windows_run s a n f fit) (side_run 65535 s (turned 0 src components row) a n fit f.small components few first count))
