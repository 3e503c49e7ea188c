-- From the judge's answer to what a loop over the windows needs at one of them, and from the values that it writes to the output. Cited by both passes.
-- Assumes nothing.
use mathlib.Core.Path.{◌≡◌, sym, ap, ◌∙◌}
use mathlib.Core.List.{List}
use Prim.Native.Nat.{ℕ, ◌+◌, ◌*◌, ◌/◌, ◌%◌, ◌^◌, ◌<◌, ◌≤◌}
use native.Mathlib.Nat.{mul-le-mul, mul-le-mul_right, add-mul, zero-add, mod-lt, div-lt_iff_lt-mul, div-add-mod'}
use native.Mathlib.Omega.{arith}
use lib.ListN.{length, get_or}
use lib.Seq.{ext_get_or}
use Rattle.lists.specs.Tab.{grid}
use Rattle.lists.proofs.TabLaws.{row_end, length_tab, get_d_tab}
use Rattle.windows.specs.Set.{Set}
use Rattle.windows.proofs.Fits.{fits_most}
use Rattle.vertical.specs.Frame.{output}
use Rattle.vertical.specs.Ready.{Ready}
use Rattle.vertical.proofs.Answers.{Shaped}
use Rattle.vertical.proofs.Columns.{some_column}

-- the judge's answer gives what the loop asks
pub ready : {W : Type 0} (s : Set W) (samples row first count room : ℕ) → Shaped s samples row first count room → Ready samples row first count s.layout.starts s.layout.sizes s.layout.window_size_value (length s.weights) room
ready s samples row first count room h = record {
  set = fits_most s.layout (length s.weights) h.set;
  narrow = h.narrow.most;
  fit = h.fit;
  lines = omega (arith, h.whole, mul-le-mul_right row h.set.few_lines);
  rooms = h.rooms;
  inside = λ i l. omega (arith, h.whole, mul-le-mul_right row (h.set.ends i l));
}

-- at one window: its weights, its row of the output and its lines of the frame are there, and no index passes a usize
pub record WindowThere (samples row first count : ℕ) (starts sizes : List ℕ) (window_size_value slots room i : ℕ) : Type 0 where
  pub weights : i * window_size_value + get_or sizes i 0 ≤ slots
  pub weights_few : slots < 2 ^ 30
  pub outputs : i * count + count ≤ room
  pub outputs_few : room < 2 ^ 30
  pub first_line : get_or starts i 0 * row ≤ 2 ^ 28
  pub columns : first + count ≤ 2 ^ 15
  pub few : get_or sizes i 0 ≤ 8192
  pub lines : (k : ℕ) → k < get_or sizes i 0 → get_or starts i 0 * row + first + k * row + count ≤ samples

module _ (samples row first count : ℕ) (starts sizes : List ℕ) (window_size_value slots room : ℕ)
    (r : Ready samples row first count starts sizes window_size_value slots room) (i : ℕ) (h : i < length starts) where
  all : get_or starts i 0 * row ≤ samples
  all = omega (arith, add-mul (get_or starts i 0) (get_or sizes i 0) row, r.inside i h)

  frame_lines : (k : ℕ) → k < get_or sizes i 0 → get_or starts i 0 * row + first + k * row + count ≤ samples
  frame_lines k g =
      omega (arith, add-mul (get_or starts i 0) (get_or sizes i 0) row, r.inside i h, row_end k (get_or sizes i 0) row g, r.fit)

  pub window_there : WindowThere samples row first count starts sizes window_size_value slots room i
  window_there = record {
    weights = omega (arith, row_end i (length starts) window_size_value h, r.set.full, r.set.small i h);
    weights_few = omega (arith, r.set.full, mul-le-mul r.set.few_windows r.set.few_slots);
    outputs = omega (arith, row_end i (length starts) count h, r.rooms);
    outputs_few = (let l : count ≤ 32768 = omega (arith, r.fit, r.narrow) in omega (arith, r.rooms, mul-le-mul r.set.few_windows l));
    first_line = omega (arith, all, r.lines, r.narrow);
    columns = omega (arith, r.fit, r.narrow);
    few = omega (arith, r.set.ends i h);
    lines = frame_lines;
  }

-- a list as long as the output, with each window's value at each column, is the output
pub output_is : {A : Type 0} (d : A) (at : ℕ → ℕ → A) (n first count : ℕ) (list : List A) → length list ≡ n * count → ((i : ℕ) → i < n → (j : ℕ) → j < count → get_or list (i * count + j) d ≡ at i (first + j)) → list ≡ output at n first count
output_is d at n first count list long each =
    ext_get_or d list (output at n first count) (long ∙ sym (length_tab 0 (n * count) (grid count (λ i j. at i (first + j)))))
    (λ x h.
    let k : x < n * count = omega (arith, long) in
    let some : 0 < count = some_column n count x k in
    ap (λ (y : ℕ). get_or list y d) (sym (div-add-mod' x count))
    ∙ each (x / count) ((div-lt_iff_lt-mul some).1 k) (x % count) (mod-lt x some)
    ∙ sym (get_d_tab 0 (n * count) (grid count (λ i j. at i (first + j))) x d k ∙ ap (grid count (λ i j. at i (first + j))) (zero-add x)))
