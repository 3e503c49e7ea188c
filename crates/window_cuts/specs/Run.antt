-- A run of a set's windows as a set of its own: its part of starts, sizes, weights and excesses. Cited by the promises on cuts by windows. Definitions only. Assumes nothing.
use Rattle.std.specs.Prelude.{List, ℕ, ◌*◌, take, drop}
use Rattle.windows.specs.Set.{Stored, layout_of, set_of, stored_of}

-- n elements from a on
abbrev pub run : {A : Type 0} → ℕ → ℕ → List A → List A
run a n l = take n (drop a l)

-- the set of the n windows from a on: camera lines, slots of a window and precision are the whole set's
abbrev pub run_of : Stored → ℕ → ℕ → Stored
run_of s a n =
    let l = s.set.layout in
    stored_of (set_of (layout_of l.lines l.window_size_value (run a n l.starts) (run a n l.sizes)) (run (a * l.window_size_value) (n * l.window_size_value) s.set.weights))
    s.precision (run a n s.excesses)
