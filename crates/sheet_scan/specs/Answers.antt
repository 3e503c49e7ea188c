-- What the scanner of a window's beginning answers. Cited by its contract. Definitions only. Assumes nothing.
use Rattle.std.specs.Prelude.{List, ℕ, Result, Ok, Err}
use Rattle.scan.specs.Form.{Form, Found, Stopped}
use Rattle.sheet_scan.specs.declared.WindowAt.{WindowAt}

abbrev pub ScansOpen : Form (ℕ × ℕ) → List ℕ → ℕ → Result WindowAt ℕ → Type 0
ScansOpen F text at (Ok window) = Found F text at (window.start, window.size) window.next
ScansOpen F text at (Err stop) = Stopped F text at stop
