-- A piece that is there is found, so a scan of it answers `Ok`. Cited by `opened` and `weight`. Assumes nothing.
use mathlib.Core.Path.{refl}
use mathlib.Core.List.{List}
use Prim.Native.Nat.{ℕ}
use Rattle.std.specs.Prelude.{Result, Ok, Err, IsOk}
use Rattle.scan.specs.Form.{Form}
use Rattle.scan.specs.Answer.{Scans}
use Rattle.scan.proofs.FormLaws.{not_both}
use Rattle.sheet_scan.specs.declared.WindowAt.{WindowAt}
use Rattle.sheet_scan.specs.Answers.{ScansOpen}
use Rattle.sheet_scan.specs.Whole.{There}

pub sure : {A : Type 0} (F : Form A) {text : List ℕ} {at : ℕ} (r : Result (A × ℕ) ℕ) → There F text at → Scans F text at r → IsOk r
sure F (Ok found) t s = refl
sure F (Err stop) t s = absurd (not_both F t.2 s)

pub sure_open : (F : Form (ℕ × ℕ)) {text : List ℕ} {at : ℕ} (r : Result WindowAt ℕ) → There F text at → ScansOpen F text at r → IsOk r
sure_open F (Ok window) t s = refl
sure_open F (Err stop) t s = absurd (not_both F t.2 s)
