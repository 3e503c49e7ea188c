-- `normalize_in`: a refusal leaves both lists as they were; where the answer is `Ok p` the judge's tests (`ready`) are what the store and the writer of excesses ask.
-- Assumes nothing.
use Rattle.std.specs.Prelude.{Err}
use Rattle.std.proofs.Common.{rules}
use mathlib.Core.Path.{◌≡◌, sym, ap, refl, ◌∙◌}
use native.Mathlib.Omega.{arith}
use Prim.Native.Nat.{ℕ, ◌*◌}
use native.Mathlib.Nat.{lt_of_le_of_lt, le_of_eq, le_trans}
use lib.Ieee.{Float}
use lib.ListN.{length}
use Rattle.windows.specs.Set.{Set, layout_of, set_of}
use Rattle.windows.proofs.WeightLaws.{length_values}
use Rattle.normalizer.specs.Answer.{normalized_of}
use Rattle.normalizer.proofs.Judged.{precision_small, ready, refused_written, refused_excesses, done_written, excesses_asked, done_excesses}
use Rattle.normalizer.proofs.normalize_in.Goals as goal

pub judge-requires : goal.judge-requires
judge-requires g c =
    let laws = g.met.W.Weight in
    rw c.requires (record { fact_1 = laws.bits_some; fact_2 = laws.bits_small; fact_3 = le_trans laws.limit_small (omega arith) })

pub returns-in_err-p : goal.returns-in_err-p
returns-in_err-p g c =
    let store = g.W.Weight.STORE in
    let room = length_values g.met.W.Weight.each c.args.out.now in
    let set : Set Float = set_of (layout_of c.args.lines c.args.window_size c.args.starts.now c.args.sizes.now) c.args.weights.now in
    let judged : c.judge.result ≡ normalized_of store set (length c.args.out.now) (length c.args.excesses.now) = c.judge.ensures ∙ rw c.requires refl in
    let refused = sym judged ∙ c.in_err-p.was in
    let told : c.from_residual.result ≡ Err c.in_err-p.field-0.0 = search rules in
    let held = g.W.Weight.values c.args.out.now in
    record { answer = told ∙ sym refused; written = refused_written store set c.in_err-p.field-0.0 (length c.args.excesses.now) held (rw room refused); written2 = refused_excesses store set c.in_err-p.field-0.0 (length c.args.out.now) c.args.excesses.now refused }

pub write-requires : goal.write-requires
write-requires g c =
    let laws = g.met.W.Weight in
    let store = g.W.Weight.STORE in
    let set : Set Float = set_of (layout_of c.args.lines c.args.window_size c.args.starts.now c.args.sizes.now) c.args.weights.now in
    let judged : c.judge.result ≡ normalized_of store set (length c.args.out.now) (length c.args.excesses.now) = c.judge.ensures ∙ rw c.requires refl in
    let due = ready store set (length c.args.out.now) (length c.args.excesses.now) c.in_ok-p.p (sym judged ∙ c.in_ok-p.was) in
    let fits = due.fits in
    record {
      fact_1 = lt_of_le_of_lt (le_of_eq due.found) (precision_small store c.args.weights.now laws.bits_some laws.bits_small);
      fact_2 = fits.some_slot;
      fact_3 = fits.full ∙ ap (λ (n : ℕ). n * c.args.window_size) fits.pairs;
      fact_4 = le_trans (le_of_eq fits.full) due.enough;
      fact_5 = due.inside;
    }

pub write_excesses-requires : goal.write_excesses-requires
write_excesses-requires g c =
    let laws = g.met.W.Weight in
    let store = g.W.Weight.STORE in
    let room = length_values laws.each c.args.out.now in
    let slots = length_values laws.each c.write.new.out in
    let set : Set Float = set_of (layout_of c.args.lines c.args.window_size c.args.starts.now c.args.sizes.now) c.args.weights.now in
    let judged : c.judge.result ≡ normalized_of store set (length c.args.out.now) (length c.args.excesses.now) = c.judge.ensures ∙ rw c.requires refl in
    let all = excesses_asked store set c.in_ok-p.p (g.W.Weight.values c.args.out.now) c.args.excesses.now (rw room (sym judged ∙ c.in_ok-p.was)) _ c.write.ensures laws.bits_some laws.bits_small in
    record { p_bound = all.0; in_slots = rw slots at all.1 }

pub returns : goal.returns
returns g c =
    let store = g.W.Weight.STORE in
    let room = length_values g.met.W.Weight.each c.args.out.now in
    let set : Set Float = set_of (layout_of c.args.lines c.args.window_size c.args.starts.now c.args.sizes.now) c.args.weights.now in
    let judged : c.judge.result ≡ normalized_of store set (length c.args.out.now) (length c.args.excesses.now) = c.judge.ensures ∙ rw c.requires refl in
    let held = g.W.Weight.values c.args.out.now in
    let done : normalized_of store set (length held) (length c.args.excesses.now) ≡ _ = rw room (sym judged ∙ c.in_ok-p.was) in
    record {
      answer = sym c.in_ok-p.was ∙ judged;
      written = done_written store set _ _ _ _ done c.write.ensures;
      written2 = rw room at (done_excesses store set _ held c.args.excesses.now done _ c.write.ensures _ c.write_excesses.ensures.written);
    }
