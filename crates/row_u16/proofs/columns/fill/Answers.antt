-- Each part of the row goes on from where the last one ended. Assumes nothing.
use mathlib.Core.Path.{◌≡◌, ap, ◌∙◌}
use Prim.Native.Nat.{ℕ}
use native.Mathlib.Omega.{arith}
use lib.ListN.{length}
use Rattle.lists.specs.Tab.{tab, front}
use Rattle.lists.proofs.TabLaws.{front_whole}
use Rattle.vertical.proofs.ColumnLaws.{done_again}
use Rattle.vertical.specs.Column.{row_value}
use Rattle.row_u16.proofs.columns.fill.Goals as goal

pub chunks-b-requires : goal.chunks-b-requires
chunks-b-requires c =
    let s = c.sixteens-a in
    let a = c.args in
    let long : length s.new.out ≡ length a.out.now = s.auto.out in
    record { wide = (omega arith, omega arith); le_p = c.requires.le_p; row_bound = c.requires.row_bound; ws_len_bound = c.requires.ws_len_bound; by_index = (λ k l. omega (arith, c.requires.by_index k l)); out_bound = omega (arith, c.requires.out_bound); from_in_bounds = omega (arith, s.ensures.upper_bound); out_value = done_again (row_value 65535 a.p a.ws.now a.src.now a.at0 a.row (length a.ws.now)) a.out.now s.result s.ensures.out_after }

pub chunks-requires : goal.chunks-requires
chunks-requires c =
    let f = c.chunks-b in
    let s = c.sixteens-a in
    let a = c.args in
    let before : length s.new.out ≡ length a.out.now = s.auto.out in
    let long : length f.new.out ≡ length a.out.now = f.auto.out ∙ before in
    record { wide = (omega arith, omega arith); le_p = c.requires.le_p; row_bound = c.requires.row_bound; ws_len_bound = c.requires.ws_len_bound; by_index = (λ k l. omega (arith, c.requires.by_index k l)); out_bound = omega (arith, c.requires.out_bound); from_in_bounds = omega (arith, f.ensures.upper_bound.0); out_value = done_again (row_value 65535 a.p a.ws.now a.src.now a.at0 a.row (length a.ws.now)) s.new.out f.result f.ensures.out_after }

pub returns : goal.returns
returns c =
    let f = c.chunks-b in
    let s = c.sixteens-a in
    let r = c.chunks in
    let a = c.args in
    let row = row_value 65535 a.p a.ws.now a.src.now a.at0 a.row (length a.ws.now) in
    let all : r.result ≡ length f.new.out = omega (arith, r.ensures.upper_bound) in
    record { written = r.ensures.out_after ∙ ap (λ (n : ℕ). front n row f.new.out) all ∙ front_whole row f.new.out ∙ ap (λ (n : ℕ). tab 0 n row) (f.auto.out ∙ s.auto.out) }
