-- `ends::put_end` meets its contract: five lines, one after the other; what is written is what the machine reads back of total, half and shifted value. Assumes nothing.
use mathlib.Core.Path.{◌≡◌, ap, ◌∙◌}
use Prim.Native.Nat.{◌-◌, ◌^◌}
use native.Mathlib.Omega.{arith}
use lib.IntN.{ℤ, pos}
use mir.Facts.{to_z-of_z}
use mir.Syntax.{w64}
use mir.Val.{to_z, of_z}
use borrow.Author.Rules.{rules}
use Rattle.integers.specs.Sums.{shifted, clipped}
use Rattle.text.specs.Text.{line_text}
use Rattle.text.proofs.TextLaws.{laid_none, laid_then}
use Rattle.vertical.proofs.ReadBack.{back64 as back}
use Rattle.row_u16.proofs.Sizes.{half_size}
use Rattle.signed_lines.specs.Lines.{number_text}
use Rattle.story_text.specs.Keys.{key_total, key_half, key_shifted, key_final}
use Rattle.story_text.specs.Text.{clip_text, end_text}
use Rattle.story_ends.proofs.ends.put_end.Goals as goal

pub shifted-v-requires : goal.shifted-v-requires
shifted-v-requires c =
    let small = half_size c.args.p c.requires.1 (back c.half-h.type_inv ∙ c.half-h.ensures.answer) in
    (omega (arith, c.requires.1), rw (to_z-of_z c.ranges.t) c.requires.2, omega (arith, small))

pub returns : goal.returns
unfolding end_text shifted
returns c =
    let a = c.args in
    let total = to_z-of_z c.ranges.t in
    let value : ℤ = shifted a.p a.t in
    let added = c.half-h in
    let half : to_z w64 (of_z w64 added.result) ≡ pos (2 ^ (a.p - 1)) = back added.type_inv ∙ added.ensures.answer in
    let moved = c.shifted-v in
    let shift : to_z w64 (of_z w64 moved.result) ≡ value = back moved.type_inv ∙ moved.ensures.answer ∙ rw (total, half) in
    let cut = c.clip16.ensures.answer ∙ ap (clipped 65535) shift in
    let l1 = laid_then (number_text key_total a.t) (laid_none a.at a.out.now (search rules) (search rules)) (c.put_signed_line-a.ensures.answer ∙ rw total) (c.put_signed_line-a.ensures.written ∙ rw total) in
    let l2 = laid_then (number_text key_half (pos (2 ^ (a.p - 1)))) l1 (c.put_signed_line-b.ensures.answer ∙ rw half) (c.put_signed_line-b.ensures.written ∙ rw half) in
    let l3 = laid_then (number_text key_shifted value) l2 (c.put_signed_line-c.ensures.answer ∙ rw shift) (c.put_signed_line-c.ensures.written ∙ rw shift) in
    let l4 = laid_then (clip_text value) l3 (c.put_clip-d.ensures.answer ∙ rw shift) (c.put_clip-d.ensures.written ∙ rw shift) in
    let l5 = laid_then (line_text key_final (clipped 65535 value)) l4 (c.put_line.ensures.answer ∙ rw cut) (c.put_line.ensures.written ∙ rw cut) in
    record { answer = l5.place; written = l5.is }
