-- The sums are exact, so the samples made of them are the values. Assumes nothing.
use mathlib.Core.Path.{◌≡◌, sym, ◌∙◌}
use Prim.Native.Nat.{◌*◌}
use native.Mathlib.Omega.{arith}
use lib.ListN.{length, replicate, length-replicate, get_or-replicate}
use lib.Ieee.{nan}
use Rattle.floats.specs.Doubles.{half64}
use Rattle.vertical.specs.Column.{column_sum}
use Rattle.row_u16.proofs.Rounded.{number_as}
use Rattle.pixels_u16.specs.Places.{place_at}
use Rattle.pixels_u16.proofs.BlockLaws.{put_values}
use Rattle.pixels_u16.proofs.blocks.block.Goals as goal

pub whole_as_slice-sum_pixels : goal.whole_as_slice-sum_pixels
whole_as_slice-sum_pixels g c = omega (arith, c.requires.sums.1)

pub sum_pixels-requires : goal.sum_pixels-requires
sum_pixels-requires g c =
    let q = c.requires.sums in
    let all = length-replicate g.row.SUMS half64 in
    record { le_components = (q.2, q.3, c.requires.places.0); ws_len_bound = c.requires.ws_len_bound; by_index = (λ k h t l. c.requires.by_index k h t (rw (all, q.0) at l)); by_index_2 = λ t l. get_or-replicate g.row.SUMS t half64 nan (rw all at l) }

pub round_all-requires : goal.round_all-requires
round_all-requires g c =
    let sums = c.sum_pixels in
    let a = c.args in
    let long = sums.auto.ss in
    record { by_index = (λ t h. number_as a.p (column_sum a.ws.now a.src.now (place_at a.at g.row.COMPONENTS a.row t) g.row.COMPONENTS (length a.ws.now)) c.requires.le_p.0 c.requires.le_p.1 (sums.ensures.by_index_4 t (rw long at h)) (sums.ensures.by_index_3 t (rw long at h)) c.scaled-top.ensures.answer c.scaled-big.ensures.answer); samples_len = length-replicate g.row.SUMS 0 ∙ sym (long ∙ length-replicate g.row.SUMS half64) }

pub put_pixels-requires : goal.put_pixels-requires
put_pixels-requires g c =
    let made = c.round_all in
    let q = c.requires.sums in
    let p = c.requires.places in
    record { le_components = (q.2, p.1, p.2, q.4); samples_len = made.auto.samples ∙ length-replicate g.row.SUMS 0 ∙ q.0; by_index = c.requires.by_index_2 }

pub returns : goal.returns
returns g c =
    let put = c.put_pixels in
    let made = c.round_all in
    let sums = c.sum_pixels in
    let a = c.args in
    let full : length (replicate g.row.SUMS half64) ≡ a.n * g.row.COMPONENTS = length-replicate g.row.SUMS half64 ∙ c.requires.sums.0 in
    put_values a.p a.ws.now a.src.now a.at g.row.COMPONENTS a.row sums.new.ss (a.n * g.row.COMPONENTS) (length sums.new.ss) (sums.auto.ss ∙ full) c.requires.le_p.0 c.requires.le_p.1 (λ t l. sums.ensures.by_index_3 t (rw full l)) (λ t l. sums.ensures.by_index_4 t (rw full l)) c.scaled-top.ensures.answer c.scaled-big.ensures.answer made.ensures put.ensures
