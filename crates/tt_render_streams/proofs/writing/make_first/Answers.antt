use Rattle.std.proofs.Common.{◌≡◌, ◌∙◌, ◌+◌, ◌≤◌, length, take, ap, refl, sym, arith}
use Rattle.tt_core.specs.Bits.{stride}
use Rattle.tt_pbm.specs.P4.{p4_header_of}
use Rattle.tt_picture.specs.Pictures.{band_rows, rows_at}
use Rattle.tt_render_streams.proofs.Pieces.{first_piece, rows_long}
use Rattle.tt_render_streams.proofs.writing.make_first.Goals as goal

pub returns-clause-bytes : goal.returns-clause-bytes
returns-clause-bytes c =
    let p = c.args.picture.now in
    let h = c.p4_header-header.result in
    let first = p4_header_of p.frame.width p.frame.height in
    let n = stride p.frame.width in
    let rows = band_rows p.frame in
    let header : take h.len h.bytes ≡ first = rw (c.width.ensures.exact, c.height.ensures.exact) at c.p4_header-header.ensures.exact in
    let len : length first ≡ h.len = rw (c.width.ensures.exact, c.height.ensures.exact) at c.p4_header-header.ensures.len in
    let head : c.copy_from_slice.new.self ≡ first = c.copy_from_slice.ensures.after ∙ header in
    let band : c.next_rows.new.band ≡ rows_at p 0 rows = rw (c.band_rows-rows.ensures.exact, c.requires.ready.made) at c.next_rows.ensures.rows in
    let least : rows ≤ p.frame.height = rw c.band_rows-rows.ensures.exact at c.band_rows-rows.ensures.within in
    let within : 0 + rows ≤ p.frame.height = omega (arith, least) in
    let size : length c.next_rows.new.band ≡ c.band_bytes.result =
    ap length band ∙ rows_long n 0 rows p.frame.height p.rows within c.requires.ready.rows ∙ sym c.band_bytes.ensures.exact in
    first_piece h.len (h.len + c.band_bytes.result) c.args.piece.now c.copy_from_slice.new.self c.next_rows.new.band
    (ap length head ∙ len) (ap (λ k. h.len + k) size)
    ∙ rw (head, band) refl

pub next_rows-requires-clause-within : goal.next_rows-requires-clause-within
next_rows-requires-clause-within c =
    let p = c.args.picture.now in
    omega (arith, c.requires.ready.made, c.band_rows-rows.ensures.within)

pub returns-clause-same : goal.returns-clause-same
returns-clause-same c =
    let p = c.args.picture.now in
    let made : p.made + c.band_rows-rows.result ≡ band_rows p.frame = omega (arith, c.requires.ready.made, c.band_rows-rows.ensures.exact) in
    c.next_rows.ensures.same ∙ ap (λ k. record p { made = k }) made
