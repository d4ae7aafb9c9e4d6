use Rattle.std.proofs.Common.{◌≡◌, ◌∙◌, ◌+◌, ◌-◌, ◌*◌, ◌<◌, length, take, drop, refl, sym, ap, arith, length-drop, length-take-le}
use Rattle.std.proofs.lemmas.List.{take_all}
use Rattle.tt_core.specs.Bits.{stride}
use Rattle.tt_glyphs.specs.Drawn.{large_pixel, large_row, large_rows}
use Rattle.tt_glyphs.specs.Large.{LargeRows}
use Rattle.tt_glyphs.proofs.BitmapRows.{crosses_fit, crosses_more, fits_with, len_kept, no_row_more, one_row_more, row_within}
use Rattle.tt_glyphs.proofs.large.LargeRows.write.Goals as goal

pub loop-r-init : goal.loop-r-init
loop-r-init c =
    let is = c.self.view_is in
    record {
      bytes = c.row_bytes-bytes.ensures.exact ∙ ap (λ (b : LargeRows). stride b.place.width) is;
      self = refl;
      crosses = omega (arith, c.requires.fresh);
      len = c.requires.len;
      rows = no_row_more c.args.self.now.place (large_pixel c.args.self.now) c.args.rows.now;
      room = refl;
    }

pub write_row-requires-clause-fits : goal.write_row-requires-clause-fits
write_row-requires-clause-fits c = rw c.loop-r.invariant.self (fits_with c.args.self.now c.loop-r.self.crosses c.requires.fits)

pub write_row-requires-clause-crosses : goal.write_row-requires-clause-crosses
write_row-requires-clause-crosses c =
    let so_far = c.loop-r.invariant in
    let b = c.args.self.now in
    let edges : length c.loop-r.self.edges ≡ length b.edges = ap (λ (b : LargeRows). length b.edges) so_far.self in
    let height : c.self.inside.place.height ≡ b.place.height = ap (λ (b : LargeRows). b.place.height) c.self.view_is in
    let below : c.loop-r.r < b.place.height = omega (arith, c.loop-r-test.true, height) in
    rw edges (crosses_fit c.loop-r.r b.place.height (length b.edges) c.loop-r.self.crosses below c.requires.fits.place.height
    c.requires.fits.few so_far.crosses)

pub write_row-requires-clause-room : goal.write_row-requires-clause-room
write_row-requires-clause-room c =
    let so_far = c.loop-r.invariant in
    let edges : length c.loop-r.self.edges ≡ length c.args.self.now.edges = ap (λ (b : LargeRows). length b.edges) so_far.self in
    rw (edges, so_far.room) c.requires.room

pub write_row-requires-clause-within : goal.write_row-requires-clause-within
write_row-requires-clause-within c =
    let so_far = c.loop-r.invariant in
    let height : c.self.inside.place.height ≡ c.args.self.now.place.height = ap (λ (b : LargeRows). b.place.height) c.self.view_is in
    let own : c.loop-r.self.place.height ≡ c.args.self.now.place.height = ap (λ (b : LargeRows). b.place.height) so_far.self in
    omega (arith, c.loop-r-test.true, height, own)

pub write_row-requires-clause-len : goal.write_row-requires-clause-len
write_row-requires-clause-len c =
    let so_far = c.loop-r.invariant in
    let b = c.args.self.now in
    let n = stride b.place.width in
    let r = c.loop-r.r in
    let height : c.self.inside.place.height ≡ b.place.height = ap (λ (b : LargeRows). b.place.height) c.self.view_is in
    let below : r < b.place.height = omega (arith, c.loop-r-test.true, height) in
    let ends = row_within b.place r below in
    let width : stride c.loop-r.self.place.width ≡ n = ap (λ (b : LargeRows). stride b.place.width) so_far.self in
    let part : n * r + n - n * r ≡ n = omega arith in
    let cut : length (take (n * r + n - n * r) (drop (n * r) c.loop-r.rows)) ≡ n * r + n - n * r =
    length-take-le (n * r + n - n * r) (drop (n * r) c.loop-r.rows) (omega (arith, length-drop (n * r) c.loop-r.rows, ends, so_far.len)) in
    rw (so_far.bytes, width) (cut ∙ part)

pub loop-r-preserved : goal.loop-r-preserved
loop-r-preserved c =
    let so_far = c.loop-r.invariant in
    let b = c.args.self.now in
    let n = stride b.place.width in
    let r = c.loop-r.r in
    let old = c.loop-r.rows in
    let row = c.write_row.new.row in
    let edges : length c.loop-r.self.edges ≡ length b.edges = ap (λ (b : LargeRows). length b.edges) so_far.self in
    let height : c.self.inside.place.height ≡ b.place.height = ap (λ (b : LargeRows). b.place.height) c.self.view_is in
    let below : r < b.place.height = omega (arith, c.loop-r-test.true, height) in
    let ends = row_within b.place r below in
    let part : n * r + n - n * r ≡ n = omega arith in
    let is : row ≡ large_row b r = c.write_row.ensures.row ∙ ap (λ (b : LargeRows). large_row b r) so_far.self in
    let more = rw edges at c.write_row.ensures.crosses in
    rw so_far.bytes (record {
      bytes = refl;
      self = c.write_row.ensures.same
          ∙ ap (λ (b : LargeRows). record b { crosses = c.write_row.new.self.crosses }) so_far.self;
      crosses = crosses_more r (length b.edges) c.loop-r.self.crosses c.write_row.new.self.crosses so_far.crosses more;
      len = len_kept b.place (large_pixel b) r (n * r + n - n * r) old row (omega (arith, ends, so_far.len)) part is ∙ so_far.len;
      rows = one_row_more b.place (large_pixel b) r (n * r + n - n * r) old row (omega (arith, ends, so_far.len)) so_far.rows is;
      room = c.write_row.ensures.room ∙ so_far.room;
    })

pub returns-clause-rows : goal.returns-clause-rows
returns-clause-rows c =
    let so_far = c.loop-r.invariant in
    let b = c.args.self.now in
    let n = stride b.place.width in
    let height : c.self.inside.place.height ≡ b.place.height = ap (λ (b : LargeRows). b.place.height) c.self.view_is in
    let end : c.loop-r.r ≡ b.place.height = omega (arith, c.loop-r-test.false, c.loop-r.auto.r-end, height) in
    let all : take (n * b.place.height) c.loop-r.rows ≡ large_rows b = rw end at so_far.rows in
    sym (take_all (n * b.place.height) c.loop-r.rows (omega (arith, so_far.len))) ∙ all
