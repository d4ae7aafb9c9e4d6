use Rattle.std.proofs.Common.{◌≡◌, ◌∙◌, ◌<ℤ◌, ◌-ℤ◌, ◌^◌, nat_lt, length, replicate, ap, pos, ℤ, SFits, w32, w64, rules, arith}
use Rattle.std.proofs.lemmas.Int.{ints, to_z-of_z}
use Rattle.std.proofs.lemmas.List.{length-replicate}
use Rattle.tt_core.specs.Bits.{bit, stride}
use Rattle.tt_picture.proofs.Blackened.{both_shown}
use Rattle.tt_picture.proofs.RowBytes.{bit-replicate_zero}
use Rattle.tt_scan.specs.Tape.{Tape}
use Rattle.tt_scan_dropouts.specs.Pictures.{is_among}
use Rattle.tt_scan_dropouts.proofs.Inked.{met_few}
use Rattle.tt_scan_edges.specs.Marks.{covers}
use Rattle.tt_scan_edges.specs.Winding.{column_x, is_black, row_y}
use Rattle.tt_scan_gaps.specs.Crossings.{centre}
use Rattle.tt_glyphs.specs.Drawn.{LargeFits, column_of, frame_of, large_pixel, line_of}
use Rattle.tt_glyphs.specs.Large.{LargeRows}
use Rattle.tt_glyphs.proofs.BitmapRows.{edges_shown, row_is}
use Rattle.tt_glyphs.proofs.large.LargeRows.write_row.Goals as goal

pub returns-clause-row : goal.returns-clause-row
returns-clause-row c =
    let i = c.self.inside in
    let p = i.place in
    let es = i.tape.edges in
    let ds = i.dropouts.items in
    let r = c.args.r in
    let b : LargeRows = record { place = p; frame = i.tape.frame; edges = es; crosses = i.tape.crosses; dropouts = ds } in
    let fits : LargeFits b = rw (← c.self.view_is) at c.requires.fits in
    let long : length c.args.row.now ≡ stride p.width = rw (← c.self.view_is) at c.requires.len in
    let white : c.fill.new.self ≡ replicate (length c.args.row.now) 0 = search rules in
    let row : SFits w64 c.from.result = search rules in
    let cut : (k : ℤ) → k <ℤ pos (2 ^ 63) → covers c.cut.new.self.spans k ≡ is_black es (column_x 0 k) (row_y (frame_of p) (pos r)) =
    rw (fits.frame, c.from.ensures) at (simp to_z-of_z at c.cut.ensures.black) in
    let near : SFits w32 p.left = omega (arith, ints, fits.place.left) in
    let left_is : c.from-2.result ≡ p.left = simp to_z-of_z at c.from-2.ensures in
    let left : SFits w64 c.from-2.result = search rules in
    let shift : SFits w64 (pos 0 -ℤ c.from-2.result) = omega (arith, ints, fits.place.left, left_is) in
    let painted = rw left_is at (simp to_z-of_z at c.paint.ensures.bits) in
    let dropped = rw c.deref.ensures.value at c.blacken_dropouts.ensures.bits in
    let bytes : length c.blacken_dropouts.new.row ≡ stride p.width =
    c.blacken_dropouts.ensures.len ∙ c.paint.ensures.len ∙ ap length white ∙ length-replicate (length c.args.row.now) 0 ∙ long in
    rw (← c.self.view_is) (row_is p (large_pixel b) r c.blacken_dropouts.new.row bytes (λ k within. (c.type_inv.row k).fits)
    (λ k. both_shown (nat_lt k p.width) (is_black es (centre (column_of p k)) (centre (line_of p r))) (is_among ds k r)
    (bit c.paint.new.row k) (bit c.blacken_dropouts.new.row k)
    (painted k ∙ rw (white, bit-replicate_zero (length c.args.row.now) k) (edges_shown p es c.cut.new.self.spans r k fits.place.left fits.place.width cut))
    (dropped k)))

pub returns-clause-fits : goal.returns-clause-fits
returns-clause-fits c =
    let i = c.self.inside in
    let b : LargeRows = record { place = i.place; frame = i.tape.frame; edges = i.tape.edges; crosses = i.tape.crosses; dropouts = i.dropouts.items } in
    let fits : LargeFits b = rw (← c.self.view_is) at c.requires.fits in
    record {
      place = fits.place;
      frame = ap (λ (t : Tape). t.frame) c.cut.ensures.tape ∙ fits.frame;
      few = rw c.cut.ensures.tape fits.few;
      dropouts = fits.dropouts;
    }

pub returns-clause-crosses : goal.returns-clause-crosses
returns-clause-crosses c =
    let i = c.self.inside in
    let row : SFits w64 c.from.result = search rules in
    let crosses = simp to_z-of_z at c.cut.ensures.crosses in
    rw (← c.self.view_is) (omega (arith, crosses, met_few i.tape.edges (row_y i.tape.frame c.from.result)))
