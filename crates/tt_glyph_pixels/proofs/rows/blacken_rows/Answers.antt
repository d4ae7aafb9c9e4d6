use Rattle.std.proofs.Common.{◌≡◌, ◌∙◌, ◌+◌, ◌&&◌, ◌||◌, ap, ap₂, length, pos, ◌-ℤ◌, refl, SFits, w64, rules, arith}
use Rattle.std.specs.Ordering.{int_eq}
use Rattle.std.proofs.lemmas.Int.{ints, to_z-of_z}
use Rattle.tt_bitmap.specs.Bitmaps.{is_black}
use Rattle.tt_scan.specs.Tape.{Tape}
use Rattle.tt_scan_dropouts.proofs.Inked.{count_fits, met_few}
use Rattle.tt_scan_dropouts.specs.Windows.{frame_of, row_from_top}
use Rattle.tt_scan_edges.specs.Marks.{covers}
use Rattle.tt_scan_edges.specs.Winding as winding
use Rattle.tt_scan_edges.specs.Winding.{row_y, rows_met}
use Rattle.tt_scan_edges.specs.declared.edge.Frame.{Frame}
use Rattle.tt_scan_gaps.specs.Crossings.{centre}
use Rattle.tt_glyph_pixels.proofs.Lines.{all_lines, no_line, one_line_more, same_box, same_place}
use Rattle.tt_glyph_pixels.proofs.rows.blacken_rows.Goals as goal

pub loop-r-init : goal.loop-r-init
loop-r-init c = record {
  black = λ k j. no_line c.args.window k j (is_black c.args.bitmap.now k j) (winding.is_black c.args.tape.now.edges (centre k) (centre j));
  place = refl;
  tape = refl;
  crosses = rw c.requires.fresh (omega arith);
  room = refl;
}

pub cut-requires-clause-row_high : goal.cut-requires-clause-row_high
cut-requires-clause-row_high c =
    let so_far = c.loop-r.invariant in
    let frame : c.loop-r.tape.frame ≡ frame_of c.args.window = ap (λ (t : Tape). t.frame) so_far.tape ∙ c.requires.frame in
    let high = ap (λ (f : Frame). f.height) frame in
    omega (arith, ints, high, c.loop-r-test.true, c.from-row.ensures)

pub cut-requires-clause-count : goal.cut-requires-clause-count
cut-requires-clause-count c =
    let so_far = c.loop-r.invariant in
    let edges : c.loop-r.tape.edges ≡ c.args.tape.now.edges = ap (λ (t : Tape). t.edges) so_far.tape in
    rw edges (count_fits c.loop-r.r c.args.window.height (length c.args.tape.now.edges) c.loop-r.tape.crosses
    c.loop-r-test.true c.requires.window.high c.requires.few so_far.crosses)

pub cut-requires-clause-room : goal.cut-requires-clause-room
cut-requires-clause-room c =
    let so_far = c.loop-r.invariant in
    let edges : c.loop-r.tape.edges ≡ c.args.tape.now.edges = ap (λ (t : Tape). t.edges) so_far.tape in
    rw (edges, so_far.room) c.requires.room

pub loop-r-preserved : goal.loop-r-preserved
loop-r-preserved c =
    let w = c.args.window in
    let es = c.args.tape.now.edges in
    let r = c.loop-r.r in
    let so_far = c.loop-r.invariant in
    let old = c.args.bitmap.now in
    let mid = c.loop-r.bitmap in
    let edges : c.loop-r.tape.edges ≡ es = ap (λ (t : Tape). t.edges) so_far.tape in
    let frame : c.loop-r.tape.frame ≡ frame_of w = ap (λ (t : Tape). t.frame) so_far.tape ∙ c.requires.frame in
    let row : SFits w64 c.from-row.result = search rules in
    let bottom = c.requires.window.bottom in
    let high = c.requires.window.high in
    let line : SFits w64 (c.top_of-top.result -ℤ c.from-row.result) =
    omega (arith, ints, c.top_of-top.ensures, c.from-row.ensures, bottom, high, c.loop-r-test.true) in
    let top : SFits w64 c.top_of-top.result = search rules in
    let at : c.top_of-top.result -ℤ c.from-row.result ≡ row_from_top w r = rw (c.top_of-top.ensures, c.from-row.ensures) (omega (arith, ints)) in
    let cut = rw (c.from-row.ensures, frame, edges) at (simp to_z-of_z at c.cut.ensures.black) in
    let crosses : c.cut.new.tape.crosses ≡ c.loop-r.tape.crosses + rows_met es (row_y (frame_of w) (pos r)) =
    rw (c.from-row.ensures, frame, edges) at (simp to_z-of_z at c.cut.ensures.crosses) in
    let few = met_few es (row_y (frame_of w) (pos r)) in
    let before = so_far.crosses in
    let black = simp to_z-of_z at c.blacken_swept.ensures.black in
    record {
      black = λ k j. black k j
          ∙ ap₂ (λ a b. a || (b && (int_eq j (c.top_of-top.result -ℤ c.from-row.result) && covers c.cut.new.self.spans k)))
          (so_far.black k j) (same_box mid old mid.words k j so_far.place ∙ c.requires.has k j)
          ∙ one_line_more w es c.cut.new.self.spans r (c.top_of-top.result -ℤ c.from-row.result) k j (is_black old k j) c.requires.window at cut;
      place = same_place c.blacken_swept.new.bitmap mid old c.blacken_swept.ensures.place so_far.place;
      tape = c.cut.ensures.tape ∙ ap (λ (t : Tape). record t { crosses = c.cut.new.tape.crosses }) so_far.tape;
      crosses = omega (arith, crosses, few, before);
      room = c.cut.ensures.room ∙ so_far.room;
    }

pub returns-clause-black : goal.returns-clause-black
returns-clause-black c =
    let end : c.loop-r.r ≡ c.args.window.height = omega (arith, c.loop-r-test.false, c.loop-r.auto.r-end) in
    λ k j. c.loop-r.invariant.black k j
    ∙ all_lines c.args.window k j c.loop-r.r (is_black c.args.bitmap.now k j) (winding.is_black c.args.tape.now.edges (centre k) (centre j)) end

pub returns-clause-place : goal.returns-clause-place
returns-clause-place c = c.loop-r.invariant.place

pub returns-clause-tape : goal.returns-clause-tape
returns-clause-tape c = c.loop-r.invariant.tape
