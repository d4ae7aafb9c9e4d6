use Rattle.std.proofs.Common.{◌≡◌, ◌∙◌, ap, refl, ◌+◌, ◌<◌, length, ℤ, pos, ◌-ℤ◌, SFits, w64, rules, arith}
use Rattle.std.proofs.lemmas.Int.{ints, to_z-of_z}
use Rattle.tt_scan.specs.Tape.{Tape}
use Rattle.tt_scan_edges.specs.Winding.{FrameFits, row_y, rows_met}
use Rattle.tt_bitmap.specs.Inks.{IsInk}
use Rattle.tt_scan_ink.specs.Least.{covered, is_inked_by, shown}
use Rattle.tt_scan_ink.proofs.Counts.{met_few, one_row_more}
use Rattle.tt_scan_ink.proofs.Regions.{rows_more}
use Rattle.tt_scan_ink.proofs.Together.{joined_is}
use Rattle.tt_scan_ink.proofs.edges.rows_ink.Goals as goal

pub loop-r-preserved : goal.loop-r-preserved
loop-r-preserved c =
    let past : SFits w64 c.args.past = c.ranges.past in
    let so_far = c.loop-r.invariant in
    let r = c.loop-r.r in
    let es = c.args.tape.now.edges in
    let f = c.args.tape.now.frame in
    let columns = c.args.columns in
    let above : ℤ = (c.args.past -ℤ pos 1) -ℤ pos r in
    let fits : FrameFits f = rw c.frame-height.ensures.exact at c.frame-height.ensures.fits in
    let rise = fits.rise in
    let high = fits.height_high in
    let below : r < f.height = omega (arith, c.loop-r-test.true, so_far.height) in
    let row : SFits w64 c.from-row.result = search rules in
    let one : SFits w64 (c.args.past -ℤ pos 1) = omega (arith, ints, c.requires.past, rise) in
    let line : SFits w64 ((c.args.past -ℤ pos 1) -ℤ c.from-row.result) =
    omega (arith, ints, c.requires.past, rise, high, below, c.from-row.ensures) in
    let frame : c.loop-r.tape.frame ≡ f = ap (λ (t : Tape). t.frame) so_far.tape in
    let edges : c.loop-r.tape.edges ≡ es = ap (λ (t : Tape). t.edges) so_far.tape in
    let black = rw (c.from-row.ensures, frame, edges) at (simp to_z-of_z at c.cut.ensures.black) in
    let crosses : c.cut.new.tape.crosses ≡ c.loop-r.tape.crosses + rows_met es (row_y f (pos r)) =
    rw (c.from-row.ensures, frame, edges) at (simp to_z-of_z at c.cut.ensures.crosses) in
    let here : IsInk (covered columns above c.cut.new.self.spans) c.spans_ink.result =
    rw (c.spans.ensures.exact, c.from-row.ensures) at (simp to_z-of_z at c.spans_ink.ensures) in
    let before = simp to_z-of_z at so_far.ink in
    record {
      height = so_far.height;
      ink = simp to_z-of_z (rw c.joined-ink.ensures
          (joined_is (shown columns (c.args.past -ℤ pos r) r (is_inked_by es))
          (covered columns above c.cut.new.self.spans)
          (shown columns (c.args.past -ℤ pos (r + 1)) (r + 1) (is_inked_by es)) _ _
          (rows_more columns es f c.args.past r c.cut.new.self.spans c.requires.columns c.requires.margin
          c.requires.past black)
          before here));
      tape = c.cut.ensures.tape ∙ rw (frame, edges) refl;
      few = one_row_more r (length es) c.args.tape.now.crosses c.loop-r.tape.crosses (rows_met es (row_y f (pos r)))
          c.cut.new.tape.crosses so_far.few crosses (met_few es (row_y f (pos r)));
      room = c.cut.ensures.room ∙ so_far.room;
    }

pub returns-clause-exact : goal.returns-clause-exact
returns-clause-exact c =
    let past : SFits w64 c.args.past = c.ranges.past in
    let so_far = c.loop-r.invariant in
    let end : c.loop-r.r ≡ c.args.tape.now.frame.height =
    omega (arith, c.loop-r-test.false, c.loop-r.auto.r-end, so_far.height) in
    rw end at (simp to_z-of_z at so_far.ink)
