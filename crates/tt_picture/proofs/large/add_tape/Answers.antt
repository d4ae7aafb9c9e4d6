use Rattle.std.proofs.Common.{◌≡◌, ◌∙◌, ◌+◌, ◌^◌, ◌<◌, ◌≤◌, nat_lt, length, pos, SFits, w64, rules, arith, ap}
use Rattle.std.proofs.lemmas.Int.{to_z-of_z}
use Rattle.tt_core.specs.Bits.{bit}
use Rattle.tt_scan.specs.Tape.{Tape}
use Rattle.tt_scan_edges.specs.Winding.{row_y, rows_met}
use Rattle.tt_picture.proofs.Pens.{met_few, none_from, painted_from}
use Rattle.tt_picture.proofs.large.add_tape.Goals as goal

pub returns-then-not-meets-clause-bits : goal.returns-then-not-meets-clause-bits
returns-then-not-meets-clause-bits c =
    let t = c.args.tape.now in
    let frame = c.requires.tape.frame in
    let white = rw frame at (c.meets.ensures c.if-not-meets.true) in
    λ k. none_from c.args.frame t.edges c.args.pens.now k c.args.r (bit c.args.row.now k) (nat_lt k c.args.frame.width)
    white

-- the row crosses no edge
pub returns-then-not-meets-clause-tape : goal.returns-then-not-meets-clause-tape
returns-then-not-meets-clause-tape c =
    let fits = c.requires.tape in
    record {
      frame = fits.frame;
      edges = fits.edges;
      crosses = omega (arith, fits.crosses);
    }

pub cut-requires-clause-count : goal.cut-requires-clause-count
cut-requires-clause-count c =
    let fits = c.requires.tape in
    omega (arith, fits.crosses, fits.edges, c.requires.row.within, c.requires.row.height)

pub returns-clause-bits : goal.returns-clause-bits
returns-clause-bits c =
    let t = c.args.tape.now in
    let row : SFits w64 c.from.result = search rules in
    let frame = c.requires.tape.frame in
    let wide : c.args.frame.width < 2 ^ 63 = search rules in
    let cut = simp to_z-of_z at c.cut.ensures.black in
    let black = rw (frame, c.from.ensures) at cut in
    λ k. c.paint_all.ensures.bits k ∙ (painted_from c.args.frame t.edges
    c.cut.new.self.spans c.args.pens.now k c.args.r c.args.frame.width (bit c.args.row.now k) wide black)

pub returns-clause-edges : goal.returns-clause-edges
returns-clause-edges c = ap (λ (t : Tape). t.edges) c.cut.ensures.tape

pub returns-clause-tape : goal.returns-clause-tape
returns-clause-tape c =
    let t = c.args.tape.now in
    let fits = c.requires.tape in
    let row : SFits w64 c.from.result = search rules in
    let crosses : c.cut.new.tape.crosses ≡ t.crosses + rows_met t.edges (row_y c.args.frame (pos c.args.r)) =
    rw (fits.frame, c.from.ensures) at (simp to_z-of_z at c.cut.ensures.crosses) in
    let edges : c.cut.new.tape.edges ≡ t.edges = ap (λ (t : Tape). t.edges) c.cut.ensures.tape in
    let many : length t.edges ≤ 2 ^ 19 = fits.edges in
    let met = met_few t.edges (row_y c.args.frame (pos c.args.r)) in
    record {
      frame = ap (λ (t : Tape). t.frame) c.cut.ensures.tape ∙ fits.frame;
      edges = rw edges many;
      crosses = omega (arith, crosses, fits.crosses, many, met);
    }
