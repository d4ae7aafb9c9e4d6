use Rattle.std.proofs.Common.{◌≡◌, ◌∙◌, refl, ◌<◌, [], length, take, SFits, w32, to_z, pos, ◌+ℤ◌, arith}
use Rattle.std.proofs.lemmas.Int.{ints, to_z-of_z}
use Rattle.std.proofs.lemmas.List.{take_all, take_more}
use Rattle.tt_scan_edges.specs.declared.edge.Edge.{Edge}
use Rattle.tt_scan_dropouts.specs.Windows.{frame_of}
use Rattle.tt_scan_dropouts.proofs.bitmap.tape_of.Goals as goal

pub new-tape-requires : goal.new-tape-requires
new-tape-requires c =
    let w = c.args.window in
    let bottom : SFits w32 w.bottom = omega (arith, ints, c.requires.window.bottom) in
    let high : to_z w32 w.height ≡ pos w.height = omega (arith, ints, c.requires.window.high) in
    let top : SFits w32 (w.bottom +ℤ pos w.height) = omega (arith, ints, c.requires.window.top) in
    rw high (simp to_z-of_z (record {
      width_low = omega arith;
      width_high = omega arith;
      height_low = c.requires.window.low;
      height_high = c.requires.window.high;
      margin = omega arith;
      rise = c.requires.window.top;
    }))

pub loop-edge-init : goal.loop-edge-init
loop-edge-init c =
    let w = c.args.window in
    let bottom : SFits w32 w.bottom = omega (arith, ints, c.requires.window.bottom) in
    let high : to_z w32 w.height ≡ pos w.height = omega (arith, ints, c.requires.window.high) in
    let top : SFits w32 (w.bottom +ℤ pos w.height) = omega (arith, ints, c.requires.window.top) in
    let new : c.new-tape.result ≡ record { frame = frame_of w; edges = []; crosses = 0 } =
    simp to_z-of_z at (rw high at c.new-tape.ensures) in
    c.reserve.ensures ∙ new

pub loop-edge-preserved : goal.loop-edge-preserved
loop-edge-preserved c =
    let i = c.loop-edge.edge-index in
    let es = c.args.edges.now in
    let none : Edge = record { ax = pos 0; ay = pos 0; bx = pos 0; by = pos 0 } in
    let below : i < length es = c.loop-edge-test.true in
    rw (c.in_ok-push.ensures.added, c.loop-edge.invariant, take_more es i none below) refl

pub returns : goal.returns
returns c =
    let all : take c.loop-edge.edge-index c.args.edges.now ≡ c.args.edges.now =
    take_all c.loop-edge.edge-index c.args.edges.now c.loop-edge-test.false in
    rw all at c.loop-edge.invariant
