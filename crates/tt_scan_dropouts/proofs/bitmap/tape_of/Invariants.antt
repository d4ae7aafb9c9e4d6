use Rattle.std.proofs.Common.{◌≡◌, take}
use Rattle.tt_scan_dropouts.specs.Windows.{frame_of}
use Rattle.tt_scan_dropouts.proofs.bitmap.tape_of.Given as goal

-- the edges so far are on the tape
abbrev pub invariant-loop-edge : goal.invariant-loop-edge
invariant-loop-edge l =
    l.tape ≡ record { frame = frame_of l.fn.window; edges = take l.edge-index l.edges; crosses = 0 }
