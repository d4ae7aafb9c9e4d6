use Rattle.std.proofs.Common.{◌+ℤ◌, pos, All}
use Rattle.tt_scan_edges.specs.Entries.{edge_of}
use Rattle.tt_scan_edges.specs.Walks.{IsWalk}
use Rattle.tt_scan_edges.specs.Winding.{EdgeFits}
use Rattle.tt_scan_edges.proofs.Followed.{walk_fits, turn_small, turn_some, back_up}
use Rattle.tt_scan_edges.proofs.counted.CountedEdges.cross_below.Goals as goal

pub go_down-requires : goal.go_down-requires
go_down-requires c =
    let all : All EdgeFits c.args.self.now.edges = rw (← c.self.view_is) c.self.invariant in
    record {
      fits = walk_fits (edge_of c.args.self.now.edges c.args.walk.now.entry) c.args.at.frame.margin c.args.at.y (c.args.at.y +ℤ pos 8192) c.args.walk.now
          (all c.args.walk.now.entry.edge _ c.requires.within) c.args.at.fits.margin c.requires.below.sloped c.requires.below.met c.requires.below.above c.requires.below.above c.requires.below.walk;
    }

-- the walk a row down
down : (c : goal.After-go_down) → IsWalk (edge_of c.args.self.now.edges c.args.walk.now.entry) c.args.at.frame.margin c.args.at.y c.go_down.new.self
down c = back_up (edge_of c.args.self.now.edges c.args.walk.now.entry) c.args.at.frame.margin c.args.at.y c.go_down.new.self
    (c.go_down.ensures.exact (edge_of c.args.self.now.edges c.args.walk.now.entry) c.args.at.frame.margin (c.args.at.y +ℤ pos 8192) c.requires.below.walk)

pub cross-requires-clause-fits : goal.cross-requires-clause-fits
cross-requires-clause-fits c =
    let all : All EdgeFits c.args.self.now.edges = rw (← c.self.view_is) c.self.invariant in
    walk_fits (edge_of c.args.self.now.edges c.args.walk.now.entry) c.args.at.frame.margin c.args.at.y c.args.at.y c.go_down.new.self
    (all c.args.walk.now.entry.edge _ c.requires.within) c.args.at.fits.margin c.requires.below.sloped c.requires.below.met c.requires.below.above c.requires.below.met (down c)

pub cross-requires-clause-turn : goal.cross-requires-clause-turn
cross-requires-clause-turn c =
    turn_small (edge_of c.args.self.now.edges c.args.walk.now.entry) c.args.at.frame.margin c.args.at.y c.go_down.new.self c.requires.below.sloped (down c)

went : (c : goal.After-cross) → IsWalk (edge_of c.args.self.now.edges c.args.walk.now.entry) c.args.at.frame.margin c.args.at.y c.go_down.new.self
went c = back_up (edge_of c.args.self.now.edges c.args.walk.now.entry) c.args.at.frame.margin c.args.at.y c.go_down.new.self
    (c.go_down.ensures.exact (edge_of c.args.self.now.edges c.args.walk.now.entry) c.args.at.frame.margin (c.args.at.y +ℤ pos 8192) c.requires.below.walk)

pub returns-clause-exact : goal.returns-clause-exact
returns-clause-exact c =
    c.cross.ensures.exact (edge_of c.args.self.now.edges c.args.walk.now.entry) c.args.at.frame.margin c.args.at.y (went c) c.requires.below.sloped c.requires.below.met c.requires.below.above

pub returns-clause-walk : goal.returns-clause-walk
returns-clause-walk c = went c

pub returns-clause-some : goal.returns-clause-some
returns-clause-some c =
    let other = turn_some (edge_of c.args.self.now.edges c.args.walk.now.entry) c.args.at.frame.margin c.args.at.y c.go_down.new.self c.requires.below.sloped (went c) in
    λ same. other (rw c.cross.ensures.turn at same)
