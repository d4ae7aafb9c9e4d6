use Rattle.std.proofs.Common.{◌≡◌, ℕ, List, map, Ok}
use Rattle.tt_line.specs.Outcome.{placement_of}
use Rattle.tt_picture.specs.Pixels.{Shape}
use Rattle.tt_strike.specs.Picture.{shapes_in}
use Rattle.tt_strike.specs.Strikes.{job_with}
use Rattle.tt_strike.specs.Work.{line_fitter}
use Rattle.tt_strike.proofs.Caches.{of_face, of_fitter}
use Rattle.tt_strike.proofs.Fitted.{Tested, drawn_cost, drawn_made, drawn_stops, drawn_tells_no_defect, units_shapes}
use Rattle.tt_strike.proofs.Setting.{maker_alike}
use Rattle.tt_strike.proofs.sized.SizedFace.drawn_units.Goals.{After-tested_edges}
use Rattle.tt_strike.proofs.sized.SizedFace.drawn_units.Goals as goal

-- the shapes of the line, by which its edges are tested
shapes_then : (c : After-tested_edges) → (shapes : List Shape) × (shapes_in c.requires.fitted.0 (placement_of c.args.laid.now.line) ≡ Ok shapes)
    × Tested (job_with c.args.self.now c.args.laid.now.margin) c.args.units shapes c.tested_edges.result
shapes_then c =
    let z = c.args.self.now in
    let f = c.requires.fitted in
    let shapes = units_shapes z.face (job_with z c.args.laid.now.margin) (placement_of c.args.laid.now.line) c.args.units f.0 f.1 in
    let exact = c.tested_edges.ensures.exact (line_fitter f.0 (map (λ (g : ℕ × ℕ). g.0) c.args.laid.now.line.glyphs.items)) shapes.0 f.1.fitted shapes.1 in
    (shapes.0, shapes.1, rw c.fit.ensures at exact)

pub tested_edges-requires-clause-bounded : goal.tested_edges-requires-clause-bounded
tested_edges-requires-clause-bounded c = rw c.fit.ensures c.requires.bounded

pub tested_edges-requires-clause-made : goal.tested_edges-requires-clause-made
tested_edges-requires-clause-made c =
    (line_fitter c.requires.fitted.0 (map (λ (g : ℕ × ℕ). g.0) c.args.laid.now.line.glyphs.items), c.requires.fitted.1.fitted)

pub tested_edges-requires-clause-places : goal.tested_edges-requires-clause-places
tested_edges-requires-clause-places c = c.requires.fitted.1.places

pub tested_edges-requires-clause-numbers : goal.tested_edges-requires-clause-numbers
tested_edges-requires-clause-numbers c = c.requires.fitted.1.numbers

pub returns-clause-made : goal.returns-clause-made
returns-clause-made c =
    let z = c.args.self.now in
    let f = c.requires.fitted in
    let shapes = shapes_then (goal.at.returns-clause-made c).After-tested_edges in
    drawn_made z.face (job_with z c.args.laid.now.margin) (placement_of c.args.laid.now.line) c.args.units f.0 shapes.0 c.tested_edges.result f.1
    shapes.1 shapes.2 c.tested_edges.ensures.drawn c.tested_edges.ensures.numbers

pub returns-clause-cost : goal.returns-clause-cost
returns-clause-cost c =
    let z = c.args.self.now in
    let f = c.requires.fitted in
    let shapes = shapes_then (goal.at.returns-clause-cost c).After-tested_edges in
    let costs = c.tested_edges.ensures.cost (line_fitter f.0 (map (λ (g : ℕ × ℕ). g.0) c.args.laid.now.line.glyphs.items)) shapes.0 f.1.fitted shapes.1 in
    drawn_cost z.face (job_with z c.args.laid.now.margin) (placement_of c.args.laid.now.line) c.args.units f.0 shapes.0 c.tested_edges.result f.1
    shapes.1 shapes.2 costs

pub returns-clause-stops : goal.returns-clause-stops
returns-clause-stops c =
    let z = c.args.self.now in
    let f = c.requires.fitted in
    let shapes = shapes_then (goal.at.returns-clause-stops c).After-tested_edges in
    drawn_stops z.face (job_with z c.args.laid.now.margin) (placement_of c.args.laid.now.line) c.args.units f.0 shapes.0 c.tested_edges.result f.1
    shapes.1 shapes.2

pub returns-clause-font : goal.returns-clause-font
returns-clause-font c =
    let z = c.args.self.now in
    let shapes = shapes_then (goal.at.returns-clause-font c).After-tested_edges in
    drawn_tells_no_defect (job_with z c.args.laid.now.margin) c.args.units shapes.0 c.tested_edges.result shapes.2

-- the cache is then that of the font at the size
pub returns-clause-cache : goal.returns-clause-cache
returns-clause-cache c =
    let z = c.args.self.now in
    let f = c.requires.fitted in
    let gs = map (λ (g : ℕ × ℕ). g.0) c.args.laid.now.line.glyphs.items in
    let own = of_fitter z f.0 c.args.cache.now f.1.setting c.requires.cache in
    let after = c.tested_edges.ensures.cached (line_fitter f.0 gs) f.0 f.1.fitted (maker_alike f.0 gs) own in
    of_face z f.0 c.args.cache.now c.tested_edges.new.cache f.1.setting.exact c.tested_edges.ensures.limit c.requires.cache after
