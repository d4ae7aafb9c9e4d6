use Rattle.std.proofs.Common.{◌≡◌, ◌∙◌, ap, ℕ, List, map, subst, sym, true, Err}
use Rattle.tt_core.specs.Outcomes.{IfTold}
use Rattle.tt_label.specs.Gathered.{units_glyphs}
use Rattle.tt_label.proofs.Finished.{drawn_ready, ready_again}
use Rattle.tt_label.proofs.UnitGlyphs.{zero_numbers}
use Rattle.tt_line.specs.Layout.{Placement}
use Rattle.tt_line.specs.Outcome.{placement_of}
use Rattle.tt_strike.specs.Fitted.{AreFittedUnits}
use Rattle.tt_strike.specs.Made.{shapes_made}
use Rattle.tt_strike.specs.Refusals.{refusal}
use Rattle.tt_strike.specs.Strikes.{job_by}
use Rattle.tt_strike.specs.Work.{is_bounded}
use Rattle.tt_label.proofs.begun.finish_label.Goals.{In-Fitted}
use Rattle.tt_label.proofs.begun.finish_label.Goals as goal

-- the glyphs are fitted, where work is bounded
begun_then : (c : In-Fitted) → (is_bounded c.args.sized.now.fit ≡ true)
    × AreFittedUnits c.args.sized.now.face c.args.sized.now.ppem c.args.sized.now.fit
    (units_glyphs c.args.sized.now.face (job_by c.args.sized.now c.args.text.now c.args.line.now.margin)) c.in-Fitted.units c.requires.stage.0
begun_then c = rw c.in-Fitted.is at c.requires.stage.1.stage

numbers_then : (c : In-Fitted) → map (λ (g : ℕ × ℕ). g.0) c.args.line.now.line.glyphs.items
    ≡ units_glyphs c.args.sized.now.face (job_by c.args.sized.now c.args.text.now c.args.line.now.margin)
numbers_then c =
    ap (λ (l : Placement). map (λ (g : ℕ × ℕ). g.0) l.glyphs) c.requires.stage.1.line
    ∙ zero_numbers (units_glyphs c.args.sized.now.face (job_by c.args.sized.now c.args.text.now c.args.line.now.margin))

pub drawn_units-requires-clause-bounded : goal.drawn_units-requires-clause-bounded
drawn_units-requires-clause-bounded c = (begun_then (goal.at.drawn_units-requires-clause-bounded c).In-Fitted).0

pub drawn_units-requires-clause-fitted : goal.drawn_units-requires-clause-fitted
drawn_units-requires-clause-fitted c =
    let all = (goal.at.drawn_units-requires-clause-fitted c).In-Fitted in
    let z = c.args.sized.now in
    let P : List ℕ → Type 0 = λ gs. AreFittedUnits z.face z.ppem z.fit gs c.in-Fitted.units c.requires.stage.0 in
    (c.requires.stage.0, subst P (sym (numbers_then all)) (begun_then all).1)

pub returns-in-Fitted-clause-ready : goal.returns-in-Fitted-clause-ready
returns-in-Fitted-clause-ready c =
    let z = c.args.sized.now in
    drawn_ready z c.args.text.now c.args.line.now.margin (units_glyphs z.face (job_by z c.args.text.now c.args.line.now.margin))
    (placement_of c.args.line.now.line) c.drawn_units.result c.requires.stage.1.line c.drawn_units.ensures.made c.drawn_units.ensures.cost

pub returns-in-Fitted-clause-stops : goal.returns-in-Fitted-clause-stops
returns-in-Fitted-clause-stops c =
    let z = c.args.sized.now in
    let a = job_by z c.args.text.now c.args.line.now.margin in
    let P : Placement → Type 0 = λ l. IfTold refusal c.drawn_units.result (λ r. shapes_made z.face a l ≡ Err r) in
    subst P c.requires.stage.1.line c.drawn_units.ensures.stops

pub returns-in-Made-clause-ready : goal.returns-in-Made-clause-ready
returns-in-Made-clause-ready c = λ t other.
    let z = c.args.sized.now in
    let a = job_by z c.args.text.now c.args.line.now.margin in
    let stage = rw c.in-Made.is at c.requires.stage.1.stage in
    ready_again z.face a c.requires.stage.0 (units_glyphs z.face a) c.in-Made.glyphs.made.items c.in-Made.glyphs.cost c.requires.stage.1.opened stage.1 t other
