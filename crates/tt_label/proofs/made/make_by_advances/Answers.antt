use Rattle.std.proofs.Common.{◌≡◌, ◌∙◌, ℕ, List, Vec, Global, ap, map}
use Rattle.std.proofs.lemmas.Result.{err_from_is_err_and}
use Rattle.tt_label.specs.Label.{joint, label_glyphs}
use Rattle.tt_label.specs.Views.{placements_of}
use Rattle.tt_label.proofs.ByAdvances.{glyphs_by_advances, made_as_joint, textless_tell}
use Rattle.tt_label.proofs.Placed.{lines_tell}
use Rattle.tt_line.specs.Layout.{Placement}
use Rattle.tt_line.specs.Outcome.{placement_of}
use Rattle.tt_strike.specs.declared.laid.Laid.{Laid}
use Rattle.tt_strike.specs.Strikes.{job_by}
use Rattle.tt_strike.proofs.Telling.{both_sound, made_tells, units_tell}
use Rattle.tt_strike.proofs.Textless.{cost_textless}
use Rattle.tt_label.proofs.made.make_by_advances.Goals.{After-joint_of}
use Rattle.tt_label.proofs.made.make_by_advances.Goals as goal

-- the joint line is that of the lines
joint_then : (c : After-joint_of) → placement_of c.joint_of.result.now.line ≡ joint (placements_of c.in_ok-lines.lines.items)
joint_then c = c.joint_of.ensures.line ∙ ap (λ (ls : List Laid). joint (placements_of ls)) c.deref-2.ensures.value

margin_then : (c : After-joint_of) → c.joint_of.result.now.margin ≡ c.args.margin
margin_then c = c.joint_of.ensures.margin c.args.margin c.in_ok-joined.ensures.margin (rw c.deref-2.ensures.value c.in_ok-lines.ensures.laid.margins)

pub returns-in_err-lines-clause-stops : goal.returns-in_err-lines-clause-stops
returns-in_err-lines-clause-stops c =
    let p = err_from_is_err_and c.from_residual.result c.from_residual.ensures.1 in
    rw (p.1, p.2) (lines_tell (λ (v : Vec Laid Global). placements_of v.items) c.args.sized.now.face
    (job_by c.args.sized.now c.args.text.now c.args.margin) c.args.align c.in_err-lines.field-0.0 c.in_err-lines.ensures.exact)

pub returns-in_err-lines-clause-defects : goal.returns-in_err-lines-clause-defects
returns-in_err-lines-clause-defects c =
    let p = err_from_is_err_and c.from_residual.result c.from_residual.ensures.1 in
    let z = c.args.sized.now in
    rw (p.1, p.2) (units_tell z.face (job_by z c.args.text.now c.args.margin) (label_glyphs z.face.cmap c.args.text.now) c.in_err-lines.field-0.0
    c.requires.unbounded c.in_err-lines.ensures.defects)

pub returns-in_err-glyphs-clause-stops : goal.returns-in_err-glyphs-clause-stops
returns-in_err-glyphs-clause-stops c =
    let all = goal.at.returns-in_err-glyphs-clause-stops c in
    let p = err_from_is_err_and c.from_residual-in_err-glyphs.result c.from_residual-in_err-glyphs.ensures.1 in
    rw (p.1, p.2) (textless_tell c.args.sized.now c.lay_label.new.sized c.args.text.now c.args.margin c.joint_of.result.now.margin c.args.align
    (placements_of c.in_ok-lines.lines.items) (placement_of c.joint_of.result.now.line) c.in_err-glyphs.field-0.0 c.lay_label.ensures.same
    (joint_then all.After-joint_of) c.in_ok-lines.ensures.exact c.in_err-glyphs.ensures.stops)

-- the numbers of its glyphs are those of the text
numbers_then : (c : After-joint_of) → map (λ (g : ℕ × ℕ). g.0) c.joint_of.result.now.line.glyphs.items ≡ label_glyphs c.args.sized.now.face.cmap c.args.text.now
numbers_then c =
    let joined = joint_then c in
    ap (λ (l : Placement). map (λ (g : ℕ × ℕ). g.0) l.glyphs) joined
    ∙ glyphs_by_advances c.args.sized.now.face (job_by c.args.sized.now c.args.text.now c.args.margin) c.args.align
    (placements_of c.in_ok-lines.lines.items) c.requires.tested c.requires.unbounded c.in_ok-lines.ensures.exact

pub returns-in_err-glyphs-clause-defects : goal.returns-in_err-glyphs-clause-defects
returns-in_err-glyphs-clause-defects c =
    let all = goal.at.returns-in_err-glyphs-clause-defects c in
    let p = err_from_is_err_and c.from_residual-in_err-glyphs.result c.from_residual-in_err-glyphs.ensures.1 in
    let z = c.args.sized.now in
    let told = rw (c.lay_label.ensures.same, numbers_then all.After-joint_of) at c.in_err-glyphs.ensures.defects in
    rw (p.1, p.2) (made_tells z.face (job_by z c.args.text.now c.args.margin) (label_glyphs z.face.cmap c.args.text.now) c.in_err-glyphs.field-0.0 told)

pub returns-clause-made : goal.returns-clause-made
returns-clause-made c =
    let all = goal.at.returns-clause-made c in
    let cost = rw (c.lay_label.ensures.same, margin_then all.After-joint_of, joint_then all.After-joint_of) at c.in_ok-glyphs.ensures.cost in
    record {
      placed = c.in_ok-lines.ensures.exact;
      laid = c.in_ok-lines.ensures.laid;
      made = made_as_joint c.args.sized.now c.lay_label.new.sized c.args.text.now c.args.margin c.joint_of.result.now.margin
          (placements_of c.in_ok-lines.lines.items) (placement_of c.joint_of.result.now.line) c.lay_label.ensures.same
          (margin_then all.After-joint_of) (joint_then all.After-joint_of) c.in_ok-glyphs.ensures.made;
      cost = cost_textless c.args.sized.now c.args.text.now c.args.margin (joint (placements_of c.in_ok-lines.lines.items)) ∙ cost;
    }

pub returns-clause-defects : goal.returns-clause-defects
returns-clause-defects c =
    let all = goal.at.returns-clause-defects c in
    let z = c.args.sized.now in
    let made = rw (c.lay_label.ensures.same, numbers_then all.After-joint_of) at c.in_ok-glyphs.ensures.defects in
    both_sound z.face (job_by z c.args.text.now c.args.margin) (label_glyphs z.face.cmap c.args.text.now) made c.in_ok-lines.ensures.defects

pub tested_glyphs-requires-clause-cache : goal.tested_glyphs-requires-clause-cache
tested_glyphs-requires-clause-cache c = rw c.lay_label.ensures.same c.requires.cache

pub returns-in_err-glyphs-clause-cache : goal.returns-in_err-glyphs-clause-cache
returns-in_err-glyphs-clause-cache c = rw c.lay_label.ensures.same at c.tested_glyphs.ensures.cache

pub returns-clause-cache : goal.returns-clause-cache
returns-clause-cache c = rw c.lay_label.ensures.same at c.tested_glyphs.ensures.cache

pub joint_of-requires-clause-line : goal.joint_of-requires-clause-line
joint_of-requires-clause-line c = rw (c.deref-2.ensures.value, ← c.deref.ensures.value) c.in_ok-joined.ensures.line

pub joint_of-requires-clause-none : goal.joint_of-requires-clause-none
joint_of-requires-clause-none c = rw (c.deref-2.ensures.value, ← c.deref.ensures.value) c.in_ok-joined.ensures.none
