use Rattle.std.proofs.Common.{◌≡◌, ◌∙◌, ap, refl}
use Rattle.std.proofs.lemmas.Result.{IfOk-weaker}
use Rattle.std.specs.Prelude.{IfOk}
use Rattle.tt_advances.proofs.Advances.{plain_advances, plain_sound}
use Rattle.tt_advances.specs.Found.{advances_tested}
use Rattle.tt_advances.specs.Lines.{advance_step}
use Rattle.tt_core.specs.Limits.{text_limit}
use Rattle.tt_label.specs.Fitted.{glyphs_in as line_glyphs, with_steps}
use Rattle.tt_label.specs.Label.{label_glyphs, stepped_lines}
use Rattle.tt_label.proofs.FoundLines.{as_many_lines, few_lines, given_lines, items_of, known_lines, lines_alike}
use Rattle.tt_label.proofs.Lines.{numbers_stepped, stepped_again}
use Rattle.tt_line.specs.Steps.{step_in_pixels}
use Rattle.tt_metrics.specs.Metrics.{glyphs_of}
use Rattle.tt_label.proofs.finding.label_units.Goals.{After-found_lines, In_ok-lines}
use Rattle.tt_label.proofs.finding.label_units.Goals as goal

pub found_lines-requires-clause-finds : goal.found_lines-requires-clause-finds
found_lines-requires-clause-finds c = rw c.face-face.ensures (rw c.face-face.ensures at (rw c.finds_advances.ensures at c.if-finds_advances.true))

pub found_lines-requires-clause-known : goal.found_lines-requires-clause-known
found_lines-requires-clause-known c = rw c.face-face.ensures c.in_ok-lines.ensures.known

-- the glyphs are those of the text
glyphs_are : (c : In_ok-lines) → line_glyphs (items_of c.in_ok-lines.lines.items) ≡ label_glyphs c.args.sized.now.face.cmap c.args.text.now
glyphs_are c =
    let m = c.args.sized.now.face.metrics in
    ap line_glyphs c.in_ok-lines.ensures.exact
    ∙ numbers_stepped m (step_in_pixels m c.args.sized.now.ppem) c.args.sized.now.face.cmap c.args.text.now

steps_are : (c : In_ok-lines) → with_steps c.args.sized.now.face.metrics (advance_step c.args.sized.now.face c.args.sized.now.ppem) (items_of c.in_ok-lines.lines.items)
    ≡ stepped_lines c.args.sized.now.face.metrics (advance_step c.args.sized.now.face c.args.sized.now.ppem) c.args.sized.now.face.cmap c.args.text.now
steps_are c =
    let z = c.args.sized.now in
    ap (with_steps z.face.metrics (advance_step z.face z.ppem)) c.in_ok-lines.ensures.exact
    ∙ stepped_again z.face.metrics (advance_step z.face z.ppem) (step_in_pixels z.face.metrics z.ppem) z.face.cmap c.args.text.now

pub returns-then-finds_advances-clause-exact : goal.returns-then-finds_advances-clause-exact
returns-then-finds_advances-clause-exact c =
    let all = goal.at.returns-then-finds_advances-clause-exact c in
    rw (c.face-face.ensures, c.ppem-ppem.ensures.exact, glyphs_are all.In_ok-lines, steps_are all.In_ok-lines) at c.found_lines.ensures.exact

pub returns-then-finds_advances-clause-defects : goal.returns-then-finds_advances-clause-defects
returns-then-finds_advances-clause-defects c =
    let all = goal.at.returns-then-finds_advances-clause-defects c in
    rw (c.face-face.ensures, glyphs_are all.In_ok-lines) at c.found_lines.ensures.defects

-- the lines that are made have the glyphs of those before
made_then : (c : After-found_lines) → IfOk c.found_lines.result (λ v. items_of v.items
    ≡ with_steps c.args.sized.now.face.metrics (advance_step c.args.sized.now.face c.args.sized.now.ppem) (items_of c.in_ok-lines.lines.items))
made_then c =
    let z = c.args.sized.now in
    given_lines c.found_lines.result (advances_tested z.face (line_glyphs (items_of c.in_ok-lines.lines.items)))
    (with_steps z.face.metrics (advance_step z.face z.ppem) (items_of c.in_ok-lines.lines.items))
    (rw (c.face-face.ensures, c.ppem-ppem.ensures.exact) at c.found_lines.ensures.exact)

pub returns-then-finds_advances-clause-known : goal.returns-then-finds_advances-clause-known
returns-then-finds_advances-clause-known c =
    let z = c.args.sized.now in
    IfOk-weaker c.found_lines.result _ _ (λ v are. known_lines z.face.metrics (advance_step z.face z.ppem) (glyphs_of z.face.metrics)
    c.in_ok-lines.lines.items v.items are c.in_ok-lines.ensures.known) (made_then (goal.at.returns-then-finds_advances-clause-known c).After-found_lines)

pub returns-then-finds_advances-clause-few : goal.returns-then-finds_advances-clause-few
returns-then-finds_advances-clause-few c =
    let z = c.args.sized.now in
    IfOk-weaker c.found_lines.result _ _ (λ v are. few_lines z.face.metrics (advance_step z.face z.ppem) text_limit
    c.in_ok-lines.lines.items v.items are c.in_ok-lines.ensures.few) (made_then (goal.at.returns-then-finds_advances-clause-few c).After-found_lines)

pub returns-then-finds_advances-clause-some : goal.returns-then-finds_advances-clause-some
returns-then-finds_advances-clause-some c =
    let z = c.args.sized.now in
    IfOk-weaker c.found_lines.result _ _ (λ v are. rw (as_many_lines z.face.metrics (advance_step z.face z.ppem) c.in_ok-lines.lines.items v.items are)
    c.in_ok-lines.ensures.some) (made_then (goal.at.returns-then-finds_advances-clause-some c).After-found_lines)

pub returns-then-finds_advances-clause-count : goal.returns-then-finds_advances-clause-count
returns-then-finds_advances-clause-count c =
    let z = c.args.sized.now in
    IfOk-weaker c.found_lines.result _ _ (λ v are. rw (as_many_lines z.face.metrics (advance_step z.face z.ppem) c.in_ok-lines.lines.items v.items are)
    c.in_ok-lines.ensures.count) (made_then (goal.at.returns-then-finds_advances-clause-count c).After-found_lines)

-- where no advance is found, the lines are those of the tables
pub returns-clause-exact : goal.returns-clause-exact
returns-clause-exact c =
    let z = c.args.sized.now in
    let plain = plain_advances z.face (rw c.face-face.ensures at (rw c.finds_advances.ensures at c.if-finds_advances.false)) in
    rw (
      c.in_ok-lines.ensures.exact,
      plain.tested (label_glyphs z.face.cmap c.args.text.now),
      lines_alike z.face.metrics (advance_step z.face z.ppem) (step_in_pixels z.face.metrics z.ppem) z.face.cmap c.args.text.now (plain.step z.ppem),
    ) refl

pub returns-clause-defects : goal.returns-clause-defects
returns-clause-defects c =
    let z = c.args.sized.now in
    plain_sound z.face (label_glyphs z.face.cmap c.args.text.now) (rw c.face-face.ensures at (rw c.finds_advances.ensures at c.if-finds_advances.false))
