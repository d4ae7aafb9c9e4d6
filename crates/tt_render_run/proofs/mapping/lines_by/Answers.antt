use Rattle.std.proofs.Common.{◌≡◌, refl, ℕ, List, Vec, Global, Ok}
use Rattle.std.proofs.lemmas.Result.{err_from_is_err_and}
use Rattle.std.specs.Prelude.{option_map}
use Rattle.tt_advances.proofs.Advances.{plain_sound}
use Rattle.tt_face.specs.Views.{asked_view}
use Rattle.tt_line.specs.Layout.{text_glyphs}
use Rattle.tt_render_run.proofs.Mapped.{lines_of_face, plain_lines, tells_of_face}
use Rattle.tt_render_run.proofs.mapping.lines_by.Goals as goal

pub returns-then-finds_advances-clause-exact : goal.returns-then-finds_advances-clause-exact
returns-then-finds_advances-clause-exact c =
    lines_of_face (λ (v : Vec ℕ Global). v.items) c.args.reading (option_map asked_view c.args.instance) c.args.file.now c.args.text.now
    c.in_ok-face.face c.found_lines.result (rw c.plain.ensures at c.in_ok-face.ensures.exact) c.found_lines.ensures.exact

pub returns-then-finds_advances-clause-defects : goal.returns-then-finds_advances-clause-defects
returns-then-finds_advances-clause-defects c =
    tells_of_face c.args.reading (option_map asked_view c.args.instance) c.args.file.now c.args.text.now
    c.in_ok-face.face c.found_lines.result (rw c.plain.ensures at c.in_ok-face.ensures.exact) (rw c.plain.ensures at c.in_ok-face.ensures.sound)
    c.found_lines.ensures.defects

pub returns-clause-exact : goal.returns-clause-exact
returns-clause-exact c =
    let off = rw c.finds_advances.ensures at c.if-finds_advances.false in
    lines_of_face (λ (v : Vec ℕ Global). v.items) c.args.reading (option_map asked_view c.args.instance) c.args.file.now c.args.text.now
    c.in_ok-face.face (Ok c.in_ok-lines.field-0) (rw c.plain.ensures at c.in_ok-face.ensures.exact)
    (plain_lines c.in_ok-face.face c.args.text.now c.in_ok-lines.field-0.items off c.in_ok-lines.ensures)

pub returns-clause-defects : goal.returns-clause-defects
returns-clause-defects c =
    let face = c.in_ok-face.face in
    let off = rw c.finds_advances.ensures at c.if-finds_advances.false in
    tells_of_face {X = Vec ℕ Global} c.args.reading (option_map asked_view c.args.instance) c.args.file.now c.args.text.now
    face (Ok c.in_ok-lines.field-0) (rw c.plain.ensures at c.in_ok-face.ensures.exact) (rw c.plain.ensures at c.in_ok-face.ensures.sound)
    (plain_sound face (text_glyphs face.cmap c.args.text.now) off)
