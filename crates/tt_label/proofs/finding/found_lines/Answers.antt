use Rattle.std.proofs.Common.{◌≡◌, ◌∙◌, ℕ, ◌<◌, true, List, [], ◌∷◌, Ok, append-nil, append_assoc, length, map, refl, sym, ap, arith}
use Rattle.std.proofs.lemmas.List.{map_push, nil_from_length}
use Rattle.std.proofs.lemmas.List.Elements.{All-head, All-tail}
use Rattle.std.proofs.lemmas.Result.{err_from_is_err_and}
use Rattle.std.specs.Prelude.{All}
use Rattle.std.specs.Vec.Iter.{into_iter_items}
use Rattle.tt_advances.proofs.Advances.{found_whole}
use Rattle.tt_advances.proofs.Finding.{after_test, before_value, line_alike, lists_pass, lists_stop, tables_refuse, tables_tell, test_tells, tested_by, then_value}
use Rattle.tt_advances.specs.Found.{advances_tested, all_found, glyph_units}
use Rattle.tt_advances.specs.Lines.{advance_step}
use Rattle.tt_face.specs.Faces.{Face, finds_advances, glyphs_in}
use Rattle.tt_glyf.specs.Loca.{Glyf}
use Rattle.tt_label.specs.Fitted.{glyphs_in as line_glyphs, with_steps}
use Rattle.tt_label.proofs.FoundLines.{Line, items_of, line_and_others}
use Rattle.tt_line.specs.Steps.{stepped}
use Rattle.tt_metrics.specs.Metrics.{glyphs_of}
use Rattle.tt_label.proofs.finding.found_lines.Goals as goal

pub found_line-requires-clause-metrics : goal.found_line-requires-clause-metrics
found_line-requires-clause-metrics c = rw (c.metrics.ensures, c.loop-line.invariant.face) refl

pub found_line-requires-clause-known : goal.found_line-requires-clause-known
found_line-requires-clause-known c =
    let steps = c.in-Some.ensures.steps.0 in
    rw c.metrics.ensures (All-head (λ (v : Line). All (λ (g : ℕ × ℕ). g.0 < glyphs_of c.args.face.now.metrics) v.items) c.in-Some.line
    (into_iter_items c.next.new.self) (rw steps at c.loop-line.invariant.known))

pub loop-line-preserved : goal.loop-line-preserved
loop-line-preserved c =
    let at = c.loop-line in
    let was = at.invariant in
    let face = c.args.face.now in
    let line = c.in-Some.line in
    let left = into_iter_items c.next.new.self in
    let made = c.in_ok-found_line.field-0 in
    let items : Line → List (ℕ × ℕ) = λ v. v.items in
    let numbers = map (λ (g : ℕ × ℕ). g.0) line.items in
    let step = advance_step face c.args.ppem in
    let found = glyph_units face.instance face.metrics at.found.tables in
    let steps : into_iter_items at.line-iterator ≡ line ∷ left = c.in-Some.ensures.steps.0 in
    let passes = after_test (all_found found numbers) _ made.items (rw was.face at c.in_ok-found_line.ensures.exact) in
    let own : made.items ≡ stepped face.metrics step numbers = passes.1 ∙ line_alike face at.found.tables c.args.ppem numbers was.there in
    let whole = rw steps at was.steps in
    rw c.in_ok-found_line.ensures.same (record {
      count = let count = was.count in
          let gone = c.in-Some.ensures.steps.1 in
          let short = ap length steps in
          omega arith;
      known = All-tail (λ (v : Line). All (λ (g : ℕ × ℕ). g.0 < glyphs_of face.metrics) v.items) line left (rw steps at was.known);
      face = was.face;
      there = was.there;
      steps = rw (c.in_ok-push.ensures.items, map_push items at.made.items made, own)
          (append_assoc (map items at.made.items) (stepped face.metrics step numbers ∷ []) (with_steps face.metrics step (map items left)) ∙ whole);
      tested = lists_pass found (all_found found (line_glyphs (items_of c.args.lines.items))) (line_glyphs (items_of (into_iter_items at.line-iterator))) numbers
          (line_glyphs (items_of left)) was.tested (rw steps (line_and_others line.items (items_of left))) passes.0;
    })

pub returns-in_err-found-clause-exact : goal.returns-in_err-found-clause-exact
returns-in_err-found-clause-exact c =
    let p = err_from_is_err_and c.from_residual.result c.from_residual.ensures.1 in
    let face = c.args.face.now in
    let gs = line_glyphs (items_of c.args.lines.items) in
    rw (p.1, p.2) (then_value (advances_tested face gs) _ c.in_err-found.field-0.0
    (tables_refuse face gs c.in_err-found.field-0.0 c.requires.finds c.in_err-found.ensures.tables))

pub returns-in_err-found-clause-defects : goal.returns-in_err-found-clause-defects
returns-in_err-found-clause-defects c =
    let p = err_from_is_err_and c.from_residual.result c.from_residual.ensures.1 in
    rw (p.1, p.2) (tables_tell c.args.face.now (line_glyphs (items_of c.args.lines.items)) c.in_err-found.field-0.0 c.requires.finds c.in_err-found.ensures.fault)

pub returns-in_err-found_line-clause-exact : goal.returns-in_err-found_line-clause-exact
returns-in_err-found_line-clause-exact c =
    let p = err_from_is_err_and c.from_residual-in_err-found_line.result c.from_residual-in_err-found_line.ensures.1 in
    let at = c.loop-line in
    let was = at.invariant in
    let face = c.args.face.now in
    let gs = line_glyphs (items_of c.args.lines.items) in
    let found = glyph_units face.instance face.metrics at.found.tables in
    let line = c.in-Some.line in
    let left = into_iter_items c.next.new.self in
    let numbers = map (λ (g : ℕ × ℕ). g.0) line.items in
    let e = c.in_err-found_line.field-0.0 in
    let steps : into_iter_items at.line-iterator ≡ line ∷ left = c.in-Some.ensures.steps.0 in
    let one = before_value (all_found found numbers) _ e (rw was.face at c.in_err-found_line.ensures.exact) in
    let stops = lists_stop found (all_found found gs) (line_glyphs (items_of (into_iter_items at.line-iterator))) numbers
    (line_glyphs (items_of left)) e was.tested (rw steps (line_and_others line.items (items_of left))) one in
    rw (p.1, p.2) (then_value (advances_tested face gs) _ e (rw (tested_by face at.found.tables gs c.requires.finds was.there) stops))

pub returns-in_err-found_line-clause-defects : goal.returns-in_err-found_line-clause-defects
returns-in_err-found_line-clause-defects c =
    let p = err_from_is_err_and c.from_residual-in_err-found_line.result c.from_residual-in_err-found_line.ensures.1 in
    let at = c.loop-line in
    let was = at.invariant in
    let face = c.args.face.now in
    let gs = line_glyphs (items_of c.args.lines.items) in
    let found = glyph_units face.instance face.metrics at.found.tables in
    let line = c.in-Some.line in
    let left = into_iter_items c.next.new.self in
    let numbers = map (λ (g : ℕ × ℕ). g.0) line.items in
    let e = c.in_err-found_line.field-0.0 in
    let steps : into_iter_items at.line-iterator ≡ line ∷ left = c.in-Some.ensures.steps.0 in
    let one = before_value (all_found found numbers) _ e (rw was.face at c.in_err-found_line.ensures.exact) in
    let stops = lists_stop found (all_found found gs) (line_glyphs (items_of (into_iter_items at.line-iterator))) numbers
    (line_glyphs (items_of left)) e was.tested (rw steps (line_and_others line.items (items_of left))) one in
    rw (p.1, p.2) (test_tells face at.found.tables gs e c.requires.finds was.there stops)

-- all advances are found, where no line is left
tested_all : (face : Face) (t : Glyf) (lines left : List Line) → finds_advances face ≡ true → glyphs_in face ≡ Ok t → left ≡ []
    → all_found (glyph_units face.instance face.metrics t) (line_glyphs (items_of lines))
    ≡ all_found (glyph_units face.instance face.metrics t) (line_glyphs (items_of left))
    → advances_tested face (line_glyphs (items_of lines)) ≡ Ok tt
tested_all face t lines left finds there none tested =
    tested_by face t (line_glyphs (items_of lines)) finds there ∙ rw none at tested

pub returns-clause-exact : goal.returns-clause-exact
returns-clause-exact c =
    let at = c.loop-line in
    let face = c.args.face.now in
    let none = nil_from_length (into_iter_items at.line-iterator) (sym at.invariant.count ∙ c.in-None.ensures.steps.0) in
    let all = rw none at at.invariant.steps in
    let made : items_of at.made.items ≡ with_steps face.metrics (advance_step face c.args.ppem) (items_of c.args.lines.items) =
    sym (append-nil (items_of at.made.items)) ∙ all in
    let tested = tested_all face at.found.tables c.args.lines.items (into_iter_items at.line-iterator) c.requires.finds at.invariant.there none
    at.invariant.tested in
    rw (tested, made) refl

pub returns-clause-defects : goal.returns-clause-defects
returns-clause-defects c =
    let at = c.loop-line in
    let face = c.args.face.now in
    let none = nil_from_length (into_iter_items at.line-iterator) (sym at.invariant.count ∙ c.in-None.ensures.steps.0) in
    found_whole face (line_glyphs (items_of c.args.lines.items))
    (tested_all face at.found.tables c.args.lines.items (into_iter_items at.line-iterator) c.requires.finds at.invariant.there none
    at.invariant.tested)
