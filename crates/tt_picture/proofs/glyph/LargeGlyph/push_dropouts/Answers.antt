use Rattle.std.proofs.Common.{◌∙◌, ◌||◌, ap, sym}
use Rattle.std.proofs.lemmas.Result.{on_ok_weaker}
use Rattle.tt_scan.specs.Contours.{contours_at}
use Rattle.tt_scan_dropouts.specs.Pictures.{is_among}
use Rattle.tt_picture.proofs.Blackened.{or_false}
use Rattle.tt_picture.proofs.Pens.{filled_from, none_filled}
use Rattle.tt_picture.proofs.glyph.LargeGlyph.push_dropouts.Goals as goal

pub returns-in-Some-clause-added : goal.returns-in-Some-clause-added
returns-in-Some-clause-added c =
    let g = c.self.inside in
    rw (← c.self.view_is) (on_ok_weaker c.push_dropouts.result
    (λ added k r column row. added k r column row
    ∙ ap (λ b. is_among c.args.found.now.items k r || b) (rw (c.in-Some.is, c.deref.ensures.value) (filled_from c.args.frame c.in-Some.rules
    (contours_at g.tape.edges g.ends.items) c.args.pens.now k r)))
    c.push_dropouts.ensures.added)

pub returns-in-None-clause-added : goal.returns-in-None-clause-added
returns-in-None-clause-added c =
    let g = c.self.inside in
    rw (← c.self.view_is) (λ k r column row.
    rw (c.in-None.is, none_filled c.args.frame (contours_at g.tape.edges g.ends.items) c.args.pens.now k r)
    (sym (or_false (is_among c.args.found.now.items k r))))
