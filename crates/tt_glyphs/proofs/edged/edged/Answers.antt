use Rattle.std.proofs.Common.{◌≡◌, ◌∙◌, SFits, w32, of_z, to_z, refl, rules}
use Rattle.std.proofs.lemmas.Int.{to_z-of_z}
use Rattle.std.specs.Prelude.{IfSome}
use Rattle.tt_fit.specs.outline.Views.{outline_of}
use Rattle.tt_picture.proofs.OutlineBox.{outline_boxed}
use Rattle.tt_scan.specs.Contours.{contours_at}
use Rattle.tt_scan_gaps.specs.Boxes.{IsBoxOf}
use Rattle.tt_glyphs.proofs.EdgesMade.{boxed_as, contours_close, contours_round, edges_fit, ink_near}
use Rattle.tt_glyphs.proofs.edged.edged.Goals as goal

pub box_of-extents-requires-clause-same : goal.box_of-extents-requires-clause-same
box_of-extents-requires-clause-same c = rw (← c.ruled.view_is) at c.requires

pub returns-clause-exact : goal.returns-clause-exact
returns-clause-exact c =
    let tape = c.in_ok-tape.ensures in
    let left = c.advance_left.result in
    let fits : SFits w32 left = search rules in
    let same : to_z w32 (of_z w32 left) ≡ left = simp to_z-of_z refl in
    rw (← c.ruled.view_is) (record {
      edges = rw tape c.in_ok-made.ensures.exact;
      contours = rw tape c.in_ok-made.ensures.contours;
      filled = refl;
      chords = c.in_ok-made.ensures.chords;
      step = c.step.ensures.exact;
      advance = same ∙ c.advance_left.ensures.exact;
      unfitted = refl;
    })

pub returns-clause-fits : goal.returns-clause-fits
returns-clause-fits c =
    let i = c.ruled.inside in
    let o = outline_of i.outline in
    let made = c.in_ok-made.made in
    let es = made.list.edges in
    let cs = contours_at es made.ends.items in
    let tape = c.in_ok-tape.ensures in
    let exact = c.in_ok-made.ensures.exact in
    let ruled = rw (← c.ruled.view_is) at c.requires in
    let b = c.box_of-extents.result in
    let is = c.box_of-extents.ensures.exact in
    let fits = rw is at c.box_of-extents.ensures.fits in
    let held : IsBoxOf b es = rw (is, exact) (outline_boxed i.rule o fits) in
    let same : IfSome i.filled (λ rules. rules.extents ≡ b) = rw is ruled in
    let boxed = boxed_as i.filled b es same held in
    record {
      few = rw tape c.in_ok-made.ensures.few;
      held = rw tape held;
      same = same;
      boxed = rw tape boxed;
      ends = rw tape c.in_ok-made.ensures.ends;
      closed = rw tape (contours_close c.contours_joined.ensures i.rule o es exact);
      round = rw tape (contours_round i.filled i.rule o cs c.in_ok-made.ensures.contours);
      near = rw tape (ink_near i.filled es cs (edges_fit b es held) boxed);
    }
