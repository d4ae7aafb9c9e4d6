use Rattle.std.proofs.Common.{◌≡◌}
use Rattle.std.specs.Prelude.{IfSome}
use Rattle.std.proofs.lemmas.Result.{IfOk-weaker}
use Rattle.tt_bitmap.specs.Bitmaps.{is_black}
use Rattle.tt_picture.proofs.BodyInk.{shown_ink}
use Rattle.tt_scan_ink.specs.Least.{IsNear}
use Rattle.tt_glyphs.specs.Edged.{ink_of}
use Rattle.tt_glyphs.proofs.edged.ink_of.Goals as goal

pub returns-in-Some-clause-exact : goal.returns-in-Some-clause-exact
returns-in-Some-clause-exact c =
    let e = c.args.edged.now in
    let g = c.in-Some.pixels in
    let shown = rw c.in-Some.is at c.requires.shown in
    let ink = rw c.in-Some.is at c.requires.ink in
    let fits = c.requires.edged in
    shown_ink e.filled e.tape.edges e.ends.items (is_black g.bitmap) g.ink fits.closed fits.boxed fits.ends shown ink

pub returns-in-Some-clause-near : goal.returns-in-Some-clause-near
returns-in-Some-clause-near c = rw (returns-in-Some-clause-exact c) c.requires.edged.near

pub returns-in-None-clause-near : goal.returns-in-None-clause-near
returns-in-None-clause-near c =
    IfOk-weaker c.ink.result (λ ink. ink ≡ ink_of c.args.edged.now) (λ ink. IfSome ink IsNear) (λ ink is. rw is c.requires.edged.near)
    c.ink.ensures
