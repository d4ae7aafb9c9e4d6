use Rattle.std.proofs.Common.{◌≡◌, ap, refl, arith}
use Rattle.std.proofs.lemmas.Result.{IfOk-weaker}
use Rattle.tt_bitmap.specs.Bitmaps.{is_black}
use Rattle.tt_picture.specs.Glyphs as glyphs
use Rattle.tt_picture.specs.Views.{body_view}
use Rattle.tt_picture.proofs.BodyInk.{shown_ink}
use Rattle.tt_picture.proofs.CutGlyphs.{uncut_body}
use Rattle.tt_picture.proofs.glyph.LargeGlyph.into_body.Goals as goal

-- there are more crossings than the limit
pub returns-then-facts-limits-clause-body : goal.returns-then-facts-limits-clause-body
returns-then-facts-limits-clause-body c =
    IfOk-weaker c.uncut.result _ _ (λ b is. uncut_body c.args.self (body_view b) is) c.uncut.ensures.body

pub returns-then-facts-limits-clause-cut : goal.returns-then-facts-limits-clause-cut
returns-then-facts-limits-clause-cut c =
    IfOk-weaker c.uncut.result _ _ (λ b is. rw is (omega arith)) c.uncut.ensures.body

pub pixels_of-requires-clause-few : goal.pixels_of-requires-clause-few
pixels_of-requires-clause-few c = omega (arith, c.self.invariant.0.few)

pub pixels_of-requires-clause-boxed : goal.pixels_of-requires-clause-boxed
pixels_of-requires-clause-boxed c =
    let edges : c.self.inside.tape.edges ≡ c.args.self.edges = ap (λ (g : glyphs.LargeGlyph). g.edges) c.self.view_is in
    let filled : c.self.inside.filled ≡ c.args.self.filled = ap (λ (g : glyphs.LargeGlyph). g.filled) c.self.view_is in
    (rw edges c.requires.boxed, rw filled c.requires.same)

pub pixels_of-requires-clause-closed : goal.pixels_of-requires-clause-closed
pixels_of-requires-clause-closed c =
    let edges : c.self.inside.tape.edges ≡ c.args.self.edges = ap (λ (g : glyphs.LargeGlyph). g.edges) c.self.view_is in
    rw edges c.requires.closed

pub pixels_of-requires-clause-ends : goal.pixels_of-requires-clause-ends
pixels_of-requires-clause-ends c = rw c.deref.ensures.value c.self.invariant.0.ends

pub pixels_of-requires-clause-round : goal.pixels_of-requires-clause-round
pixels_of-requires-clause-round c = rw c.deref.ensures.value c.self.invariant.0.closed

-- the bitmap would be too large
pub returns-in_default-clause-body : goal.returns-in_default-clause-body
returns-in_default-clause-body c =
    let i = c.self.inside in
    let g : glyphs.LargeGlyph = record { edges = c.pixels_of.new.tape.edges; ends = i.ends.items; filled = i.filled } in
    let edges : c.pixels_of.new.tape.edges ≡ i.tape.edges = c.in_ok-made.ensures.edges in
    rw (← c.self.view_is) (IfOk-weaker c.uncut-in_default.result _ _ (λ b is. rw edges at (uncut_body g (body_view b) is)) c.uncut-in_default.ensures.body)

pub returns-in_default-clause-cut : goal.returns-in_default-clause-cut
returns-in_default-clause-cut c =
    IfOk-weaker c.uncut-in_default.result _ _ (λ b is. rw is (omega arith)) c.uncut-in_default.ensures.body

pub returns-clause-body : goal.returns-clause-body
returns-clause-body c =
    let i = c.self.inside in
    let made = rw (c.in-Some.is, c.deref.ensures.value) at c.in_ok-made.ensures in
    let edges : i.tape.edges ≡ c.args.self.edges = ap (λ (g : glyphs.LargeGlyph). g.edges) c.self.view_is in
    let can = c.self.invariant.0 in
    let ink = shown_ink i.filled i.tape.edges i.ends.items (is_black c.in-Some.pixels.bitmap) c.in-Some.pixels.ink
    (rw edges c.requires.closed) can.boxed can.ends made.exact made.ink in
    rw (← c.self.view_is) (record { pixels = rw c.in_ok-new.ensures.ok made.exact; ink = rw c.in_ok-new.ensures.ok ink })

pub returns-clause-facts : goal.returns-clause-facts
returns-clause-facts c = rw c.in_ok-new.ensures.ok refl

pub returns-clause-cut : goal.returns-clause-cut
returns-clause-cut c = omega (arith, c.if-facts-limits.false)
