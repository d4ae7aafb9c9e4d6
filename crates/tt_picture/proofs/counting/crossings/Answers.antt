use Rattle.std.proofs.Common.{◌≡◌, ◌∙◌, ◌∷◌, [], ◌++◌, ◌-◌, ◌^◌, ◌<◌, ◌≤◌, get_or, length, refl, arith}
use Rattle.tt_core.specs.Outcomes.{each}
use Rattle.tt_picture.specs.Glyphs.{Glyph}
use Rattle.tt_picture.specs.Shapes.{glyph_shape}
use Rattle.tt_picture.proofs.Crossed.{all_crossed, one_shape_crosses}
use Rattle.tt_picture.proofs.Places.{one_more_made}
use Rattle.tt_picture.proofs.Standings.{drawn_at, drawn_is, number_is}
use Rattle.tt_picture.proofs.Turns.{none_before}
use Rattle.tt_picture.proofs.counting.crossings.Goals as goal

pub place_of-at-requires : goal.place_of-at-requires
place_of-at-requires c = c.requires c.loop-placed.placed-index (0, 0) c.loop-placed-test.true

pub loop-placed-init : goal.loop-placed-init
loop-placed-init c = λ maker drawn. ([], none_before (each (glyph_shape maker) c.args.line.now), refl)

pub loop-placed-preserved : goal.loop-placed-preserved
loop-placed-preserved c = λ maker drawn.
    let gs = c.args.glyphs.now.made.items in
    let line = c.args.line.now in
    let i = c.loop-placed.placed-index in
    let placed = get_or line i (0, 0) in
    let below : i < length line = c.loop-placed-test.true in
    let (done, made, sum) = c.loop-placed.invariant maker drawn in
    let at = c.place_of-at.result in
    let g : Glyph = c.index-glyph.result.now in
    let is : g ≡ get_or gs at g = c.index-glyph.ensures in
    let own = drawn_is maker gs at g drawn c.place_of-at.ensures.within is in
    let number : g.number ≡ placed.0 = number_is gs at g placed.0 c.place_of-at.ensures.within is c.place_of-at.ensures.number in
    let (shape, shaped, crosses) = drawn_at maker g placed own number in
    let counted : c.crossings.result ≡ g.crossings = c.crossings.ensures in (
      done ++ shape ∷ [],
      one_more_made (glyph_shape maker) line i (0, 0) done shape below shaped ∙ made,
      c.saturating_add-all.ensures ∙ one_shape_crosses done shape c.loop-placed.all c.crossings.result (2 ^ 64 - 1) sum
          (counted ∙ crosses),
    )

pub returns : goal.returns
returns c = λ maker shapes drawn made.
    let line = c.args.line.now in
    let over : length line ≤ c.loop-placed.placed-index = omega (arith, c.loop-placed-test.false) in
    let (done, so_far, sum) = c.loop-placed.invariant maker drawn in
    all_crossed (glyph_shape maker) line c.loop-placed.placed-index done shapes c.loop-placed.all (2 ^ 64 - 1) over so_far made sum
