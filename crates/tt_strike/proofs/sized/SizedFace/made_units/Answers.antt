use Rattle.std.proofs.Common.{◌≡◌, ◌∙◌, ◌<◌, ◌≤◌, ap, sym, ℕ, get_or, length, map, refl, take, arith}
use Rattle.std.proofs.lemmas.List.{get_or-map, length-map, map_push, take_all, take_more}
use Rattle.tt_advances.specs.Found.{units_of}
use Rattle.tt_metrics.specs.Metrics.{glyphs_of}
use Rattle.tt_picture.specs.Glyphs.{Glyph, numbers_of}
use Rattle.tt_strike.proofs.sized.SizedFace.made_units.Goals as goal

pub units_of-requires : goal.units_of-requires
units_of-requires c =
    let made = c.args.made.now in
    let at = c.loop-glyph in
    let glyph = c.glyph-item.result in
    let below : at.glyph-index < length made = c.loop-glyph-test.true in
    let count = length-map made (λ (g : Glyph). g.number) in
    let here : get_or made at.glyph-index glyph ≡ glyph = sym c.glyph-item.is in
    let number : get_or (numbers_of made) at.glyph-index 0 ≡ glyph.number =
    get_or-map (λ (g : Glyph). g.number) made at.glyph-index glyph 0 below ∙ ap (λ (g : Glyph). g.number) here in
    rw (c.face-face.ensures, c.number.ensures, ← number) (c.requires at.glyph-index 0 (omega (arith, count, below)))

pub loop-glyph-preserved : goal.loop-glyph-preserved
loop-glyph-preserved c =
    let made = c.args.made.now in
    let at = c.loop-glyph in
    let glyph = c.glyph-item.result in
    let below : at.glyph-index < length made = c.loop-glyph-test.true in
    let here : get_or made at.glyph-index glyph ≡ glyph = sym c.glyph-item.is in
    let units = units_of c.args.self.now.face in
    rw (
      c.in_ok-push.ensures.items,
      at.invariant,
      c.in_ok-units_of.ensures,
      c.face-face.ensures,
      c.number.ensures,
      take_more made at.glyph-index glyph below,
      here,
      map_push (λ (g : Glyph). g.number) (take at.glyph-index made) glyph,
      map_push units (numbers_of (take at.glyph-index made)) glyph.number,
    ) refl

pub returns : goal.returns
returns c = λ other finds.
    let made = c.args.made.now in
    let over : length made ≤ c.loop-glyph.glyph-index = omega (arith, c.loop-glyph-test.false) in
    rw (take_all c.loop-glyph.glyph-index made over) at c.loop-glyph.invariant
