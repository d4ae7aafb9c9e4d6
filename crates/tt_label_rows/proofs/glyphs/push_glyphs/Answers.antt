use Rattle.std.proofs.Common.{◌≡◌, ◌∙◌, ℕ, ap, ◌+◌, ◌<◌, ◌≤◌, [], ◌∷◌, ◌++◌, append-nil, append_assoc, get_or, length, map, sym, take, refl, arith}
use Rattle.std.proofs.lemmas.List.{map_push, take_all, take_more}
use Rattle.tt_rows.specs.Breaks.{no_unit}
use Rattle.tt_rows.specs.declared.unit.RowUnit.{RowUnit}
use Rattle.tt_label_rows.proofs.glyphs.push_glyphs.Goals as goal

pub loop-unit-preserved : goal.loop-unit-preserved
loop-unit-preserved c =
    let at = c.loop-unit in
    let us = c.args.units.now in
    let i = at.unit-index in
    let f : RowUnit → ℕ × ℕ = λ u. (u.glyph, 0) in
    let below : i < length us = c.loop-unit-test.true in
    let u = get_or us i no_unit in
    let pushed : c.push.new.self.items ≡ at.made.items ++ f u ∷ [] = c.in_ok-push.ensures.items in
    let more : map f (take (i + 1) us) ≡ map f (take i us) ++ f u ∷ [] = ap (map f) (take_more us i no_unit below) ∙ map_push f (take i us) u in
    rw (pushed, at.invariant, more) (append_assoc c.args.made.now.items (map f (take i us)) (f u ∷ []))

pub returns : goal.returns
returns c =
    let us = c.args.units.now in
    let over : length us ≤ c.loop-unit.unit-index = omega (arith, c.loop-unit-test.false) in
    rw (take_all c.loop-unit.unit-index us over) at c.loop-unit.invariant
