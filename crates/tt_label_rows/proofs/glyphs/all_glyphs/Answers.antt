use Rattle.std.proofs.Common.{◌≡◌, ◌∙◌, ℕ, ◌<◌, ◌≤◌, List, [], ◌∷◌, ◌++◌, Vec, Global, append-nil, ap, get_or, length, map, sym, take, refl, arith}
use Rattle.std.proofs.lemmas.Grind.{flat_map-append}
use Rattle.std.proofs.lemmas.List.{map-append, map_push, take_all, take_more}
use Rattle.std.proofs.lemmas.Simd.{map-map}
use Rattle.tt_rows.specs.declared.unit.RowUnit.{RowUnit}
use Rattle.tt_label_rows.specs.Units.{all_glyphs, unit_glyphs}
use Rattle.tt_label_rows.proofs.glyphs.all_glyphs.Goals as goal

abbrev at_zero : List ℕ → List (ℕ × ℕ)
at_zero gs = map (λ (g : ℕ). (g, 0)) gs

pub loop-line-preserved : goal.loop-line-preserved
loop-line-preserved c =
    let at = c.loop-line in
    let lines = c.args.lines.now in
    let i = at.line-index in
    let line = c.line-item.result in
    let its : Vec RowUnit Global → List RowUnit = λ v. v.items in
    let below : i < length lines = c.loop-line-test.true in
    let here : get_or lines i line ≡ line = sym c.line-item.is in
    let before = map its (take i lines) in
    let one : map (λ (u : RowUnit). (u.glyph, 0)) line.items ≡ at_zero (unit_glyphs line.items) =
    sym (map-map (λ (g : ℕ). (g, 0)) (λ (u : RowUnit). u.glyph) line.items) in
    rw (
      c.in_ok-push_glyphs.ensures,
      at.invariant,
      c.deref.ensures.value,
      one,
      take_more lines i line below,
      here,
      map_push its (take i lines) line,
      flat_map-append unit_glyphs before (line.items ∷ []),
    )
    (ap (λ (gs : List ℕ). at_zero (all_glyphs before) ++ at_zero gs) (sym (append-nil (unit_glyphs line.items)))
    ∙ sym (map-append (λ (g : ℕ). (g, 0)) (all_glyphs before) (unit_glyphs line.items ++ [])))

pub returns : goal.returns
returns c =
    let lines = c.args.lines.now in
    let over : length lines ≤ c.loop-line.line-index = omega (arith, c.loop-line-test.false) in
    rw (take_all c.loop-line.line-index lines over) at c.loop-line.invariant
