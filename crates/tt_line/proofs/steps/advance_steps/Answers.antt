use Rattle.std.proofs.Common.{◌≡◌, ◌∙◌, ℕ, ap, chars, length, map, sym, arith}
use Rattle.std.proofs.lemmas.List.{length-map, with_items_is}
use Rattle.tt_cmap.specs.Maps.{glyph_of_unit, has_pairs, units_by}
use Rattle.tt_cmap.proofs.UnitLaws.{units-are-few}
use Rattle.tt_metrics.specs.Metrics.{glyphs_of}
use Rattle.tt_line.specs.Known.{Source}
use Rattle.tt_line.specs.Layout.{advance_in_pixels, text_glyphs}
use Rattle.tt_line.specs.Steps.{step_in_pixels}
use Rattle.tt_line.proofs.Stepped.{firsts, known_alike, length-stepped, no_tables, numbers_beside, unkerned_line}
use Rattle.tt_line.proofs.steps.advance_steps.Goals.{then-has_kerning, else-has_kerning}
use Rattle.tt_line.proofs.steps.advance_steps.Goals as goal

pub returns-clause-exact : goal.returns-clause-exact
returns-clause-exact c = elim c.if-has_kerning.branch [
  | then-has_kerning w ↦
      let items = w.deref_mut.ensures.value in
      let made = c.in_ok-line.ensures.exact in
      let metrics : c.metrics-metrics.result.now ≡ c.args.known.now.metrics = c.metrics-metrics.ensures ∙ ap (λ (s : Source). s.metrics) c.in_ok-line.ensures.same in
      let size : w.ppem.result ≡ c.args.known.now.ppem = w.ppem.ensures.exact ∙ ap (λ (s : Source). s.ppem) c.in_ok-line.ensures.same in
      let new = rw (items, made, metrics, size, numbers_beside (advance_in_pixels c.args.known.now.metrics c.args.known.now.ppem) (text_glyphs c.args.known.now.cmap c.args.text.now)) at w.kern.ensures in
      let count : length w.kern.new.line ≡ c.in_ok-line.line.len =
      ap length w.kern.ensures
      ∙ length-stepped c.metrics-metrics.result.now (step_in_pixels c.metrics-metrics.result.now w.ppem.result) (map (λ (p : ℕ × ℕ). p.0) w.deref_mut.result.now)
      ∙ length-map w.deref_mut.result.now (λ (p : ℕ × ℕ). p.0) ∙ w.deref_mut.ensures.len in
      rw w.line-is (with_items_is c.in_ok-line.line w.kern.new.line count ∙ new)
  | else-has_kerning w ↦
      let metrics : c.metrics-metrics.result.now ≡ c.args.known.now.metrics = c.metrics-metrics.ensures ∙ ap (λ (s : Source). s.metrics) c.in_ok-line.ensures.same in
      let none = no_tables c.args.known.now.metrics.kerning (rw metrics at w.if-has_kerning.ensures) in
      rw (w.line-is, c.in_ok-line.ensures.exact) (sym (unkerned_line c.args.known.now.metrics c.args.known.now.ppem (text_glyphs c.args.known.now.cmap c.args.text.now) none))
]

pub returns-clause-glyphs : goal.returns-clause-glyphs
returns-clause-glyphs c =
    rw (returns-clause-exact c) (firsts c.args.known.now.metrics (step_in_pixels c.args.known.now.metrics c.args.known.now.ppem) (text_glyphs c.args.known.now.cmap c.args.text.now))

pub returns-clause-few : goal.returns-clause-few
returns-clause-few c =
    let m = c.args.known.now.cmap in
    let us = units_by m (chars c.args.text.now) in
    let glyphs = text_glyphs m c.args.text.now in
    let many = ap length (returns-clause-exact c) ∙ length-stepped c.args.known.now.metrics (step_in_pixels c.args.known.now.metrics c.args.known.now.ppem) glyphs ∙ length-map us (glyph_of_unit m) in
    let few = units-are-few (has_pairs m) (chars c.args.text.now) in
    rw many (omega (arith, few, c.requires.text))

pub returns-clause-known : goal.returns-clause-known
returns-clause-known c =
    let m = c.args.known.now.metrics in
    let gs = text_glyphs c.args.known.now.cmap c.args.text.now in
    let before : map (λ (p : ℕ × ℕ). p.0) c.in_ok-line.line.items ≡ gs = c.in_ok-line.ensures.glyphs in
    let after = returns-clause-glyphs c in
    known_alike (glyphs_of m) c.in_ok-line.line.items c.if-has_kerning.line.items (before ∙ sym after) c.in_ok-line.ensures.known
