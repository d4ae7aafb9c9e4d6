use Rattle.std.proofs.Common.{◌≡◌, ◌<◌, ◌∙◌, ◌⊎◌, inl, inr, ap, ℕ, IsUtf8, List, [], ◌∷◌, ◌++◌, chars, length, map, refl, sym, Result, Ok, Err, IfErr, arith}
use Rattle.std.proofs.lemmas.List.{length-map, map_push}
use Rattle.std.proofs.lemmas.List.Elements.{All-push}
use Rattle.std.proofs.lemmas.Str.{encodes-chars}
use Rattle.tt_cmap.specs.Maps.{glyph_of_unit, has_pairs, units_by}
use Rattle.tt_cmap.proofs.UnitLaws.{units-are-few}
use Rattle.tt_metrics.specs.Metrics.{glyphs_of}
use Rattle.tt_line.specs.Layout.{advance_in_pixels, text_glyphs}
use Rattle.tt_line.proofs.Stepped.{numbers_beside}
use Rattle.tt_line.proofs.Walks.{at-the-end, goes-on, some-left}
use Rattle.tt_line.proofs.steps.unit_advances.Goals as goal

pub loop-unit-preserved : goal.loop-unit-preserved
loop-unit-preserved c =
    let g = glyph_of_unit c.args.known.now.cmap in
    let f : ℕ → ℕ × ℕ = λ n. (n, advance_in_pixels c.args.known.now.metrics c.args.known.now.ppem n) in
    let was = c.loop-unit.invariant.same in
    let items : c.push.new.self.items ≡ c.loop-unit.glyphs.items ++ (c.step-step.result.glyph, c.step-step.result.advance) ∷ [] = c.in_ok-push.ensures.items in
    let glyph : c.step-step.result.glyph ≡ g c.in-Some.unit = rw was at c.step-step.ensures.glyph in
    let within : c.step-step.result.glyph < glyphs_of c.args.known.now.metrics = rw was at c.step-step.ensures.known in
    let advance : c.step-step.result.advance ≡ advance_in_pixels c.args.known.now.metrics c.args.known.now.ppem c.step-step.result.glyph = rw was at c.step-step.ensures.advance in
    let us = units_by c.args.known.now.cmap (chars c.args.text.now) in
    record {
      split = goes-on c.loop-unit.yielded c.loop-unit.unit-iterator _ us c.in-Some.unit c.in-Some.ensures.steps c.loop-unit.invariant.split;
      same = c.step-step.ensures.same ∙ was;
      steps = rw (items, advance, glyph, c.loop-unit.invariant.steps, map_push g c.loop-unit.yielded c.in-Some.unit, map_push f (map g c.loop-unit.yielded) (g c.in-Some.unit)) refl;
      known = rw items (All-push (λ (p : ℕ × ℕ). p.0 < glyphs_of c.args.known.now.metrics) c.loop-unit.glyphs.items (c.step-step.result.glyph, c.step-step.result.advance) c.loop-unit.invariant.known within);
    }

pub returns-clause-exact : goal.returns-clause-exact
returns-clause-exact c =
    let us = units_by c.args.known.now.cmap (chars c.args.text.now) in
    let all = at-the-end c.loop-unit.yielded c.loop-unit.unit-iterator us c.in-None.ensures.steps.0 c.loop-unit.invariant.split in
    rw (← all) c.loop-unit.invariant.steps

some_characters : {X E : Type 0} (r : Result X E) (n : ℕ) → 0 < n → IfErr r (λ e. 0 < n)
some_characters (Ok x) n some = tt
some_characters (Err e) n some = some

pub returns-in_err-push-clause-memory : goal.returns-in_err-push-clause-memory
returns-in_err-push-clause-memory c =
    let m = c.args.known.now.cmap in
    let us = units_by m (chars c.args.text.now) in
    let left : length c.loop-unit.yielded < length us =
    some-left c.loop-unit.yielded c.loop-unit.unit-iterator _ us c.in-Some.unit c.in-Some.ensures.steps c.loop-unit.invariant.split in
    let few = units-are-few (has_pairs m) (chars c.args.text.now) in
    some_characters c.from_residual-in_err-push.result (length (chars c.args.text.now)) (omega (arith, left, few))

some_or_none : (cs : List ℕ) → (0 < length cs) ⊎ (cs ≡ [])
some_or_none [] = inr refl
some_or_none (c ∷ cs) = inl (omega arith)

-- a text of some bytes has a character
some_in_text : (t : List ℕ) → IsUtf8 t → 0 < length t → 0 < length (chars t)
some_in_text t is some = elim (some_or_none (chars t)) [
  | inl it ↦ it
  | inr none ↦ let empty : [] ≡ t = rw none at (encodes-chars t is) in let bad : 0 < length {A = ℕ} [] = rw (sym empty) at some in absurd (omega (arith, bad))
]

pub returns-in_err-reserve-clause-memory : goal.returns-in_err-reserve-clause-memory
returns-in_err-reserve-clause-memory c =
    let t = c.args.text.now in
    let bytes : 0 < length t = omega (arith, c.in_err-reserve.ensures.full) in
    some_characters c.from_residual.result (length (chars t))
    (some_in_text t c.utf8.text bytes)

pub returns-clause-glyphs : goal.returns-clause-glyphs
returns-clause-glyphs c =
    rw (returns-clause-exact c) (numbers_beside (advance_in_pixels c.args.known.now.metrics c.args.known.now.ppem) (text_glyphs c.args.known.now.cmap c.args.text.now))

pub returns-clause-few : goal.returns-clause-few
returns-clause-few c =
    let m = c.args.known.now.cmap in
    let us = units_by m (chars c.args.text.now) in
    let glyphs = text_glyphs m c.args.text.now in
    let f : ℕ → ℕ × ℕ = λ n. (n, advance_in_pixels c.args.known.now.metrics c.args.known.now.ppem n) in
    let many = ap length (returns-clause-exact c) ∙ length-map glyphs f ∙ length-map us (glyph_of_unit m) in
    let few = units-are-few (has_pairs m) (chars c.args.text.now) in
    rw many (omega (arith, few, c.requires.text))
