use Rattle.std.proofs.Common.{◌≡◌, ◌∙◌, ap, ℕ, ◌+◌, ◌<◌, ◌≤◌, ◌^◌, List, sym, drop, get_or, length, map, SFits, w32, of_z, to_z, refl, arith, rules}
use Rattle.std.proofs.lemmas.Int.{to_z-of_z}
use Rattle.std.proofs.lemmas.List.{drop-drop, drop-set-lt, drop_more, get_or-map, length-map, length-set}
use Rattle.tt_line.specs.Steps.{kerning_before, step_by_units}
use Rattle.tt_line.proofs.Kerned.{at_end, at_start, numbers, one_kerned, step_here}
use Rattle.tt_line.proofs.steps.put_unit_steps.Goals.{After-kerning_at-kerning}
use Rattle.tt_line.proofs.steps.put_unit_steps.Goals as goal

-- the first of the others
first_left : (xs ys : List (ℕ × ℕ)) (i : ℕ) → drop i xs ≡ drop i ys → i < length xs → i < length ys
    → get_or xs i (0, 0) ≡ get_or ys i (0, 0)
first_left xs ys i rest under below =
    let head : List (ℕ × ℕ) → ℕ × ℕ = λ zs. get_or zs 0 (0, 0) in
    sym (ap head (drop_more xs i (0, 0) under)) ∙ ap head rest ∙ ap head (drop_more ys i (0, 0) below)

-- and those after it
later_left : (xs ys : List (ℕ × ℕ)) (i : ℕ) → drop i xs ≡ drop i ys → drop (i + 1) xs ≡ drop (i + 1) ys
later_left xs ys i rest = sym (drop-drop 1 i xs) ∙ ap (λ (zs : List (ℕ × ℕ)). drop 1 zs) rest ∙ drop-drop 1 i ys

-- the advance of a glyph stands beside the glyph
beside : (units : ℕ → ℕ) (ps : List (ℕ × ℕ)) (i : ℕ) → ps ≡ map (λ g. (g, units g)) (numbers ps) → i < length ps
    → (get_or ps i (0, 0)).1 ≡ units (get_or ps i (0, 0)).0
beside units ps i are within =
    let both : ℕ → ℕ × ℕ = λ g. (g, units g) in
    let count = length-map ps (λ (p : ℕ × ℕ). p.0) in
    let number : get_or (numbers ps) i 0 ≡ (get_or ps i (0, 0)).0 = get_or-map (λ (p : ℕ × ℕ). p.0) ps i (0, 0) 0 within in
    let there = ap (λ (qs : List (ℕ × ℕ)). get_or qs i (0, 0)) are ∙ get_or-map both (numbers ps) i 0 (0, 0) (omega (arith, count, within)) in
    ap (λ (p : ℕ × ℕ). p.1) there ∙ ap units number

pub loop-i-init : goal.loop-i-init
loop-i-init c = record {
  count = refl;
  rest = refl;
  steps = λ units are. sym (at_start c.args.metrics.now (step_by_units c.args.metrics.now c.args.ppem units) c.args.line.now);
}

read_is : (c : After-kerning_at-kerning) → get_or c.loop-i.line c.loop-i.i (0, 0) ≡ get_or c.args.line.now c.loop-i.i (0, 0)
read_is c =
    let below : c.loop-i.i < length c.args.line.now = omega (arith, c.loop-i-test.true) in
    let many = c.loop-i.invariant.count in
    first_left c.loop-i.line c.args.line.now c.loop-i.i c.loop-i.invariant.rest (omega (arith, below, many)) below

pub overflow_cast-units : goal.overflow_cast-units
overflow_cast-units c =
    let below : c.loop-i.i < length c.args.line.now = omega (arith, c.loop-i-test.true) in
    let small : (get_or c.args.line.now c.loop-i.i (0, 0)).1 < 2 ^ 16 = c.requires.units c.loop-i.i (0, 0) below in
    rw (read_is (goal.at.overflow_cast-units c).After-kerning_at-kerning) (omega (arith, small))

pub loop-i-preserved : goal.loop-i-preserved
unfolding step_here
loop-i-preserved c =
    let ps = c.args.line.now in
    let i = c.loop-i.i in
    let m = c.args.metrics.now in
    let line = c.loop-i.line in
    let within : i < length ps = omega (arith, c.loop-i-test.true) in
    let many = c.loop-i.invariant.count in
    let under : i < length line = omega (arith, within, many) in
    let read : get_or line i (0, 0) ≡ get_or ps i (0, 0) = read_is (goal.at.loop-i-preserved c).After-kerning_at-kerning in
    let after : drop (i + 1) line ≡ drop (i + 1) ps = later_left line ps i c.loop-i.invariant.rest in
    let kerning : c.kerning_at-kerning.result ≡ kerning_before m (get_or ps i (0, 0)).0 (map (λ (p : ℕ × ℕ). p.0) (drop (i + 1) ps))
    = rw (read, after) at c.kerning_at-kerning.ensures.exact in
    let fits : SFits w32 c.kerning_at-kerning.result = search rules in
    let same : to_z w32 (of_z w32 c.kerning_at-kerning.result) ≡ c.kerning_at-kerning.result = simp to_z-of_z refl in
    record {
      count = length-set line i _ ∙ many;
      rest = drop-set-lt (i + 1) line i _ (omega arith) ∙ after;
      steps = λ units are.
          let f = step_by_units m c.args.ppem units in
          let own : (get_or ps i (0, 0)).1 ≡ units (get_or ps i (0, 0)).0 = beside units ps i are within in
          let step : c.step_of_units.result ≡ step_here m f i ps = rw (same, read, own, kerning) at c.step_of_units.ensures.exact in
          rw (read, step, c.loop-i.invariant.steps units are) (one_kerned m f i ps within);
    }

pub returns : goal.returns
returns c = λ units are.
    let ps = c.args.line.now in
    let over : length ps ≤ c.loop-i.i = omega (arith, c.loop-i-test.false, c.loop-i.invariant.count) in
    c.loop-i.invariant.steps units are ∙ at_end c.args.metrics.now (step_by_units c.args.metrics.now c.args.ppem units) c.loop-i.i ps over
