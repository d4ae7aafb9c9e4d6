use Rattle.std.proofs.Common.{◌≡◌, ◌∙◌, refl, ap, ℕ, ◌≤◌, length, map, sum, SFits, w32, of_z, to_z, arith, rules}
use Rattle.std.proofs.lemmas.List.{with_items_is}
use Rattle.std.proofs.lemmas.Int.{ints, to_z-of_z}
use Rattle.std.proofs.lemmas.List.Elements.{All-weaker}
use Rattle.std.specs.Vec.{with_items}
use Rattle.tt_line.proofs.Pens.{at_pens, glyphs_by_steps, length-of_pairs, pens_by_steps}
use Rattle.tt_line.proofs.steps.line_of.Goals.{After-place}
use Rattle.tt_line.proofs.steps.line_of.Goals as goal

-- the glyphs at their pens
glyphs_then : (c : After-place) → (with_items c.args.steps c.place.new.glyphs).items ≡ at_pens c.args.steps.items
glyphs_then c =
    let new : c.place.new.glyphs ≡ at_pens c.args.steps.items = c.place.ensures ∙ ap at_pens c.deref_mut.ensures.value in
    let count : length c.place.new.glyphs ≡ c.args.steps.len =
    ap length c.place.ensures ∙ length-of_pairs c.deref_mut.result.now ∙ c.deref_mut.ensures.len in
    with_items_is c.args.steps c.place.new.glyphs count ∙ new

pub returns-clause-exact : goal.returns-clause-exact
returns-clause-exact c =
    rw (glyphs_then (goal.at.returns-clause-exact c).After-place) (search rules)

pub returns-clause-glyphs : goal.returns-clause-glyphs
returns-clause-glyphs c =
    let gs = c.args.steps.items in
    rw (glyphs_then (goal.at.returns-clause-glyphs c).After-place)
    (glyphs_by_steps (map (λ (p : ℕ × ℕ). p.0) gs) (map (λ (p : ℕ × ℕ). p.1) gs))

pub invariant_of-result-clause-pens : goal.invariant_of-result-clause-pens
invariant_of-result-clause-pens c =
    let gs = c.args.steps.items in
    let steps = map (λ (p : ℕ × ℕ). p.1) gs in
    rw (glyphs_then (goal.at.invariant_of-result-clause-pens c).After-place)
    (All-weaker (λ (p : ℕ × ℕ). p.1 ≤ sum steps) (λ (p : ℕ × ℕ). p.1 ≤ c.args.extent.width)
    (λ p low. omega (arith, low, c.requires.width)) (at_pens gs) (pens_by_steps (map (λ (p : ℕ × ℕ). p.0) gs) steps))

pub invariant_of-result-clause-few : goal.invariant_of-result-clause-few
invariant_of-result-clause-few c =
    rw (glyphs_then (goal.at.invariant_of-result-clause-few c).After-place, length-of_pairs c.args.steps.items) c.requires.few

pub invariant_of-result-clause-risen : goal.invariant_of-result-clause-risen
invariant_of-result-clause-risen c =
    let bound = c.requires.rise in
    let fits : SFits w32 c.args.rise = omega (arith, ints, bound) in
    -- by an equation of its own: once unsigned_abs is unfolded, simp finds neither to_z nor of_z
    let same : to_z w32 (of_z w32 c.args.rise) ≡ c.args.rise = simp to_z-of_z refl in
    rw same (omega (arith, bound))
