use Rattle.std.proofs.Common.{◌≡◌, ◌∙◌, refl, ap, ℕ, ◌+◌, ◌≤◌, List, length, map, sum, SFits, w32, of_z, to_z, arith}
use Rattle.std.proofs.lemmas.Int.{to_z-of_z}
use Rattle.std.proofs.lemmas.List.{length-map, with_items_is}
use Rattle.std.proofs.lemmas.List.Elements.{All-map, All-weaker}
use Rattle.std.specs.Vec.{with_items}
use Rattle.tt_line.specs.Labels.{indent, width_of}
use Rattle.tt_line.proofs.Pens.{at_pens, length-of_pairs, pens_by_steps}
use Rattle.tt_line.proofs.lines.lay_line.Goals.{After-stand}
use Rattle.tt_line.proofs.lines.lay_line.Goals as goal

-- the glyphs at their pens
glyphs_then : (c : After-stand) → (with_items c.args.steps c.stand.new.glyphs).items
    ≡ map (λ (g : ℕ × ℕ). (g.0, g.1 + c.indent-before.result)) (at_pens c.args.steps.items)
glyphs_then c =
    let f : ℕ × ℕ → ℕ × ℕ = λ g. (g.0, g.1 + c.indent-before.result) in
    let new : c.stand.new.glyphs ≡ map f (at_pens c.args.steps.items) =
    c.stand.ensures ∙ ap (λ (gs : List (ℕ × ℕ)). map f (at_pens gs)) c.deref_mut.ensures.value in
    let count : length c.stand.new.glyphs ≡ c.args.steps.len =
    ap length c.stand.ensures ∙ length-map (at_pens c.deref_mut.result.now) f ∙ length-of_pairs c.deref_mut.result.now ∙ c.deref_mut.ensures.len in
    with_items_is c.args.steps c.stand.new.glyphs count ∙ new

pub stand-requires : goal.stand-requires
stand-requires c =
    let all : c.sum_of_steps.result ≡ sum (map (λ (p : ℕ × ℕ). p.1) c.args.steps.items) =
    rw c.deref.ensures.value at c.sum_of_steps.ensures.exact in
    rw c.deref_mut.ensures.value (omega (arith, all, c.indent-before.ensures.within, c.requires.inner, c.requires.wide.1))

pub returns : goal.returns
returns c =
    let all : c.sum_of_steps.result ≡ width_of c.args.steps.items = rw c.deref.ensures.value at c.sum_of_steps.ensures.exact in
    let at : c.indent-before.result ≡ indent c.args.align c.args.inner (width_of c.args.steps.items) = rw all at c.indent-before.ensures.exact in
    let fits : SFits w32 c.args.rise = c.ranges.rise in
    let same : to_z w32 (of_z w32 c.args.rise) ≡ c.args.rise = simp to_z-of_z refl in
    rw (glyphs_then (goal.at.returns c).After-stand, same, at) refl

pub invariant_of-result-clause-pens : goal.invariant_of-result-clause-pens
invariant_of-result-clause-pens c =
    let gs = c.args.steps.items in
    let right = c.indent-before.result in
    let steps = map (λ (p : ℕ × ℕ). p.1) gs in
    let all : c.sum_of_steps.result ≡ sum steps = rw c.deref.ensures.value at c.sum_of_steps.ensures.exact in
    rw (glyphs_then (goal.at.invariant_of-result-clause-pens c).After-stand)
    (All-map (λ (g : ℕ × ℕ). g.1 ≤ c.args.extent.width) (λ (g : ℕ × ℕ). (g.0, g.1 + right)) (at_pens gs)
    (All-weaker (λ (p : ℕ × ℕ). p.1 ≤ sum steps) (λ (p : ℕ × ℕ). p.1 + right ≤ c.args.extent.width)
    (λ p low. omega (arith, low, all, c.indent-before.ensures.within, c.requires.inner)) (at_pens gs)
    (pens_by_steps (map (λ (p : ℕ × ℕ). p.0) gs) steps)))

pub invariant_of-result-clause-few : goal.invariant_of-result-clause-few
invariant_of-result-clause-few c =
    rw (
      glyphs_then (goal.at.invariant_of-result-clause-few c).After-stand,
      length-map {B = ℕ × ℕ} (at_pens c.args.steps.items) (λ (g : ℕ × ℕ). (g.0, g.1 + c.indent-before.result)),
      length-of_pairs c.args.steps.items,
    ) c.requires.few
