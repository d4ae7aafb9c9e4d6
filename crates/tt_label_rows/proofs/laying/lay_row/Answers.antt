use Rattle.std.proofs.Common.{◌≡◌, ◌∙◌, refl, ap, ℕ, ◌+◌, ◌≤◌, List, length, map, sum, SFits, w32, of_z, to_z, arith}
use Rattle.std.proofs.lemmas.Int.{to_z-of_z}
use Rattle.std.proofs.lemmas.List.{length-map, with_items_is}
use Rattle.std.proofs.lemmas.List.Elements.{All-map, All-weaker}
use Rattle.std.specs.Vec.{with_items}
use Rattle.tt_line.specs.Labels.{width_of}
use Rattle.tt_line.proofs.Pens.{at_pens, length-of_pairs, pens_by_steps}
use Rattle.tt_label_rows.specs.Pictures.{start_of}
use Rattle.tt_label_rows.proofs.laying.lay_row.Goals.{After-stand}
use Rattle.tt_label_rows.proofs.laying.lay_row.Goals as goal

start_is : (c : After-stand) → c.start_of-start.result ≡ start_of c.args.picture (width_of c.args.row.items)
start_is c =
    let all : c.width_of.result ≡ width_of c.args.row.items = rw c.deref.ensures.value at c.width_of.ensures.exact in
    rw all at c.start_of-start.ensures

-- the glyphs at their pens
glyphs_then : (c : After-stand) → (with_items c.args.row c.stand.new.glyphs).items
    ≡ map (λ (g : ℕ × ℕ). (g.0, g.1 + c.start_of-start.result)) (at_pens c.args.row.items)
glyphs_then c =
    let f : ℕ × ℕ → ℕ × ℕ = λ g. (g.0, g.1 + c.start_of-start.result) in
    let new : c.stand.new.glyphs ≡ map f (at_pens c.args.row.items) =
    c.stand.ensures ∙ ap (λ (gs : List (ℕ × ℕ)). map f (at_pens gs)) c.deref_mut.ensures.value in
    let count : length c.stand.new.glyphs ≡ c.args.row.len =
    ap length c.stand.ensures ∙ length-map (at_pens c.deref_mut.result.now) f ∙ length-of_pairs c.deref_mut.result.now ∙ c.deref_mut.ensures.len in
    with_items_is c.args.row c.stand.new.glyphs count ∙ new

pub returns : goal.returns
returns c =
    let all = (goal.at.returns c).After-stand in
    let fits : SFits w32 c.args.rise = c.ranges.rise in
    let same : to_z w32 (of_z w32 c.args.rise) ≡ c.args.rise = simp to_z-of_z refl in
    rw (glyphs_then all, same, start_is all) refl

pub invariant_of-result-clause-pens : goal.invariant_of-result-clause-pens
invariant_of-result-clause-pens c =
    let after = (goal.at.invariant_of-result-clause-pens c).After-stand in
    let gs = c.args.row.items in
    let right = c.start_of-start.result in
    let steps = map (λ (p : ℕ × ℕ). p.1) gs in
    let at = start_is after in
    rw (glyphs_then after)
    (All-map (λ (g : ℕ × ℕ). g.1 ≤ c.args.picture.width) (λ (g : ℕ × ℕ). (g.0, g.1 + right)) (at_pens gs)
    (All-weaker (λ (p : ℕ × ℕ). p.1 ≤ sum steps) (λ (p : ℕ × ℕ). p.1 + right ≤ c.args.picture.width)
    (λ p low. omega (arith, low, at, c.requires.within)) (at_pens gs)
    (pens_by_steps (map (λ (p : ℕ × ℕ). p.0) gs) steps)))

pub invariant_of-result-clause-few : goal.invariant_of-result-clause-few
invariant_of-result-clause-few c =
    rw (
      glyphs_then (goal.at.invariant_of-result-clause-few c).After-stand,
      length-map {B = ℕ × ℕ} (at_pens c.args.row.items) (λ (g : ℕ × ℕ). (g.0, g.1 + c.start_of-start.result)),
      length-of_pairs c.args.row.items,
    ) c.requires.few
