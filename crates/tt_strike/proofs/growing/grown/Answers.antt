use Rattle.std.proofs.Common.{◌≡◌, ◌∙◌, refl, ap, ℕ, ◌+◌, ◌≤◌, length, map, nat_lt, false, pos, ℤ, ◌+ℤ◌, SFits, w32, to_z, of_z, Some, Ok, arith, rules}
use Rattle.std.specs.Prelude.{All, unsigned_abs}
use Rattle.std.proofs.lemmas.Bool.Decides.{nat_tests}
use Rattle.std.proofs.lemmas.Int.{ints, to_z-of_z, to_z_pos}
use Rattle.std.proofs.lemmas.List.{length-map, with_items_is}
use Rattle.std.proofs.lemmas.List.Elements.{All-map}
use Rattle.std.specs.Vec.{with_items}
use Rattle.tt_core.specs.Limits.{height_limit, width_limit}
use Rattle.tt_line.specs.Layout.{Placement}
use Rattle.tt_line.specs.Outcome.{placement_of}
use Rattle.tt_strike.specs.Grown.{grown, lacking, not_large, with_sides}
use Rattle.tt_picture.specs.declared.ink_box.InkBox.{InkBox}
use Rattle.tt_strike.proofs.growing.grown.Goals.{After-move_pens}
use Rattle.tt_strike.proofs.growing.grown.Goals as goal

-- a line that is not too large
grown_is : (line : Placement) (b : InkBox) (w h : ℕ)
    → w ≡ line.width + (lacking line.width line.height b).left + (lacking line.width line.height b).right → w ≤ width_limit
    → h ≡ line.height + (lacking line.width line.height b).top + (lacking line.width line.height b).bottom → h ≤ height_limit
    → grown line (Some b) ≡ Ok (record (with_sides line (lacking line.width line.height b)) { width = w; height = h })
unfolding not_large
grown_is line b w h wide narrow high low =
    let across : nat_lt width_limit w ≡ false = grind (arith, nat_tests) in
    let up : nat_lt height_limit h ≡ false = grind (arith, nat_tests) in
    rw (← wide, ← high, across, up) refl

-- the pens of the line, moved
glyphs_then : (c : After-move_pens) → (with_items c.args.line.glyphs c.move_pens.new.glyphs).items
    ≡ map (λ (g : ℕ × ℕ). (g.0, g.1 + c.lacking-sides.result.left)) c.args.line.glyphs.items
glyphs_then c =
    let f : ℕ × ℕ → ℕ × ℕ = λ g. (g.0, g.1 + c.lacking-sides.result.left) in
    let new : c.move_pens.new.glyphs ≡ map f c.args.line.glyphs.items = c.move_pens.ensures ∙ ap (map f) c.deref_mut.ensures.value in
    let count : length c.move_pens.new.glyphs ≡ c.args.line.glyphs.len =
    ap length c.move_pens.ensures ∙ length-map c.deref_mut.result.now f ∙ c.deref_mut.ensures.len in
    with_items_is c.args.line.glyphs c.move_pens.new.glyphs count ∙ new

pub returns : goal.returns
returns c =
    let line = placement_of c.args.line in
    let b = c.in-Some.ink in
    let sides : c.lacking-sides.result ≡ lacking line.width line.height b = c.lacking-sides.ensures in
    let wide = rw sides at c.in_ok-width.ensures.exact in
    let high = rw sides at c.in_ok-height.ensures.exact in
    let glyphs = glyphs_then (goal.at.returns c).After-move_pens in
    let old : SFits w32 c.args.line.rise = search rules in
    let few : c.lacking-sides.result.top ≤ height_limit = omega (arith, c.in_ok-height.ensures.exact, c.in_ok-height.ensures.within) in
    let top : to_z w32 c.lacking-sides.result.top ≡ pos c.lacking-sides.result.top = to_z_pos w32 c.lacking-sides.result.top (omega arith) in
    let risen = c.args.line.risen in
    let rows = c.args.line.high.1 in
    let fits : SFits w32 (c.args.line.rise +ℤ pos c.lacking-sides.result.top) = omega (arith, ints, risen, rows) in
    rw (c.in-Some.is, glyphs, top) (simp to_z-of_z (rw sides
    (grown_is line b c.in_ok-width.width c.in_ok-height.height wide c.in_ok-width.ensures.within high c.in_ok-height.ensures.within)))

pub invariant_of-result-clause-pens : goal.invariant_of-result-clause-pens
invariant_of-result-clause-pens c =
    let gs = c.args.line.glyphs.items in
    let left = c.lacking-sides.result.left in
    let low : All (λ (g : ℕ × ℕ). g.1 + left ≤ c.in_ok-width.width) gs = λ k d below.
    omega (arith, c.args.line.pens k d below, c.in_ok-width.ensures.exact) in
    rw (glyphs_then (goal.at.invariant_of-result-clause-pens c).After-move_pens)
    (All-map (λ (g : ℕ × ℕ). g.1 ≤ c.in_ok-width.width) (λ (g : ℕ × ℕ). (g.0, g.1 + left)) gs low)

pub invariant_of-result-clause-few : goal.invariant_of-result-clause-few
invariant_of-result-clause-few c =
    rw (
      glyphs_then (goal.at.invariant_of-result-clause-few c).After-move_pens,
      length-map {B = ℕ × ℕ} c.args.line.glyphs.items (λ (g : ℕ × ℕ). (g.0, g.1 + c.lacking-sides.result.left)),
    ) c.args.line.few

risen_more : (r : ℤ) (t h k : ℕ) → unsigned_abs r ≤ 614400 + h → h + t ≤ k → unsigned_abs (r +ℤ pos t) ≤ 614400 + k
risen_more r t h k was more = grind (arith, ints)

-- the base line stays within the rows as the rows at the top count in both
pub invariant_of-result-clause-risen : goal.invariant_of-result-clause-risen
invariant_of-result-clause-risen c =
    let old : SFits w32 c.args.line.rise = search rules in
    let high = c.args.line.high in
    let risen = c.args.line.risen in
    let few : c.lacking-sides.result.top ≤ height_limit = omega (arith, c.in_ok-height.ensures.exact, c.in_ok-height.ensures.within) in
    let top : to_z w32 c.lacking-sides.result.top ≡ pos c.lacking-sides.result.top = to_z_pos w32 c.lacking-sides.result.top (omega arith) in
    let fits : SFits w32 (c.args.line.rise +ℤ pos c.lacking-sides.result.top) = omega (arith, ints, risen, high.1) in
    -- by an equation of its own: once unsigned_abs is unfolded, simp finds neither to_z nor of_z
    let new : to_z w32 (of_z w32 (to_z w32 (of_z w32 c.args.line.rise) +ℤ to_z w32 c.lacking-sides.result.top))
    ≡ c.args.line.rise +ℤ pos c.lacking-sides.result.top = rw top (simp to_z-of_z refl) in
    rw new (risen_more c.args.line.rise c.lacking-sides.result.top c.args.line.height c.in_ok-height.height risen
    (omega (arith, c.in_ok-height.ensures.exact)))
