use Rattle.std.proofs.Common.{◌≡◌, List, [], ◌∷◌, refl}
use Rattle.std.specs.List.{AllZip}
use Rattle.tt_points_zones.proofs.zones.Zones.copy.Goals as goal

-- copies of elements, one by one, are the same list
same_list : {X : Type 0} (R : X → X → Type 0) (xs ys : List X) → ((x y : X) → R x y → y ≡ x) → AllZip R xs ys → ys ≡ xs
same_list R [] [] same copied = refl
same_list R (x ∷ xs) (y ∷ ys) same copied = rw (same x y copied.0, same_list R xs ys same copied.1) refl
same_list R [] (y ∷ ys) same copied = absurd copied
same_list R (x ∷ xs) [] same copied = absurd copied

pub returns : goal.returns
returns c =
    let twilight = same_list _ c.args.self.now.twilight.items _ (λ x y same. same) c.in_ok-clone.ensures.cases.0 in
    let glyph = same_list _ c.args.self.now.glyph.items _ (λ x y same. same) c.in_ok-clone-2.ensures.cases.0 in
    let contours = same_list _ c.args.self.now.contours.items _ (λ x y same i. (same.0 i, same.1 i))
    c.in_ok-clone-3.ensures.cases.0 in
    rw (twilight, glyph, contours) refl

pub invariant_of-result-clause-twilight_points : goal.invariant_of-result-clause-twilight_points
invariant_of-result-clause-twilight_points c =
    let twilight = same_list _ c.args.self.now.twilight.items _ (λ x y same. same) c.in_ok-clone.ensures.cases.0 in
    rw twilight c.args.self.now.twilight_points

pub invariant_of-result-clause-glyph_points : goal.invariant_of-result-clause-glyph_points
invariant_of-result-clause-glyph_points c =
    let glyph = same_list _ c.args.self.now.glyph.items _ (λ x y same. same) c.in_ok-clone-2.ensures.cases.0 in
    rw glyph c.args.self.now.glyph_points

pub invariant_of-result-clause-ranges : goal.invariant_of-result-clause-ranges
invariant_of-result-clause-ranges c =
    let glyph = same_list _ c.args.self.now.glyph.items _ (λ x y same. same) c.in_ok-clone-2.ensures.cases.0 in
    let contours = same_list _ c.args.self.now.contours.items _ (λ x y same i. (same.0 i, same.1 i))
    c.in_ok-clone-3.ensures.cases.0 in
    rw (glyph, contours) c.args.self.now.ranges
