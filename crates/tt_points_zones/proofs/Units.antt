-- Along an axis a distance of original places is that of their coordinates on it.
use Rattle.std.proofs.Common.{◌≡◌, ◌∙◌, ap, sym, ◌≤◌, inl, inr, ℤ, neg_ℤ, ◌-ℤ◌, unsigned_abs, arith}
use Rattle.std.proofs.lemmas.Int.{ints}
use Rattle.tt_core.specs.Scales.{IsScale, scaled_by, ScalesAreOdd, ScalesKeepDifferences}
use Rattle.tt_core.specs.declared.scaling.Scale.{Scale}
use Rattle.tt_state.specs.Axes.{pair_of}
use Rattle.tt_state.specs.Laws.{OnX, OnY}
use Rattle.tt_state.specs.Vectors.{project}
use Rattle.tt_state.specs.declared.point.Point.{Point}
use Rattle.tt_state.specs.declared.vector.Vector.{Vector}
use Rattle.tt_state.specs.declared.vector.Vector.TheVariants as vector
use Rattle.tt_points_zones.specs.Originals.{units_distance, DualOnAxis, DistancesTurnRound, DistancesAreNear}
use Rattle.tt_points_zones.specs.declared.motion.Motion.{Motion}

along_x : ((x y d : ℤ) → OnX x y d) → (v : Vector) (x y : ℤ) → v ≡ vector.X → project (pair_of v) x y ≡ x
along_x on_x v x y e = ap (λ (u : Vector). project (pair_of u) x y) e ∙ (on_x x y x).projected

along_y : ((x y d : ℤ) → OnY x y d) → (v : Vector) (x y : ℤ) → v ≡ vector.Y → project (pair_of v) x y ≡ y
along_y on_y v x y e = ap (λ (u : Vector). project (pair_of u) x y) e ∙ (on_y x y y).projected

turned : (a b : ℤ) → a -ℤ b ≡ neg_ℤ (b -ℤ a)
turned a b = omega (arith, ints)

units_turn : ((x y d : ℤ) → OnX x y d) → ((x y d : ℤ) → OnY x y d) → (m : Motion) (p q : Point) → DualOnAxis m
    → units_distance m q p ≡ neg_ℤ (units_distance m p q)
units_turn on_x on_y m p q (inl e) =
    let back = along_x on_x m.dual (p.units_x -ℤ q.units_x) (p.units_y -ℤ q.units_y) e in
    let there = along_x on_x m.dual (q.units_x -ℤ p.units_x) (q.units_y -ℤ p.units_y) e in
    back ∙ (turned p.units_x q.units_x ∙ ap neg_ℤ (sym there))
units_turn on_x on_y m p q (inr e) =
    let back = along_y on_y m.dual (p.units_x -ℤ q.units_x) (p.units_y -ℤ q.units_y) e in
    let there = along_y on_y m.dual (q.units_x -ℤ p.units_x) (q.units_y -ℤ p.units_y) e in
    back ∙ (turned p.units_y q.units_y ∙ ap neg_ℤ (sym there))

pub turn_round : ScalesAreOdd → ((x y d : ℤ) → OnX x y d) → ((x y d : ℤ) → OnY x y d) → DistancesTurnRound
turn_round odd on_x on_y s m p q is away axis =
    ap (scaled_by s) (units_turn on_x on_y m p q axis) ∙ odd s (units_distance m p q) is away

-- a measure of one coordinate
near_on : ScalesKeepDifferences → (s : Scale) (from to org_from org_to in_units in_pixels : ℤ) → IsScale s
    → org_from ≡ scaled_by s from → org_to ≡ scaled_by s to → in_units ≡ to -ℤ from → in_pixels ≡ org_to -ℤ org_from
    → unsigned_abs (scaled_by s in_units -ℤ in_pixels) ≤ 1
near_on differences s from to org_from org_to in_units in_pixels is at_from at_to units pixels =
    rw (units, pixels, at_from, at_to) (differences s to from is)

pub are_near : ScalesKeepDifferences → ((x y d : ℤ) → OnX x y d) → ((x y d : ℤ) → OnY x y d) → DistancesAreNear
are_near differences on_x on_y s m p q is (inl e) at_p at_q =
    near_on differences s p.units_x q.units_x p.org_x q.org_x _ _ is at_p.x at_q.x (along_x on_x m.dual _ _ e)
    (along_x on_x m.dual _ _ e)
are_near differences on_x on_y s m p q is (inr e) at_p at_q =
    near_on differences s p.units_y q.units_y p.org_y q.org_y _ _ is at_p.y at_q.y (along_y on_y m.dual _ _ e)
    (along_y on_y m.dual _ _ e)
