-- The zones of a glyph, and the outline made of its points.
use Rattle.std.proofs.Common.{◌≡◌, ap, ℕ, ℤ, zero, suc, ◌+◌, ◌<◌, ◌≤◌, List, [], ◌∷◌, ◌++◌, length, take, get_or, set, All, Option, Some, None, IfSome, refl, arith, add-one, append_assoc, length-append}
use Rattle.std.specs.Prelude.{slice_index}
use Rattle.std.proofs.lemmas.List.{length-map}
use Rattle.std.proofs.lemmas.List.Elements.{All-push}
use Rattle.tt_exec.specs.zones.Zones.{IsPoint, AreContours, IsZones}
use Rattle.tt_state.specs.declared.point.Point.{Point}
use Rattle.tt_core.specs.Scales.{IsScale}
use Rattle.tt_core.specs.declared.scaling.Scale.{Scale}
use Rattle.tt_glyf.specs.declared.raw.RawPoint.{RawPoint}
use Rattle.tt_exec.specs.zones.declared.zones.Originals.{Originals}
use Rattle.tt_fit_hinting.specs.GlyphZone.{contours_from, glyph_zone}
use Rattle.tt_fit_hinting.specs.Parts.{originals_by}
use Rattle.tt_fit_outline.specs.Units.{Units, in_units, with_units}
use Rattle.tt_fit_outline.specs.Outline.{Outline, PhantomPoints, IsOutline}

-- ends that never fall, from a number that is at most each of them
contours-rise : (first n : ℕ) (ends : List ℕ)
    → ((i j : ℕ) → i ≤ j → j < length ends → slice_index ends i ≤ slice_index ends j)
    → ((i : ℕ) → i < length ends → first ≤ slice_index ends i) → ((i : ℕ) → slice_index ends i ≤ n) → first ≤ n
    → AreContours first (contours_from first ends) n
contours-rise first n [] rising above within low = low
contours-rise first n (end ∷ ends) rising above within low = (
  refl,
  above 0 (omega arith),
  contours-rise end n ends (λ i j le below. rising (suc i) (suc j) (omega (arith, le)) (omega (arith, below)))
      (λ i below. rising 0 (suc i) (omega arith) (omega (arith, below))) (λ i. within (suc i)) (within 0),
)

more-points : (first n m : ℕ) (cs : List (ℕ × ℕ)) → n ≤ m → AreContours first cs n → AreContours first cs m
more-points first n m [] le are = omega (arith, le, are)
more-points first n m (c ∷ cs) le are = (are.0, are.1, more-points c.1 n m cs le are.2)

in-units-length : (places : List RawPoint) (zone : List Point) → length (in_units places zone) ≡ length zone
in-units-length [] zone = refl
in-units-length (place ∷ places) [] = refl
in-units-length (place ∷ places) (p ∷ ps) = rw (in-units-length places ps) refl

-- one place more
one_place_more : (places : List RawPoint) (zone : List Point) (i : ℕ) (d : RawPoint) (e : Point)
    → i < length places → i < length zone → in_units (take (suc i) places) zone
    ≡ set (in_units (take i places) zone) i
    (with_units ((get_or places i d).x, (get_or places i d).y) (get_or (in_units (take i places) zone) i e))
one_place_more [] zone i d e below within = absurd (omega arith)
one_place_more (u ∷ us) [] i d e below within = absurd (omega arith)
one_place_more (u ∷ us) (p ∷ ps) zero d e below within = refl
one_place_more (u ∷ us) (p ∷ ps) (suc i) d e below within =
    let head = with_units (u.x, u.y) p in
    ap (λ qs. head ∷ qs) (one_place_more us ps i d e (omega arith) (omega arith))

pub one_put : (places : List RawPoint) (old now : List Point) (i : ℕ) (d : RawPoint) (p put : Point) (x y : ℤ)
    → i < length places → i < length old → now ≡ in_units (take i places) old → x ≡ (get_or places i d).x
    → y ≡ (get_or places i d).y → p ≡ get_or now i p → put ≡ with_units (x, y) p
    → set now i put ≡ in_units (take (i + 1) places) old
one_put places old now i d p put x y below within is of_x of_y here made =
    let more = one_place_more places old i d p below within in
    let there = rw is at here in
    rw (add-one, more, made, of_x, of_y, is, ← there) refl

-- places enough, or a point for none more
pub all_placed : (places : List RawPoint) (zone : List Point) (n : ℕ) → (n < length places → length zone ≤ n)
    → in_units (take n places) zone ≡ in_units places zone
all_placed [] zone zero few = refl
all_placed [] zone (suc n) few = refl
all_placed (u ∷ us) [] zero few = refl
all_placed (u ∷ us) [] (suc n) few = refl
all_placed (u ∷ us) (p ∷ ps) zero few = absurd (omega (arith, few (omega arith)))
all_placed (u ∷ us) (p ∷ ps) (suc n) few =
    let head = with_units (u.x, u.y) p in
    ap (λ qs. head ∷ qs) (all_placed us ps n (λ below. omega (arith, few (omega (arith, below)))))

pub four_pushed : (zs z1 z2 z3 z4 : List Point) (a b c d : Point) → z1 ≡ zs ++ a ∷ [] → z2 ≡ z1 ++ b ∷ []
    → z3 ≡ z2 ++ c ∷ [] → z4 ≡ z3 ++ d ∷ [] → z4 ≡ zs ++ a ∷ b ∷ c ∷ d ∷ []
four_pushed zs z1 z2 z3 z4 a b c d one two three four = rw (four, three, two, one) (simp append_assoc)

pub zone-length : (units : Option Units) (o : Outline) (grid : PhantomPoints)
    → length (glyph_zone units o grid) ≡ length o.points + 4
zone-length units o grid = rw (length-append, in-units-length, length-map) refl

pub contours-are : (units : Option Units) (o : Outline) (grid : PhantomPoints) → IsOutline o
    → AreContours 0 (contours_from 0 o.ends) (length (glyph_zone units o grid))
contours-are units o grid is =
    let ends = is.ends in
    let few = contours-rise 0 (length o.points) o.ends ends.rising (λ i below. omega arith) ends.within (omega arith) in
    more-points 0 (length o.points) (length (glyph_zone units o grid)) (contours_from 0 o.ends)
    (rw zone-length (omega arith)) few

-- one point more within the limit
pub one_more : (ps more : List Point) (p : Point) → more ≡ ps ++ p ∷ [] → All IsPoint ps → IsPoint p → All IsPoint more
one_more ps more p is all one = rw is (All-push IsPoint ps p all one)

scale-is : (s : Scale) (units : Option Units) → IsScale s → IfSome (originals_by s units).units IsScale
scale-is s None is = tt
scale-is s (Some u) is = is

-- the zones of a glyph
pub zones-are : (twilight glyph : List Point) (contours : List (ℕ × ℕ)) (originals : Originals) (s : Scale)
    (units : Option Units) (o : Outline) (grid : PhantomPoints) → All IsPoint twilight → glyph ≡ glyph_zone units o grid
    → All IsPoint glyph → contours ≡ contours_from 0 o.ends → originals ≡ originals_by s units → IsScale s → IsOutline o
    → IsZones (record { twilight = twilight; glyph = glyph; contours = contours; originals = originals })
zones-are twilight glyph contours originals s units o grid all zone sound ranges by scale is = record {
  twilight = all;
  glyph = sound;
  contours = rw (ranges, zone) (contours-are units o grid is);
  scale = rw by (scale-is s units scale);
}
