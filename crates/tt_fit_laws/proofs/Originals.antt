-- The unit of a simple glyph program's originals.
use Rattle.std.proofs.Common.{◌≡◌, ◌≢◌, ◌∙◌, sym, ap, subst, ℕ, ◌*◌, ◌==◌, ℤ, pos, Bool, true, false, if◌then◌else◌, List, [], ◌∷◌, ◌++◌, length, map, All, Option, Some, None, Result, Ok, refl, arith}
use Rattle.std.specs.Prelude.{◌&&◌}
use Rattle.std.proofs.lemmas.List.Elements.{All-nil, All-cons, All-append}
use Rattle.tt_core.specs.Chains.{came-through, passed-else}
use Rattle.tt_core.specs.Faults.{Fault}
use Rattle.tt_core.specs.Outcomes.{◌>>=◌, each}
use Rattle.tt_deltas.specs.Glyphs.{VariedPoints}
use Rattle.tt_deltas.specs.Units.{moved_sixty_fourths, moved_units}
use Rattle.tt_deltas.specs.declared.varied.Varied.{Varied}
use Rattle.tt_core.specs.Scales.{factor, rounded_scale, scaled_by}
use Rattle.tt_core.specs.declared.scaling.Scale.{Scale}
use Rattle.tt_core.specs.declared.halves.Halves.TheVariants as halves
use Rattle.tt_glyf.specs.Loca.{Glyf, glyph_offset}
use Rattle.tt_glyf.specs.Raw.{Raw, SimpleGlyph, empty, simple, composite}
use Rattle.tt_glyf.specs.declared.raw.RawPoint.{RawPoint}
use Rattle.tt_metrics.specs.Metrics.{Metrics, units_per_em_of}
use Rattle.tt_state.specs.declared.point.Point.{Point}
use Rattle.tt_fit.specs.declared.programs.Fit.{Fit}
use Rattle.tt_fit.specs.declared.programs.Fit.TheVariants as fit
use Rattle.tt_fit_outline.specs.declared.rules.Scaling.{Scaling}
use Rattle.tt_fit_outline.specs.declared.rules.Scaling.TheVariants as scaling
use Rattle.tt_fit.specs.Fitting.{Begun, Fitter, FineStart, size_of, start, simple_start, empty_begun, simple_begun, composite_begun, default_phantom, default_units, begun_by_default, ends_of, units_at, fine_phantom, whole_start, fine_start, simple_moved, begun_varied, begun_at_instance, begun_by, begun_glyph}
use Rattle.tt_fit_hinting.specs.GlyphZone.{untouched, outline_point, phantom_zone, glyph_zone}
use Rattle.tt_fit.specs.Laws.{IsScaledBy, OriginalsAreScaled, DefaultsBeginScaled, moved_original, moved_originals, OriginalsAreMoved, OthersMeasureInPixels}
use Rattle.tt_fit_outline.specs.Outline.{Outline, PhantomPoints}
use Rattle.tt_face.specs.Faces.{FaceInstance}
use Rattle.tt_face.specs.Programs.{ProgramTables}
use Rattle.tt_fit.specs.Preparation.{prepared, fitter_of}
use Rattle.tt_fit.specs.Rules.{rules_of}
use Rattle.tt_fit_outline.specs.Scaling.{settled, is_coordinate, are_positions, scaled_position, scaled_point, phantom_units, phantom_points, blank, scaled_outline, outline_in_place}
use Rattle.tt_fit_variation.specs.Advance.{deltas_of}
use Rattle.tt_fit_variation.specs.Ends.{EndDeltas, are_ends, moved_ends, ends_in_units}
use Rattle.tt_fit_variation.specs.Fine.{fine_scaled}
use Rattle.tt_fit_variation.specs.Moved.{InstancePoint, is_unit, moved_coordinate, point_of, instance_point, instance_places, instance_points, instance_units}
use Rattle.tt_fit_variation.specs.Records.{moved_records}
use Rattle.tt_fit_outline.specs.Size.{FontSize, size_by}
use Rattle.tt_fit_outline.specs.Units.{in_units, units_by, with_units}

-- settling does not move a point within the limit
settled-same : (at : ℕ) (p q : ℤ × ℤ × Bool) → settled at p ≡ Ok q → p ≡ q
unfolding settled
settled-same at p q was = let test = passed-else (is_coordinate p.0 && is_coordinate p.1) _ p q was in test.1

-- the points of the outline
one-scaled : (z : FontSize) (d : RawPoint) (p : ℤ × ℤ × Bool) (ds : List RawPoint) (ps all : List (ℤ × ℤ × Bool))
    → scaled_position z d ≡ p → p ∷ ps ≡ all → All (IsScaledBy z.scale) (in_units ds (map outline_point ps))
    → All (IsScaledBy z.scale) (in_units (d ∷ ds) (map outline_point all))
one-scaled z d p ds ps all placed same rest =
    let P = IsScaledBy z.scale in
    let begun : All P (in_units (d ∷ ds) (map outline_point (scaled_position z d ∷ ps))) = All-cons P _
    (in_units ds (map outline_point ps)) (refl, refl) rest in
    rw (← same) (subst (λ q. All P (in_units (d ∷ ds) (map outline_point (q ∷ ps)))) placed begun)

points-scaled : (z : FontSize) (at : ℕ) (ds : List RawPoint) (ps : List (ℤ × ℤ × Bool))
    → each (scaled_point z at) ds ≡ Ok ps → All (IsScaledBy z.scale) (in_units ds (map outline_point ps))
points-scaled z at [] ps was = let none : [] ≡ ps = cc in rw (← none) (All-nil (IsScaledBy z.scale))
points-scaled z at (d ∷ ds) ps was =
    let first = came-through (scaled_point z at d) _ ps was in
    let rest = came-through (each (scaled_point z at) ds) _ ps first.rest in
    let same : first.value ∷ rest.value ≡ ps = let done = rest.rest in cc in
    let placed = settled-same at (scaled_position z d) first.value first.first in
    one-scaled z d first.value ds rest.value ps placed same (points-scaled z at ds rest.value rest.first)

-- a glyph's first outline has its phantom points
phantom-begun : (at : ℕ) (p : PhantomPoints) (o : Outline) → blank at p ≡ Ok o → p ≡ o.phantom
unfolding blank
phantom-begun at p o was =
    let test = passed-else (are_positions p) _ _ o was in ap (λ (x : Outline). x.phantom) test.1

record ArePlaced (z : FontSize) (ds : List RawPoint) (was : PhantomPoints) (o : Outline) : Type 0 where
  pub points : All (IsScaledBy z.scale) (in_units ds (map outline_point o.points))
  pub phantom : was ≡ o.phantom

outline-placed : (z : FontSize) (at : ℕ) (ds : List RawPoint) (ends : List ℕ) (begun o : Outline)
    → scaled_outline z at ds ends begun ≡ Ok o → ArePlaced z ds begun.phantom o
unfolding scaled_outline
outline-placed z at ds ends begun o was =
    let made = came-through (each (scaled_point z at) ds) _ o was in
    let points : made.value ≡ o.points = let done = made.rest in cc in
    let phantom : begun.phantom ≡ o.phantom = let done = made.rest in cc in
    record { points = rw (← points) (points-scaled z at ds made.value made.first); phantom = phantom }

-- the phantom points
no-distance : (pixels : ℕ)
    → pos 0 ≡ scaled_by (record { pixels = pixels; units = 65536; halves = halves.AwayFromZero }) (pos 0)
no-distance pixels = let none : 0 * pixels ≡ 0 = omega arith in rw none refl

all-four : (P : Point → Type 0) (a b c d : Point) → P a → P b → P c → P d → All P (a ∷ b ∷ c ∷ d ∷ [])
all-four P a b c d of_a of_b of_c of_d = All-cons P a (b ∷ c ∷ d ∷ []) of_a
    (All-cons P b (c ∷ d ∷ []) of_b (All-cons P c (d ∷ []) of_c (All-cons P d [] of_d (All-nil P))))

phantom-scaled : (ppem em : ℕ) (z : FontSize) (m : Metrics) (x_min : ℤ) (g : ℕ) (was grid : PhantomPoints)
    → z.scale ≡ rounded_scale ppem em → phantom_points z m x_min g ≡ was
    → All (IsScaledBy z.scale) (phantom_zone (phantom_units m x_min g) was grid)
phantom-scaled ppem em z m x_min g was grid by same =
    let P = IsScaledBy z.scale in
    let none : pos 0 ≡ scaled_by z.scale (pos 0) = rw by (no-distance (factor ppem em)) in
    let u = phantom_units m x_min g in
    let w = phantom_points z m x_min g in
    subst (λ before. All P (phantom_zone u before grid)) same
    (all-four P (with_units u.left (untouched w.left grid.left true))
    (with_units u.right (untouched w.right grid.right true))
    (with_units u.ascent (untouched w.ascent grid.ascent true))
    (with_units u.descent (untouched w.descent grid.descent true)) (refl, none) (refl, none) (none, refl) (none, refl))

zone-scaled : (how : Scaling) (ppem em : ℕ) (z : FontSize) (at : ℕ) (m : Metrics) (x_min : ℤ) (g : ℕ)
    (ds : List RawPoint) (o : Outline) (grid : PhantomPoints) → how ≡ scaling.Rounded
    → z.scale ≡ rounded_scale ppem em → ArePlaced z ds (phantom_points z m x_min g) o
    → All (IsScaledBy z.scale) (glyph_zone (units_by how ds (phantom_units m x_min g)) o grid)
zone-scaled how ppem em z at m x_min g ds o grid rounded by are =
    rw rounded
    (All-append (IsScaledBy z.scale) (in_units ds (map outline_point o.points)) _ are.points
    (phantom-scaled ppem em z m x_min g o.phantom grid by are.phantom))

-- a simple glyph with a program, by the font's default
begun-none-by : (instance : Option FaceInstance) (s : Fitter) (g : ℕ) (d : Raw) (b : Begun) → instance ≡ None
    → begun_by instance s g d ≡ Ok b → begun_by_default s g d ≡ Ok b
begun-none-by None s g d b none was = was
begun-none-by (Some i) s g d b none was = absurd cc

begun-none : (s : Fitter) (g : ℕ) (d : Raw) (b : Begun) → s.instance ≡ None → begun_glyph s g d ≡ Ok b
    → begun_by_default s g d ≡ Ok b
unfolding begun_glyph
begun-none s g d b none was = begun-none-by s.instance s g d b none was

not-bare-by : (bare : Bool) (x : Result Outline Fault) (first o : Outline) → bare ≡ false
    → (if bare then x else Ok first) ≡ Ok o → first ≡ o
not-bare-by true x first o some was = absurd cc
not-bare-by false x first o some was = cc

not-bare : (s : Fitter) (phantom : PhantomPoints) (g : ℕ) (code : List ℕ) (o : Outline) → (length code == 0) ≡ false
    → simple_start s phantom g code ≡ Ok o → start s phantom g ≡ Ok o
unfolding simple_start
not-bare s phantom g code o some was =
    let first = came-through (start s phantom g) _ o was in
    let same = not-bare-by (length code == 0) _ first.value o some first.rest in
    first.first ∙ ap Ok same

pub originals-are-scaled : OriginalsAreScaled
originals-are-scaled s g d o grid rounded was =
    let z = size_of s in
    let em = units_per_em_of s.metrics in
    let at = glyph_offset s.tables g in
    let phantom = default_phantom s d.x_min g in
    let begun = came-through (start s phantom g) _ o was in
    let from = phantom-begun at phantom begun.value begun.first in
    let are = outline-placed z at d.points d.ends begun.value o begun.rest in
    zone-scaled s.scaling s.ppem em z at s.metrics d.x_min g d.points o grid rounded
    (ap (λ how. (size_by how s.ppem em).scale) rounded)
    (subst (λ p. ArePlaced z d.points p o) (sym from) are)

in-a-chain : {X Y : Type 0} (x : Result X Fault) (f : X → Result Y Fault) (v : X) (y : Y) → x ≡ Ok v → f v ≡ Ok y
    → (x >>= f) ≡ Ok y
in-a-chain x f v y first rest = rw first rest

pub defaults-begin-scaled : DefaultsBeginScaled
defaults-begin-scaled s g d b none was =
    let phantom = default_phantom s d.x_min g in
    let to_scale = scaled_outline (size_of s) (glyph_offset s.tables g) d.points d.ends in
    let by_default = begun-none s g (simple d) b none was in
    let begun = came-through (simple_start s phantom g d.code) _ b by_default in
    let scaled = came-through (to_scale begun.value) _ b begun.rest in
    let same : simple_begun s g d d.points (default_units s d.x_min g) scaled.value ≡ b = let done = scaled.rest in cc in
    rw (← same)
    (record {
      program = refl;
      outline = λ some. in-a-chain (start s phantom g) to_scale begun.value scaled.value
          (not-bare s phantom g d.code begun.value some begun.first) scaled.first;
    })

-- a simple glyph at an instance
begun-some : (i : FaceInstance) (s : Fitter) (g : ℕ) (d : Raw) (b : Begun) → s.instance ≡ Some i
    → begun_glyph s g d ≡ Ok b → begun_at_instance i s g d ≡ Ok b
unfolding begun_glyph
begun-some i s g d b some was = subst (λ instance. begun_by instance s g d ≡ Ok b) some was

coordinate-moved : (z : FontSize) (at : ℕ) (v : Varied) (a : ℤ × ℤ) → moved_coordinate z at v ≡ Ok a
    → (moved_units v, fine_scaled z.scale (moved_sixty_fourths v)) ≡ a
unfolding moved_coordinate
coordinate-moved z at v a was =
    let test = passed-else (is_unit (moved_units v) && is_coordinate (fine_scaled z.scale (moved_sixty_fourths v))) _ _ a
    was in test.1

point-of-moved : (scale : Scale) (on : Bool) (x y : Varied) (a b : ℤ × ℤ) (q : InstancePoint)
    → (moved_units x, fine_scaled scale (moved_sixty_fourths x)) ≡ a
    → (moved_units y, fine_scaled scale (moved_sixty_fourths y)) ≡ b → point_of on a b ≡ q
    → with_units (q.unit.x, q.unit.y) (outline_point q.place) ≡ moved_original scale on x y
point-of-moved scale on x y a b q of_x of_y same = rw (← same, ← of_x, ← of_y) refl

point-moved : (z : FontSize) (at : ℕ) (on : Bool) (x y : Varied) (q : InstancePoint)
    → instance_point z at on x y ≡ Ok q
    → with_units (q.unit.x, q.unit.y) (outline_point q.place) ≡ moved_original z.scale on x y
unfolding instance_point
point-moved z at on x y q was =
    let a = came-through (moved_coordinate z at x) _ q was in
    let b = came-through (moved_coordinate z at y) _ q a.rest in
    let same : point_of on a.value b.value ≡ q = let done = b.rest in cc in
    point-of-moved z.scale on x y a.value b.value q (coordinate-moved z at x a.value a.first)
    (coordinate-moved z at y b.value b.first) same

cons-same : (p q : Point) (ps qs : List Point) → p ≡ q → ps ≡ qs → p ∷ ps ≡ q ∷ qs
cons-same p q ps qs one rest = rw (one, rest) refl

points-moved : (z : FontSize) (at : ℕ) (ds : List RawPoint) (xs ys : List Varied) (ps : List InstancePoint)
    → instance_points z at ds xs ys ≡ Ok ps
    → in_units (instance_units ps) (map outline_point (instance_places ps)) ≡ moved_originals z.scale ds xs ys
points-moved z at [] xs ys ps was = let none : [] ≡ ps = cc in rw (← none) refl
points-moved z at (d ∷ ds) [] ys ps was = let none : [] ≡ ps = cc in rw (← none) refl
points-moved z at (d ∷ ds) (x ∷ xs) [] ps was = let none : [] ≡ ps = cc in rw (← none) refl
points-moved z at (d ∷ ds) (x ∷ xs) (y ∷ ys) ps was =
    let first = came-through (instance_point z at d.on x y) _ ps was in
    let rest = came-through (instance_points z at ds xs ys) _ ps first.rest in
    let same : first.value ∷ rest.value ≡ ps = let done = rest.rest in cc in
    rw (← same)
    (cons-same _ _ _ _ (point-moved z at d.on x y first.value first.first)
    (points-moved z at ds xs ys rest.value rest.first))

ends-moved : (at : ℕ) (p : PhantomPoints) (d : EndDeltas) (u : PhantomPoints) → ends_in_units at p d ≡ Ok u
    → moved_ends p d ≡ u
unfolding ends_in_units
ends-moved at p d u was = let test = passed-else (are_ends (moved_ends p d)) _ _ u was in test.1

-- a simple glyph's ends at an instance
record IsFineStart (s : Fitter) (g : ℕ) (d : SimpleGlyph) (v : VariedPoints) (f : FineStart) : Type 0 where
  pub units : moved_ends (default_units s d.x_min g) (ends_of s (length d.points) v) ≡ f.units
  pub outline : simple_start s (fine_phantom s g d v) g d.code ≡ Ok f.outline

abbrev fine_of : PhantomPoints → Outline → FineStart
fine_of units o = record { units = units; outline = o }

fine-start-is : (s : Fitter) (g : ℕ) (d : SimpleGlyph) (v : VariedPoints) (f : FineStart) → fine_start s g d v ≡ Ok f
    → IsFineStart s g d v f
fine-start-is s g d v f was =
    let n = length d.points in
    let units = came-through (units_at s d.x_min g n v) _ f was in
    let begun = came-through (simple_start s (fine_phantom s g d v) g d.code) _ f units.rest in
    let same : fine_of units.value begun.value ≡ f = let done = begun.rest in cc in
    let moved = ends-moved (glyph_offset s.tables g) (default_units s d.x_min g) (ends_of s n v) units.value units.first in
    rw (← same) (record { units = moved; outline = begun.first })

append-same : (ps qs rs ts : List Point) → ps ≡ qs → rs ≡ ts → ps ++ rs ≡ qs ++ ts
append-same ps qs rs ts one rest = rw (one, rest) refl

zone-moved : (how : Scaling) (z : FontSize) (at : ℕ) (ds : List RawPoint) (xs ys : List Varied)
    (ps : List InstancePoint) (ends : List ℕ) (moved units : PhantomPoints) (o : Outline) (grid : PhantomPoints)
    → how ≡ scaling.Rounded → instance_points z at ds xs ys ≡ Ok ps → moved ≡ units
    → glyph_zone (units_by how (instance_units ps) units) (outline_in_place (instance_places ps) ends o) grid
    ≡ moved_originals z.scale ds xs ys ++ phantom_zone moved o.phantom grid
zone-moved how z at ds xs ys ps ends moved units o grid rounded was same =
    rw (rounded, same)
    (append-same (in_units (instance_units ps) (map outline_point (instance_places ps))) (moved_originals z.scale ds xs ys)
    (phantom_zone units o.phantom grid) (phantom_zone units o.phantom grid) (points-moved z at ds xs ys ps was) refl)

pub originals-are-moved : OriginalsAreMoved
originals-are-moved i s g d b rounded some was =
    let z = size_of s in
    let at = glyph_offset s.tables g in
    let by_instance = begun-some i s g (simple d) b some was in
    let v = came-through (deltas_of i.gvar i.coordinates g (simple d)) (begun_varied s g (simple d)) b by_instance in
    let fine = came-through (fine_start s g d v.value) _ b v.rest in
    let moved = came-through (instance_points z at d.points v.value.xs v.value.ys) _ b fine.rest in
    let is = fine-start-is s g d v.value fine.value fine.first in
    let phantom = fine_phantom s g d v.value in
    let ps = moved.value in
    let same : simple_moved s g d fine.value ps ≡ b = let done = moved.rest in cc in
    rw (← same)
    (record {
      deltas = v.value;
      found = v.first;
      zone = λ grid. zone-moved s.scaling z at d.points v.value.xs v.value.ys ps d.ends
          (moved_ends (default_units s d.x_min g) (ends_of s (length d.points) v.value)) fine.value.units fine.value.outline
          grid rounded moved.first is.units;
      phantom = λ full. sym (phantom-begun at phantom fine.value.outline
          (not-bare s phantom g d.code fine.value.outline full is.outline));
    })

-- with every fit but Best
in-pixels : (how : Fit) → how ≢ fit.Best → (rules_of how).scaling ≡ scaling.Exact
in-pixels fit.Full other = refl
in-pixels fit.None other = refl
in-pixels fit.Fallback other = refl
in-pixels fit.Best other = absurd (other refl)

scaling-of : (t s : Fitter) → ◌≡◌ {A = Result Fitter Fault} (Ok t) (Ok s) → s.scaling ≡ t.scaling
scaling-of t s is = let same : t ≡ s = cc in ap (λ (x : Fitter). x.scaling) (sym same)

scales : (m : Metrics) (tables : Glyf) (programs : ProgramTables) (instance : Option FaceInstance) (ppem : ℕ) (how : Fit)
    (s : Fitter)
    → fitter_of m tables programs instance ppem how ≡ Ok s → s.scaling ≡ (rules_of how).scaling
unfolding fitter_of
scales m tables programs instance ppem how s is =
    let by_programs = came-through (prepared m programs instance ppem how) _ s is in scaling-of _ s by_programs.rest

-- no glyph's program measures in font units
abbrev HasNoUnits : Result Begun Fault → Type 0
HasNoUnits x = (b : Begun) → x ≡ Ok b → b.program.units ≡ None

no-units : {X : Type 0} (x : Result X Fault) (k : X → Result Begun Fault) → ((y : X) → HasNoUnits (k y))
    → HasNoUnits (x >>= k)
no-units x k each b was = let first = came-through x k b was in each first.value b first.rest

no-units-of : (c : Begun) → c.program.units ≡ None → HasNoUnits (Ok c)
no-units-of c none b was = let same : c ≡ b = cc in rw (← same) none

simple-has-none : (s : Fitter) (g : ℕ) (d : SimpleGlyph) (points : List RawPoint) (phantom : PhantomPoints)
    (o : Outline) → s.scaling ≡ scaling.Exact → HasNoUnits (Ok (simple_begun s g d points phantom o))
simple-has-none s g d points phantom o exact =
    no-units-of (simple_begun s g d points phantom o) (ap (λ way. units_by way points phantom) exact)

default-has-none : (s : Fitter) (g : ℕ) (d : Raw) → s.scaling ≡ scaling.Exact → HasNoUnits (begun_by_default s g d)
default-has-none s g empty exact =
    no-units (start s (default_phantom s (pos 0) g) g) _ (λ o. no-units-of (empty_begun s g o) refl)
default-has-none s g (simple d) exact =
    no-units (simple_start s (default_phantom s d.x_min g) g d.code) _
    (λ o. no-units (scaled_outline (size_of s) (glyph_offset s.tables g) d.points d.ends o) _
    (λ all. simple-has-none s g d d.points (default_units s d.x_min g) all exact))
default-has-none s g (composite d) exact =
    no-units (start s (default_phantom s d.x_min g) g) _
    (λ o. no-units-of (composite_begun s g d.code d.code_at d.records o) refl)

varied-has-none : (s : Fitter) (g : ℕ) (d : Raw) (v : VariedPoints) → s.scaling ≡ scaling.Exact
    → HasNoUnits (begun_varied s g d v)
varied-has-none s g empty v exact =
    no-units (whole_start s (pos 0) g 0 v) _ (λ o. no-units-of (empty_begun s g o) refl)
varied-has-none s g (simple d) v exact =
    no-units (fine_start s g d v) _
    (λ b. no-units (instance_points (size_of s) (glyph_offset s.tables g) d.points v.xs v.ys) _
    (λ ps. simple-has-none s g d (instance_units ps) b.units (outline_in_place (instance_places ps) d.ends b.outline)
    exact))
varied-has-none s g (composite d) v exact =
    no-units (whole_start s d.x_min g (length d.records) v) _
    (λ o. no-units (moved_records d.records v.xs v.ys) _
    (λ records. no-units-of (composite_begun s g d.code d.code_at records o) refl))

has-none-by : (instance : Option FaceInstance) (s : Fitter) (g : ℕ) (d : Raw) → s.scaling ≡ scaling.Exact
    → HasNoUnits (begun_by instance s g d)
has-none-by None s g d exact = default-has-none s g d exact
has-none-by (Some i) s g d exact =
    no-units (deltas_of i.gvar i.coordinates g d) (begun_varied s g d) (λ v. varied-has-none s g d v exact)

has-none : (s : Fitter) (g : ℕ) (d : Raw) → s.scaling ≡ scaling.Exact → HasNoUnits (begun_glyph s g d)
unfolding begun_glyph
has-none s g d exact = has-none-by s.instance s g d exact

pub others-measure-in-pixels : OthersMeasureInPixels
others-measure-in-pixels m tables programs instance ppem how s other is =
    let exact = scales m tables programs instance ppem how s is ∙ in-pixels how other in
    let em = units_per_em_of s.metrics in
    (λ g raw b was. has-none s g raw exact b was, ap (λ way. (size_by way s.ppem em).scale.halves) exact)
