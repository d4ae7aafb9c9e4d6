-- With hinting on, the ends of a simple glyph's advance are whole pixels.
use Rattle.std.proofs.Common.{◌≡◌, ◌∙◌, ap, subst, ℕ, ◌==◌, if◌then◌else◌, List, [], length, Option, Some, None, Result, Ok, ℤ, pos, ◌+ℤ◌, ◌-ℤ◌, ◌*ℤ◌, ◌≤ℤ◌, ◌<ℤ◌, true, refl, arith}
use Rattle.std.specs.Int.{int_div_euclid}
use Rattle.std.proofs.lemmas.Int.{ints}
use Rattle.tt_core.specs.Chains.{came-through, passed-else}
use Rattle.tt_core.specs.Faults.{Fault}
use Rattle.tt_core.specs.Outcomes.{◌>>=◌, each}
use Rattle.tt_glyf.specs.Loca.{glyph_offset}
use Rattle.tt_glyf.specs.GlyphData.{glyph_data_of}
use Rattle.tt_glyf.specs.Raw.{Raw, SimpleGlyph, simple}
use Rattle.tt_glyf.specs.declared.raw.RawPoint.{RawPoint}
use Rattle.tt_glyf.specs.declared.raw.Record.{Record}
use Rattle.tt_deltas.specs.Glyphs.{VariedPoints}
use Rattle.tt_face.specs.Faces.{FaceInstance}
use Rattle.tt_fit.specs.Fitting.{Begun, Fitter, size_of, start, glyph_grid, simple_start, joined, simple_begun, default_phantom, default_units, begun_by_default, units_at, fine_phantom, fine_start, simple_moved, simple_varied, begun_varied, begun_by, begun_glyph, finished, made, added, glyph_fitter, fitted_outline}
use Rattle.tt_fit.specs.Hinted.{IsWhole, EndsAreWhole, HasWholeStep, SimpleStepsAreWhole}
use Rattle.tt_fit_outline.specs.declared.grid.Grid.{Grid}
use Rattle.tt_fit_outline.specs.declared.grid.Grid.TheVariants as rounding
use Rattle.tt_fit_outline.specs.declared.grid.GridRule.{GridRule}
use Rattle.tt_fit_outline.specs.declared.grid.GridRule.TheVariants as grid_rule
use Rattle.tt_fit_hinting.specs.GlyphZone.{GlyphProgram, on_grid, are_on_grid, on_grid_at, ends_on_grid}
use Rattle.tt_fit_outline.specs.Grid.{up}
use Rattle.tt_fit_hinting.specs.Hinting.{Hinting, off, ready, is_on, grid_by, hinted}
use Rattle.tt_fit_outline.specs.Outline.{Outline, PhantomPoints}
use Rattle.tt_fit_outline.specs.Scaling.{scaled_point, scaled_outline}
use Rattle.tt_fit_outline.specs.Size.{FontSize}
use Rattle.tt_fit_outline.specs.Steps.{at_least_zero, pixels_of}
use Rattle.tt_fit_outline.proofs.Pixels.{floor-below, floor-above}
use Rattle.tt_fit_variation.specs.Advance.{deltas_of}
use Rattle.tt_fit_variation.specs.Moved.{instance_points}

-- on the grid
abbrev whole_pixels : ℤ → ℤ
whole_pixels v = int_div_euclid (v +ℤ pos 32) (pos 64)

on-up : (at : ℕ) (p q : PhantomPoints) → on_grid_at rounding.Up at p ≡ Ok q → on_grid rounding.Up p ≡ q
unfolding on_grid_at
on-up at p q was = let test = passed-else (are_on_grid (on_grid rounding.Up p)) _ _ q was in test.1

pub ends-are-whole : EndsAreWhole
ends-are-whole at p q was =
    let same = on-up at p q was in
    ((whole_pixels p.left.0, rw (← same) refl), (whole_pixels p.right.0, rw (← same) refl))

-- the step between whole pixels
floor-by : (v q n : ℤ) → v ≡ pos 64 *ℤ n +ℤ pos 32 → (pos 64 *ℤ q) ≤ℤ v → v <ℤ (pos 64 *ℤ q +ℤ pos 64) → q ≡ n
floor-by v q n is below above = omega (arith, ints, is, below, above)

floor-of : (n : ℤ) → int_div_euclid (pos 64 *ℤ n +ℤ pos 32) (pos 64) ≡ n
floor-of n =
    let v = pos 64 *ℤ n +ℤ pos 32 in
    floor-by v (int_div_euclid v (pos 64)) n refl (floor-below v) (floor-above v)

step-whole : (a b n k : ℤ) → a ≡ pos 64 *ℤ n → b ≡ pos 64 *ℤ k → pixels_of (b -ℤ a) ≡ at_least_zero (k -ℤ n)
step-whole a b n k of_a of_b =
    let apart : b -ℤ a ≡ pos 64 *ℤ (k -ℤ n) = omega (arith, ints, of_a, of_b) in
    ap pixels_of apart ∙ ap at_least_zero (floor-of (k -ℤ n))

-- the ends of a simple glyph without a program
settled-ends : (at : ℕ) (o begun : Outline) → ends_on_grid rounding.Up at o ≡ Ok begun
    → IsWhole begun.phantom.left.0 × IsWhole begun.phantom.right.0
settled-ends at o begun was =
    let grid = came-through (on_grid_at rounding.Up at o.phantom) _ begun was in
    let same : record o { phantom = grid.value } ≡ begun = let done = grid.rest in cc in
    let P : Outline → Type 0 = λ x. IsWhole x.phantom.left.0 × IsWhole x.phantom.right.0 in
    subst P same (ends-are-whole at o.phantom grid.value grid.first)

settled-by : (by : Grid) (at : ℕ) (code : List ℕ) (o begun : Outline) → by ≡ rounding.Up → code ≡ []
    → (if length code == 0 then ends_on_grid by at o else Ok o) ≡ Ok begun
    → IsWhole begun.phantom.left.0 × IsWhole begun.phantom.right.0
settled-by by at code o begun up none was = settled-ends at o begun (rw (up, none) at was)

started-ends : (s : Fitter) (phantom : PhantomPoints) (g : ℕ) (code : List ℕ) (begun : Outline)
    → glyph_grid s ≡ rounding.Up → code ≡ [] → simple_start s phantom g code ≡ Ok begun
    → IsWhole begun.phantom.left.0 × IsWhole begun.phantom.right.0
unfolding simple_start
started-ends s phantom g code begun up none was =
    let first = came-through (start s phantom g) _ begun was in
    settled-by (glyph_grid s) (glyph_offset s.tables g) code first.value begun up none first.rest

-- neither scaling nor an empty program moves them
scaled-ends : (z : FontSize) (at : ℕ) (ds : List RawPoint) (ends : List ℕ) (begun o : Outline)
    → scaled_outline z at ds ends begun ≡ Ok o → begun.phantom ≡ o.phantom
unfolding scaled_outline
scaled-ends z at ds ends begun o was =
    let made = came-through (each (scaled_point z at) ds) _ o was in let done = made.rest in cc

empty-ends : (h : Hinting) (p : GlyphProgram) (o all : Outline) → p.code ≡ [] → hinted h p o ≡ Ok all
    → o.phantom ≡ all.phantom
empty-ends off p o all none was = cc
empty-ends (ready parts) p o all none was =
    let same : ◌≡◌ {A = Result Outline Fault} (Ok o) (Ok all) = rw none at was in cc

-- a simple glyph without a program
up-where-on : (rule : GridRule) (hinting : Hinting) → rule ≡ grid_rule.WhereHinted → is_on hinting ≡ true
    → grid_by rule hinting ≡ rounding.Up
up-where-on rule hinting is on = rw (is, on) refl

steps-by : (o : Outline) (phantom : PhantomPoints) → phantom ≡ o.phantom
    → IsWhole phantom.left.0 × IsWhole phantom.right.0 → HasWholeStep o
steps-by o phantom same (left, right) = record {
  left = left.0;
  right = right.0;
  from = subst (λ (p : PhantomPoints). p.left.0 ≡ pos 64 *ℤ left.0) same left.1;
  to = subst (λ (p : PhantomPoints). p.right.0 ≡ pos 64 *ℤ right.0) same right.1;
  step = subst (λ (p : PhantomPoints). pixels_of (p.right.0 -ℤ p.left.0) ≡ at_least_zero (right.0 -ℤ left.0)) same
      (step-whole phantom.left.0 phantom.right.0 left.0 right.0 left.1 right.1);
}

read-as : (x : Result Raw Fault) (d : Raw) (rest : Raw → Result Outline Fault) (o : Outline) → x ≡ Ok d
    → (x >>= rest) ≡ Ok o → rest d ≡ Ok o
read-as x d rest o read was = rw read at was

-- a simple glyph that is begun
abbrev AreWhole : PhantomPoints → Type 0
AreWhole p = IsWhole p.left.0 × IsWhole p.right.0

record IsBare (b : Begun) : Type 0 where
  pub ends : AreWhole b.outline.phantom
  pub records : b.records ≡ []
  pub code : b.program.code ≡ []

default-bare : (s : Fitter) (g : ℕ) (d : SimpleGlyph) (b : Begun) → glyph_grid s ≡ rounding.Up → d.code ≡ []
    → begun_by_default s g (simple d) ≡ Ok b → IsBare b
default-bare s g d b up none was =
    let begun = came-through (simple_start s (default_phantom s d.x_min g) g d.code) _ b was in
    let scaled = came-through (scaled_outline (size_of s) (glyph_offset s.tables g) d.points d.ends begun.value) _ b
    begun.rest in
    let whole = started-ends s (default_phantom s d.x_min g) g d.code begun.value up none begun.first in
    let stay = scaled-ends (size_of s) (glyph_offset s.tables g) d.points d.ends begun.value scaled.value scaled.first in
    let same : simple_begun s g d d.points (default_units s d.x_min g) scaled.value ≡ b = let done = scaled.rest in cc in
    rw (← same) (record { ends = subst AreWhole stay whole; records = refl; code = none })

varied-bare : (s : Fitter) (g : ℕ) (d : SimpleGlyph) (v : VariedPoints) (b : Begun) → glyph_grid s ≡ rounding.Up
    → d.code ≡ [] → simple_varied s g d v ≡ Ok b → IsBare b
varied-bare s g d v b up none was =
    let begun = came-through (fine_start s g d v) _ b was in
    let units = came-through (units_at s d.x_min g (length d.points) v) _ begun.value begun.first in
    let started = came-through (simple_start s (fine_phantom s g d v) g d.code) _ begun.value units.rest in
    let points = came-through (instance_points (size_of s) (glyph_offset s.tables g) d.points v.xs v.ys) _ b begun.rest in
    let whole = started-ends s (fine_phantom s g d v) g d.code started.value up none started.first in
    let stay : started.value.phantom ≡ begun.value.outline.phantom = let done = started.rest in cc in
    let same : simple_moved s g d begun.value points.value ≡ b = let done = points.rest in cc in
    rw (← same) (record { ends = subst AreWhole stay whole; records = refl; code = none })

bare-by : (instance : Option FaceInstance) (s : Fitter) (g : ℕ) (d : SimpleGlyph) (b : Begun)
    → glyph_grid s ≡ rounding.Up → d.code ≡ [] → begun_by instance s g (simple d) ≡ Ok b → IsBare b
bare-by None s g d b up none was = default-bare s g d b up none was
bare-by (Some i) s g d b up none was =
    let v = came-through (deltas_of i.gvar i.coordinates g (simple d)) (begun_varied s g (simple d)) b was in
    varied-bare s g d v.value b up none v.rest

bare : (s : Fitter) (g : ℕ) (d : SimpleGlyph) (b : Begun) → glyph_grid s ≡ rounding.Up → d.code ≡ []
    → begun_glyph s g (simple d) ≡ Ok b → IsBare b
unfolding begun_glyph
bare s g d b up none was = bare-by s.instance s g d b up none was

none-joined : (add : Record → Outline → Result Outline Fault) (rs : List Record) (o all : Outline) → rs ≡ []
    → joined add rs o ≡ Ok all → o ≡ all
none-joined add rs o all none was = let same : ◌≡◌ {A = Result Outline Fault} (Ok o) (Ok all) = rw none at was in cc

pub simple-steps-are-whole : SimpleStepsAreWhole
unfolding fitted_outline
simple-steps-are-whole s g d o grid on read none was =
    let t = glyph_fitter s g in
    let up = up-where-on s.grid t.hinting grid on in
    let by_start = read-as (glyph_data_of s.tables g) (simple d) (made t (added t s.levels) g) o read was in
    let b = came-through (begun_glyph t g (simple d)) (finished t (added t s.levels)) o by_start in
    let is = bare t g d b.value up none b.first in
    let all = came-through (joined (added t s.levels) b.value.records b.value.outline) _ o b.rest in
    let alone = none-joined (added t s.levels) b.value.records b.value.outline all.value is.records all.first in
    let one = ap (λ (p : Outline). p.phantom) alone in
    let two = empty-ends t.hinting b.value.program all.value o is.code all.rest in
    steps-by o b.value.outline.phantom (one ∙ two) is.ends
