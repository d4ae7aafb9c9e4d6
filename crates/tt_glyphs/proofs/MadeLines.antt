-- Where the ink of a line lies in its picture, the bitmaps of its glyphs are made.
use Rattle.std.proofs.Common.{◌≡◌, refl, ap, ℕ, ◌<◌, ◌≤◌, true, false, nat_lt, if◌then◌else◌, ℤ, pos, ◌+ℤ◌, ◌-ℤ◌, unsigned_abs, List, [], ◌∷◌, get_or, map, Option, None, Some, Ok, All, arith}
use Rattle.std.specs.List.{filter}
use Rattle.std.proofs.lemmas.Bool.Decides.{nat_tests}
use Rattle.std.proofs.lemmas.Int.{ints}
use Rattle.std.proofs.lemmas.List.Elements.{All-cons, All-head, All-nil, All-tail}
use Rattle.tt_core.specs.Faults.{Fault}
use Rattle.tt_core.specs.Limits.{height_limit, width_limit}
use Rattle.tt_core.specs.Outcomes.{each}
use Rattle.tt_face.specs.Faces.{Face}
use Rattle.tt_fit.specs.declared.programs.Fit.{Fit}
use Rattle.tt_fit.specs.Fitting.{Fitter, fitted_outline, unfitted_fault}
use Rattle.tt_fit.specs.outline.Outline.{Outline}
use Rattle.tt_line.specs.Layout.{Placement}
use Rattle.tt_metrics.specs.Metrics.{glyphs_of}
use Rattle.tt_picture.specs.Ink.{glyph_ink}
use Rattle.tt_picture.specs.Pictures.{Image}
use Rattle.tt_picture.specs.Pixels.{Shape}
use Rattle.tt_picture.specs.Shapes.{glyph_shape}
use Rattle.tt_scan_edges.specs.declared.edge.Frame.{Frame}
use Rattle.tt_bitmap.specs.declared.ink.LeastBox.{LeastBox}
use Rattle.tt_strike.specs.Job.{Job}
use Rattle.tt_strike.specs.Picture.{drawn, frame_of, setting_in}
use Rattle.tt_strike.specs.Work.{line_fitter}
use Rattle.tt_glyphs.specs.Bitmaps.{is_large, place_of}
use Rattle.tt_glyphs.specs.declared.told.Told.TheVariants as told
use Rattle.tt_picture.specs.Steps.{glyph_advance}
use Rattle.tt_glyphs.specs.Entries.{advance_by, glyph_told, known, made_within, number_told}
use Rattle.tt_glyphs.specs.GlyphLaws.{IsMade, IsWithin, LinesAreMade}
use Rattle.tt_glyphs.proofs.DrawnGlyphs.{told_is}
use Rattle.tt_glyphs.proofs.LineBitmaps.{first_of, le_true, lt_true, of_shapes}

-- all glyphs of a line have outlines, and are known

abbrev HasOutline : (ℕ → Fitter) → ℕ × ℕ → Type 0
HasOutline maker g = (o : Outline) × (fitted_outline (maker g.0) g.0 ≡ Ok o)

have_outlines : (maker : ℕ → Fitter) (gs : List (ℕ × ℕ)) (shapes : List Shape) → each (glyph_shape maker) gs ≡ Ok shapes
    → All (HasOutline maker) gs
have_outlines maker [] shapes made = All-nil (HasOutline maker)
have_outlines maker (g ∷ gs) shapes made =
    let one = first_of maker g gs shapes made in
    All-cons (HasOutline maker) g gs (one.outline, one.fitted) (have_outlines maker gs one.rest one.others)

all_known : (count : ℕ) (gs : List (ℕ × ℕ)) → All (λ (g : ℕ × ℕ). g.0 < count) gs
    → filter (λ g. nat_lt g count) (map (λ (g : ℕ × ℕ). g.0) gs) ≡ map (λ (g : ℕ × ℕ). g.0) gs
all_known count [] known = refl
all_known count (g ∷ gs) known =
    let P : ℕ × ℕ → Type 0 = λ g. g.0 < count in
    let below : g.0 < count = All-head P g gs known in
    let test : nat_lt g.0 count ≡ true = grind (arith, nat_tests, below) in
    rw test (ap (λ (ns : List ℕ). g.0 ∷ ns) (all_known count gs (All-tail P g gs known)))

-- ink within a picture is not too large

small_by : (f : Frame) (pen : ℕ) (x : Option LeastBox) → IsWithin f pen (place_of x) → f.width ≤ width_limit
    → f.height ≤ height_limit → is_large (place_of x) ≡ false
small_by f pen None within wide high = refl
small_by f pen (Some b) within wide high =
    let p = place_of (Some b) in
    let across = unsigned_abs (b.right -ℤ b.left) in
    let first_left = le_true p.left p.left (omega (arith, ints)) in
    let first_right = lt_true p.left (p.left +ℤ pos p.width) (omega (arith, ints)) in
    let last_left = le_true p.left (p.left +ℤ pos across) (omega (arith, ints)) in
    let last_right = lt_true (p.left +ℤ pos across) (p.left +ℤ pos p.width) (omega (arith, ints)) in
    let high_bottom = le_true (p.top -ℤ pos p.height) (p.top -ℤ pos 1) (omega (arith, ints)) in
    let high_top = lt_true (p.top -ℤ pos 1) p.top (omega (arith, ints)) in
    let low_bottom = le_true (p.top -ℤ pos p.height) (p.top -ℤ pos p.height) (omega (arith, ints)) in
    let low_top = lt_true (p.top -ℤ pos p.height) p.top (omega (arith, ints)) in
    let first = within p.left (p.top -ℤ pos 1) (rw (first_left, first_right, high_bottom, high_top) refl) in
    let last = within (p.left +ℤ pos across) (p.top -ℤ pos p.height) (rw (last_left, last_right, low_bottom, low_top) refl) in
    let narrow : p.width ≤ width_limit = omega (arith, ints, first.0, last.1, wide) in
    let short : p.height ≤ height_limit = omega (arith, ints, first.2, last.3, high) in
    let width : nat_lt width_limit p.width ≡ false = grind (arith, nat_tests, narrow) in
    let height : nat_lt height_limit p.height ≡ false = grind (arith, nat_tests, short) in
    rw (width, height) refl

-- a glyph that is not too large is made

made_by : (advance : ℕ) (left : ℤ) (unfitted : Option Fault) (x : Option LeastBox) → is_large (place_of x) ≡ false
    → IsMade (made_within advance left unfitted (place_of x))
made_by advance left unfitted x small = rw small tt

glyph_made : (how : Fit) (s : Fitter) (g : ℕ) (o : Outline) → fitted_outline s g ≡ Ok o
    → is_large (place_of (glyph_ink s g)) ≡ false → IsMade (glyph_told how s g)
glyph_made how s g o made small =
    rw (told_is how s g o (place_of (glyph_ink s g)) made refl)
    (made_by (advance_by how s g) (glyph_advance s g) (unfitted_fault s g) (glyph_ink s g) small)

number_made : (how : Fit) (t : Fitter) (g count : ℕ) → g < count → IsMade (glyph_told how t g)
    → IsMade (if nat_lt g count then glyph_told how t g else told.Unknown)
number_made how t g count below made =
    let test : nat_lt g count ≡ true = grind (arith, nat_tests, below) in
    rw test made

-- however the line is laid out
pub drawn_are_made : (face : Face) (a : Job) (line : Placement) (s : Fitter) (i : Image) → setting_in face a ≡ Ok s → drawn face a line ≡ Ok i
    → line.width ≤ width_limit → line.height ≤ height_limit → All (λ g. g.0 < glyphs_of s.metrics) line.glyphs
    → All (λ g. IsWithin (frame_of line a.margin) g.1 (place_of (glyph_ink (line_fitter s (map (λ g. g.0) line.glyphs) g.0) g.0))) line.glyphs
    → All (λ g. IsMade (number_told a.fit s (map (λ g. g.0) line.glyphs) g.0)) line.glyphs
drawn_are_made face a line s i made is wide high all within = λ k d below.
    let gs = line.glyphs in
    let ns = map (λ (g : ℕ × ℕ). g.0) gs in
    let g = get_or gs k d in
    let of = of_shapes face a line s i made is in
    let has = have_outlines (line_fitter s ns) gs of.shapes of.made k d below in
    let t = line_fitter s ns g.0 in
    let small = small_by (frame_of line a.margin) g.1 (glyph_ink t g.0) (within k d below) wide high in
    let same : known s ns ≡ ns = all_known (glyphs_of s.metrics) gs all in
    let one : IsMade (number_told a.fit s ns g.0) =
    rw same (number_made a.fit t g.0 (glyphs_of s.metrics) (all k d below) (glyph_made a.fit t g.0 has.0 has.1 small)) in
    one

pub lines_are_made : LinesAreMade
lines_are_made face a line s i laid made is wide high all within = drawn_are_made face a line s i made is wide high all within
