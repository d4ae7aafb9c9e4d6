-- Laws of the definitions. A font with a picture has no defect, and only fallback and best make a glyph unfitted. The
-- others say which pixels are black with another margin, beside other glyphs, and without filled dropouts.
use Rattle.std.specs.Prelude.{◌≡◌, ◌≢◌, refl, ℕ, ◌+◌, ◌≤◌, ◌||◌, true, false, pos, All, List, [], ◌∷◌, ◌++◌, ◌↔◌, ◌⊎◌, Option, Some, None, Ok, Err}
use Rattle.tt_core.specs.Directory.{HasNo}
use Rattle.tt_core.specs.Limits.{crossing_limit}
use Rattle.tt_core.specs.Outcomes.{each}
use Rattle.tt_face.specs.declared.rules.Opening.{Opening}
use Rattle.tt_face.specs.Instance.{Asked}
use Rattle.tt_core.specs.declared.fault.JobFault.TheVariants as fault
use Rattle.tt_fit.specs.declared.programs.Fit.TheVariants as fit
use Rattle.tt_fit.specs.Fitting.{Fitter}
use Rattle.tt_fit.specs.Rules.{falls_back}
use Rattle.tt_line.specs.Layout.{Placement}
use Rattle.tt_scan_edges.specs.declared.edge.Edge.{Edge}
use Rattle.tt_scan_edges.specs.declared.edge.Frame.{Frame}
use Rattle.tt_scan_edges.specs.Winding.{column_x, row_y}
use Rattle.tt_scan_dropouts.specs.declared.boxed.BoxedRules.{BoxedRules}
use Rattle.tt_strike.specs.Job.{Job, ByFace}
use Rattle.tt_picture.specs.declared.report.Unfitted.{Unfitted}
use Rattle.tt_strike.specs.Defects.{IsRunDefect}
use Rattle.tt_strike.specs.Grown.{grown_outcome, with_sides}
use Rattle.tt_strike.specs.declared.growing.Sides.{Sides}
use Rattle.tt_strike.specs.Picture as pictures
use Rattle.tt_picture.specs.Pictures.{Image, image, picture}
use Rattle.tt_picture.specs.Shapes.{crossings_in, glyph_shape}
use Rattle.tt_strike.specs.Picture.{setting_in, frame_of, line_outcome, pictured, shapes_in, text_placed}
use Rattle.tt_strike.specs.Made.{text_shapes}
use Rattle.tt_strike.specs.Measures.{measured}
use Rattle.tt_strike.specs.Refusals.{Refused, job}
use Rattle.tt_picture.specs.Pixels.{Shape, some_black, is_black_pixel}
use Rattle.tt_strike.specs.Report.{report_of}
use Rattle.tt_strike.specs.Work.{is_bounded}
use Rattle.tt_face.specs.Faces.{Face}
use Rattle.tt_scan_gaps.specs.Gaps.{gives_way}

-- a font file that gives a job's picture has no defect for the job and its reading
abbrev pub DrawnFontsAreWhole : Type 0
DrawnFontsAreWhole = (r : Opening) (asked : Option Asked) (a : Job) (file : List ℕ) (i : Image) → pictured r asked a file ≡ Ok i
    → HasNo (IsRunDefect r asked a file)

-- with a fit that does not fall back, no glyph is listed as unfitted
abbrev pub OthersListNothing : Type 0
OthersListNothing = (r : Opening) (asked : Option Asked) (a : Job) (file : List ℕ) (entries : List Unfitted) → report_of r asked a file ≡ Ok entries
    → falls_back a.fit ≡ false → entries ≡ []

-- a margin greater by m moves each pixel by m, and changes nothing else
abbrev pub MarginMoves : Type 0
MarginMoves = (f g : Frame) (m : ℕ) (glyphs : List Shape) (c r : ℕ) → g.margin ≡ f.margin + m → g.rise ≡ f.rise
    → is_black_pixel g glyphs (c + m) (r + m) ≡ is_black_pixel f glyphs c r

-- a text is measured exactly where it has a picture, and refused for the same reason
abbrev pub MeasuredAsDrawn : Type 0
MeasuredAsDrawn = (face : Face) (a : Job) (r : Refused) → line_outcome face a ≡ Err r ↔ measured face a ≡ Err r

-- a line with added columns and rows has its pixels, and no others. They are moved right and down by the columns on
-- the left and the rows at the top
abbrev pub SidesMove : Type 0
SidesMove = (maker : ℕ → Fitter) (line : Placement) (s : Sides) (margin : ℕ) (glyphs larger : List Shape) (c r : ℕ)
    → each (glyph_shape maker) line.glyphs ≡ Ok glyphs
    → each (glyph_shape maker) (with_sides line s).glyphs ≡ Ok larger
    → is_black_pixel (frame_of (with_sides line s) margin) larger (c + s.left) (r + s.top)
    ≡ is_black_pixel (frame_of line margin) glyphs c r

-- a line with added columns and rows is refused exactly where the line is, and for the same reason
abbrev pub SidesRefuseNothing : Type 0
SidesRefuseNothing = (face : Face) (a : Job) (line : Placement) (s : Sides) (r : Refused)
    → pictures.drawn face a (with_sides line s) ≡ Err r ↔ pictures.drawn face a line ≡ Err r

-- an enlarged picture is refused as the picture itself, or is too large
abbrev pub GrownRefusals : Type 0
GrownRefusals = (face : Face) (a : Job) (r : Refused) → grown_outcome face a ≡ Err r
    → (line_outcome face a ≡ Err r) ⊎ (r ≡ job fault.PictureLarge)

-- the black pixels of two lists of glyphs together are those of either
abbrev pub GlyphsByThemselves : Type 0
GlyphsByThemselves = (f : Frame) (glyphs others : List Shape) (c r : ℕ)
    → is_black_pixel f (glyphs ++ others) c r ≡ (is_black_pixel f glyphs c r || is_black_pixel f others c r)

-- no dropouts of some glyphs are filled
abbrev pub AreUnfilled : List Shape → Type 0
AreUnfilled glyphs = All (λ s. s.filled ≡ None) glyphs

-- where work is bounded, the glyphs of a line that is not refused have few crossings, in its picture and outside
abbrev pub BoundedLinesCrossFew : Type 0
BoundedLinesCrossFew = (face : Face) (a : Job) (glyphs : List Shape) → is_bounded a.fit ≡ true
    → text_shapes face a ≡ Ok glyphs → crossings_in glyphs ≤ crossing_limit

-- unfilled glyphs are black exactly where their edges blacken
abbrev pub UnfilledAreEdges : Type 0
UnfilledAreEdges = (f : Frame) (glyphs : List Shape) (c r : ℕ) → AreUnfilled glyphs
    → is_black_pixel f glyphs c r ≡ some_black glyphs (column_x f.margin (pos c)) (row_y f (pos r))

-- with every fit but Best the glyphs of a line are unfilled
abbrev pub OthersFillNone : Type 0
OthersFillNone = (face : Face) (a : Job) (line : Placement) (s : Fitter) (glyphs : List Shape) → a.fit ≢ fit.Best
    → setting_in face a ≡ Ok s → shapes_in s line ≡ Ok glyphs → AreUnfilled glyphs

-- the image in which some glyphs are drawn without dropout control
abbrev pub edges_picture : Frame → List Shape → Image
edges_picture f glyphs = image f (λ c r. some_black glyphs (column_x f.margin (pos c)) (row_y f (pos r)))

-- this image is that for a job, a face and the glyphs of the definition
pub record IsByEdges (a : Job) (face : Face) (i : Image) : Type 0 where
  pub line : Placement
  pub setting : Fitter
  pub glyphs : List Shape
  pub laid : text_placed face a ≡ Ok line
  pub made : setting_in face a ≡ Ok setting
  pub fitted : shapes_in setting line ≡ Ok glyphs
  pub unfilled : AreUnfilled glyphs
  pub drawn : i ≡ edges_picture (frame_of line a.margin) glyphs

abbrev pub OthersDrawByEdges : Type 0
OthersDrawByEdges = (r : Opening) (asked : Option Asked) (a : Job) (file : List ℕ) (i : Image) → a.fit ≢ fit.Best → pictured r asked a file ≡ Ok i
    → ByFace (λ face a. IsByEdges a face i) r asked a file

-- worked values: a stem between the centres of two columns, with its dropouts filled by scan type 0 and without
stem_edge : ℕ → ℕ → ℕ → ℕ → Edge
stem_edge ax ay bx by = record { ax = pos ax; ay = pos ay; bx = pos bx; by = pos by }

stem_edges : List Edge
stem_edges = stem_edge 5120 0 5120 16384 ∷ stem_edge 5120 16384 7168 16384 ∷ stem_edge 7168 16384 7168 0
    ∷ stem_edge 7168 0 5120 0 ∷ []

stem : Option BoxedRules → Shape
stem filled = record { edges = stem_edges; contours = stem_edges ∷ []; filled = filled }

by_type_zero : Option BoxedRules
by_type_zero = Some (record {
  rules = record { stubs = true; smart = false; dots = false };
  extents = record { across = record { low = pos 5120; high = pos 7168 }; up = record { low = pos 0; high = pos 16384 } };
})

two_rows : Frame
two_rows = record { width = 2; height = 2; margin = 0; rise = pos 2 }

filled_it_is_seen : (picture two_rows (stem by_type_zero ∷ [])).rows ≡ 0x80 ∷ 0x80 ∷ []
unfolding gives_way two_rows stem stem_edges stem_edge by_type_zero
filled_it_is_seen = refl

unfilled_it_is_lost : (picture two_rows (stem None ∷ [])).rows ≡ 0x00 ∷ 0x00 ∷ []
unfolding two_rows stem stem_edges stem_edge
unfilled_it_is_lost = refl

by_edges_it_is_lost : (edges_picture two_rows (stem by_type_zero ∷ [])).rows ≡ 0x00 ∷ 0x00 ∷ []
unfolding two_rows stem stem_edges stem_edge by_type_zero
by_edges_it_is_lost = refl
