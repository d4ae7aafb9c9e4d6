-- Apple TrueType Reference Manual, "Instructing TrueType Glyphs": the parts of a machine at the start of the font
-- program, the control value program or a glyph's program.
use Rattle.std.specs.Prelude.{◌≡◌, ℕ, ◌*◌, ◌/◌, ◌≤◌, Bool, true, false, if◌then◌else◌, ℤ, pos, negsuc, List, [], ◌∷◌, length, map, replicate, Option, Some, None, refl}
use Rattle.std.specs.List.{range_with_len}
use Rattle.tt_core.specs.Limits.{size_limit}
use Rattle.tt_core.specs.Numbers.{unsigned_at, signed16}
use Rattle.tt_core.specs.Scales.{IsScale, scaled_by}
use Rattle.tt_core.specs.declared.halves.Halves.{Halves}
use Rattle.tt_core.specs.declared.scaling.Scale.{Scale}
use Rattle.tt_exec.specs.Parts.{Parts}
use Rattle.tt_metrics.specs.Metrics.{Metrics, storage_of, twilight_of, units_per_em_of}
use Rattle.tt_exec.specs.zones.Zones.{ZoneLists, IsZones, in_pixels}
use Rattle.tt_exec.specs.zones.declared.zones.Originals.{Originals}
use Rattle.tt_state.specs.declared.graphics_state.GraphicsState.{GraphicsState}
use Rattle.tt_state.specs.declared.point.Point.{Point}
use Rattle.tt_state.specs.GraphicsState.{default_of, default_state}
use Rattle.tt_fit_hinting.specs.GlyphZone.{untouched, glyph_zone, contours_from}
use Rattle.tt_fit_outline.specs.Outline.{Outline, PhantomPoints}
use Rattle.tt_fit_outline.specs.declared.rules.OutlineRules.{OutlineRules}
use Rattle.tt_fit_outline.specs.declared.rules.Scaling.TheVariants as scaling
use Rattle.tt_fit_outline.specs.Size.{FontSize, size_by}
use Rattle.tt_fit_outline.specs.Units.{Units}

-- the facts of every machine's parts
pub record AreParts (parts : Parts) : Type 0 where
  pub size : parts.ppem ≤ size_limit
  pub scale : IsScale parts.scale
  pub zones : IsZones parts.zones

-- a control value is a signed word in font units; an odd last byte is ignored
abbrev pub control_value : FontSize → List ℕ → ℕ → ℤ
control_value z cvt i = scaled_by z.control_values (signed16 (unsigned_at cvt (2 * i) 2))

abbrev pub control_values : FontSize → List ℕ → List ℤ
control_values z cvt = map (control_value z cvt) (range_with_len 0 (length cvt / 2))

-- a point of the twilight zone before a program sets it
abbrev pub origin : Point
origin = untouched (pos 0, pos 0) (pos 0, pos 0) true

-- the zones of a program without a glyph, with this many twilight points
abbrev pub without_glyph : Halves → ℕ → ZoneLists
without_glyph halves twilight = record {
  twilight = replicate twilight origin;
  glyph = [];
  contours = [];
  originals = in_pixels halves;
}

-- the parts at the start of the font program and the control value program, at an instance; both have no glyph
abbrev pub begun_parts : Metrics → List ℕ → ℕ → OutlineRules → List ℤ → Parts
begun_parts m cvt ppem rules instance = record {
  scale = (size_by rules.scaling ppem (units_per_em_of m)).scale;
  ppem = ppem;
  cvt = control_values (size_by rules.scaling ppem (units_per_em_of m)) cvt;
  storage = replicate (storage_of m) (pos 0);
  zones = without_glyph (size_by rules.scaling ppem (units_per_em_of m)).scale.halves (twilight_of m);
  functions = [];
  instructions = [];
  state = default_of rules.whole;
  instance = instance;
  tolerance = rules.tolerance;
  skip_glyphs = false;
  default_state = false;
}

-- the vectors, the reference points, the zone pointers and the loop set to their defaults
abbrev pub pointers_set_back : GraphicsState → GraphicsState
pointers_set_back g = record g {
  proj = default_state.proj;
  dual = default_state.dual;
  free = default_state.free;
  rp0 = default_state.rp0;
  rp1 = default_state.rp1;
  rp2 = default_state.rp2;
  zp0 = default_state.zp0;
  zp1 = default_state.zp1;
  zp2 = default_state.zp2;
  loops = default_state.loops;
}

-- the graphics state at the start of glyph programs; the control value program can request the defaults. The
-- instruction set is not one of its variables.
abbrev pub glyph_state : Bool → GraphicsState → GraphicsState
glyph_state by_default g = if by_default then default_of g.whole else pointers_set_back g

-- the parts that the control value program gives to the glyphs
abbrev pub left_to_glyphs : Parts → Parts
left_to_glyphs parts = record parts { state = glyph_state parts.default_state parts.state }

-- the unit of a glyph's originals: font units, by the scale of its size, or 26.6
abbrev pub originals_by : Scale → Option Units → Originals
originals_by s None = in_pixels s.halves
originals_by s (Some u) = record { units = Some s; halves = s.halves }

abbrev pub zones_of : List Point → Scale → Option Units → Outline → PhantomPoints → ZoneLists
zones_of twilight s units o grid = record {
  twilight = twilight;
  glyph = glyph_zone units o grid;
  contours = contours_from 0 o.ends;
  originals = originals_by s units;
}

-- the parts of a machine at the start of a glyph's program
abbrev pub parts_with : Parts → Option Units → Outline → PhantomPoints → Parts
parts_with parts units o grid = record parts { zones = zones_of parts.zones.twilight parts.scale units o grid }

-- worked value: 1024 units in an em, at 16 pixels, a control value of 100 and one of -1, and half of a third
two_control_values : control_values (size_by scaling.Exact 16 1024) (0 ∷ 100 ∷ 255 ∷ 255 ∷ 9 ∷ [])
    ≡ pos 100 ∷ negsuc 0 ∷ []
two_control_values = refl
