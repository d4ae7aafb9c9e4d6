-- Lemmas about the definitions: a glyph has no defect, a fault names a defect that exists, and a declared size is
-- right. OpenType, "loca: Index to Location" and "The 'glyf' table".
use Rattle.std.specs.Prelude.{◌≡◌, ℕ, ◌+◌, List, length, Ok, Err}
use Rattle.tt_core.specs.Directory.{HasNo}
use Rattle.tt_core.specs.Faults.{Fault}
use Rattle.tt_metrics.specs.Metrics.{Metrics}
use Rattle.tt_glyf.specs.Defects.{IsGlyphDefect}
use Rattle.tt_glyf.specs.GlyphData.{glyph_data_of}
use Rattle.tt_glyf.specs.Loca.{Glyf, Loca, loca_of, IsLocaDefect}
use Rattle.tt_glyf.specs.Raw.{Raw, SimpleGlyph, simple}
use Rattle.tt_glyf.specs.Told.{told_size}

-- if the definition gives loca, it is long enough
abbrev pub LocationsAreWhole : Type 0
LocationsAreWhole = (loca : List ℕ) (m : Metrics) (l : Loca) → loca_of loca m ≡ Ok l → HasNo (IsLocaDefect loca m)

-- if the definition gives a glyph, its bytes have no defect
abbrev pub GlyphsAreWhole : Type 0
GlyphsAreWhole = (t : Glyf) (g : ℕ) (d : Raw) → glyph_data_of t g ≡ Ok d → HasNo (IsGlyphDefect t g)

-- if the definition gives a fault, that defect exists
abbrev pub GlyphFaultsStand : Type 0
GlyphFaultsStand = (t : Glyf) (g : ℕ) (fault : Fault) → glyph_data_of t g ≡ Err fault → IsGlyphDefect t g fault

-- a simple glyph that the definition gives has as many contours and points as its first bytes declare
abbrev pub SizesAreTold : Type 0
SizesAreTold = (t : Glyf) (g : ℕ) (s : SimpleGlyph) → glyph_data_of t g ≡ Ok (simple s)
    → told_size t g ≡ length s.ends + length s.points
