-- OpenType, "MVAR: Metrics Variations Table" and "HVAR: Horizontal Metrics Variations Table": the heights and the advances
-- of an instance. MVAR moves hhea's heights (profile).
use Rattle.std.specs.Prelude.{◌≡◌, refl, ℕ, List, [], ◌∷◌, Option, Some, None, ℤ, pos, negsuc}
use Rattle.tt_axes.specs.Shares.{share_of_region_axis}
use Rattle.tt_variation_store.specs.declared.mvar.Height.TheVariants as height
use Rattle.tt_variation_store.specs.Deltas.{fine_delta}
use Rattle.tt_variation_store.specs.Hvar.{hvar_of, advance_of}
use Rattle.tt_variation_store.specs.Mvar.{mvar_of, height_of}
use Rattle.tt_variation_store.specs.Numbers.{number}
use Rattle.tt_variation_store.specs.Store.{Store}
use Rattle.tt_metrics.specs.declared.hhea.Hhea.{Hhea}

-- hhea with the heights of an instance
abbrev pub moved_hhea : Store → List ℤ → Hhea → Hhea
moved_hhea mvar coordinates h = record h {
  ascent = height_of mvar height.Ascent h.ascent coordinates;
  descent = height_of mvar height.Descent h.descent coordinates;
  line_gap = height_of mvar height.LineGap h.line_gap coordinates;
}

-- without MVAR its heights stay
abbrev pub hhea_by : Option Store → List ℤ → Hhea → Hhea
hhea_by None coordinates h = h
hhea_by (Some mvar) coordinates h = moved_hhea mvar coordinates h

-- HVAR, and the coordinates of an instance
pub record VariedAdvances : Type 0 where
  pub hvar : Store
  pub coordinates : List ℤ

abbrev pub advances_by : Option Store → List ℤ → Option VariedAdvances
advances_by None coordinates = None
advances_by (Some hvar) coordinates = Some (record { hvar = hvar; coordinates = coordinates })

-- the advance of glyph g, by its advance in hmtx; without HVAR it stays
abbrev pub advance_by : Option VariedAdvances → ℕ → ℕ → ℕ
advance_by None g advance = advance
advance_by (Some a) g advance = advance_of a.hvar g advance a.coordinates

-- worked values: MVAR with a region from 0 to 1 and rows of 64, -64 and 32 for ascent, descent and line gap, and HVAR with
-- rows of 0, 33 and -33 for glyphs 0, 1 and 2
abbrev mvar : List ℕ
mvar =
    0 ∷ 1 ∷ 0 ∷ 0 ∷ 0 ∷ 0 ∷ 0 ∷ 8 ∷ 0 ∷ 3 ∷ 0 ∷ 36 ∷
    0x68 ∷ 0x61 ∷ 0x73 ∷ 0x63 ∷ 0 ∷ 0 ∷ 0 ∷ 0 ∷ 0x68 ∷ 0x64 ∷ 0x73 ∷ 0x63 ∷ 0 ∷ 0 ∷ 0 ∷ 1 ∷
    0x68 ∷ 0x6C ∷ 0x67 ∷ 0x70 ∷ 0 ∷ 0 ∷ 0 ∷ 2 ∷
    0 ∷ 1 ∷ 0 ∷ 0 ∷ 0 ∷ 12 ∷ 0 ∷ 1 ∷ 0 ∷ 0 ∷ 0 ∷ 22 ∷ 0 ∷ 1 ∷ 0 ∷ 1 ∷ 0 ∷ 0 ∷ 0x40 ∷ 0 ∷ 0x40 ∷ 0 ∷
    0 ∷ 3 ∷ 0 ∷ 0 ∷ 0 ∷ 1 ∷ 0 ∷ 0 ∷ 0x40 ∷ 0xC0 ∷ 0x20 ∷ []

abbrev hvar : List ℕ
hvar =
    0 ∷ 1 ∷ 0 ∷ 0 ∷ 0 ∷ 0 ∷ 0 ∷ 20 ∷ 0 ∷ 0 ∷ 0 ∷ 0 ∷ 0 ∷ 0 ∷ 0 ∷ 0 ∷ 0 ∷ 0 ∷ 0 ∷ 0 ∷
    0 ∷ 1 ∷ 0 ∷ 0 ∷ 0 ∷ 12 ∷ 0 ∷ 1 ∷ 0 ∷ 0 ∷ 0 ∷ 22 ∷ 0 ∷ 1 ∷ 0 ∷ 1 ∷ 0 ∷ 0 ∷ 0x40 ∷ 0 ∷ 0x40 ∷ 0 ∷
    0 ∷ 3 ∷ 0 ∷ 0 ∷ 0 ∷ 1 ∷ 0 ∷ 0 ∷ 0 ∷ 0x21 ∷ 0xDF ∷ []

abbrev its_hhea : ℤ → ℤ → ℤ → Hhea
its_hhea ascent descent gap = record { ascent = ascent; descent = descent; line_gap = gap; long_metrics = 1 }

rise_and_depth : hhea_by (mvar_of mvar 1) (pos 65536 ∷ []) (its_hhea (pos 256) (pos 0) (pos 9))
    ≡ its_hhea (pos 320) (negsuc 63) (pos 41)
unfolding number fine_delta share_of_region_axis
rise_and_depth = refl

half_of_it : hhea_by (mvar_of mvar 1) (pos 32768 ∷ []) (its_hhea (pos 256) (negsuc 9) (pos 0))
    ≡ its_hhea (pos 288) (negsuc 41) (pos 16)
unfolding number fine_delta share_of_region_axis
half_of_it = refl

-- a table of other font's axes is not there
two_axes : hhea_by (mvar_of mvar 2) (pos 65536 ∷ pos 0 ∷ []) (its_hhea (pos 256) (pos 0) (pos 9))
    ≡ its_hhea (pos 256) (pos 0) (pos 9)
unfolding number fine_delta share_of_region_axis
two_axes = refl

-- 33 and -33 by half, and kept a uint16: a half goes up
advances : advance_by (advances_by (hvar_of hvar 1) (pos 32768 ∷ [])) 1 256 ∷ advance_by (advances_by (hvar_of hvar 1) (pos 32768 ∷ [])) 2 256
    ∷ advance_by (advances_by (hvar_of hvar 1) (pos 65536 ∷ [])) 2 30 ∷ advance_by (advances_by (hvar_of [] 1) (pos 65536 ∷ [])) 2 30 ∷ []
    ≡ 273 ∷ 240 ∷ 0 ∷ 30 ∷ []
unfolding number fine_delta share_of_region_axis
advances = refl
