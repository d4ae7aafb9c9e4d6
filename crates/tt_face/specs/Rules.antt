-- How the lines of a face are laid out: kerned or not, and with heights of which rounding. OpenType, "GPOS: Glyph
-- Positioning Table" and "kern: Kerning".
use Rattle.std.specs.Prelude.{◌≡◌, refl, ℕ, Bool, true, false, List, [], ◌∷◌, take, length, codes, Option, Some, None, Result, Ok, Err}
use Rattle.tt_core.specs.Directory.{Directory, file_directory, table_of}
use Rattle.tt_core.specs.Faults.{Fault}
use Rattle.tt_kern.specs.Kerning.{Tables}
use Rattle.tt_kern.specs.Variation.{PairVariation, no_variation}
use Rattle.tt_variation_store.specs.Gdef.{gdef_store_of}
use Rattle.tt_core.specs.declared.collection.Reading.{Reading}
use Rattle.tt_metrics.specs.declared.heights.Heights.TheVariants.{Exact}
use Rattle.tt_face.specs.declared.rules.LineRules.{LineRules}
use Rattle.tt_face.specs.declared.rules.Opening.{Opening}
use Rattle.tt_face.specs.Faces.{Face, FaceInstance}

-- the tags of the two tables of kerning
abbrev pub gpos_tag : List ℕ
gpos_tag = codes "GPOS"

abbrev pub kern_tag : List ℕ
kern_tag = codes "kern"

-- no bytes where there is no table, nor where it passes the end of the file (profile)
abbrev pub bytes_in : Result (Option (List ℕ)) Fault → List ℕ
bytes_in (Ok (Some table)) = table
bytes_in (Ok None) = []
bytes_in (Err fault) = []

unfoldable pub table_bytes : Directory → List ℕ → List ℕ
table_bytes directory tag = bytes_in (table_of directory tag)

-- 'GDEF'
abbrev pub gdef_tag : List ℕ
gdef_tag = codes "GDEF"

-- the values of GPOS vary with the instance, by GDEF's store
abbrev pub pair_variation : Directory → Option FaceInstance → PairVariation
pair_variation directory None = no_variation
pair_variation directory (Some i) =
    record { store = gdef_store_of (table_bytes directory gdef_tag) (length i.coordinates); coordinates = i.coordinates }

abbrev pub kerning_tables : Directory → Option FaceInstance → Tables
kerning_tables directory instance = record {
  gpos = table_bytes directory gpos_tag;
  kern = table_bytes directory kern_tag;
  variation = pair_variation directory instance;
}

-- only with kerning are the tables looked at
abbrev pub kerning_by : Bool → Directory → Option FaceInstance → Option Tables
kerning_by true directory instance = Some (kerning_tables directory instance)
kerning_by false directory instance = None

-- a face whose lines are laid out by some rules
unfoldable pub ruled : LineRules → Face → Face
ruled rules face = record face {
  metrics = record (face.metrics) { heights = rules.heights; kerning = kerning_by rules.kerned face.directory face.instance };
}

-- exact heights and no kerning, as a face has them by a reading alone
abbrev pub plain_rules : LineRules
plain_rules = record { heights = Exact; kerned = false }

abbrev pub plain_opening : Reading → Opening
plain_opening r = record { reading = r; rules = plain_rules }

-- worked values: a file with two bytes of the table kern, which end at its end; then a byte less; then no GPOS
abbrev two_bytes : List ℕ
two_bytes =
    0 ∷ 1 ∷ 0 ∷ 0 ∷ 0 ∷ 1 ∷ 0 ∷ 0 ∷ 0 ∷ 0 ∷ 0 ∷ 0
    ∷ 0x6B ∷ 0x65 ∷ 0x72 ∷ 0x6E ∷ 0 ∷ 0 ∷ 0 ∷ 0 ∷ 0 ∷ 0 ∷ 0 ∷ 28 ∷ 0 ∷ 0 ∷ 0 ∷ 2 ∷ 7 ∷ 8 ∷ []

whole_table : table_bytes (file_directory two_bytes) kern_tag ≡ 7 ∷ 8 ∷ []
unfolding table_bytes table_of
whole_table = refl

past_the_end : table_bytes (file_directory (take 29 two_bytes)) kern_tag ≡ []
unfolding table_bytes table_of
past_the_end = refl

no_table : kerning_by true (file_directory two_bytes) None ≡ Some (record { gpos = []; kern = 7 ∷ 8 ∷ []; variation = no_variation })
unfolding table_bytes table_of
no_table = refl
