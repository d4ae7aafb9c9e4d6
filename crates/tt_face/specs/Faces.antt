-- A face, and the tables of its glyphs and programs, in the order of reading (profile). Apple TrueType Reference Manual,
-- "The 'cvt ' table", "The 'fpgm' table", "The 'prep' table"; OpenType, "cmap", "loca", "glyf". A font may lack each of
-- the tables of the programs.
use Rattle.std.specs.Prelude.{◌≡◌, refl, ℕ, ℤ, Bool, not, ◌&&◌, is_some, List, [], ◌∷◌, take, codes, Option, Some, None, Result, Ok, Err}
use Rattle.tt_cmap.specs.Maps.{CharacterMap}
use Rattle.tt_core.specs.declared.fault.Why.TheVariants as why
use Rattle.tt_core.specs.Directory.{Directory, file_directory, table_of, needed_table}
use Rattle.tt_core.specs.Faults.{Fault, file_fault}
use Rattle.tt_core.specs.Outcomes.{◌>>=◌}
use Rattle.tt_deltas.specs.Gvar.{Gvar}
use Rattle.tt_glyf.specs.Bytes.{glyf_tag}
use Rattle.tt_glyf.specs.Loca.{Glyf, loca_tag, loca_of, with_glyf}
use Rattle.tt_metrics.specs.Metrics.{Metrics}
use Rattle.tt_face.specs.Programs.{ProgramTables}

-- an instance that is not the font's default: its coordinates, the variations of glyphs, and the bytes of cvar
pub record FaceInstance : Type 0 where
  pub coordinates : List ℤ
  pub gvar : Gvar
  pub cvar : List ℕ

-- the directory, the metrics and the character map of a font, and its instance if it is not the default
pub record Face : Type 0 where
  pub directory : Directory
  pub metrics : Metrics
  pub cmap : CharacterMap
  pub instance : Option FaceInstance

-- whether advances come from the phantom points of glyphs: at an instance of a font without HVAR
abbrev pub finds_advances : Face → Bool
finds_advances face = is_some face.instance && not (is_some face.metrics.advances)

-- 'cmap'
abbrev pub cmap_tag : List ℕ
cmap_tag = codes "cmap"

-- loca and glyf; a short loca is reported before a missing glyf
unfoldable pub glyphs_in : Face → Result Glyf Fault
glyphs_in face = do
  loca ← needed_table face.directory loca_tag
  locations ← loca_of loca face.metrics
  glyf ← needed_table face.directory glyf_tag
  Ok (with_glyf locations glyf)

-- the tags of the control values, of the font program and of the control value program
abbrev pub cvt_tag : List ℕ
cvt_tag = codes "cvt "

abbrev pub fpgm_tag : List ℕ
fpgm_tag = codes "fpgm"

abbrev pub prep_tag : List ℕ
prep_tag = codes "prep"

abbrev pub or_empty : Option (List ℕ) → List ℕ
or_empty None = []
or_empty (Some table) = table

-- the bytes of a table, none where the table is missing
unfoldable pub optional_table : Directory → List ℕ → Result (List ℕ) Fault
optional_table directory tag = table_of directory tag >>= λ table. Ok (or_empty table)

-- the three tables of the programs
unfoldable pub programs_of : Directory → Result ProgramTables Fault
programs_of directory = do
  cvt ← optional_table directory cvt_tag
  fpgm ← optional_table directory fpgm_tag
  prep ← optional_table directory prep_tag
  Ok (record { cvt = cvt; fpgm = fpgm; prep = prep })

-- worked values: a file with two bytes of control values, and no program
abbrev two_bytes : List ℕ
two_bytes =
    0 ∷ 1 ∷ 0 ∷ 0 ∷ 0 ∷ 1 ∷ 0 ∷ 0 ∷ 0 ∷ 0 ∷ 0 ∷ 0
    ∷ 99 ∷ 118 ∷ 116 ∷ 32 ∷ 0 ∷ 0 ∷ 0 ∷ 0 ∷ 0 ∷ 0 ∷ 0 ∷ 28 ∷ 0 ∷ 0 ∷ 0 ∷ 2 ∷ 7 ∷ 8 ∷ []

control_values_alone : programs_of (file_directory two_bytes)
    ≡ Ok (record { cvt = 7 ∷ 8 ∷ []; fpgm = []; prep = [] })
unfolding programs_of optional_table table_of
control_values_alone = refl

control_values_past_the_end : programs_of (file_directory (take 29 two_bytes)) ≡ Err (file_fault 12 why.TableRange)
unfolding programs_of optional_table table_of
control_values_past_the_end = refl

control_values_elsewhere : programs_of (record { file = 1 ∷ two_bytes; at = 1 })
    ≡ Ok (record { cvt = 2 ∷ 7 ∷ []; fpgm = []; prep = [] })
unfolding programs_of optional_table table_of
control_values_elsewhere = refl
