-- Tables that the definitions read have no defect.
use Rattle.std.proofs.Common.{◌≡◌, ℕ, List, None, Result, Ok, Err, inl, inr, subst, sym}
use Rattle.std.specs.Prelude.{OnOk}
use Rattle.tt_cmap.specs.Defects.{IsBadCmap}
use Rattle.tt_cmap.specs.Lookup.{cmap_of}
use Rattle.tt_cmap.specs.Maps.{strict}
use Rattle.tt_cmap.proofs.Whole.{cmap-whole}
use Rattle.tt_core.specs.Chains.{came-through}
use Rattle.tt_core.specs.Directory.{Directory, file_directory, directory_of, table_of, needed_table, HasNo, PassesEnd, IsDirectoryDefect, IsTableDefect, IsDefectIn}
use Rattle.tt_core.specs.Faults.{Fault}
use Rattle.tt_core.proofs.Whole as directories
use Rattle.tt_glyf.specs.Bytes.{glyf_tag}
use Rattle.tt_glyf.specs.Loca.{loca_tag, loca_of, IsLocaDefect}
use Rattle.tt_glyf.proofs.Locations.{locations-whole}
use Rattle.tt_metrics.specs.Metrics.{metrics_of, glyphs_of}
use Rattle.tt_metrics.proofs.Whole.{metrics-whole}
use Rattle.tt_face.specs.Defects.{IsDefectAt, IsGlyphTableDefect}
use Rattle.tt_face.specs.Faces.{Face, cmap_tag, cvt_tag, fpgm_tag, prep_tag, optional_table, programs_of, glyphs_in}
use Rattle.tt_face.specs.Laws.{GlyphTablesAreWhole, ProgramsAreWhole}
use Rattle.tt_face.specs.Files.{face_of, FacesAreWhole}

-- the directory of a font that gives a face is at its file's start
pub face-directory : (file : List ℕ) (face : Face) → face_of file ≡ Ok face → face.directory ≡ file_directory file
unfolding face_of
face-directory file face was =
    let by_directory = came-through (directory_of file) _ face was in
    let by_metrics = came-through (metrics_of by_directory.value) _ face by_directory.rest in
    let by_table = came-through (needed_table by_directory.value cmap_tag) _ face by_metrics.rest in
    let by_lookup = came-through (cmap_of by_table.value (glyphs_of by_metrics.value)) _ face by_table.rest in
    let same : record { directory = by_directory.value; metrics = by_metrics.value; cmap = strict by_lookup.value; instance = None } ≡ face =
    let done = by_lookup.rest in cc in
    rw (← same) (directories.directory-kept (file_directory file) by_directory.value by_directory.first)

pub face-whole : FacesAreWhole
unfolding face_of
face-whole file face was =
    let by_directory = came-through (directory_of file) _ face was in
    let by_metrics = came-through (metrics_of by_directory.value) _ face by_directory.rest in
    let by_table = came-through (needed_table by_directory.value cmap_tag) _ face by_metrics.rest in
    let by_lookup = came-through (cmap_of by_table.value (glyphs_of by_metrics.value)) _ face by_table.rest in
    let kept : by_directory.value ≡ file_directory file =
    directories.directory-kept (file_directory file) by_directory.value by_directory.first in
    let cmap = directories.table-good by_directory.value cmap_tag by_table.value IsBadCmap by_table.first
    (cmap-whole by_table.value (glyphs_of by_metrics.value) by_lookup.value by_lookup.first) in
    let P : Directory → Type 0 = λ d. HasNo (IsDefectAt d) in
    subst P kept (λ fault defect. elim defect [
      | inl directory ↦
          let Q : Directory → Type 0 = λ d. HasNo (IsDirectoryDefect d) in
          subst Q (sym kept) (directories.directory-whole (file_directory file) by_directory.value by_directory.first)
          fault directory
      | inr (inl metrics) ↦ metrics-whole by_directory.value by_metrics.value by_metrics.first fault metrics
      | inr (inr table) ↦ cmap fault table
    ])

-- a call's loca that has no defect, and glyf's place
pub no_glyph_table_defect : {X : Type 0} (r : Result X Fault) (face : Face)
    → OnOk r (HasNo (IsDefectIn face.directory loca_tag (λ loca. IsLocaDefect loca face.metrics)))
    → HasNo (IsTableDefect face.directory glyf_tag) → OnOk r (HasNo (IsGlyphTableDefect face))
no_glyph_table_defect (Err e) face loca glyf = tt
no_glyph_table_defect (Ok x) face loca glyf = λ fault defect. elim defect [
  | inl of_loca ↦ loca fault of_loca
  | inr of_glyf ↦ glyf fault of_glyf
]

pub glyph-tables-whole : GlyphTablesAreWhole
unfolding glyphs_in
glyph-tables-whole face t was =
    let by_loca = came-through (needed_table face.directory loca_tag) _ t was in
    let by_locations = came-through (loca_of by_loca.value face.metrics) _ t by_loca.rest in
    let by_glyf = came-through (needed_table face.directory glyf_tag) _ t by_locations.rest in
    let loca = directories.table-good face.directory loca_tag by_loca.value (λ loca. IsLocaDefect loca face.metrics)
    by_loca.first (locations-whole by_loca.value face.metrics by_locations.value by_locations.first) in
    λ fault defect. elim defect [
      | inl of_loca ↦ loca fault of_loca
      | inr of_glyf ↦ directories.table-whole face.directory glyf_tag by_glyf.value by_glyf.first fault of_glyf
    ]

optional-whole : (d : Directory) (tag bytes : List ℕ) → optional_table d tag ≡ Ok bytes → HasNo (PassesEnd d tag)
unfolding optional_table
optional-whole d tag bytes was =
    let by_table = came-through (table_of d tag) _ bytes was in
    directories.optional-whole d tag by_table.value by_table.first

pub programs-whole : ProgramsAreWhole
unfolding programs_of
programs-whole d programs was =
    let by_cvt = came-through (optional_table d cvt_tag) _ programs was in
    let by_fpgm = came-through (optional_table d fpgm_tag) _ programs by_cvt.rest in
    let by_prep = came-through (optional_table d prep_tag) _ programs by_fpgm.rest in
    λ fault defect. elim defect [
      | inl of_cvt ↦ optional-whole d cvt_tag by_cvt.value by_cvt.first fault of_cvt
      | inr (inl of_fpgm) ↦ optional-whole d fpgm_tag by_fpgm.value by_fpgm.first fault of_fpgm
      | inr (inr of_prep) ↦ optional-whole d prep_tag by_prep.value by_prep.first fault of_prep
    ]
