-- The defects of a face's tables, whatever the order of reading. OpenType, "Font Tables".
use Rattle.std.specs.Prelude.{◌⊎◌}
use Rattle.tt_cmap.specs.Defects.{IsBadCmap}
use Rattle.tt_core.specs.Directory.{Directory, IsDefectIn, PassesEnd, IsTableDefect, IsDirectoryDefect}
use Rattle.tt_core.specs.Faults.{Fault}
use Rattle.tt_glyf.specs.Bytes.{glyf_tag}
use Rattle.tt_glyf.specs.Loca.{loca_tag, IsLocaDefect}
use Rattle.tt_metrics.specs.Metrics.{IsMetricsDefect}
use Rattle.tt_face.specs.Faces.{Face, cmap_tag, cvt_tag, fpgm_tag, prep_tag}

-- a defect of a directory, or of a table needed for every text
abbrev pub IsDefectAt : Directory → Fault → Type 0
IsDefectAt directory fault = IsDirectoryDefect directory fault ⊎ IsMetricsDefect directory fault
    ⊎ IsDefectIn directory cmap_tag IsBadCmap fault

-- a defect of loca, or of glyf's place in the file
abbrev pub IsGlyphTableDefect : Face → Fault → Type 0
IsGlyphTableDefect face fault = IsDefectIn face.directory loca_tag (λ loca. IsLocaDefect loca face.metrics) fault
    ⊎ IsTableDefect face.directory glyf_tag fault

-- the control values, the font program or the control value program pass the end of the file
abbrev pub HasProgramPastEnd : Directory → Fault → Type 0
HasProgramPastEnd directory fault = PassesEnd directory cvt_tag fault ⊎ PassesEnd directory fpgm_tag fault
    ⊎ PassesEnd directory prep_tag fault
