-- What a text's picture looks at in a face: its tables, wherever the directory is, its instance and its metrics, and the
-- text's glyphs.
-- OpenType, "TrueType Collections".
use Rattle.std.specs.Prelude.{◌≡◌}
use Rattle.tt_face.specs.Faces.{Face}
use Rattle.tt_face.specs.Files.{SameTables}
use Rattle.tt_line.specs.Layout.{text_glyphs}
use Rattle.tt_strike.specs.Job.{Job}
use Rattle.tt_strike.specs.Picture.{pictured_by}

-- two faces that agree in these give the same picture, or the same refusal
abbrev pub FacesDrawAlike : Type 0
FacesDrawAlike = (f g : Face) (a : Job) → SameTables f.directory g.directory → f.metrics ≡ g.metrics
    → f.instance ≡ g.instance → text_glyphs f.cmap a.text ≡ text_glyphs g.cmap a.text → pictured_by f a ≡ pictured_by g a
