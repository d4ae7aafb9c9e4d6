-- No part of a standard: the facts of a font in its file (profile). The rows of a line are those of a drawn line.
use Rattle.std.specs.Prelude.{ℕ}
use Rattle.tt_bdf.specs.Facts.{FontFacts}
use Rattle.tt_bdf.specs.Style.{family_of, is_bold, is_italic}
use Rattle.tt_face.specs.Faces.{Face}
use Rattle.tt_face.specs.Names.{family_name_of}
use Rattle.tt_face.specs.Style.{style_of}
use Rattle.tt_line.specs.Layout.{depth_of, rise_of}
use Rattle.tt_metrics.specs.Metrics.{units_per_em_of}

abbrev pub face_facts : Face → ℕ → FontFacts
face_facts face size = record {
  family = family_of (family_name_of face.directory);
  bold = is_bold (style_of face.directory);
  italic = is_italic (style_of face.directory);
  size = size;
  em = units_per_em_of face.metrics;
  rise = rise_of face.metrics size;
  depth = depth_of face.metrics size;
}
