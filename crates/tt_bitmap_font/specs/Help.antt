-- No part of a standard: the second line about a refused file, which tells a person what to do (profile). The first is
-- that of the refusal, and does not depend on this one.
use Rattle.std.specs.Prelude.{◌≡◌, refl, ℕ, Bool, List, codes, Option, Some, None}
use Rattle.tt_advice.specs.declared.hint.FixedHint.TheVariants as fixed
use Rattle.tt_advice.specs.declared.hint.Hint.{Hint}
use Rattle.tt_advice.specs.declared.hint.Hint.TheVariants as hint
use Rattle.tt_advice.specs.Hints.{fixed_words, hint_line, line_about}
use Rattle.tt_core.specs.declared.fault.JobFault.{JobFault}
use Rattle.tt_core.specs.declared.fault.JobFault.TheVariants as job
use Rattle.tt_line.specs.declared.align.Align.TheVariants as align
use Rattle.tt_render_settings.specs.declared.label.Label.{Label}
use Rattle.tt_render_settings.specs.declared.space.Space.TheVariants as space
use Rattle.tt_render_texts.specs.declared.refusal.Refusal.{Refusal}
use Rattle.tt_render_texts.specs.declared.refusal.Refusal.TheVariants as reason
use Rattle.tt_render_texts.specs.declared.refusal.TextsFault.{TextsFault}
use Rattle.tt_render_streams.specs.declared.formed.PictureFormat.TheVariants as format
use Rattle.tt_render_settings.specs.Help.{label_help}
use Rattle.tt_render_texts.specs.Views.{before_lines}
use Rattle.tt_bitmap_font.specs.declared.font_file.FontFile.{FontFile}
use Rattle.tt_bitmap_font.specs.FontFiles.{setting_of}

-- the line about glyphs that are too large
abbrev pub large_help : List ℕ
large_help = codes "tt_render: a glyph has at most 16384 columns and 4096 rows, all together 67108864 bytes\n"

-- a file as a label of its font and its setting
abbrev pub label_of : FontFile → Label
label_of a = record {
  setting = setting_of a;
  align = align.Left;
  space = space.Free;
  path = a.path;
  face_given = a.face_given;
  format = format.Pbm;
}

-- the line that a refused label of the font has
abbrev pub plain_help : FontFile → Bool → Refusal → Option Hint → List ℕ
plain_help a folder why h = label_help (label_of a) folder (before_lines why) h

-- the line about a refused job without a hint
abbrev pub refused_help : FontFile → Bool → JobFault → List ℕ
refused_help a folder job.PictureLarge = large_help
refused_help a folder j = plain_help a folder (reason.Job j) None

abbrev pub file_job_help : FontFile → Bool → JobFault → Option Hint → List ℕ
file_job_help a folder j None = refused_help a folder j
file_job_help a folder j (Some h) = hint_line a.path.now h

-- the line about a refusal, by the hint about the font's file
abbrev pub help_by : FontFile → Bool → Refusal → Option Hint → List ℕ
help_by a folder (reason.Job j) h = file_job_help a folder j h
help_by a folder why h = plain_help a folder why h

abbrev pub bdf_help : FontFile → Bool → TextsFault → Option Hint → List ℕ
bdf_help a folder fault h = help_by a folder fault.refusal h

-- worked values
many_characters : line_about (codes "F") (hint.Fixed fixed.ManyCharacters)
    ≡ codes "tt_render: F: has more than 4096 of the characters asked for; --range says which\n"
unfolding fixed_words
many_characters = refl

no_character : line_about (codes "F") (hint.Fixed fixed.NoCharacter)
    ≡ codes "tt_render: F: has a glyph for none of the characters asked for\n"
unfolding fixed_words
no_character = refl
