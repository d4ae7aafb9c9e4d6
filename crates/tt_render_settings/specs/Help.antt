-- No part of the standard: the second line about a refused label, which tells a person what to do (profile). The first is
-- that of the refusal, and does not depend on this one.
use Rattle.std.specs.Prelude.{◌≡◌, refl, ℕ, Bool, if◌then◌else◌, List, [], ◌++◌, codes, decimal, Option, Some, None}
use Rattle.std.specs.Fmt.{digits}
use Rattle.tt_advice.specs.declared.hint.FixedHint.TheVariants as fixed
use Rattle.tt_advice.specs.declared.hint.Hint.{Hint}
use Rattle.tt_advice.specs.declared.hint.Hint.TheVariants as hint
use Rattle.tt_advice.specs.Hints.{hint_line}
use Rattle.tt_advice.specs.Notes.{hint_told}
use Rattle.tt_core.specs.declared.collection.Reading.TheVariants as reading
use Rattle.tt_core.specs.declared.fault.JobFault.{JobFault}
use Rattle.tt_core.specs.declared.fault.JobFault.TheVariants as job
use Rattle.tt_face.specs.Rules.{plain_opening}
use Rattle.tt_fit.specs.declared.programs.Fit.TheVariants as fit
use Rattle.tt_render_settings.specs.declared.label.Label.{Label}
use Rattle.tt_render_texts.specs.declared.refusal.Refusal.{Refusal}
use Rattle.tt_render_texts.specs.declared.refusal.Refusal.TheVariants as reason
use Rattle.tt_render_texts.specs.declared.refusal.TextsFault.{TextsFault}
use Rattle.tt_render_settings.specs.declared.setting.Setting.{Setting}
use Rattle.tt_render_settings.specs.declared.space.Space.{Space}
use Rattle.tt_render_settings.specs.declared.space.Space.TheVariants as space
use Rattle.tt_render_texts.specs.declared.space_fault.SpaceFault.{SpaceFault}
use Rattle.tt_render_texts.specs.declared.space_fault.SpaceFault.TheVariants as fault
use Rattle.tt_render_texts.specs.Reports.{head_of}
use Rattle.tt_render_settings.specs.Settings.{plain_setting}
use Rattle.tt_render_texts.specs.TextsMessages.{named_line_of, texts_line_of}

-- a line of these words
abbrev pub fixed_help : Option ℕ → List ℕ → List ℕ
fixed_help number words = head_of number ++ (words ++ codes "\n")

-- the line about a path that could not be read, if the path is that of a folder
abbrev pub folder_help : List ℕ → Bool → List ℕ
folder_help path folder = if folder then hint_line path (hint.Fixed fixed.Folder) else []

-- the line about a refused job; no label is a picture without a pixel
abbrev pub job_help : Option ℕ → JobFault → Setting → List ℕ
job_help number job.SizeRange a =
    head_of number ++ (codes "--size is 1 to 300 pixels per em, not " ++ (decimal a.ppem ++ codes "\n"))
job_help number job.MarginRange a =
    head_of number ++ (codes "--margin is 0 to 64 pixels, not " ++ (decimal a.margin ++ codes "\n"))
job_help number job.TextLong a = fixed_help number (codes "a text has at most 4096 characters")
job_help number job.PictureLarge a = fixed_help number (codes "a picture has at most 16384 columns and 4096 rows")
job_help number job.WorkLarge a = fixed_help number (codes "the glyphs of this text are too much work at once")
job_help number job.EmptyPicture a = []

-- the requested space, as on the command line
abbrev pub space_words : Space → List ℕ
space_words space.Free = []
space_words (space.Width width) = decimal width
space_words (space.Box b) = decimal b.width ++ (codes "x" ++ decimal b.height)

-- the line about a refused space
abbrev pub space_help : Option ℕ → SpaceFault → Space → List ℕ
space_help number fault.WidthRange s =
    head_of number ++ (codes "--width is 1 to 16384 pixels and more than both margins, not " ++ (space_words s ++ codes "\n"))
space_help number fault.BoxRange s =
    head_of number
    ++ (codes "--box is 1x1 to 16384x4096 pixels and more than both margins, not " ++ (space_words s ++ codes "\n"))
space_help number fault.BoxSmall s = fixed_help number (codes "the text fits into this box at no size")

-- the line about a refusal, by the line that its message names, and by the hint about the font's file
abbrev pub help_by : Label → Bool → Refusal → Option ℕ → Option Hint → List ℕ
help_by l folder (reason.Font f) number h = hint_told l.path.now h
help_by l folder reason.FontRead number h = folder_help l.path.now folder
help_by l folder (reason.Job j) number h = job_help number j l.setting
help_by l folder (reason.Space f) number h = space_help number f l.space
help_by l folder reason.NotUtf8 number h =
    fixed_help number (codes "the lines have to be UTF-8; iconv(1) changes other encodings")
help_by l folder why number h = []

abbrev pub label_help : Label → Bool → TextsFault → Option Hint → List ℕ
label_help l folder fault h = help_by l folder fault.refusal (named_line_of fault.refusal fault.line) h

-- the lines about a refusal
abbrev pub label_lines_of : Label → Bool → TextsFault → Option Hint → List ℕ
label_lines_of l folder fault h = (texts_line_of fault ++ codes "\n") ++ label_help l folder fault h

-- worked values
a_size : job_help None job.SizeRange (plain_setting 301 65 fit.Best (plain_opening (reading.Wide 0)))
    ≡ codes "tt_render: --size is 1 to 300 pixels per em, not 301\n"
unfolding digits
a_size = refl

a_margin : job_help None job.MarginRange (plain_setting 300 65 fit.Best (plain_opening (reading.Wide 0)))
    ≡ codes "tt_render: --margin is 0 to 64 pixels, not 65\n"
unfolding digits
a_margin = refl

a_width : space_help None fault.WidthRange (space.Width 20)
    ≡ codes "tt_render: --width is 1 to 16384 pixels and more than both margins, not 20\n"
unfolding digits
a_width = refl

a_box : space_help None fault.BoxRange (space.Box (record { width = 0; height = 5 }))
    ≡ codes "tt_render: --box is 1x1 to 16384x4096 pixels and more than both margins, not 0x5\n"
unfolding digits
a_box = refl

a_small_box : space_help (Some 2) fault.BoxSmall (space.Box (record { width = 4; height = 2 }))
    ≡ codes "tt_render: line 2: the text fits into this box at no size\n"
unfolding digits
a_small_box = refl

the_second_line : fixed_help (Some 2) (codes "the lines have to be UTF-8; iconv(1) changes other encodings")
    ≡ codes "tt_render: line 2: the lines have to be UTF-8; iconv(1) changes other encodings\n"
unfolding digits
the_second_line = refl
