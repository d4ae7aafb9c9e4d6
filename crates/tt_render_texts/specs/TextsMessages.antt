-- The program's messages about texts that are not all drawn: the exit status, and the line on standard error.
use Rattle.std.specs.Prelude.{◌≡◌, refl, ℕ, List, ◌++◌, codes, decimal, Option, Some, None}
use Rattle.std.specs.Fmt.{digits}
use Rattle.tt_core.specs.declared.fault.JobFault.TheVariants as job
use Rattle.tt_core.specs.declared.fault.Why.TheVariants as why
use Rattle.tt_core.specs.Faults.{fault_at, job_name, job_number, why_name, why_number}
use Rattle.tt_render_texts.specs.declared.refusal.Refusal.{Refusal}
use Rattle.tt_render_texts.specs.declared.refusal.Refusal.TheVariants as reason
use Rattle.tt_render_texts.specs.declared.refusal.TextsFault.{TextsFault}
use Rattle.tt_render_texts.specs.declared.space_fault.SpaceFault.{SpaceFault}
use Rattle.tt_render_texts.specs.declared.space_fault.SpaceFault.TheVariants as space
use Rattle.tt_render_streams.specs.Messages.{fault_words, job_words, missing_words}
use Rattle.tt_render_texts.specs.Reports.{head_of}

abbrev pub refusal_status_of : Refusal → ℕ
refusal_status_of (reason.Font f) = 1
refusal_status_of (reason.Job j) = 2
refusal_status_of (reason.Space f) = 2
refusal_status_of reason.NotUtf8 = 2
refusal_status_of (reason.Missing c) = 2
refusal_status_of reason.FontRead = 3
refusal_status_of reason.FontLarge = 3
refusal_status_of reason.Read = 3
refusal_status_of reason.Create = 4
refusal_status_of (reason.Write sent) = 4
refusal_status_of reason.Many = 2
refusal_status_of reason.Memory = 5

abbrev pub texts_status_of : TextsFault → ℕ
texts_status_of fault = refusal_status_of fault.refusal

-- the line that a message names: a reader that failed, and refused memory, are no line's own
abbrev pub named_line_of : Refusal → Option ℕ → Option ℕ
named_line_of reason.FontRead line = None
named_line_of reason.FontLarge line = None
named_line_of reason.Read line = None
named_line_of reason.Many line = None
named_line_of reason.Memory line = None
named_line_of why line = line

-- the number and the name of a label's refusal by its width or its box
abbrev pub space_number : SpaceFault → ℕ
space_number space.WidthRange = 69
space_number space.BoxRange = 70
space_number space.BoxSmall = 71

abbrev pub space_name : SpaceFault → List ℕ
space_name space.WidthRange = codes "WidthRange"
space_name space.BoxRange = codes "BoxRange"
space_name space.BoxSmall = codes "BoxSmall"

-- `<number> <name>`
abbrev pub space_words : SpaceFault → List ℕ
space_words f = decimal (space_number f) ++ (codes " " ++ space_name f)

-- why a call stopped, after the head of its line
abbrev pub refusal_words : Refusal → List ℕ
refusal_words (reason.Font f) = fault_words f
refusal_words (reason.Job j) = job_words j
refusal_words (reason.Space f) = space_words f
refusal_words reason.NotUtf8 = codes "not UTF-8"
refusal_words (reason.Missing c) = missing_words c
refusal_words reason.FontRead = codes "cannot read the font"
refusal_words reason.FontLarge = codes "font larger than 67108864 bytes"
refusal_words reason.Read = codes "cannot read the lines"
refusal_words reason.Create = codes "cannot create the picture"
refusal_words (reason.Write sent) = codes "cannot write after " ++ (decimal sent ++ codes " bytes")
refusal_words reason.Many = codes "more than 4294967295 lines"
refusal_words reason.Memory = codes "out of memory"

abbrev pub texts_line_of : TextsFault → List ℕ
texts_line_of fault = head_of (named_line_of fault.refusal fault.line) ++ refusal_words fault.refusal

-- worked values
a_line_without_a_picture : texts_line_of (record { line = Some 17; refusal = reason.Job job.EmptyPicture })
    ≡ codes "tt_render: line 17: 62 EmptyPicture"
unfolding digits job_number job_name
a_line_without_a_picture = refl

a_line_with_a_broken_glyph : texts_line_of (record { line = Some 3; refusal = reason.Font (fault_at (codes "glyf") 14 why.GlyphShort) })
    ≡ codes "tt_render: line 3: glyf+14: 14 GlyphShort"
unfolding digits why_number why_name
a_line_with_a_broken_glyph = refl

the_width_is_out_of_range : texts_line_of (record { line = None; refusal = reason.Space space.WidthRange })
    ≡ codes "tt_render: 69 WidthRange"
unfolding digits
the_width_is_out_of_range = refl

the_box_is_out_of_range : texts_line_of (record { line = None; refusal = reason.Space space.BoxRange })
    ≡ codes "tt_render: 70 BoxRange"
unfolding digits
the_box_is_out_of_range = refl

a_line_fits_at_no_size : texts_line_of (record { line = Some 2; refusal = reason.Space space.BoxSmall })
    ≡ codes "tt_render: line 2: 71 BoxSmall"
unfolding digits
a_line_fits_at_no_size = refl

the_one_text_lacks_a_glyph : texts_line_of (record { line = None; refusal = reason.Missing 0x4E2D })
    ≡ codes "tt_render: U+4E2D has no glyph"
unfolding digits
the_one_text_lacks_a_glyph = refl

a_line_is_cut : texts_line_of (record { line = Some 2; refusal = reason.Write 100 })
    ≡ codes "tt_render: line 2: cannot write after 100 bytes"
unfolding digits
a_line_is_cut = refl

a_file_of_a_line : texts_line_of (record { line = Some 2; refusal = reason.Create })
    ≡ codes "tt_render: line 2: cannot create the picture"
unfolding digits
a_file_of_a_line = refl

memory_is_no_lines_own : texts_line_of (record { line = Some 2; refusal = reason.Memory })
    ≡ codes "tt_render: out of memory"
memory_is_no_lines_own = refl
