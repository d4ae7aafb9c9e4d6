-- The program's messages: the exit status and the line on standard error of a fault; the line of an unfitted glyph; and
-- the words on a character without a glyph.
use Rattle.std.specs.Prelude.{ℕ, List, ◌++◌, codes, decimal, ◌≡◌, refl, [], ◌∷◌, map}
use Rattle.std.specs.Fmt.{digits}
use Rattle.tt_core.specs.declared.fault.JobFault.{JobFault}
use Rattle.tt_core.specs.declared.fault.Why.TheVariants as why
use Rattle.tt_core.specs.Faults.{Fault, fault_at, why_number, why_name, job_number, job_name}
use Rattle.tt_render_streams.specs.declared.fault.RunFault.{RunFault}
use Rattle.tt_render_streams.specs.declared.fault.RunFault.TheVariants as run
use Rattle.tt_picture.specs.declared.report.Unfitted.{Unfitted}
use Rattle.tt_render_streams.specs.CodePoints.{code_point}

abbrev pub status_of : RunFault → ℕ
status_of (run.Font f) = 1
status_of (run.Job j) = 2
status_of run.Read = 3
status_of run.FontLarge = 3
status_of (run.Write sent) = 4
status_of run.Memory = 5

-- `<table>+<offset>: <number> <name>`
abbrev pub fault_words : Fault → List ℕ
fault_words f =
    f.table ++ (codes "+" ++ (decimal f.offset
    ++ (codes ": " ++ (decimal (why_number f.why) ++ (codes " " ++ why_name f.why)))))

-- `tt_render: <table>+<offset>: <number> <name>`
abbrev pub font_line : Fault → List ℕ
font_line f = codes "tt_render: " ++ fault_words f

-- `tt_render: glyph <n> unfitted: <table>+<offset>: <number> <name>`
abbrev pub unfitted_line_of : Unfitted → List ℕ
unfitted_line_of u =
    codes "tt_render: glyph " ++ (decimal u.glyph ++ (codes " unfitted: " ++ fault_words u.fault))

-- `U+<code point> has no glyph`
abbrev pub missing_words : ℕ → List ℕ
missing_words c = codes "U+" ++ (code_point c ++ codes " has no glyph")

-- `<number> <name>`
abbrev pub job_words : JobFault → List ℕ
job_words j = decimal (job_number j) ++ (codes " " ++ job_name j)

-- `tt_render: <number> <name>`
abbrev pub job_line : JobFault → List ℕ
job_line j = codes "tt_render: " ++ job_words j

abbrev pub line_of : RunFault → List ℕ
line_of (run.Font f) = font_line f
line_of (run.Job j) = job_line j
line_of run.Read = codes "tt_render: cannot read the font"
line_of run.FontLarge = codes "tt_render: font larger than 67108864 bytes"
line_of (run.Write sent) = codes "tt_render: cannot write after " ++ (decimal sent ++ codes " bytes")
line_of run.Memory = codes "tt_render: out of memory"

-- a worked value
an_instruction_outside : line_of (run.Font (fault_at (codes "glyf") 14 why.OffProfile))
    ≡ codes "tt_render: glyf+14: 35 OffProfile"
unfolding digits why_number why_name
an_instruction_outside = refl

a_glyph_not_fitted : unfitted_line_of (record { glyph = 1; fault = fault_at (codes "glyf") 14 why.OffProfile })
    ≡ codes "tt_render: glyph 1 unfitted: glyf+14: 35 OffProfile"
unfolding digits why_number why_name
a_glyph_not_fitted = refl

-- a letter, an ideograph, an emoji, and the last character
without_a_glyph : map missing_words (0x41 ∷ 0x4E2D ∷ 0x1F600 ∷ 0x10FFFF ∷ []) ≡
    codes "U+0041 has no glyph" ∷ codes "U+4E2D has no glyph"
    ∷ codes "U+1F600 has no glyph" ∷ codes "U+10FFFF has no glyph" ∷ []
unfolding digits
without_a_glyph = refl
