-- No part of the standard: the report of a drawn text, on standard error.
use Rattle.std.specs.Prelude.{◌≡◌, refl, ℕ, Bool, true, ◌==◌, ◌&&◌, if◌then◌else◌, List, [], ◌∷◌, ◌++◌, length, flat_map, codes, decimal, Option, Some, None}
use Rattle.std.specs.Fmt.{digits}
use Rattle.tt_advice.specs.declared.signs.Sign.{Sign}
use Rattle.tt_advice.specs.declared.signs.Sign.TheVariants as sign
use Rattle.tt_core.specs.declared.fault.Why.TheVariants as why
use Rattle.tt_core.specs.Faults.{fault_at, why_number, why_name}
use Rattle.tt_fit.specs.declared.programs.Fit.{Fit}
use Rattle.tt_fit.specs.declared.programs.Fit.TheVariants as fit
use Rattle.tt_render_streams.specs.picture.declared.report.Unfitted.{Unfitted}
use Rattle.tt_render_streams.specs.CodePoints.{code_point}
use Rattle.tt_render_streams.specs.Messages.{fault_words}
use Rattle.tt_render_texts.specs.declared.label_reports.CutInk.{CutInk}
use Rattle.tt_render_texts.specs.declared.label_reports.LabelTold.{LabelTold as ReadyTold}
use Rattle.tt_render_texts.specs.declared.label_reports.Signs.{Signs}
use Rattle.tt_render_texts.specs.Answers.{LabelTold, TextAnswer}

-- `tt_render: `, or of a line `tt_render: line <number>: `
abbrev pub head_of : Option ℕ → List ℕ
head_of None = codes "tt_render: "
head_of (Some number) = codes "tt_render: line " ++ (decimal number ++ codes ": ")

-- `glyph <n> unfitted: <table>+<offset>: <number> <name>` and a line feed, after a head
abbrev pub unfitted_told : Option ℕ → Unfitted → List ℕ
unfitted_told number u =
    head_of number ++ (codes "glyph " ++ (decimal u.glyph
    ++ (codes " unfitted: " ++ (fault_words u.fault ++ codes "\n"))))

-- `U+<code point> has no glyph` and a line feed, after a head
abbrev pub lacking_told : Option ℕ → ℕ → List ℕ
lacking_told number c = head_of number ++ (codes "U+" ++ (code_point c ++ codes " has no glyph\n"))

-- the report of a text: its unfitted glyphs, and then its characters without a glyph
unfoldable pub report_text_of : Option ℕ → List Unfitted → List ℕ → List ℕ
report_text_of number unfitted lacking =
    flat_map (unfitted_told number) unfitted ++ flat_map (lacking_told number) lacking

-- The report of a label.

-- the name of a way to fit
abbrev pub fit_name : Fit → List ℕ
fit_name fit.Full = codes "full"
fit_name fit.None = codes "none"
fit_name fit.Fallback = codes "fallback"
fit_name fit.Best = codes "best"

-- a line for one unfitted glyph, or for more
abbrev pub count_line : Option ℕ → Fit → ℕ → List ℕ
count_line number f n =
    if n == 1
    then head_of number ++ (codes "1 glyph is not fitted; draw --fit " ++ (fit_name f ++ codes " names it\n"))
    else head_of number ++ (decimal n ++ (codes " glyphs are not fitted; draw --fit " ++ (fit_name f ++ codes " names them\n")))

abbrev pub count_told : Option ℕ → Fit → ℕ → List ℕ
count_told number f n = if n == 0 then [] else count_line number f n

-- so many columns
abbrev pub columns_told : ℕ → List ℕ
columns_told n = if n == 1 then codes "1 column" else decimal n ++ codes " columns"

-- where ink is cut, and how much; a side without such ink is left out
abbrev pub cut_sides : CutInk → List ℕ
cut_sides c =
    if c.right == 0 then columns_told c.left ++ codes " at the left"
    else if c.left == 0 then columns_told c.right ++ codes " at the right"
    else columns_told c.left ++ (codes " at the left and " ++ (columns_told c.right ++ codes " at the right"))

-- a line for ink that is cut, if there is any
abbrev pub cut_line : Option ℕ → CutInk → List ℕ
cut_line number c =
    head_of number ++ (codes "ink is cut: " ++ (cut_sides c ++ codes "; --margin or a greater --width shows it\n"))

abbrev pub cut_told : Option ℕ → CutInk → List ℕ
cut_told number c = if c.left == 0 && c.right == 0 then [] else cut_line number c

-- no ink is cut
abbrev pub nothing_cut : CutInk
nothing_cut = record { left = 0; right = 0 }

-- what is reported of a character with a sign, behind its code point
unfoldable pub sign_words : Sign → ℕ → List ℕ
sign_words sign.Control c =
    if c == 9 then codes "is a tab, and drawn as the font has it; expand(1) makes blanks of tabs"
    else codes "is a control character, and drawn as the font has it"
sign_words sign.RightToLeft c = codes "is written from right to left, but drawn from left to right"
sign_words sign.Shaped c =
    codes "is of a script whose letters take other forms beside each other; they are drawn one by one"
sign_words sign.Joining c = codes "joins the character beside it, but is drawn by itself"

-- `U+<code point> <words>` and a line feed, after a head
abbrev pub sign_line : Option ℕ → Sign → ℕ → List ℕ
sign_line number s c =
    head_of number ++ (codes "U+" ++ (code_point c ++ (codes " " ++ (sign_words s c ++ codes "\n"))))

abbrev pub sign_told : Option ℕ → Sign → Option ℕ → List ℕ
sign_told number s None = []
sign_told number s (Some c) = sign_line number s c

abbrev pub signs_told : Option ℕ → Signs → List ℕ
signs_told number s =
    sign_told number sign.Control s.control ++ (sign_told number sign.RightToLeft s.right_to_left
    ++ (sign_told number sign.Shaped s.shaped ++ sign_told number sign.Joining s.joining))

-- whether a report is that of the first picture of a call
abbrev pub is_first : Option ℕ → Bool
is_first None = true
is_first (Some number) = number == 1

-- the lines about the font stand behind the first picture
abbrev pub font_told : Option ℕ → List ℕ → List ℕ
font_told number lines = if is_first number then lines else []

-- the report of a label: so many unfitted glyphs, its characters without a glyph, ink that is cut, the first character of
-- each sign, and the lines about its font
unfoldable pub label_report_of : Option ℕ → LabelTold → ℕ → List ℕ → List ℕ
label_report_of number t unfitted lacking =
    count_told number t.fit unfitted ++ (flat_map (lacking_told number) lacking
    ++ (cut_told number t.cut ++ (signs_told number t.signs ++ font_told number t.font)))

-- the reported parts of a label that is ready to be written
abbrev pub told_view : ReadyTold → LabelTold
told_view t = record { fit = t.fit; cut = t.cut; signs = t.signs; font = t.font.now }

-- the report of an answer
abbrev pub told_with : Option LabelTold → Option ℕ → List Unfitted → List ℕ → List ℕ
told_with None number unfitted lacking = report_text_of number unfitted lacking
told_with (Some t) number unfitted lacking = label_report_of number t (length unfitted) lacking

abbrev pub told_of : Option ℕ → TextAnswer → List ℕ
told_of number a = told_with a.label number a.unfitted a.lacking

-- worked values
one_unfitted : count_told (Some 2) fit.Best 1 ≡ codes "tt_render: line 2: 1 glyph is not fitted; draw --fit best names it\n"
unfolding digits
one_unfitted = refl

many_unfitted : count_told None fit.Fallback 12 ≡ codes "tt_render: 12 glyphs are not fitted; draw --fit fallback names them\n"
unfolding digits
many_unfitted = refl

two_columns_at_the_left : cut_told None (record { left = 2; right = 0 })
    ≡ codes "tt_render: ink is cut: 2 columns at the left; --margin or a greater --width shows it\n"
unfolding digits
two_columns_at_the_left = refl

one_column_at_the_right : cut_told (Some 7) (record { left = 0; right = 1 })
    ≡ codes "tt_render: line 7: ink is cut: 1 column at the right; --margin or a greater --width shows it\n"
unfolding digits
one_column_at_the_right = refl

columns_at_both_sides : cut_told None (record { left = 1; right = 12 })
    ≡ codes "tt_render: ink is cut: 1 column at the left and 12 columns at the right; --margin or a greater --width shows it\n"
unfolding digits
columns_at_both_sides = refl

no_column : cut_told None nothing_cut ≡ []
no_column = refl

a_tab : sign_told (Some 2) sign.Control (Some 9)
    ≡ codes "tt_render: line 2: U+0009 is a tab, and drawn as the font has it; expand(1) makes blanks of tabs\n"
unfolding digits sign_words
a_tab = refl

a_return : sign_told None sign.Control (Some 13)
    ≡ codes "tt_render: U+000D is a control character, and drawn as the font has it\n"
unfolding digits sign_words
a_return = refl

a_hebrew_letter : sign_told None sign.RightToLeft (Some 0x5D0)
    ≡ codes "tt_render: U+05D0 is written from right to left, but drawn from left to right\n"
unfolding digits sign_words
a_hebrew_letter = refl

a_letter_of_devanagari : sign_told None sign.Shaped (Some 0x915)
    ≡ codes "tt_render: U+0915 is of a script whose letters take other forms beside each other; they are drawn one by one\n"
unfolding digits sign_words
a_letter_of_devanagari = refl

an_accent : sign_told None sign.Joining (Some 0x301)
    ≡ codes "tt_render: U+0301 joins the character beside it, but is drawn by itself\n"
unfolding digits sign_words
an_accent = refl

nothing_to_tell : report_text_of (Some 17) [] [] ≡ []
unfolding report_text_of
nothing_to_tell = refl

a_glyph_and_a_character : report_text_of (Some 17)
    (record { glyph = 78; fault = fault_at (codes "glyf") 12177 why.DivZero } ∷ []) (0x4E2D ∷ [])
    ≡ codes "tt_render: line 17: glyph 78 unfitted: glyf+12177: 47 DivZero\ntt_render: line 17: U+4E2D has no glyph\n"
unfolding report_text_of digits why_number why_name
a_glyph_and_a_character = refl

of_the_one_text : report_text_of None [] (0x41 ∷ (0x1F600 ∷ []))
    ≡ codes "tt_render: U+0041 has no glyph\ntt_render: U+1F600 has no glyph\n"
unfolding report_text_of digits
of_the_one_text = refl
