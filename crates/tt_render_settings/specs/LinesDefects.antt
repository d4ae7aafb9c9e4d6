-- What a call that draws lines, or labels, claims about the defects of a font.
use Rattle.std.specs.Prelude.{◌≡◌, refl, ℕ, ◌-◌, List, [], ◌∷◌, get_or, codes, Option, Some, None, IfSome, Result, Ok, Err, ⊤, ◌⊎◌}
use Rattle.tt_cmap.specs.Maps.{CharacterMap}
use Rattle.tt_core.specs.Faults.{Fault}
use Rattle.tt_render_settings.specs.declared.setting.Setting.{Setting}
use Rattle.tt_render_texts.specs.declared.refusal.Refusal.{Refusal}
use Rattle.tt_render_texts.specs.declared.refusal.Refusal.TheVariants as reason
use Rattle.tt_render_texts.specs.declared.refusal.TextsFault.{TextsFault}
use Rattle.tt_render_texts.specs.Lines.{lines_of}
use Rattle.tt_render_settings.specs.Settings.{ByFaceAsked, IsOpeningDefect}
use Rattle.tt_strike.specs.Defects.{IsLineDefect}
use Rattle.tt_strike.specs.Strikes.{Strike, job_of}

-- the glyphs of a text: of one line, or of the lines of a label
abbrev pub GlyphsOf : Type 0
GlyphsOf = CharacterMap → List ℕ → List ℕ

-- the line of a text with this number, counted from 1
abbrev pub line_numbered : List ℕ → ℕ → List ℕ
line_numbered text number = get_or (lines_of text) (number - 1) []

-- a defect of the font that a line is drawn from, by a strike
abbrev pub IsDefectBy : GlyphsOf → Setting → Strike → List ℕ → Fault → Type 0
IsDefectBy glyphs a s line f = IsLineDefect s.face (job_of s line a.margin) (glyphs s.face.cmap line) f

-- a defect of the font that a line is drawn from, by the font's file
abbrev pub IsDefectIn : GlyphsOf → Setting → List ℕ → List ℕ → Fault → Type 0
IsDefectIn glyphs a file line f =
    ByFaceAsked (λ face j. IsLineDefect face j (glyphs face.cmap line) f) a line file

-- a defect of the tables that every text needs, of the instance, or of the data that this text is drawn from
abbrev pub IsTextDefect : GlyphsOf → Setting → List ℕ → List ℕ → Fault → Type 0
IsTextDefect glyphs a text file f = IsOpeningDefect a file f ⊎ IsDefectIn glyphs a file text f

-- the first line of a text has a defect
abbrev pub BeginsDefective : (List ℕ → Fault → Type 0) → Fault → List ℕ → Type 0
BeginsDefective IsOne f text =
    (line : List ℕ) × (rest : List (List ℕ)) × (lines_of text ≡ line ∷ rest) × IsOne line f

-- where the text is known, the font's fault that refuses a line is a defect of that line; no other fault is the font's
abbrev pub LineTells : (List ℕ → Fault → Type 0) → Option (List ℕ) → Refusal → Option ℕ → Type 0
LineTells IsOne text (reason.Font f) (Some number) = IfSome text (λ all. IsOne (line_numbered all number) f)
LineTells IsOne text (reason.Font f) None = ⊥
LineTells IsOne text why line = ⊤

abbrev pub LinesTell : {V : Type 0} → (List ℕ → Fault → Type 0) → Option (List ℕ) → Result V TextsFault → Type 0
LinesTell IsOne text (Err fault) = LineTells IsOne text fault.refusal fault.line
LinesTell IsOne text (Ok v) = ⊤

-- a font's fault in an error is a defect of the font: of the tables that every text needs, of the instance, or, where
-- the text is known, of the data that the numbered line is drawn from
abbrev pub LineTellsDefect : GlyphsOf → Setting → Option (List ℕ) → Refusal → Option ℕ → List ℕ → Type 0
LineTellsDefect glyphs a text (reason.Font f) (Some number) file =
    IfSome text (λ all. IsDefectIn glyphs a file (line_numbered all number) f)
LineTellsDefect glyphs a text (reason.Font f) None file = IsOpeningDefect a file f
LineTellsDefect glyphs a text why line file = ⊤

abbrev pub LinesTellDefects : {V : Type 0} → GlyphsOf → Setting → Option (List ℕ) → Result V TextsFault → List ℕ → Type 0
LinesTellDefects glyphs a text (Err fault) file = LineTellsDefect glyphs a text fault.refusal fault.line file
LinesTellDefects glyphs a text (Ok v) file = ⊤

-- this claim for the bytes of a font's reader, where they are known
abbrev pub LinesTellDefectsOf : {V : Type 0} → GlyphsOf → Option (List ℕ) → Setting → Option (List ℕ) → Result V TextsFault
    → Type 0
LinesTellDefectsOf {V} glyphs font a text result = IfSome font (LinesTellDefects {V = V} glyphs a text result)

-- worked values
the_second_line : line_numbered (codes "a\nbc\n") 2 ≡ codes "bc"
unfolding lines_of
the_second_line = refl

the_only_line : line_numbered (codes "abc") 1 ≡ codes "abc"
unfolding lines_of
the_only_line = refl
