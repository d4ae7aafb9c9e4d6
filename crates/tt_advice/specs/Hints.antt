-- No part of the standard: what is reported to people of a font's file (profile).
use Rattle.std.specs.Prelude.{◌≡◌, refl, ℕ, ◌-◌, List, [], ◌∷◌, ◌++◌, map, codes, decimal}
use Rattle.std.specs.Fmt.{digits}
use Rattle.std.specs.Str.{encode_utf8_all}
use Rattle.tt_core.specs.declared.fault.Why.TheVariants as why
use Rattle.tt_core.specs.Faults.{fault_at}
use Rattle.tt_advice.specs.declared.hint.FixedHint.{FixedHint}
use Rattle.tt_advice.specs.declared.hint.FixedHint.TheVariants as fixed
use Rattle.tt_advice.specs.declared.hint.Hint.{Hint}
use Rattle.tt_advice.specs.declared.hint.Hint.TheVariants as hint
use Rattle.tt_advice.specs.Shown.{shown}

unfoldable pub fixed_words : FixedHint → List ℕ
fixed_words fixed.NoFile = codes "no such file"
fixed_words fixed.Swapped = codes "no such file; FONT stands before TEXT"
fixed_words fixed.NotAllowed = codes "permission denied"
fixed_words fixed.FileOnPath = codes "a folder of this path is a file"
fixed_words fixed.Links = codes "too many symbolic links"
fixed_words fixed.LongName = codes "the name is too long"
fixed_words fixed.Folder = codes "is a folder"
fixed_words fixed.Empty = codes "is empty"
fixed_words fixed.Cff = codes "has CFF outlines; TrueType outlines alone are drawn: take the .ttf of the family, or convert it (fontforge)"
fixed_words fixed.Type1 = codes "is a Type 1 font; TrueType outlines alone are drawn: convert it (fontforge)"
fixed_words fixed.Bitmaps = codes "has bitmaps or colour pictures, but no TrueType outlines"
fixed_words fixed.Woff = codes "is a packed font (WOFF); unpack it first: woff2sfnt"
fixed_words fixed.Woff2 = codes "is a packed font (WOFF2); unpack it first: woff2_decompress"
fixed_words fixed.Gzip = codes "is packed (gzip); unpack it first: gunzip"
fixed_words fixed.Page = codes "is no font, but begins like a page of the web"
fixed_words fixed.NoFont = codes "is no TrueType font"
fixed_words fixed.Version = codes "is a collection of a version that is not read"
fixed_words fixed.NoCollection = codes "is no collection: its one face is --face 0"
fixed_words fixed.NoFaces = codes "is a collection without a face"
fixed_words fixed.NoMap = codes "has no character map that is read"
fixed_words fixed.Cut = codes "is cut off or damaged"
fixed_words fixed.Beyond = codes "has a glyph beyond what is drawn"
fixed_words fixed.Program = codes "has a program for fitting that is refused; --fit best draws it"
fixed_words fixed.Variable = codes "is a variable font; its default instance is drawn (--instance, --axis; faces lists them)"
fixed_words fixed.NotVariable = codes "is no variable font"
fixed_words fixed.NoInstance = codes "has no such instance; tt_render faces lists them"
fixed_words fixed.ManyCharacters = codes "has more than 4096 of the characters asked for; --range says which"
fixed_words fixed.NoCharacter = codes "has a glyph for none of the characters asked for"

-- what follows the font's path
abbrev pub hint_words : Hint → List ℕ
hint_words (hint.Fixed f) = fixed_words f
hint_words (hint.Faces count) =
    codes "is a collection of " ++ (decimal count ++ (codes " faces: --face is 0 to " ++ decimal (count - 1)))
hint_words (hint.Lacks f) = codes "lacks the table '" ++ (f.table ++ codes "'")
hint_words (hint.Damaged f) = codes "is damaged in its table '" ++ (f.table ++ codes "'")
hint_words (hint.NoAxis tag) = codes "has no axis " ++ (encode_utf8_all tag ++ codes "; tt_render faces lists its axes")
hint_words (hint.FirstOf count) =
    codes "is a collection of " ++ (decimal count ++ codes " faces; face 0 is drawn (--face N)")

-- `tt_render: <font>: <words>` and a line feed
abbrev pub line_about : List ℕ → Hint → List ℕ
line_about font h = codes "tt_render: " ++ (font ++ (codes ": " ++ (hint_words h ++ codes "\n")))

-- the line about the font of a path
abbrev pub hint_line : List ℕ → Hint → List ℕ
hint_line path h = line_about (shown path) h

-- worked values
another_kind : line_about (codes "F.ttf") (hint.Fixed fixed.Cff)
    ≡ codes "tt_render: F.ttf: has CFF outlines; TrueType outlines alone are drawn: take the .ttf of the family, or convert it (fontforge)\n"
unfolding fixed_words
another_kind = refl

another_face : line_about (codes "F.ttf") (hint.Faces 2) ≡ codes "tt_render: F.ttf: is a collection of 2 faces: --face is 0 to 1\n"
unfolding digits
another_face = refl

the_first_face : line_about (codes "F.ttf") (hint.FirstOf 13)
    ≡ codes "tt_render: F.ttf: is a collection of 13 faces; face 0 is drawn (--face N)\n"
unfolding digits
the_first_face = refl

no_table : line_about (codes "a?b") (hint.Lacks (fault_at (codes "glyf") 0 why.NoTable)) ≡ codes "tt_render: a?b: lacks the table 'glyf'\n"
no_table = refl

a_bad_table : line_about (codes "F") (hint.Damaged (fault_at (codes "maxp") 0 why.MaxpVersion)) ≡ codes "tt_render: F: is damaged in its table 'maxp'\n"
a_bad_table = refl

no_axis : line_about (codes "F.ttf") (hint.NoAxis (codes "wdth")) ≡ codes "tt_render: F.ttf: has no axis wdth; tt_render faces lists its axes\n"
unfolding lib.Utf8.encode
no_axis = refl

no_instance : map (λ f. line_about (codes "F") (hint.Fixed f)) (fixed.NotVariable ∷ fixed.NoInstance ∷ [])
    ≡ codes "tt_render: F: is no variable font\n" ∷ codes "tt_render: F: has no such instance; tt_render faces lists them\n" ∷ []
unfolding fixed_words
no_instance = refl
