-- Apple TrueType Reference Manual, "The 'head' table": macStyle, whose bit 0 is bold and bit 1 is italic. A face whose
-- head lacks the word has no style (profile).
use Rattle.std.specs.Prelude.{◌≡◌, refl, ℕ, List, [], ◌∷◌, ◌++◌, codes, replicate, Option, Some, None, Result, Ok, Err}
use Rattle.tt_core.specs.Directory.{Directory, table_of}
use Rattle.tt_core.specs.Faults.{Fault}
use Rattle.tt_core.specs.Numbers.{number_at}

abbrev pub head_tag : List ℕ
head_tag = codes "head"

abbrev pub or_plain : Option ℕ → ℕ
or_plain None = 0
or_plain (Some style) = style

abbrev pub style_in : List ℕ → ℕ
style_in head = or_plain (number_at head 44 2)

abbrev pub style_by : Result (Option (List ℕ)) Fault → ℕ
style_by (Ok (Some head)) = style_in head
style_by (Ok None) = 0
style_by (Err fault) = 0

-- the style of a face
unfoldable pub style_of : Directory → ℕ
style_of d = style_by (table_of d head_tag)

-- worked values
bold_and_italic : style_in (replicate 44 255 ++ 0 ∷ 3 ∷ []) ≡ 3
bold_and_italic = refl

cut_off : style_in (replicate 44 255 ++ 3 ∷ []) ≡ 0
cut_off = refl
