-- No part of the standard: what helps a person where no file has a path (profile). The path may be that of standard
-- input, as other programs name it, or the name of a family of fonts.
use Rattle.std.specs.Prelude.{◌≡◌, refl, ℕ, ◌+◌, ◌-◌, ◌==◌, Bool, true, false, not, ◌&&◌, ◌||◌, nat_le, nat_lt, if◌then◌else◌, List, [], ◌∷◌, ◌++◌, length, map, flat_map, slice_index, codes, bytes_eq, Option, Some, None}
use Rattle.std.specs.List.{list_any}
use Rattle.tt_advice.specs.declared.hint.FixedHint.TheVariants as fixed
use Rattle.tt_advice.specs.Shown.{shown}
use Rattle.tt_program_decisions.specs.declared.unfound.PathHint.{PathHint}
use Rattle.tt_program_decisions.specs.declared.unfound.PathHint.TheVariants as path_hint

-- a byte in lower case, if it is a letter of ASCII
abbrev pub lowered : ℕ → ℕ
lowered b = if nat_le 65 b && nat_le b 90 then b + 32 else b

-- the names of font files end like this
abbrev pub is_suffix : List ℕ → Bool
is_suffix end =
    bytes_eq end (codes ".ttf") || bytes_eq end (codes ".ttc") || bytes_eq end (codes ".otf") || bytes_eq end (codes ".otc")

-- the last four characters, of which a suffix has all as bytes
abbrev pub last_four : List ℕ → List ℕ
last_four text =
    lowered (slice_index text (length text - 4)) ∷ lowered (slice_index text (length text - 3))
    ∷ lowered (slice_index text (length text - 2)) ∷ lowered (slice_index text (length text - 1)) ∷ []

abbrev pub names_font : List ℕ → Bool
names_font text = if nat_lt (length text) 4 then false else is_suffix (last_four text)

-- the text may be the path
abbrev pub is_swapped : Option (List ℕ) → Bool
is_swapped None = false
is_swapped (Some text) = names_font text

-- a name without a folder or the end of a font file's name; a dash in front would make an option of it
abbrev pub names_family : List ℕ → Bool
names_family path =
    nat_lt 0 (length path) && not (slice_index path 0 == 45) && not (list_any (λ b. b == 47) path) && not (names_font path)

unfoldable pub unfound_hint : List ℕ → Option (List ℕ) → PathHint
unfound_hint path text =
    if bytes_eq path (codes "-") then path_hint.Stream
    else (if is_swapped text then path_hint.Fixed fixed.Swapped
    else (if names_family path then path_hint.Family else path_hint.Fixed fixed.NoFile))

-- a word in quotes of the shell, where a quote of its own stands outside of them, behind a backslash
abbrev pub quoted_byte : ℕ → List ℕ
quoted_byte b = if b == 39 then 39 ∷ 92 ∷ 39 ∷ 39 ∷ [] else b ∷ []

abbrev pub quoted : List ℕ → List ℕ
quoted word = codes "'" ++ (flat_map quoted_byte word ++ codes "'")

abbrev pub stream_line : List ℕ
stream_line = codes "tt_render: -: a font is read from a file: /dev/stdin\n"

-- the line about a family, by its name as it is shown
abbrev pub line_of_family : List ℕ → List ℕ
line_of_family name =
    codes "tt_render: " ++ (name ++ (codes ": no such file; fc-match -f '%{file}' "
    ++ (quoted name ++ codes " finds a family's file\n")))

abbrev pub family_line : List ℕ → List ℕ
family_line path = line_of_family (shown path)

-- worked values
font_names : map names_font (codes "F.TTF" ∷ codes ".ttc" ∷ codes "a.Otf" ∷ codes "b.oTC" ∷ codes "ttf" ∷ codes "f.ttfx" ∷ codes "Hello" ∷ [])
    ≡ true ∷ true ∷ true ∷ true ∷ false ∷ false ∷ false ∷ []
font_names = refl

family_names : map names_family (codes "Arial" ∷ codes "DejaVu Sans" ∷ codes "a" ∷ codes "f.ttfx" ∷ [] ∷ codes "-a" ∷ codes "fonts/Arial" ∷ codes "/" ∷ codes "Arial.TTF" ∷ codes "arial.otc" ∷ [])
    ≡ true ∷ true ∷ true ∷ true ∷ false ∷ false ∷ false ∷ false ∷ false ∷ false ∷ []
family_names = refl

a_dash : map (unfound_hint (codes "-")) (None ∷ Some (codes "F.ttf") ∷ []) ≡ path_hint.Stream ∷ path_hint.Stream ∷ []
unfolding unfound_hint
a_dash = refl

exchanged_before_a_family : unfound_hint (codes "Hello") (Some (codes "F.TTF")) ≡ path_hint.Fixed fixed.Swapped
unfolding unfound_hint
exchanged_before_a_family = refl

a_file : map (λ path. unfound_hint path (Some (codes "A"))) (codes "F.ttf" ∷ codes "f/a" ∷ [] ∷ codes "--" ∷ codes "Arial" ∷ [])
    ≡ path_hint.Fixed fixed.NoFile ∷ path_hint.Fixed fixed.NoFile ∷ path_hint.Fixed fixed.NoFile ∷ path_hint.Fixed fixed.NoFile ∷ path_hint.Family ∷ []
unfolding unfound_hint
a_file = refl

a_quote : quoted (codes "O'Neil") ≡ codes "'O'\\''Neil'"
a_quote = refl

a_family : line_of_family (codes "DejaVu Sans") ≡ codes "tt_render: DejaVu Sans: no such file; fc-match -f '%{file}' 'DejaVu Sans' finds a family's file\n"
a_family = refl
