-- No part of the standard: the files that `-o` names (profile).
use Rattle.std.specs.Prelude.{◌≡◌, ◌≢◌, refl, ℕ, Bool, true, false, not, ◌&&◌, ◌==◌, nat_lt, if◌then◌else◌, List, [], ◌∷◌, ◌++◌, ◌⊎◌, length, map, fold, bytes_eq, codes, decimal, Option, Some, None}
use Rattle.tt_program_decisions.specs.declared.output.Marks.{Marks}
use Rattle.tt_program_decisions.specs.Unfound.{last_four}
use Rattle.tt_render_streams.specs.declared.formed.PictureFormat.{PictureFormat}
use Rattle.tt_render_streams.specs.declared.formed.PictureFormat.TheVariants as format

-- a name ends in `.png`, in letters of any case
abbrev pub names_png : List ℕ → Bool
names_png name = if nat_lt (length name) 4 then false else bytes_eq (last_four name) (codes ".png")

-- the format of pictures, by whether there is `--png`, and by the name of a file, if there is one
abbrev pub format_named : Option (List ℕ) → PictureFormat
format_named None = format.Pbm
format_named (Some name) = if names_png name then format.Png else format.Pbm

abbrev pub format_asked : Bool → Option (List ℕ) → PictureFormat
format_asked png output = if png then format.Png else format_named output

-- what is known of the `%d` in some bytes, and in one byte more
abbrev pub no_mark : Marks
no_mark = record { percent = false; some = false; more = false }

abbrev pub next_mark : Marks → ℕ → Marks
next_mark m b =
    if m.percent && b == 100 then record { percent = false; some = true; more = m.some }
    else record { percent = b == 37; some = m.some; more = m.more }

abbrev pub marks_in : List ℕ → Marks
marks_in name = fold next_mark no_mark name

-- a name has `%d` exactly once
abbrev pub is_numbered : List ℕ → Bool
is_numbered name = (marks_in name).some && not (marks_in name).more

-- the name of a picture's file: of a line with a number, this number stands in place of `%d`
abbrev pub IsNumberedBy : List ℕ → ℕ → List ℕ → Type 0
IsNumberedBy name number text =
    ((before : List ℕ) × (after : List ℕ) × (name ≡ before ++ (codes "%d" ++ after))
    × (text ≡ before ++ (decimal number ++ after)))
    ⊎ (((before after : List ℕ) → name ≢ before ++ (codes "%d" ++ after)) × (text ≡ name))

abbrev pub IsFileName : List ℕ → Option ℕ → List ℕ → Type 0
IsFileName name None text = text ≡ name
IsFileName name (Some number) text = IsNumberedBy name number text

-- worked values
files_in_png : map names_png (codes "x.png" ∷ codes "X.PNG" ∷ codes ".pNg" ∷ codes "png" ∷ codes "x.png.pbm" ∷ codes "x png" ∷ [])
    ≡ true ∷ true ∷ true ∷ false ∷ false ∷ false ∷ []
files_in_png = refl

numbered : map is_numbered (codes "%d" ∷ codes "5%-%d.png" ∷ codes "%%dd" ∷ codes "x.png" ∷ codes "%d%d.png" ∷ codes "%d-%d" ∷ codes "%" ∷ [])
    ≡ true ∷ true ∷ true ∷ false ∷ false ∷ false ∷ false ∷ []
numbered = refl

by_the_name_alone : map (format_asked false) (None ∷ Some (codes "a.Png") ∷ Some (codes "a.pbm") ∷ [])
    ≡ format.Pbm ∷ format.Png ∷ format.Pbm ∷ []
by_the_name_alone = refl
