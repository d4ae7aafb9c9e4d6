-- No part of the standard: what is reported to people of a font that is drawn (profile). A variable font has other
-- instances, and a collection has other faces.
use Rattle.std.specs.Prelude.{◌≡◌, refl, ℕ, Bool, true, false, ◌||◌, not, nat_lt, if◌then◌else◌, List, [], ◌∷◌, ◌++◌, map, codes, Option, Some, None}
use Rattle.tt_core.specs.Collections.{directory_by, face_offset, offset_of}
use Rattle.tt_core.specs.Directory.{read_directory}
use Rattle.tt_core.specs.Numbers.{number_at}
use Rattle.tt_advice.specs.Advice.{has_record}
use Rattle.tt_advice.specs.declared.hint.FixedHint.TheVariants as fixed
use Rattle.tt_advice.specs.declared.hint.Hint.{Hint}
use Rattle.tt_advice.specs.declared.hint.Hint.TheVariants as hint
use Rattle.tt_advice.specs.Hints.{hint_line}
use Rattle.tt_advice.specs.Kinds.{begins}

-- a table `fvar`, unless an instance was requested
abbrev pub variable_hint : List ℕ → ℕ → Bool → Option Hint
variable_hint file n instance =
    if instance || not (has_record file n (codes "fvar")) then None else Some (hint.Fixed fixed.Variable)

-- numFonts of a collection
abbrev pub count_in : List ℕ → Option ℕ
count_in file = if begins file (codes "ttcf") then number_at file 8 4 else None

abbrev pub first_of : Option ℕ → Option Hint
first_of None = None
first_of (Some count) = if nat_lt 1 count then Some (hint.FirstOf count) else None

-- a collection of more than one face, and none was requested
abbrev pub first_hint : List ℕ → Bool → Option Hint
first_hint file given = if given then None else first_of (count_in file)

abbrev pub hint_told : List ℕ → Option Hint → List ℕ
hint_told path None = []
hint_told path (Some h) = hint_line path h

-- the lines about a font, by its path, its bytes, its face's number, and whether the face and an instance were requested
unfoldable pub font_notes : List ℕ → List ℕ → ℕ → Bool → Bool → List ℕ
font_notes path file n given instance =
    hint_told path (variable_hint file n instance) ++ hint_told path (first_hint file given)

-- worked values: headers of collections
abbrev collection_of : ℕ → List ℕ
collection_of count = 116 ∷ 116 ∷ 99 ∷ 102 ∷ 0 ∷ 1 ∷ 0 ∷ 0 ∷ 0 ∷ 0 ∷ 0 ∷ count ∷ []

of_two_faces : first_hint (collection_of 2) false ≡ Some (hint.FirstOf 2)
of_two_faces = refl

nothing_to_choose : map (λ count. first_hint (collection_of count) false) (0 ∷ 1 ∷ []) ≡ None ∷ None ∷ []
nothing_to_choose = refl

-- a font with a table fvar, which has no byte
abbrev variable : List ℕ
variable =
    (0 ∷ 1 ∷ 0 ∷ 0 ∷ 0 ∷ 1 ∷ 0 ∷ 0 ∷ 0 ∷ 0 ∷ 0 ∷ 0 ∷ [])
    ++ (codes "fvar" ++ (0 ∷ 0 ∷ 0 ∷ 0 ∷ 0 ∷ 0 ∷ 0 ∷ 0 ∷ 0 ∷ 0 ∷ 0 ∷ 0 ∷ []))

unless_an_instance_was_asked_for : map (variable_hint variable 0) (false ∷ true ∷ [])
    ≡ Some (hint.Fixed fixed.Variable) ∷ None ∷ []
unfolding has_record directory_by offset_of face_offset read_directory
unless_an_instance_was_asked_for = refl

no_variable_font : variable_hint [] 0 false ≡ None
unfolding has_record directory_by offset_of face_offset
no_variable_font = refl

it_was_chosen : first_hint (collection_of 2) true ≡ None
it_was_chosen = refl

no_collection : first_hint (0 ∷ 1 ∷ 0 ∷ 0 ∷ []) false ≡ None
no_collection = refl
