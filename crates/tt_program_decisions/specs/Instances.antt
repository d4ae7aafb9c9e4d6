-- No part of the standard: the words of `--instance` and `--axis`, and their instance (profile).
use Rattle.std.specs.Prelude.{◌≡◌, refl, ℕ, ◌+◌, ◌-◌, ◌*◌, min, Bool, false, ◌&&◌, nat_le, nat_lt, if◌then◌else◌, List, [], ◌∷◌, length, map, fold, codes, Option, Some, None, option_map}
use Rattle.std.specs.List.{list_all}
use Rattle.tt_axes.specs.AxisWords.{axis_values_of}
use Rattle.tt_axes.specs.declared.values.AxisValue.{AxisValue}
use Rattle.tt_face.specs.declared.instance.AskedInstance.{AskedInstance}
use Rattle.tt_face.specs.Instance.{Asked, Named, by_name, by_number}
use Rattle.tt_program_decisions.specs.declared.instances.InstanceWords.{InstanceWords}
use Rattle.tt_program_decisions.specs.declared.request.Request.{Request}
use Rattle.tt_program_decisions.specs.declared.request.Request.TheVariants.{Map, Faces, Text, Lines, Layout, Label, Labels, Bdf}

-- the words by the arguments of a command line: a name's text
abbrev pub AsksWords : (List ℕ → Option (List ℕ)) → InstanceWords → Type 0
AsksWords text w =
    (option_map (λ s. s.now) w.named ≡ text (codes "instance")) × (option_map (λ s. s.now) w.axes ≡ text (codes "axis"))

-- the values by the words of `--axis`, if the words are of the right form; no values without words
abbrev pub axes_asked : Option (List ℕ) → Option (List AxisValue)
axes_asked None = Some []
axes_asked (Some words) = axis_values_of words

abbrev pub is_digit : ℕ → Bool
is_digit c = nat_le 48 c && nat_le c 57

-- digits alone
abbrev pub is_number : List ℕ → Bool
is_number word = if nat_lt (length word) 1 then false else list_all is_digit word

-- a number with one more digit, at most 2^32 - 1
abbrev pub with_digit : ℕ → ℕ → ℕ
with_digit n c = min (10 * n + (c - 48)) 4294967295

abbrev pub number_of : List ℕ → ℕ
number_of digits = fold with_digit 0 digits

-- digits alone are the number of a named instance, other words its name
abbrev pub named_asked : List ℕ → Named
named_asked word = if is_number word then by_number (number_of word) else by_name word

-- the instance of the words, by the values of axes; none without words
abbrev pub instance_asked : Option (List ℕ) → Option (List ℕ) → List AxisValue → Option Asked
instance_asked None None axes = None
instance_asked named words axes = Some (record { named = option_map named_asked named; axes = axes })

-- a request at an instance; the faces of a file are told without one
abbrev pub request_at : Request → Option AskedInstance → Request
request_at (Map font text r was) i = Map font text r i
request_at (Faces font) i = Faces font
request_at (Text font text setting) i = Text font text (record setting { instance = i })
request_at (Lines font setting) i = Lines font (record setting { instance = i })
request_at (Layout font text setting) i = Layout font text (record setting { instance = i })
request_at (Label font text options output) i = Label font text (record options { instance = i }) output
request_at (Labels font options output) i = Labels font (record options { instance = i }) output
request_at (Bdf asked) i = Bdf (record asked { instance = i })

-- worked values
each_word : map named_asked (codes "0" ∷ codes "007" ∷ codes "Thin" ∷ codes "-1" ∷ codes "1a" ∷ [] ∷ [])
    ≡ by_number 0 ∷ by_number 7 ∷ by_name (codes "Thin") ∷ by_name (codes "-1") ∷ by_name (codes "1a") ∷ by_name [] ∷ []
each_word = refl

the_greatest_number : map named_asked (codes "4294967294" ∷ codes "4294967296" ∷ codes "99999999999" ∷ [])
    ≡ by_number 4294967294 ∷ by_number 4294967295 ∷ by_number 4294967295 ∷ []
the_greatest_number = refl

nothing_asked : instance_asked None None [] ≡ None
nothing_asked = refl

by_its_name : instance_asked (Some (codes "Thin")) None []
    ≡ Some (record { named = Some (by_name (codes "Thin")); axes = [] })
by_its_name = refl
