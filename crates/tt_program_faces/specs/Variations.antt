-- OpenType, "fvar: Font Variations Table": the axes and named instances of a face as lines of text (profile).
use Rattle.std.specs.Prelude.{◌≡◌, refl, ℕ, ℤ, pos, negsuc, ◌==◌, if◌then◌else◌, List, [], ◌∷◌, ◌++◌, map, flat_map, codes, decimal, Option, Some, None}
use Rattle.std.specs.Fmt.{digits}
use Rattle.std.specs.List.{range_with_len}
use Rattle.tt_axes.specs.Axes.{axis_of, fixed_at}
use Rattle.tt_axes.specs.declared.axis.VariationAxis.{VariationAxis}
use Rattle.tt_axes.specs.Fvar.{axis_count, weights}
use Rattle.tt_axes.specs.Instances.{named_instance, named_weights, place_in}
use Rattle.tt_axes.specs.ShownValues.{shown_value}
use Rattle.tt_core.specs.Directory.{Directory, file_directory, table_of}
use Rattle.tt_face.specs.Instance.{named_count}
use Rattle.tt_face.specs.Listed.{variations_of}
use Rattle.tt_face.specs.Names.{name_of, told_character}

-- a name behind a blank; nothing without a name
abbrev pub behind_blank : List ℕ → List ℕ
behind_blank [] = []
behind_blank (x ∷ xs) = codes " " ++ (x ∷ xs)

-- a tag, as a name is told
abbrev pub tag_words : List ℕ → List ℕ
tag_words tag = map told_character tag

-- ` <least> <default> <greatest>`
abbrev pub axis_figures : VariationAxis → List ℕ
axis_figures a =
    codes " " ++ (shown_value a.least ++ (codes " " ++ (shown_value a.default ++ (codes " " ++ shown_value a.greatest))))

-- `axis <tag> <least> <default> <greatest> <name>` and a line feed
abbrev pub axis_line : Directory → VariationAxis → List ℕ
axis_line d a =
    codes "axis " ++ (tag_words a.tag ++ (axis_figures a ++ (behind_blank (name_of a.name d) ++ codes "\n")))

-- `=<value>`
abbrev pub value_words : ℤ → List ℕ
value_words v = codes "=" ++ shown_value v

-- `<tag>=<value>`, the place of named instance k on axis i
abbrev pub place_words : List ℕ → ℕ → ℕ → List ℕ
place_words fvar k i = tag_words (axis_of fvar i).tag ++ value_words (place_in fvar k i)

-- a comma between two places
abbrev pub comma : ℕ → List ℕ
comma i = if i == 0 then [] else codes ","

abbrev pub next_place : List ℕ → ℕ → ℕ → List ℕ
next_place fvar k i = comma i ++ place_words fvar k i

abbrev pub places : List ℕ → ℕ → List ℕ
places fvar k = flat_map (next_place fvar k) (range_with_len 0 (axis_count fvar))

-- `instance <k> <tag>=<value>,.. <name>` and a line feed
abbrev pub instance_line : Directory → List ℕ → ℕ → List ℕ
instance_line d fvar k =
    codes "instance " ++ (decimal k ++ (codes " " ++ (places fvar k
    ++ (behind_blank (name_of (named_instance fvar k).name d) ++ codes "\n"))))

abbrev pub numbered_axis : Directory → List ℕ → ℕ → List ℕ
numbered_axis d fvar i = axis_line d (axis_of fvar i)

abbrev pub axis_lines : Directory → List ℕ → List ℕ
axis_lines d fvar = flat_map (numbered_axis d fvar) (range_with_len 0 (axis_count fvar))

-- those of the first 256 instances
abbrev pub instance_lines : Directory → List ℕ → List ℕ
instance_lines d fvar = flat_map (instance_line d fvar) (range_with_len 0 (named_count fvar))

-- both; none where the face has no whole table fvar
abbrev pub lines_of : Directory → Option (List ℕ) → List ℕ
lines_of d None = []
lines_of d (Some fvar) = axis_lines d fvar ++ instance_lines d fvar

abbrev pub variation_lines : Directory → List ℕ
variation_lines d = lines_of d (variations_of d)

-- worked values: weights with four named instances, in a font without names
abbrev no_names : Directory
no_names = file_directory (0 ∷ 1 ∷ 0 ∷ 0 ∷ 0 ∷ 0 ∷ 0 ∷ 0 ∷ 0 ∷ 0 ∷ 0 ∷ 0 ∷ [])

its_axis : axis_lines no_names weights ≡ codes "axis wght 100 400 900\n"
unfolding axis_of name_of table_of shown_value digits
its_axis = refl

its_instances : instance_lines no_names named_weights
    ≡ codes "instance 0 wght=100\ninstance 1 wght=650\ninstance 2 wght=900\ninstance 3 wght=900\n"
unfolding axis_of name_of table_of shown_value digits
its_instances = refl

-- a slant, with parts of a unit; and a tag with a character that is not printed
parts : axis_figures (record { tag = codes "slnt"; least = negsuc 802815; default = pos 0; greatest = pos 1; flags = 0; name = 256 })
    ≡ codes " -12.25 0 0.00002"
unfolding shown_value digits
parts = refl

an_escape : tag_words (27 ∷ 119 ∷ 32 ∷ 44 ∷ []) ≡ codes "?w ,"
an_escape = refl

nothing_to_list : lines_of no_names None ≡ []
nothing_to_list = refl
