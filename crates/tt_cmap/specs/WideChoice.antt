-- OpenType, "cmap", encoding records: the choice of the wide reading. First what the strict reading chooses, then other
-- formats for the same characters, then a symbol map, then Macintosh Roman; and the variation sequences of format 14
-- (profile).
use Rattle.std.specs.Prelude.{◌≡◌, refl, ℕ, zero, suc, ◌+◌, Bool, false, ◌&&◌, ◌==◌, if◌then◌else◌, List, [], ◌∷◌, Option, Some, None, option_map}
use Rattle.tt_core.specs.Numbers.{number_at}
use Rattle.tt_core.specs.Search.{first_below}
use Rattle.tt_cmap.specs.declared.lists.ListFormat.TheVariants.{TrimmedTable}
use Rattle.tt_cmap.specs.declared.records.Choice.{Choice}
use Rattle.tt_cmap.specs.declared.records.Format.TheVariants.{Segments, Groups}
use Rattle.tt_cmap.specs.declared.records.wide.Encoding.{Encoding}
use Rattle.tt_cmap.specs.declared.records.wide.Encoding.TheVariants as encoding
use Rattle.tt_cmap.specs.declared.records.wide.CodeWay.{CodeWay}
use Rattle.tt_cmap.specs.declared.records.wide.CodeWay.TheVariants as way
use Rattle.tt_cmap.specs.declared.records.wide.WideChoice.{WideChoice}
use Rattle.tt_cmap.specs.declared.wide_subtable.Readable.{Readable}
use Rattle.tt_cmap.specs.declared.wide_subtable.Readable.TheVariants as readable
use Rattle.tt_cmap.specs.Subtables.{record_count, platform_of, encoding_of, subtable_of, or_else, chosen_subtable}
use Rattle.tt_cmap.specs.WideSubtables.{readable_at}

-- whether record i has the encoding: of Windows, which is platform 3, or Unicode or Macintosh
abbrev pub has_encoding : Encoding → List ℕ → ℕ → Bool
has_encoding encoding.Full table i = (platform_of table i == 3) && (encoding_of table i == 10)
has_encoding encoding.Unicode table i = platform_of table i == 0
has_encoding encoding.Basic table i = (platform_of table i == 3) && (encoding_of table i == 1)
has_encoding encoding.Symbol table i = (platform_of table i == 3) && (encoding_of table i == 0)
has_encoding encoding.Roman table i = (platform_of table i == 1) && (encoding_of table i == 0)

-- the codes of an encoding
abbrev pub way_of : Encoding → CodeWay
way_of encoding.Full = way.Plain
way_of encoding.Unicode = way.Plain
way_of encoding.Basic = way.Plain
way_of encoding.Symbol = way.Symbol
way_of encoding.Roman = way.Roman

abbrev pub wide_choice_by : Encoding → ℕ → Readable → WideChoice
wide_choice_by e at format = record { format = format; at = at; way = way_of e }

-- record i as a choice, if it has the encoding and its subtable's format is read
abbrev pub choice_at : Encoding → List ℕ → ℕ → Option WideChoice
choice_at e table i =
    if has_encoding e table i then option_map (wide_choice_by e (subtable_of table i)) (readable_at table (subtable_of table i))
    else None

-- the first value among those of the n numbers from i on
abbrev pub first_some : {A : Type 0} → (ℕ → Option A) → ℕ → ℕ → Option A
first_some value i zero = None
first_some value i (suc n) = or_else (value i) (first_some value (i + 1) n)

-- the first record that is a choice
abbrev pub first_choice : Encoding → List ℕ → Option WideChoice
first_choice e table = first_some (choice_at e table) 0 (record_count table)

-- what the strict reading chooses
abbrev pub plain_choice : Choice → WideChoice
plain_choice p = record { format = readable.Ranged p.format; at = p.at; way = way.Plain }

-- the chosen subtable
abbrev pub wide_choice : List ℕ → Option WideChoice
wide_choice table =
    or_else (option_map plain_choice (chosen_subtable table)) (or_else (first_choice encoding.Full table)
    (or_else (first_choice encoding.Unicode table) (or_else (first_choice encoding.Basic table)
    (or_else (first_choice encoding.Symbol table) (first_choice encoding.Roman table)))))

abbrev pub is_number : ℕ → Option ℕ → Bool
is_number wanted None = false
is_number wanted (Some n) = n == wanted

-- whether record i is for variation sequences: platform 0, encoding 5, and a subtable of format 14
abbrev pub is_variations : List ℕ → ℕ → Bool
is_variations table i = (platform_of table i == 0) && (encoding_of table i == 5) && is_number 14 (number_at table (subtable_of table i) 2)

-- the offset of the first such subtable
abbrev pub variations_of : List ℕ → Option ℕ
variations_of table = option_map (subtable_of table) (first_below (record_count table) (is_variations table))

-- worked values: two records with an encoding each, whose subtables have the given format words
abbrev two_maps : ℕ → ℕ → ℕ → ℕ → ℕ → ℕ → List ℕ
two_maps p e f q d g =
    0 ∷ 0 ∷ 0 ∷ 2 ∷ 0 ∷ p ∷ 0 ∷ e ∷ 0 ∷ 0 ∷ 0 ∷ 20 ∷ 0 ∷ q ∷ 0 ∷ d ∷ 0 ∷ 0 ∷ 0 ∷ 22 ∷ 0 ∷ f ∷ 0 ∷ g ∷ []

strict_first : wide_choice (two_maps 3 1 4 3 10 13) ≡ Some (record { format = readable.Ranged Segments; at = 20; way = way.Plain })
strict_first = refl

shared_before_trimmed : wide_choice (two_maps 3 1 6 3 10 13) ≡ Some (record { format = readable.Shared; at = 22; way = way.Plain })
shared_before_trimmed = refl

groups_of_basic : wide_choice (two_maps 3 1 12 3 0 4) ≡ Some (record { format = readable.Ranged Groups; at = 20; way = way.Plain })
groups_of_basic = refl

symbol_before_roman : wide_choice (two_maps 1 0 6 3 0 4) ≡ Some (record { format = readable.Ranged Segments; at = 22; way = way.Symbol })
symbol_before_roman = refl

roman : wide_choice (two_maps 1 0 6 1 1 4) ≡ Some (record { format = readable.Listed TrimmedTable; at = 20; way = way.Roman })
roman = refl

neither : wide_choice (two_maps 1 1 4 3 1 2) ≡ None
neither = refl

the_variations : variations_of (two_maps 0 5 14 3 1 4) ≡ Some 20
the_variations = refl

no_variations : variations_of (two_maps 0 5 4 0 3 14) ≡ None
no_variations = refl
