-- The kerning of two neighbouring glyphs: by GPOS where GPOS has the feature kern, else by the table kern (profile).
use Rattle.std.specs.Prelude.{ℕ, List, [], ◌∷◌, Option, Some, None, ℤ, pos, ◌+ℤ◌}
use Rattle.std.specs.Option.{unwrap_or}
use Rattle.tt_kern.specs.Feature.{feature_of}
use Rattle.tt_kern.specs.KernTable.{kern_sum}
use Rattle.tt_kern.specs.Pair.{pair_value}
use Rattle.tt_kern.specs.Pairs.{subtables_of}
use Rattle.tt_kern.specs.Variation.{PairVariation}

-- the bytes of both tables, no bytes where a table isn't there; and how GPOS's values vary. The table kern does not vary
pub record Tables : Type 0 where
  pub gpos : List ℕ
  pub kern : List ℕ
  pub variation : PairVariation

-- the value of the first subtable that applies, or 0
abbrev pub lookup_value : PairVariation → List ℕ → ℕ → ℕ → List ℕ → ℤ
lookup_value v b g h [] = pos 0
lookup_value v b g h (s ∷ ss) = unwrap_or (pair_value v b s g h) (lookup_value v b g h ss)

-- the sum over lookups
abbrev pub lookups_sum : PairVariation → List ℕ → ℕ → ℕ → List (List ℕ) → ℤ
lookups_sum v b g h [] = pos 0
lookups_sum v b g h (l ∷ ls) = lookup_value v b g h l +ℤ lookups_sum v b g h ls

abbrev pub kerning_by : Option ℕ → Tables → ℕ → ℕ → ℤ
kerning_by (Some feature) t g h = lookups_sum t.variation t.gpos g h (subtables_of t.gpos feature)
kerning_by None t g h = kern_sum t.kern g h

-- the kerning of two neighbouring glyphs, in font units
abbrev pub kerning : Tables → ℕ → ℕ → ℤ
kerning t g h = kerning_by (feature_of t.gpos) t g h
