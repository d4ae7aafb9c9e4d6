-- The pair subtables as the code lists them: one list, in which each subtable has its lookup's number.
use Rattle.std.specs.Prelude.{◌≡◌, refl, ◌^◌, ◌<◌, ℕ, zero, suc, ◌+◌, ◌*◌, ◌/◌, ◌%◌, nat_lt, if◌then◌else◌, List, [], ◌∷◌, ◌++◌, take, Option, Some, None, ℤ, pos, ◌+ℤ◌}
use Rattle.tt_kern.specs.declared.pairs.list.PairSubtable.{PairSubtable}
use Rattle.tt_kern.specs.Feature.{feature_of}
use Rattle.tt_kern.specs.Pair.{pair_value}
use Rattle.tt_kern.specs.Pairs.{pair_place, lookup_place, subtable_count, lookups_of}
use Rattle.tt_kern.specs.Variation.{PairVariation}

-- its lookup is one of 32, and its offset is the sum of three words and a long
pub record IsNear (p : PairSubtable) : Type 0 where
  pub lookup : p.lookup < 32
  pub at : p.at < 2 ^ 33

-- a subtable as one number: its offset, and 2^33 for each lookup before its own
abbrev pub code_of : PairSubtable → ℕ
code_of p = 8589934592 * p.lookup + p.at

abbrev pub subtable_of : ℕ → PairSubtable
subtable_of code = record { lookup = code / 8589934592; at = code % 8589934592 }

-- worked value: the last lookup, and the greatest offset
greatest : subtable_of (code_of (record { lookup = 31; at = 8589934591 })) ≡ record { lookup = 31; at = 8589934591 }
greatest = refl

abbrev pub with_pair : ℕ → Option ℕ → List PairSubtable → List PairSubtable
with_pair i None ps = ps
with_pair i (Some at) ps = ps ++ record { lookup = i; at = at } ∷ []

-- the pair subtables among the first n subtables of lookup i, by the lookup's offset
abbrev pub pairs_in : List ℕ → ℕ → ℕ → ℕ → List PairSubtable
pairs_in b i lookup zero = []
pairs_in b i lookup (suc n) = with_pair i (pair_place b lookup n) (pairs_in b i lookup n)

abbrev pub pairs_of_lookups : List ℕ → ℕ → List ℕ → List PairSubtable
pairs_of_lookups b i [] = []
pairs_of_lookups b i (number ∷ numbers) =
    pairs_in b i (lookup_place b number) (subtable_count b (lookup_place b number)) ++ pairs_of_lookups b (i + 1) numbers

abbrev pub pairs_by : List ℕ → Option ℕ → List PairSubtable
pairs_by b None = []
pairs_by b (Some feature) = take 64 (pairs_of_lookups b 0 (lookups_of b feature))

unfoldable pub pairs_of : List ℕ → List PairSubtable
pairs_of b = pairs_by b (feature_of b)

-- with a subtable's value, if the subtable applies
abbrev pub with_value : Option ℤ → ℤ → ℤ → ℤ
with_value None applied passed = passed
with_value (Some v) applied passed = v +ℤ applied

-- the sum over the list; lookups below a number have ended
abbrev pub sum_from : PairVariation → List ℕ → ℕ → ℕ → ℕ → List PairSubtable → ℤ
sum_from v b g h ended [] = pos 0
sum_from v b g h ended (p ∷ ps) =
    if nat_lt p.lookup ended then sum_from v b g h ended ps
    else with_value (pair_value v b p.at g h) (sum_from v b g h (p.lookup + 1) ps) (sum_from v b g h ended ps)
