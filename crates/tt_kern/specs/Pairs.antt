-- OpenType, "GPOS", lookup types 2 and 9: the lookups of the feature kern, and their pair subtables.
use Rattle.std.specs.Prelude.{ℕ, zero, suc, ◌+◌, ◌-◌, ◌*◌, Bool, false, ◌&&◌, ◌||◌, ◌==◌, nat_lt, if◌then◌else◌, ◌≡◌, ◌<◌, ◌≤◌, true, List, [], ◌∷◌, ◌++◌, take, length, map, Option, Some, None}
use Rattle.tt_kern.specs.Feature.{looked_at}
use Rattle.tt_kern.specs.Words.{word, long}

-- the words at the first n places of a list
abbrev pub words_at : List ℕ → ℕ → ℕ → List ℕ
words_at b at zero = []
words_at b at (suc n) = words_at b at n ++ word b (at + 2 * n) ∷ []

abbrev pub is_listed : List ℕ → ℕ → Bool
is_listed [] k = false
is_listed (x ∷ xs) k = (x == k) || is_listed xs k

-- the least listed number from low on, below high; or high
pub record IsNext (xs : List ℕ) (low high next : ℕ) : Type 0 where
  pub within : next ≤ high
  pub listed : next < high → (low ≤ next) × (is_listed xs next ≡ true)
  pub others : (k : ℕ) → low ≤ k → k < next → is_listed xs k ≡ false

-- the first n of the numbers that pass, in rising order, among the k numbers from i on
abbrev pub rising : ℕ → (ℕ → Bool) → ℕ → ℕ → List ℕ
rising zero passes i k = []
rising (suc n) passes i zero = []
rising (suc n) passes i (suc k) = if passes i then i ∷ rising n passes (i + 1) k else rising (suc n) passes (i + 1) k

-- the numbers of lookups that a feature lists
abbrev pub listed_by : List ℕ → ℕ → List ℕ
listed_by b feature = words_at b (feature + 4) (looked_at (word b (feature + 2)))

-- the lookups of a feature: each once, by rising number, the first 32 (profile)
abbrev pub lookups_of : List ℕ → ℕ → List ℕ
lookups_of b feature = rising 32 (is_listed (listed_by b feature)) 0 (word b (word b 8))

-- the offset of a lookup by number
abbrev pub lookup_place : List ℕ → ℕ → ℕ
lookup_place b number = word b 8 + word b (word b 8 + 2 + 2 * number)

-- the offset of subtable k of a lookup
abbrev pub subtable_place : List ℕ → ℕ → ℕ → ℕ
subtable_place b lookup k = lookup + word b (lookup + 6 + 2 * k)

-- an extension of a pair subtable: its words are 1 and 2
abbrev pub extended : List ℕ → ℕ → Option ℕ
extended b s = if (word b s == 1) && (word b (s + 2) == 2) then Some (s + long b (s + 4)) else None

-- by its lookup's type, a subtable's offset as that of a pair subtable: type 2, or type 9 with an extension
abbrev pub pair_place_by : ℕ → List ℕ → ℕ → Option ℕ
pair_place_by type b s = if type == 2 then Some s else (if type == 9 then extended b s else None)

-- the offset of subtable k of a lookup, if that is a pair subtable. The lookup's flag is not looked at (profile)
abbrev pub pair_place : List ℕ → ℕ → ℕ → Option ℕ
pair_place b lookup k = pair_place_by (word b lookup) b (subtable_place b lookup k)

-- at most 64 subtables of a lookup are looked at (profile)
abbrev pub subtable_count : List ℕ → ℕ → ℕ
subtable_count b lookup = if nat_lt 64 (word b (lookup + 4)) then 64 else word b (lookup + 4)

abbrev pub with_place : Option ℕ → List ℕ → List ℕ
with_place None places = places
with_place (Some at) places = places ++ at ∷ []

-- the offsets of the pair subtables among the first n subtables of a lookup
abbrev pub places_in : List ℕ → ℕ → ℕ → List ℕ
places_in b lookup zero = []
places_in b lookup (suc n) = with_place (pair_place b lookup n) (places_in b lookup n)

-- the pair subtables of a lookup by number
abbrev pub subtables_in : List ℕ → ℕ → List ℕ
subtables_in b number = places_in b (lookup_place b number) (subtable_count b (lookup_place b number))

-- the first n of all lists together
abbrev pub first_of_all : {A : Type 0} → ℕ → List (List A) → List (List A)
first_of_all n [] = []
first_of_all n (xs ∷ xss) = take n xs ∷ first_of_all (n - length xs) xss

-- the pair subtables of each lookup of a feature; the first 64 of all lookups are taken (profile)
unfoldable pub subtables_of : List ℕ → ℕ → List (List ℕ)
subtables_of b feature = first_of_all 64 (map (subtables_in b) (lookups_of b feature))
