-- The sum over the list of all pair subtables is the sum over the lookups.
use Rattle.std.proofs.Common.{◌≡◌, ℕ, zero, suc, ◌+◌, ◌-◌, ◌<◌, ◌≤◌, true, false, List, [], ◌∷◌, ◌++◌, length, take, map, Option, Some, None, refl, arith, ap, sym, ◌∙◌}
use Rattle.std.proofs.lemmas.Bool.Decides.{nat_tests}
use Rattle.std.proofs.lemmas.Int.{ints}
use Rattle.std.proofs.lemmas.List.{map-append}
use Rattle.std.specs.Option.{unwrap_or}
use Rattle.std.specs.Prelude.{nat_lt, ℤ, pos, ◌+ℤ◌}
use Rattle.tt_kern.specs.declared.pairs.list.PairSubtable.{PairSubtable}
use Rattle.tt_kern.specs.Feature.{feature_of}
use Rattle.tt_kern.specs.Kerning.{Tables, lookup_value, lookups_sum, kerning}
use Rattle.tt_kern.specs.Listed.{with_pair, pairs_in, pairs_of_lookups, pairs_by, pairs_of, with_value, sum_from}
use Rattle.tt_kern.specs.Pair.{pair_value}
use Rattle.tt_kern.specs.Pairs.{lookup_place, subtable_count, pair_place, with_place, places_in, subtables_in, lookups_of, first_of_all, subtables_of}
use Rattle.tt_kern.specs.Variation.{PairVariation}

abbrev in_lookup : ℕ → ℕ → PairSubtable
in_lookup i at = record { lookup = i; at = at }

-- all subtables of all lookups, numbered from i on
abbrev numbered : ℕ → List (List ℕ) → List PairSubtable
numbered i [] = []
numbered i (l ∷ ls) = map (in_lookup i) l ++ numbered (i + 1) ls

with-one : (i : ℕ) (place : Option ℕ) (places : List ℕ)
    → with_pair i place (map (in_lookup i) places) ≡ map (in_lookup i) (with_place place places)
with-one i None places = refl
with-one i (Some at) places = sym (map-append (in_lookup i) places (at ∷ []))

pairs-numbered : (b : List ℕ) (i lookup n : ℕ) → pairs_in b i lookup n ≡ map (in_lookup i) (places_in b lookup n)
pairs-numbered b i lookup zero = refl
pairs-numbered b i lookup (suc n) =
    rw (pairs-numbered b i lookup n) (with-one i (pair_place b lookup n) (places_in b lookup n))

lookups-numbered : (b : List ℕ) (i : ℕ) (numbers : List ℕ)
    → pairs_of_lookups b i numbers ≡ numbered i (map (subtables_in b) numbers)
lookups-numbered b i [] = refl
lookups-numbered b i (number ∷ numbers) =
    rw (lookups-numbered b (i + 1) numbers, pairs-numbered b i (lookup_place b number) (subtable_count b (lookup_place b number))) refl

-- what is taken of a lookup's subtables, and then of the others
take-both : (i n : ℕ) (l : List ℕ) (ps : List PairSubtable)
    → take n (map (in_lookup i) l ++ ps) ≡ map (in_lookup i) (take n l) ++ take (n - length l) ps
take-both i zero [] ps = refl
take-both i zero (x ∷ l) ps = let none : 0 - length (x ∷ l) ≡ 0 = omega arith in rw none refl
take-both i (suc n) [] ps = let all : suc n - length {A = ℕ} [] ≡ suc n = omega arith in rw all refl
take-both i (suc n) (x ∷ l) ps =
    let rest : suc n - length (x ∷ l) ≡ n - length l = omega arith in
    rw (rest, take-both i n l ps) refl

take-numbered : (i n : ℕ) (ls : List (List ℕ)) → take n (numbered i ls) ≡ numbered i (first_of_all n ls)
take-numbered i zero [] = refl
take-numbered i (suc n) [] = refl
take-numbered i n (l ∷ ls) = rw (take-both i n l (numbered (i + 1) ls), take-numbered (i + 1) (n - length l) ls) refl

is-below : (a b : ℕ) → a < b → nat_lt a b ≡ true
is-below a b below = grind (arith, nat_tests, below)

not-below : (a b : ℕ) → b ≤ a → nat_lt a b ≡ false
not-below a b above = grind (arith, nat_tests, above)

-- the other subtables of a lookup that has ended are passed over
passed-over : (v : PairVariation) (b : List ℕ) (g h i : ℕ) (l : List ℕ) (ps : List PairSubtable)
    → sum_from v b g h (i + 1) (map (in_lookup i) l ++ ps) ≡ sum_from v b g h (i + 1) ps
passed-over v b g h i [] ps = refl
passed-over v b g h i (s ∷ l) ps = rw (is-below i (i + 1) (omega arith)) (passed-over v b g h i l ps)

zero-first : (z : ℤ) → z ≡ pos 0 +ℤ z
zero-first z = grind (arith, ints)

by-value : (value : Option ℤ) (applied passed rest others : ℤ) → applied ≡ rest → passed ≡ others +ℤ rest
    → with_value value applied passed ≡ unwrap_or value others +ℤ rest
by-value None applied passed rest others first second = second
by-value (Some v) applied passed rest others first second = ap (λ (z : ℤ). v +ℤ z) first

-- a lookup's value, and then the sum over the others
one-lookup : (v : PairVariation) (b : List ℕ) (g h i ended : ℕ) (l : List ℕ) (ps : List PairSubtable) (rest : ℤ) → ended ≤ i
    → ((e : ℕ) → e ≤ i + 1 → sum_from v b g h e ps ≡ rest)
    → sum_from v b g h ended (map (in_lookup i) l ++ ps) ≡ lookup_value v b g h l +ℤ rest
one-lookup v b g h i ended [] ps rest order others = others ended (omega (arith, order)) ∙ zero-first rest
one-lookup v b g h i ended (s ∷ l) ps rest order others =
    let applied = passed-over v b g h i l ps ∙ others (i + 1) (omega arith) in
    let passed = one-lookup v b g h i ended l ps rest order others in
    rw (not-below i ended order)
    (by-value (pair_value v b s g h) (sum_from v b g h (i + 1) (map (in_lookup i) l ++ ps))
    (sum_from v b g h ended (map (in_lookup i) l ++ ps)) rest (lookup_value v b g h l) applied passed)

numbered-sum : (v : PairVariation) (b : List ℕ) (g h i ended : ℕ) (ls : List (List ℕ)) → ended ≤ i
    → sum_from v b g h ended (numbered i ls) ≡ lookups_sum v b g h ls
numbered-sum v b g h i ended [] order = refl
numbered-sum v b g h i ended (l ∷ ls) order =
    one-lookup v b g h i ended l (numbered (i + 1) ls) (lookups_sum v b g h ls) order
    (λ e below. numbered-sum v b g h (i + 1) e ls below)

pub same-sum : (v : PairVariation) (b : List ℕ) (g h feature : ℕ)
    → sum_from v b g h 0 (pairs_by b (Some feature)) ≡ lookups_sum v b g h (subtables_of b feature)
unfolding subtables_of
same-sum v b g h feature =
    rw (lookups-numbered b 0 (lookups_of b feature), take-numbered 0 64 (map (subtables_in b) (lookups_of b feature)))
    (numbered-sum v b g h 0 0 (first_of_all 64 (map (subtables_in b) (lookups_of b feature))) (omega arith))

-- the sum over the list is the kerning where GPOS has the feature
pub kerning-by-list : (t : Tables) (g h feature : ℕ) → feature_of t.gpos ≡ Some feature
    → sum_from t.variation t.gpos g h 0 (pairs_of t.gpos) ≡ kerning t g h
unfolding pairs_of
kerning-by-list t g h feature is = rw is (same-sum t.variation t.gpos g h feature)
