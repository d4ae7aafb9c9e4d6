-- Lists of pair subtables, one subtable after the other, and one lookup after the other.
use Rattle.std.proofs.Common.{◌≡◌, ℕ, suc, ◌+◌, ◌-◌, ◌<◌, ◌≤◌, List, [], ◌∷◌, ◌++◌, length, take, Some, None, refl, arith, add-one}
use Rattle.tt_kern.specs.declared.pairs.list.PairSubtable.{PairSubtable}
use Rattle.tt_kern.specs.Listed.{pairs_in, pairs_of_lookups}
use Rattle.tt_kern.specs.Pairs.{is_listed, rising, IsNext, lookup_place, subtable_count, pair_place}
use Rattle.tt_kern.specs.Reads.{places_reads, lookups_reads}
use Rattle.tt_kern.proofs.Lists.{take-twice, kept}
use Rattle.tt_kern.proofs.Rising.{next-first, nothing-next}

pub one-more : (b : List ℕ) (i place k at : ℕ) (before ps : List PairSubtable)
    → ps ≡ take 64 (before ++ pairs_in b i place k) → pair_place b place k ≡ Some at
    → take 64 (ps ++ record { lookup = i; at = at } ∷ []) ≡ take 64 (before ++ pairs_in b i place (k + 1))
one-more b i place k at before ps is there =
    rw (add-one k, there, is) (take-twice 64 before (pairs_in b i place k) (record { lookup = i; at = at } ∷ []))

pub none-more : (b : List ℕ) (i place k : ℕ) (before ps : List PairSubtable)
    → ps ≡ take 64 (before ++ pairs_in b i place k) → pair_place b place k ≡ None
    → ps ≡ take 64 (before ++ pairs_in b i place (k + 1))
none-more b i place k before ps is there = rw (add-one k, there) is

pub one-lookup : (b : List ℕ) (i : ℕ) (xs : List ℕ) (low high next : ℕ) (ps new : List PairSubtable)
    → IsNext xs low high next → next < high → i < 32
    → new ≡ take 64 (ps ++ pairs_in b i (lookup_place b next) (subtable_count b (lookup_place b next)))
    → take 64 (new ++ pairs_of_lookups b (i + 1) (rising (32 - (i + 1)) (is_listed xs) (next + 1) (high - (next + 1))))
    ≡ take 64 (ps ++ pairs_of_lookups b i (rising (32 - i) (is_listed xs) low (high - low)))
one-lookup b i xs low high next ps new is below few noted =
    let more : 32 - i ≡ suc (32 - (i + 1)) = omega (arith, few) in
    let first = next-first (32 - (i + 1)) xs low high next is below in
    rw (more, first, noted) (take-twice 64 ps _ _)

pub no-lookup : (b : List ℕ) (i : ℕ) (xs : List ℕ) (low high next : ℕ) (ps : List PairSubtable)
    → IsNext xs low high next → high ≤ next → length ps ≤ 64
    → take 64 (ps ++ pairs_of_lookups b i (rising (32 - i) (is_listed xs) low (high - low))) ≡ ps
no-lookup b i xs low high next ps is none few = rw (nothing-next (32 - i) xs low high next is none) (kept 64 ps few)

pub all-lookups : (b : List ℕ) (i : ℕ) (xs : List ℕ) (low k : ℕ) (ps : List PairSubtable) → i ≡ 32 → length ps ≤ 64
    → take 64 (ps ++ pairs_of_lookups b i (rising (32 - i) (is_listed xs) low k)) ≡ ps
all-lookups b i xs low k ps is few = let none : 32 - i ≡ 0 = omega (arith, is) in rw none (kept 64 ps few)

-- the reads of the next lookup, and then those of the others
pub reads-of-next : (b : List ℕ) (i : ℕ) (xs : List ℕ) (low high next : ℕ) → IsNext xs low high next → next < high → i < 32
    → lookups_reads b (rising (32 - i) (is_listed xs) low (high - low))
    ≡ 4 + places_reads b (lookup_place b next) (subtable_count b (lookup_place b next))
    + lookups_reads b (rising (32 - (i + 1)) (is_listed xs) (next + 1) (high - (next + 1)))
reads-of-next b i xs low high next is below few =
    let more : 32 - i ≡ suc (32 - (i + 1)) = omega (arith, few) in
    let first = next-first (32 - (i + 1)) xs low high next is below in
    rw (more, first) refl

pub none-read : (b : List ℕ) (i : ℕ) (xs : List ℕ) (low high next : ℕ) → IsNext xs low high next → high ≤ next
    → lookups_reads b (rising (32 - i) (is_listed xs) low (high - low)) ≡ 0
none-read b i xs low high next is none = rw (nothing-next (32 - i) xs low high next is none) refl

pub all-read : (b : List ℕ) (i : ℕ) (xs : List ℕ) (low k : ℕ) → i ≡ 32
    → lookups_reads b (rising (32 - i) (is_listed xs) low k) ≡ 0
all-read b i xs low k is = let none : 32 - i ≡ 0 = omega (arith, is) in rw none refl
