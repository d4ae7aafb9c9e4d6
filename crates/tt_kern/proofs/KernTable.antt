-- The sum over the subtables of the table kern, one subtable after the other.
use Rattle.std.proofs.Common.{◌≡◌, ℕ, suc, ◌+◌, ◌-◌, ◌<◌, ◌≤◌, true, false, List, [], ◌∷◌, length, refl, arith}
use Rattle.std.specs.Prelude.{ℤ, nat_lt}
use Rattle.std.proofs.lemmas.Bool.Decides.{nat_tests}
use Rattle.tt_kern.specs.declared.kern_table.KernVersion.{KernVersion}
use Rattle.tt_kern.specs.KernTable.{header_size, length_told, subtables_from, after_subtable, sum_after}
use Rattle.tt_kern.specs.Reads.{subtable_reads, subtables_reads}

is-below : (a b : ℕ) → a < b → nat_lt a b ≡ true
is-below a b below = grind (arith, nat_tests, below)

not-below : (a b : ℕ) → b ≤ a → nat_lt a b ≡ false
not-below a b above = grind (arith, nat_tests, above)

-- too few bytes are left
none-left : (m : KernVersion) (b : List ℕ) (n i p : ℕ) → i < n → length b < p + 8 → subtables_from m b (n - i) p ≡ []
none-left m b n i p left short =
    let more : n - i ≡ suc (n - (i + 1)) = omega (arith, left) in
    rw (more, is-below (length b) (p + 8) short) refl

-- the last subtable, by its length
last-left : (m : KernVersion) (b : List ℕ) (n i p : ℕ) → i < n → p + 8 ≤ length b → length_told m b p < header_size m
    → subtables_from m b (n - i) p ≡ p ∷ []
last-left m b n i p left fits short =
    let more : n - i ≡ suc (n - (i + 1)) = omega (arith, left) in
    rw (more, not-below (length b) (p + 8) fits, is-below (length_told m b p) (header_size m) short) refl

-- another subtable follows
next-left : (m : KernVersion) (b : List ℕ) (n i p : ℕ) → i < n → p + 8 ≤ length b → header_size m ≤ length_told m b p
    → subtables_from m b (n - i) p ≡ p ∷ subtables_from m b (n - (i + 1)) (p + length_told m b p)
next-left m b n i p left fits long =
    let more : n - i ≡ suc (n - (i + 1)) = omega (arith, left) in
    rw (more, not-below (length b) (p + 8) fits, not-below (length_told m b p) (header_size m) long) refl

-- the sum: as it is, with the last subtable, and with another that follows
pub short-ends : (m : KernVersion) (b : List ℕ) (g h : ℕ) (total : ℤ) (n i p : ℕ) → i < n → length b < p + 8
    → sum_after m b g h total (subtables_from m b (n - i) p) ≡ total
short-ends m b g h total n i p left short = rw (none-left m b n i p left short) refl

pub last-ends : (m : KernVersion) (b : List ℕ) (g h : ℕ) (total : ℤ) (n i p : ℕ) → i < n → p + 8 ≤ length b
    → length_told m b p < header_size m
    → sum_after m b g h total (subtables_from m b (n - i) p) ≡ after_subtable m b g h total p
last-ends m b g h total n i p left fits short = rw (last-left m b n i p left fits short) refl

pub goes-on : (m : KernVersion) (b : List ℕ) (g h : ℕ) (total : ℤ) (n i p : ℕ) → i < n → p + 8 ≤ length b
    → header_size m ≤ length_told m b p
    → sum_after m b g h total (subtables_from m b (n - i) p)
    ≡ sum_after m b g h (after_subtable m b g h total p) (subtables_from m b (n - (i + 1)) (p + length_told m b p))
goes-on m b g h total n i p left fits long = rw (next-left m b n i p left fits long) refl

-- the reads: none, of the last subtable, and of another that follows
pub none-read : (m : KernVersion) (b : List ℕ) (g h n i p : ℕ) → i < n → length b < p + 8
    → subtables_reads m b g h (subtables_from m b (n - i) p) ≡ 0
none-read m b g h n i p left short = rw (none-left m b n i p left short) refl

pub last-read : (m : KernVersion) (b : List ℕ) (g h n i p : ℕ) → i < n → p + 8 ≤ length b
    → length_told m b p < header_size m
    → subtables_reads m b g h (subtables_from m b (n - i) p) ≡ subtable_reads m b g h p + 1 + 0
last-read m b g h n i p left fits short = rw (last-left m b n i p left fits short) refl

pub next-read : (m : KernVersion) (b : List ℕ) (g h n i p : ℕ) → i < n → p + 8 ≤ length b
    → header_size m ≤ length_told m b p
    → subtables_reads m b g h (subtables_from m b (n - i) p)
    ≡ subtable_reads m b g h p + 1 + subtables_reads m b g h (subtables_from m b (n - (i + 1)) (p + length_told m b p))
next-read m b g h n i p left fits long = rw (next-left m b n i p left fits long) refl

pub all-read : (m : KernVersion) (b : List ℕ) (g h n i p : ℕ) → n ≤ i
    → subtables_reads m b g h (subtables_from m b (n - i) p) ≡ 0
all-read m b g h n i p past = let none : n - i ≡ 0 = omega (arith, past) in rw none refl
