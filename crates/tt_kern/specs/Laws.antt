-- Lemmas about the definitions.
use Rattle.std.specs.Prelude.{◌≡◌, ℕ, ◌+◌, ◌-◌, ◌*◌, ◌^◌, ◌<◌, ◌≤◌, Bool, true, false, List, [], Some, length, pos}
use Rattle.tt_kern.specs.declared.search.KeySize.{KeySize}
use Rattle.std.specs.List.{sum_by}
use Rattle.tt_kern.specs.declared.kern_table.KernVersion.{KernVersion}
use Rattle.tt_kern.specs.Halves.{asked, reached}
use Rattle.tt_kern.specs.KernTable.{count_taken, subtables_from}
use Rattle.tt_kern.specs.Kerning.{kerning}
use Rattle.tt_kern.specs.Pairs.{lookups_of, subtables_of}
use Rattle.tt_kern.specs.Search.{key_at, found}
use Rattle.tt_kern.specs.Variation.{PairVariation}

-- i is where a search of n numbers may end: it passes, and the number before it fails
pub record IsReached (passes : ℕ → Bool) (n i : ℕ) : Type 0 where
  pub within : i ≤ n
  pub holds : i < n → passes i ≡ true
  pub before : 0 < i → passes (i - 1) ≡ false

abbrev pub SearchesEnd : Type 0
SearchesEnd = (passes : ℕ → Bool) (n : ℕ) → IsReached passes n (reached n passes)

-- a search of fewer than 2^k numbers tests at most k of them
abbrev pub SearchesAreShort : Type 0
SearchesAreShort = (passes : ℕ → Bool) (n k : ℕ) → n < 2 ^ k → asked n passes ≤ k

-- where the keys of n records rise, the record that has a key is the one that is found
abbrev pub KeysThatRiseAreFound : Type 0
KeysThatRiseAreFound = (size : KeySize) (b : List ℕ) (at step n i : ℕ)
    → ((j k : ℕ) → j < k → k < n → key_at size b (at + step * j) < key_at size b (at + step * k)) → i < n
    → found size b at step n (key_at size b (at + step * i)) ≡ Some i

abbrev pub LookupsAreFew : Type 0
LookupsAreFew = (b : List ℕ) (feature : ℕ) → length (lookups_of b feature) ≤ 32

-- of all lookups together
abbrev pub SubtablesAreFew : Type 0
SubtablesAreFew = (b : List ℕ) (feature : ℕ) → sum_by length (subtables_of b feature) ≤ 64

abbrev pub ListsOfKernAreShort : Type 0
ListsOfKernAreShort = (m : KernVersion) (b : List ℕ) (p : ℕ) → length (subtables_from m b (count_taken m b) p) ≤ 32

-- a font without both tables has no kerning, at any instance
abbrev pub WithoutTablesNone : Type 0
WithoutTablesNone = (v : PairVariation) (g h : ℕ) → kerning (record { gpos = []; kern = []; variation = v }) g h ≡ pos 0
