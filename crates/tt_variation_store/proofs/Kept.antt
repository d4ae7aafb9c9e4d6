-- The shares of a list's regions, kept by the regions' numbers.
use Rattle.std.proofs.Common.{◌≡◌, ◌∙◌, sym, ℕ, ◌<◌, ◌≤◌, List, length, replicate, slice_index, ℤ, false, inl, inr, refl, arith}
use Rattle.std.specs.Prelude.{nat_lt}
use Rattle.std.proofs.lemmas.Bool.{cases_lt}
use Rattle.std.proofs.lemmas.Bool.Decides.{nat_tests}
use Rattle.std.proofs.lemmas.List.{get_or-replicate, get_or_past, length-replicate}
use Rattle.tt_axes.specs.Shares.{whole_share, RegionSharesFall}
use Rattle.tt_variation_store.specs.Regions.{AreShares, RegionList, region_count, region_share}
use Rattle.tt_variation_store.proofs.Shares.{parts}

-- of a region past the list nothing holds
nothing-past : (l : RegionList) (coordinates : List ℤ) (region : ℕ) → region_count l ≤ region
    → region_share l region coordinates ≡ 0
nothing-past l coordinates region past =
    let off : nat_lt region (region_count l) ≡ false = grind (arith, nat_tests) in
    rw off refl

pub all-shares : (l : RegionList) (coordinates : List ℤ) (shares : List ℕ)
    → ((region : ℕ) → region < region_count l → slice_index shares region ≡ region_share l region coordinates)
    → ((region : ℕ) → region_count l ≤ region → slice_index shares region ≡ 0)
    → AreShares l coordinates shares
all-shares l coordinates shares first rest region = elim (cases_lt region (region_count l)) [
  | inl below ↦ first region below
  | inr past ↦ rest region past ∙ sym (nothing-past l coordinates region past)
]

abbrev zeros : ℕ → List ℕ
zeros n = replicate n 0

-- where nothing is kept, each number is 0
pub none-yet : (n k : ℕ) → slice_index (zeros n) k ≡ 0
none-yet n k =
    let size : length (zeros n) ≡ n = length-replicate {A = ℕ} n 0 in
    let none : ℕ = 0 in
    elim (cases_lt k n) [
      | inl below ↦ get_or-replicate {A = ℕ} n k none none below
      | inr past ↦ get_or_past (zeros n) k none (omega (arith, size, past))
    ]

-- no share is above the whole
pub kept-part : RegionSharesFall → (l : RegionList) (coordinates : List ℤ) (shares : List ℕ) (region : ℕ)
    → AreShares l coordinates shares → slice_index shares region ≤ whole_share
kept-part fall l coordinates shares region are = rw (are region) (parts fall l region coordinates)
