-- The place of a file's first face: a fault of the count is a defect of the place, and a count has none.
use Rattle.std.proofs.Common.{◌≡◌, ℕ, ◌+◌, ◌<◌, ◌≤◌, nat_lt, nat_le, if◌then◌else◌, Bool, true, false, List, length, Ok, Err, ◌⊎◌, inl, inr, refl, arith}
use Rattle.std.specs.Prelude.{not, Result}
use Rattle.std.proofs.lemmas.Bool.Decides.{nat_tests}
use Rattle.tt_core.specs.Chains.{came-through, was-err}
use Rattle.tt_core.specs.Collections.{is_collection, major_version, is_major_version, font_count, entry_place, collected_offset, count_of, face_offset, offset_of, only_offset, IsBadFace, IsOffsetDefect}
use Rattle.tt_core.specs.declared.collection.Reading.TheVariants as reading
use Rattle.tt_core.specs.Directory.{HasNo}
use Rattle.tt_core.specs.Faults.{Fault}
use Rattle.tt_core.proofs.Offsets.{offset-whole}

-- where a chain of tests failed: at the first test, or behind it
stopped : {A : Type 0} (bad : Bool) (e : Fault) (x : Result A Fault) (f : Fault) → (if bad then Err e else x) ≡ Err f
    → ((bad ≡ true) × (f ≡ e)) ⊎ ((bad ≡ false) × (x ≡ Err f))
stopped true e x f was = inl (refl, cc)
stopped false e x f was = inr (refl, was)

is-below : (a b : ℕ) → nat_lt a b ≡ true → a < b
is-below a b is = grind (arith, nat_tests)

is-not-below : (a b : ℕ) → nat_lt a b ≡ false → b ≤ a
is-not-below a b is = grind (arith, nat_tests)

is-at-most : (a b : ℕ) → nat_le a b ≡ true → a ≤ b
is-at-most a b is = grind (arith, nat_tests)

is-negated : (b : Bool) → not b ≡ true → b ≡ false
is-negated true is = absurd cc
is-negated false is = refl

no-fault : {A : Type 0} (x : A) (f : Fault) → ◌≡◌ {A = Result A Fault} (Ok x) (Err f) → ⊥
no-fault x f was = cc

collected-stands : (file : List ℕ) (f : Fault) → is_collection file ≡ true → collected_offset file 0 ≡ Err f
    → IsBadFace file 0 f
collected-stands file f is was = elim (stopped (not (is_major_version (major_version file))) _ _ f was) [
  | inl version ↦ inr (inl (is, is-negated (is_major_version (major_version file)) version.0, version.1))
  | inr known ↦ elim (stopped (nat_le (font_count file) 0) _ _ f known.1) [
    | inl few ↦ inr (inr (inl (is, is-at-most (font_count file) 0 few.0, few.1)))
    | inr there ↦ elim (stopped (nat_lt (length file) (entry_place 0 + 4)) _ _ f there.1) [
      | inl short ↦ inr (inr (inr (is, is-below (length file) (entry_place 0 + 4) short.0, short.1)))
      | inr fits ↦ absurd (no-fault _ f fits.1)
    ]
  ]
]

face-stands-by : (there : Bool) (file : List ℕ) (f : Fault) → is_collection file ≡ there
    → (if not there then only_offset 0 else collected_offset file 0) ≡ Err f → IsBadFace file 0 f
face-stands-by true file f is was = collected-stands file f is was
face-stands-by false file f is was = absurd (no-fault 0 f was)

face-stands : (file : List ℕ) (f : Fault) → face_offset file 0 ≡ Err f → IsBadFace file 0 f
unfolding face_offset
face-stands file f was = face-stands-by (is_collection file) file f refl was

offset-stands : (file : List ℕ) (f : Fault) → offset_of file (reading.Wide 0) ≡ Err f → IsOffsetDefect file (reading.Wide 0) f
unfolding offset_of
offset-stands file f was = elim (stopped (nat_lt (length file) 12) _ _ f was) [
  | inl short ↦ inl (is-below (length file) 12 short.0, short.1)
  | inr long ↦ inr (is-not-below (length file) 12 long.0, face-stands file f long.1)
]

pub count-stands : (file : List ℕ) (f : Fault) → count_of file ≡ Err f → IsOffsetDefect file (reading.Wide 0) f
unfolding count_of
count-stands file f was = elim (was-err (offset_of file (reading.Wide 0)) _ f was) [
  | inl place ↦ offset-stands file f place
  | inr later ↦ absurd (no-fault _ f later.rest)
]

pub count-whole : (file : List ℕ) (n : ℕ) → count_of file ≡ Ok n → HasNo (IsOffsetDefect file (reading.Wide 0))
unfolding count_of
count-whole file n was =
    let by_offset = came-through (offset_of file (reading.Wide 0)) _ n was in
    offset-whole file (reading.Wide 0) by_offset.value by_offset.first
