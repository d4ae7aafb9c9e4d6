-- The place of a directory: an offset that is given has no defect, and the strict reading gives the file's start.
use Rattle.std.proofs.Common.{◌≡◌, ℕ, ◌+◌, ◌<◌, ◌≤◌, nat_lt, nat_le, if◌then◌else◌, Bool, true, false, List, length, Ok, Err, inl, inr, refl, arith, subst}
use Rattle.std.specs.Prelude.{not, ◌==◌, Result, IsOkAnd}
use Rattle.std.proofs.lemmas.Bool.Decides.{nat_tests}
use Rattle.tt_core.specs.Chains.{came-through, passed-on, not-both, not-neither, not-below}
use Rattle.tt_core.specs.Collections.{is_collection, major_version, is_major_version, font_count, entry_place, collected_offset, only_offset, face_offset, offset_with, offset_of, directory_at, directory_by, IsBadFace, IsBadReading, IsOffsetDefect}
use Rattle.tt_core.specs.declared.collection.Reading.{Reading}
use Rattle.tt_core.specs.declared.collection.Reading.TheVariants as reading
use Rattle.tt_core.specs.declared.fault.Why.TheVariants as why
use Rattle.tt_core.specs.Directory.{read_directory, directory_of, HasNo, IsDirectoryDefect}
use Rattle.tt_core.specs.Faults.{Fault, file_fault}
use Rattle.tt_core.specs.Laws.{ReadingsAreWhole, StrictIsTheFile}
use Rattle.tt_core.proofs.Whole.{directory-whole}

not-some : (n : ℕ) → not (n == 0) ≡ false → 0 < n → ⊥
not-some n is some = grind (arith, nat_tests)

not-at-most : (a b : ℕ) → nat_le a b ≡ false → a ≤ b → ⊥
not-at-most a b is below = grind (arith, nat_tests)

only-whole : (file : List ℕ) (n at : ℕ) → is_collection file ≡ false → only_offset n ≡ Ok at → HasNo (IsBadFace file n)
only-whole file n at is was =
    let first = passed-on (not (n == 0)) _ (Ok 0) at was in
    λ fault bad. elim bad [
      | inl none ↦ not-some n first.0 none.1
      | inr (inl version) ↦ not-both (is_collection file) version.0 is
      | inr (inr (inl number)) ↦ not-both (is_collection file) number.0 is
      | inr (inr (inr short)) ↦ not-both (is_collection file) short.0 is
    ]

collected-whole : (file : List ℕ) (n at : ℕ) → is_collection file ≡ true → collected_offset file n ≡ Ok at → HasNo (IsBadFace file n)
collected-whole file n at is was =
    let version = passed-on (not (is_major_version (major_version file))) _ _ at was in
    let number = passed-on (nat_le (font_count file) n) _ _ at version.1 in
    let fits = passed-on (nat_lt (length file) (entry_place n + 4)) _ _ at number.1 in
    λ fault bad. elim bad [
      | inl none ↦ not-both (is_collection file) is none.0
      | inr (inl other) ↦ not-neither (is_major_version (major_version file)) version.0 other.1
      | inr (inr (inl few)) ↦ not-at-most (font_count file) n number.0 few.1
      | inr (inr (inr short)) ↦ not-below (length file) (entry_place n + 4) fits.0 short.1
    ]

face-whole-by : (there : Bool) (file : List ℕ) (n at : ℕ) → is_collection file ≡ there
    → (if not there then only_offset n else collected_offset file n) ≡ Ok at → HasNo (IsBadFace file n)
face-whole-by true file n at is was = collected-whole file n at is was
face-whole-by false file n at is was = only-whole file n at is was

reading-whole : (file : List ℕ) (r : Reading) (at : ℕ) → offset_with file r ≡ Ok at → HasNo (IsBadReading file r)
unfolding face_offset
reading-whole file reading.Strict at was = λ fault bad. bad
reading-whole file (reading.Wide n) at was = λ fault bad. face-whole-by (is_collection file) file n at refl was fault bad.1

pub offset-whole : (file : List ℕ) (r : Reading) (at : ℕ) → offset_of file r ≡ Ok at → HasNo (IsOffsetDefect file r)
unfolding offset_of
offset-whole file r at was =
    let long = passed-on (nat_lt (length file) 12) _ _ at was in
    λ fault bad. elim bad [
      | inl short ↦ not-below (length file) 12 long.0 short.0
      | inr other ↦ reading-whole file r at long.1 fault other
    ]

pub readings-whole : ReadingsAreWhole
unfolding directory_by
readings-whole file r d was =
    let by_offset = came-through (offset_of file r) _ d was in
    λ fault bad. elim bad [
      | inl offset ↦ offset-whole file r by_offset.value by_offset.first fault offset
      | inr directory ↦
          let P : Result ℕ Fault → Type 0 = λ o. IsOkAnd o (λ at. IsDirectoryDefect (directory_at file at) fault) in
          directory-whole (directory_at file by_offset.value) d by_offset.rest fault (subst P by_offset.first directory)
    ]

strict-offset : (file : List ℕ) → nat_lt (length file) 12 ≡ false → offset_of file reading.Strict ≡ Ok 0
unfolding offset_of
strict-offset file is = rw is refl

short-offset : (file : List ℕ) → nat_lt (length file) 12 ≡ true → offset_of file reading.Strict
    ≡ Err (file_fault (length file) why.DirShort)
unfolding offset_of
short-offset file is = rw is refl

short-file : (file : List ℕ) → nat_lt (length file) 12 ≡ true → directory_of file
    ≡ Err (file_fault (length file) why.DirShort)
unfolding read_directory
short-file file is = rw is refl

strict-by : (short : Bool) (file : List ℕ) → nat_lt (length file) 12 ≡ short
    → directory_by file reading.Strict ≡ directory_of file
unfolding directory_by
strict-by true file is = rw (short-offset file is, short-file file is) refl
strict-by false file is = rw (strict-offset file is) refl

pub strict-is : StrictIsTheFile
strict-is file = strict-by (nat_lt (length file) 12) file refl
