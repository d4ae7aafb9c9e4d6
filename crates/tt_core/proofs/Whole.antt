-- A directory that is read has no defect; the place of a table that is found has none either.
use Rattle.std.proofs.Common.{◌≡◌, ℕ, ◌+◌, nat_lt, false, List, length, Option, Some, None, is_some, Ok, inl, inr}
use Rattle.std.specs.Prelude.{not, ◌⊎◌}
use Rattle.tt_core.specs.Chains.{came-through, passed-on, not-neither, not-below}
use Rattle.tt_core.specs.Directory.{Directory, is_version, version, directory_end, read_directory, record_end, record_of, named_by, table_of, or_missing, needed_table, HasNo, IsDirectoryDefect, RecordPassesEnd, PassesEnd, IsTableDefect, IsDefectIn, HasNo-IsDefectIn}
use Rattle.tt_core.specs.declared.fault.Why.TheVariants as why
use Rattle.tt_core.specs.Faults.{Fault, fault_at}
use Rattle.tt_core.specs.Outcomes.{◌>>=◌}

pub directory-whole : (d read : Directory) → read_directory d ≡ Ok read → HasNo (IsDirectoryDefect d)
unfolding read_directory
directory-whole d read was =
    let long = passed-on (nat_lt (length d.file) (d.at + 12)) _ _ read was in
    let known = passed-on (not (is_version (version d))) _ _ read long.1 in
    let fits = passed-on (nat_lt (length d.file) (directory_end d)) _ _ read known.1 in
    λ fault defect. elim defect [
      | inl short ↦ elim (short.0) [
        | inl head ↦ not-below (length d.file) (d.at + 12) long.0 head
        | inr records ↦ not-below (length d.file) (directory_end d) fits.0 records
      ]
      | inr other ↦ not-neither (is_version (version d)) known.0 other.1
    ]

pub directory-kept : (d read : Directory) → read_directory d ≡ Ok read → read ≡ d
unfolding read_directory
directory-kept d read was =
    let long = passed-on (nat_lt (length d.file) (d.at + 12)) _ _ read was in
    let known = passed-on (not (is_version (version d))) _ _ read long.1 in
    let fits = passed-on (nat_lt (length d.file) (directory_end d)) _ _ read known.1 in
    let same = fits.1 in
    cc

-- by the table's record, if there is one
table-whole-by : (d : Directory) (tag table : List ℕ) (number : Option ℕ)
    → (named_by d number >>= or_missing tag) ≡ Ok table → (fault : Fault) → RecordPassesEnd d number fault
    ⊎ ((is_some number ≡ false) × (fault ≡ fault_at tag 0 why.NoTable))
    → ⊥
table-whole-by d tag table None was fault defect = cc
table-whole-by d tag table (Some i) was fault defect =
    let by_record = came-through (named_by d (Some i)) (or_missing tag) table was in
    let fits = passed-on (nat_lt (length d.file) (record_end d i)) _ _ by_record.value by_record.first in
    elim defect [
      | inl passes ↦ not-below (length d.file) (record_end d i) fits.0 passes.0
      | inr missing ↦ let none = missing.0 in absurd cc
    ]

pub table-whole : (d : Directory) (tag table : List ℕ) → needed_table d tag ≡ Ok table → HasNo (IsTableDefect d tag)
unfolding needed_table table_of
table-whole d tag table was = λ fault defect. table-whole-by d tag table (record_of d tag) was fault defect

-- a table that exists and whose bytes are good has no defect
pub table-good : (d : Directory) (tag table : List ℕ) (IsBad : List ℕ → Fault → Type 0)
    → needed_table d tag ≡ Ok table → HasNo (IsBad table) → HasNo (IsDefectIn d tag IsBad)
table-good d tag table IsBad there good =
    HasNo-IsDefectIn d tag table IsBad there (table-whole d tag table there) good

-- a table that the font may lack, and that is read, does not pass the end of the file
optional-whole-by : (d : Directory) (table : Option (List ℕ)) (number : Option ℕ) → named_by d number ≡ Ok table
    → (fault : Fault) → RecordPassesEnd d number fault → ⊥
optional-whole-by d table None was fault passes = absurd passes
optional-whole-by d table (Some i) was fault passes =
    let fits = passed-on (nat_lt (length d.file) (record_end d i)) _ _ table was in
    not-below (length d.file) (record_end d i) fits.0 passes.0

pub optional-whole : (d : Directory) (tag : List ℕ) (table : Option (List ℕ)) → table_of d tag ≡ Ok table
    → HasNo (PassesEnd d tag)
unfolding table_of
optional-whole d tag table was = λ fault passes. optional-whole-by d table (record_of d tag) was fault passes
