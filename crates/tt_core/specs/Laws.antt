-- Lemmas about the definitions: a result has no defect. Apple TrueType Reference Manual, "The Font Directory".
use Rattle.std.specs.Prelude.{◌≡◌, ℕ, List, Ok}
use Rattle.tt_core.specs.declared.collection.Reading.{Reading}
use Rattle.tt_core.specs.declared.collection.Reading.TheVariants as reading
use Rattle.tt_core.specs.Collections.{directory_by, IsDirectoryDefectBy}
use Rattle.tt_core.specs.Directory.{Directory, read_directory, directory_of, needed_table, HasNo, IsDirectoryDefect, IsTableDefect}

-- if the definition gives a directory, the directory has no defect
abbrev pub DirectoriesAreWhole : Type 0
DirectoriesAreWhole = (d read : Directory) → read_directory d ≡ Ok read → HasNo (IsDirectoryDefect d)

-- a directory that is read is the directory itself
abbrev pub DirectoriesAreKept : Type 0
DirectoriesAreKept = (d read : Directory) → read_directory d ≡ Ok read → read ≡ d

-- if the definition gives a needed table, the table is neither missing nor past the end of the file
abbrev pub TablesAreWhole : Type 0
TablesAreWhole = (d : Directory) (tag table : List ℕ) → needed_table d tag ≡ Ok table → HasNo (IsTableDefect d tag)

-- if the definition gives the directory that a reading asks for, neither the directory nor its place has a defect
abbrev pub ReadingsAreWhole : Type 0
ReadingsAreWhole = (file : List ℕ) (r : Reading) (d : Directory) → directory_by file r ≡ Ok d → HasNo (IsDirectoryDefectBy file r)

-- the strict reading gives the directory at the file's start
abbrev pub StrictIsTheFile : Type 0
StrictIsTheFile = (file : List ℕ) → directory_by file reading.Strict ≡ directory_of file
