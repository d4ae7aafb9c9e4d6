-- No part of the standard: the output of `faces`, which is the number of a file's faces, a line for each, and the lines of
-- its axes and named instances (profile).
use Rattle.std.specs.Prelude.{◌≡◌, refl, ℕ, min, List, [], ◌∷◌, ◌++◌, flat_map, codes, decimal, Result, Ok, Err}
use Rattle.std.specs.Fmt.{digits}
use Rattle.std.specs.List.{range_with_len}
use Rattle.tt_core.specs.Collections.{IsOffsetDefect, count_of, directory_by, face_offset, offset_of}
use Rattle.tt_core.specs.declared.collection.Reading.{Reading}
use Rattle.tt_core.specs.declared.collection.Reading.TheVariants as reading
use Rattle.tt_core.specs.declared.fault.Why.TheVariants as why
use Rattle.tt_core.specs.Directory.{needed_table, read_directory, table_of}
use Rattle.tt_core.specs.Faults.{Fault, file_fault, why_name, why_number}
use Rattle.tt_core.specs.Outcomes.{◌>>=◌}
use Rattle.tt_face.specs.Faces.{Face}
use Rattle.tt_face.specs.Files.{face_at, face_by}
use Rattle.tt_face.specs.Names.{full_name_of}
use Rattle.tt_metrics.specs.Head.{head_of}
use Rattle.tt_metrics.specs.Metrics.{Metrics, glyphs_of, metrics_of, units_per_em_of}
use Rattle.tt_render_streams.specs.Messages.{fault_words}
use Rattle.tt_render_run.specs.Outcome.{Wanted, outcome_of}
use Rattle.tt_strike.specs.Refusals.{Refused, as_font}
use Rattle.tt_program_faces.specs.Variations.{behind_blank, variation_lines}

-- faces that have a line
abbrev pub faces_told : ℕ
faces_told = 256

abbrev pub wide : ℕ → Reading
wide n = reading.Wide n

-- `<n> <glyphs> <units per em>`
abbrev pub figures : ℕ → Metrics → List ℕ
figures n m = decimal n ++ (codes " " ++ (decimal (glyphs_of m) ++ (codes " " ++ decimal (units_per_em_of m))))

-- `<n> <glyphs> <units per em> <name>`
abbrev pub read_words : ℕ → Face → List ℕ
read_words n face = figures n face.metrics ++ behind_blank (full_name_of face.directory)

-- its line, and those of its axes and named instances
abbrev pub read_lines : ℕ → Face → List ℕ
read_lines n face = (read_words n face ++ codes "\n") ++ variation_lines face.directory

-- `<n> <table>+<offset>: <number> <name>`
abbrev pub fault_line : ℕ → Fault → List ℕ
fault_line n f = decimal n ++ (codes " " ++ fault_words f)

-- the lines of face n: the face is read, or has a first fault
abbrev pub face_lines : ℕ → Result Face Fault → List ℕ
face_lines n (Ok face) = read_lines n face
face_lines n (Err fault) = fault_line n fault ++ codes "\n"

abbrev pub lines_of_face : List ℕ → ℕ → List ℕ
lines_of_face file n = face_lines n (face_by file (wide n))

-- `faces <count>` and a line feed
abbrev pub faces_head : ℕ → List ℕ
faces_head count = codes "faces " ++ (decimal count ++ codes "\n")

-- the number of faces, and the lines of the first 256
abbrev pub faces_text : List ℕ → ℕ → List ℕ
faces_text file count = faces_head count ++ flat_map (lines_of_face file) (range_with_len 0 (min count faces_told))

-- the lines of a file, or the fault of the place of its first face
unfoldable pub faces_of : List ℕ → Result (List ℕ) Fault
faces_of file = count_of file >>= λ count. Ok (faces_text file count)

-- the bytes for a font file, or the refusal: the file's size is tested first
unfoldable pub faces_outcome : List ℕ → Result (List ℕ) Refused
faces_outcome file = outcome_of (Ok tt) (λ font. as_font (faces_of font)) file

abbrev pub faces_wanted : Wanted
faces_wanted = record { tested = Ok tt; bytes = faces_outcome }

-- a defect of the place of a file's first face
abbrev pub IsFacesDefect : List ℕ → Fault → Type 0
IsFacesDefect file fault = IsOffsetDefect file (wide 0) fault

-- worked values
a_refused_face : fault_line 200 (file_fault 492 why.DirShort) ≡ codes "200 file+492: 2 DirShort"
unfolding digits why_number why_name
a_refused_face = refl

eleven_bytes : List ℕ
eleven_bytes = 0 ∷ 1 ∷ 0 ∷ 0 ∷ 0 ∷ 0 ∷ 0 ∷ 0 ∷ 0 ∷ 0 ∷ 0 ∷ []

no_header : faces_of eleven_bytes ≡ Err (file_fault 11 why.DirShort)
unfolding eleven_bytes faces_of count_of offset_of face_offset
no_header = refl

-- a font without tables
no_tables : faces_of (0 ∷ 1 ∷ 0 ∷ 0 ∷ 0 ∷ 0 ∷ 0 ∷ 0 ∷ 0 ∷ 0 ∷ 0 ∷ 0 ∷ []) ≡ Ok (codes "faces 1\n0 head+0: 3 NoTable\n")
unfolding faces_of count_of offset_of face_offset face_by face_at directory_by read_directory metrics_of head_of needed_table table_of digits why_number why_name
no_tables = refl

-- a collection of two faces: one without tables, and one whose directory is past the end
two_faces : List ℕ
two_faces =
    116 ∷ 116 ∷ 99 ∷ 102 ∷ 0 ∷ 1 ∷ 0 ∷ 0 ∷ 0 ∷ 0 ∷ 0 ∷ 2 ∷ 0 ∷ 0 ∷ 0 ∷ 20 ∷ 0 ∷ 0 ∷ 0 ∷ 32
    ∷ 0 ∷ 1 ∷ 0 ∷ 0 ∷ 0 ∷ 0 ∷ 0 ∷ 0 ∷ 0 ∷ 0 ∷ 0 ∷ 0 ∷ []

each_refused : faces_of two_faces ≡ Ok (codes "faces 2\n0 head+0: 3 NoTable\n1 file+32: 2 DirShort\n")
unfolding two_faces faces_of count_of offset_of face_offset face_by face_at directory_by read_directory metrics_of head_of needed_table table_of digits why_number why_name
each_refused = refl
