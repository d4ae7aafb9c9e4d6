-- A face by a reading: it has no defect, the strict reading gives the file's only font, and a face is its font.
use Rattle.std.proofs.Common.{◌≡◌, ◌∙◌, ℕ, ◌+◌, ◌*◌, nat_lt, false, List, length, Option, None, Result, Ok, Err, inl, inr, arith, subst, sym, refl, ap}
use Rattle.std.specs.Prelude.{IsOkAnd, not, ◌==◌}
use Rattle.std.proofs.lemmas.Bool.{cases_eq}
use Rattle.std.proofs.lemmas.Bool.Decides.{nat_tests}
use Rattle.tt_cmap.specs.Lookup.{Cmap, cmap_of}
use Rattle.tt_cmap.specs.Maps.{CharacterMap, strict, wide, map_by, IsBadMap}
use Rattle.tt_cmap.specs.WideLookup.{WideCmap, wide_cmap_of}
use Rattle.tt_cmap.proofs.WideWhole.{map-whole, wide-extends}
use Rattle.tt_core.specs.Chains.{came-through, passed-on}
use Rattle.tt_core.specs.Collections.{is_collection, face_offset, offset_of, directory_by}
use Rattle.tt_core.specs.declared.collection.Reading.{Reading}
use Rattle.tt_core.specs.declared.collection.Reading.TheVariants as reading
use Rattle.tt_core.specs.Directory.{Directory, HasNo, is_version, version, file_directory, read_directory, directory_of, needed_table, or_missing}
use Rattle.tt_core.specs.Faults.{Fault}
use Rattle.tt_core.specs.Outcomes.{◌>>=◌}
use Rattle.tt_core.proofs.Offsets.{readings-whole, strict-is}
use Rattle.tt_core.proofs.Whole.{table-good}
use Rattle.tt_metrics.specs.declared.head.Head.{Head}
use Rattle.tt_metrics.specs.declared.heights.Heights.TheVariants.{Exact}
use Rattle.tt_metrics.specs.declared.hhea.Hhea.{Hhea}
use Rattle.tt_metrics.specs.declared.maxp.Maxp.{Maxp}
use Rattle.tt_metrics.specs.Head.{head_tag, head_in, head_of}
use Rattle.tt_metrics.specs.Hhea.{hhea_tag, hhea_in, hhea_of}
use Rattle.tt_metrics.specs.Hmtx.{hmtx_tag, hmtx_of}
use Rattle.tt_metrics.specs.Maxp.{maxp_tag, maxp_in, maxp_of}
use Rattle.tt_metrics.specs.Metrics.{Metrics, metrics_of, glyphs_of}
use Rattle.tt_metrics.specs.Tables.{or_short}
use Rattle.tt_metrics.proofs.Whole.{metrics-whole}
use Rattle.tt_face.specs.Faces.{Face, cmap_tag}
use Rattle.tt_face.specs.Files.{face_of, face_at, face_by, IsTablesDefect, ReadFacesAreWhole, StrictIsTheFace, SameTables, FacesAreTheirFonts, ExtendsFace, WideFacesExtend}

tables-whole : (d : Directory) (r : Reading) (face : Face) → face_at d r ≡ Ok face → HasNo (IsTablesDefect d r)
unfolding face_at
tables-whole d r face was =
    let by_metrics = came-through (metrics_of d) _ face was in
    let by_table = came-through (needed_table d cmap_tag) _ face by_metrics.rest in
    let by_map = came-through (map_by r by_table.value (glyphs_of by_metrics.value)) _ face by_table.rest in
    let cmap = table-good d cmap_tag by_table.value (IsBadMap r) by_table.first
    (map-whole r by_table.value (glyphs_of by_metrics.value) by_map.value by_map.first) in
    λ fault defect. elim defect [
      | inl metrics ↦ metrics-whole d by_metrics.value by_metrics.first fault metrics
      | inr table ↦ cmap fault table
    ]

pub read-face-whole : ReadFacesAreWhole
unfolding face_by
read-face-whole file r face was =
    let by_directory = came-through (directory_by file r) _ face was in
    λ fault defect. elim defect [
      | inl directory ↦ readings-whole file r by_directory.value by_directory.first fault directory
      | inr tables ↦
          let P : Result Directory Fault → Type 0 = λ o. IsOkAnd o (λ d. IsTablesDefect d r fault) in
          tables-whole by_directory.value r face by_directory.rest fault (subst P by_directory.first tables)
    ]

-- the strict reading, step by step: a map that is wrapped at once, or with the face
abbrev face-of : Directory → Metrics → CharacterMap → Face
face-of d m k = record { directory = d; metrics = m; cmap = k; instance = None }

maps-same : (c : Result Cmap Fault) (d : Directory) (m : Metrics)
    → ◌≡◌ {A = Result Face Fault} ((c >>= λ k. Ok (strict k)) >>= λ k. Ok (face-of d m k)) (c >>= λ k. Ok (face-of d m (strict k)))
maps-same (Ok k) d m = refl
maps-same (Err e) d m = refl

abbrev by-table : Directory → Metrics → List ℕ → Result Face Fault
by-table d m table = map_by reading.Strict table (glyphs_of m) >>= λ k. Ok (face-of d m k)

abbrev by-strict-table : Directory → Metrics → List ℕ → Result Face Fault
by-strict-table d m table = cmap_of table (glyphs_of m) >>= λ k. Ok (face-of d m (strict k))

tables-same : (t : Result (List ℕ) Fault) (d : Directory) (m : Metrics) → (t >>= by-table d m) ≡ (t >>= by-strict-table d m)
tables-same (Ok table) d m = maps-same (cmap_of table (glyphs_of m)) d m
tables-same (Err e) d m = refl

abbrev by-metrics : Directory → Metrics → Result Face Fault
by-metrics d m = needed_table d cmap_tag >>= by-table d m

abbrev by-strict-metrics : Directory → Metrics → Result Face Fault
by-strict-metrics d m = needed_table d cmap_tag >>= by-strict-table d m

metrics-same : (m : Result Metrics Fault) (d : Directory) → (m >>= by-metrics d) ≡ (m >>= by-strict-metrics d)
metrics-same (Ok m) d = tables-same (needed_table d cmap_tag) d m
metrics-same (Err e) d = refl

abbrev by-directory : Directory → Result Face Fault
by-directory d = metrics_of d >>= by-metrics d

abbrev by-strict-directory : Directory → Result Face Fault
by-strict-directory d = metrics_of d >>= by-strict-metrics d

directories-same : (d : Result Directory Fault) → (d >>= by-directory) ≡ (d >>= by-strict-directory)
directories-same (Ok d) = metrics-same (metrics_of d) d
directories-same (Err e) = refl

pub strict-face : StrictIsTheFace
unfolding face_by face_at face_of
strict-face file =
    ap (λ (d : Result Directory Fault). d >>= by-directory) (strict-is file) ∙ directories-same (directory_of file)

-- a face is its font: what the tables give is the same, wherever the directory is
needed-same : (d e : Directory) (tag : List ℕ) → SameTables d e → needed_table d tag ≡ needed_table e tag
unfolding needed_table
needed-same d e tag same = ap (λ (t : Result (Option (List ℕ)) Fault). t >>= or_missing tag) (same tag)

head-same : (d e : Directory) → SameTables d e → head_of d ≡ head_of e
unfolding head_of
head-same d e same = ap (λ (t : Result (List ℕ) Fault). t >>= head_in) (needed-same d e head_tag same)

maxp-same : (d e : Directory) → SameTables d e → maxp_of d ≡ maxp_of e
unfolding maxp_of
maxp-same d e same = ap (λ (t : Result (List ℕ) Fault). t >>= maxp_in) (needed-same d e maxp_tag same)

hhea-same : (d e : Directory) → SameTables d e → hhea_of d ≡ hhea_of e
unfolding hhea_of
hhea-same d e same = ap (λ (t : Result (List ℕ) Fault). t >>= hhea_in) (needed-same d e hhea_tag same)

hmtx-same : (d e : Directory) (n : ℕ) → SameTables d e → hmtx_of d n ≡ hmtx_of e n
unfolding hmtx_of
hmtx-same d e n same =
    ap (λ (t : Result (List ℕ) Fault). t >>= or_short hmtx_tag (4 * n)) (needed-same d e hmtx_tag same)

abbrev by-hhea : Directory → Head → Maxp → Hhea → Result Metrics Fault
by-hhea d head maxp hhea =
    hmtx_of d hhea.long_metrics >>= λ hmtx. Ok (record { head = head; maxp = maxp; hhea = hhea; hmtx = hmtx; heights = Exact; kerning = None; advances = None })

hhea-then : (r : Result Hhea Fault) (d e : Directory) (head : Head) (maxp : Maxp) → SameTables d e
    → (r >>= by-hhea d head maxp) ≡ (r >>= by-hhea e head maxp)
hhea-then (Ok hhea) d e head maxp same =
    ap (λ (t : Result (List ℕ) Fault). t >>= λ hmtx. Ok (record { head = head; maxp = maxp; hhea = hhea; hmtx = hmtx; heights = Exact; kerning = None; advances = None }))
    (hmtx-same d e hhea.long_metrics same)
hhea-then (Err f) d e head maxp same = refl

abbrev by-maxp : Directory → Head → Maxp → Result Metrics Fault
by-maxp d head maxp = hhea_of d >>= by-hhea d head maxp

maxp-then : (r : Result Maxp Fault) (d e : Directory) (head : Head) → SameTables d e
    → (r >>= by-maxp d head) ≡ (r >>= by-maxp e head)
maxp-then (Ok maxp) d e head same =
    ap (λ (t : Result Hhea Fault). t >>= by-hhea d head maxp) (hhea-same d e same)
    ∙ hhea-then (hhea_of e) d e head maxp same
maxp-then (Err f) d e head same = refl

abbrev by-head : Directory → Head → Result Metrics Fault
by-head d head = maxp_of d >>= by-maxp d head

head-then : (r : Result Head Fault) (d e : Directory) → SameTables d e → (r >>= by-head d) ≡ (r >>= by-head e)
head-then (Ok head) d e same =
    ap (λ (t : Result Maxp Fault). t >>= by-maxp d head) (maxp-same d e same) ∙ maxp-then (maxp_of e) d e head same
head-then (Err f) d e same = refl

all-metrics-same : (d e : Directory) → SameTables d e → metrics_of d ≡ metrics_of e
unfolding metrics_of
all-metrics-same d e same =
    ap (λ (t : Result Head Fault). t >>= by-head d) (head-same d e same) ∙ head-then (head_of e) d e same

-- by the reading's map, whose face number the map does not look at
abbrev by-wide-table : Directory → ℕ → Metrics → List ℕ → Result Face Fault
by-wide-table d n m table = map_by (reading.Wide n) table (glyphs_of m) >>= λ k. Ok (face-of d m k)

abbrev moved : Directory → Result Face Fault → Result Face Fault
moved e f = f >>= λ face. Ok (record { directory = e; metrics = face.metrics; cmap = face.cmap; instance = face.instance })

map-moves : (c : Result CharacterMap Fault) (d e : Directory) (m : Metrics)
    → ◌≡◌ {A = Result Face Fault} (c >>= λ k. Ok (face-of e m k)) (moved e (c >>= λ k. Ok (face-of d m k)))
map-moves (Ok k) d e m = refl
map-moves (Err f) d e m = refl

wide-map-same : (table : List ℕ) (glyphs n k : ℕ) → map_by (reading.Wide n) table glyphs ≡ map_by (reading.Wide k) table glyphs
wide-map-same table glyphs n k = refl

table-moves : (t : Result (List ℕ) Fault) (d e : Directory) (n k : ℕ) (m : Metrics)
    → (t >>= by-wide-table e k m) ≡ moved e (t >>= by-wide-table d n m)
table-moves (Ok table) d e n k m = map-moves (map_by (reading.Wide n) table (glyphs_of m)) d e m
table-moves (Err f) d e n k m = refl

abbrev by-wide-metrics : Directory → ℕ → Metrics → Result Face Fault
by-wide-metrics d n m = needed_table d cmap_tag >>= by-wide-table d n m

metrics-move : (r : Result Metrics Fault) (d e : Directory) (n k : ℕ) → SameTables d e
    → (r >>= by-wide-metrics e k) ≡ moved e (r >>= by-wide-metrics d n)
metrics-move (Ok m) d e n k same =
    ap (λ (t : Result (List ℕ) Fault). t >>= by-wide-table e k m) (sym (needed-same d e cmap_tag same))
    ∙ table-moves (needed_table d cmap_tag) d e n k m
metrics-move (Err f) d e n k same = refl

pub face-moves : FacesAreTheirFonts
unfolding face_at
face-moves d e n k same =
    ap (λ (r : Result Metrics Fault). r >>= by-wide-metrics e k) (sym (all-metrics-same d e same))
    ∙ metrics-move (metrics_of d) d e n k same

-- a file with one font has its directory at its start, for the first face too
no-collection : (v : ℕ) → not (is_version v) ≡ false → (v == 0x74746366) ≡ false
no-collection v known = elim (cases_eq v 0x74746366) [
  | inl same ↦ let now : not (is_version 0x74746366) ≡ false = rw same at known in absurd cc
  | inr other ↦ grind (arith, nat_tests, other)
]

read-tests : (d read : Directory) → read_directory d ≡ Ok read
    → (nat_lt (length d.file) (d.at + 12) ≡ false) × (not (is_version (version d)) ≡ false)
unfolding read_directory
read-tests d read was =
    let long = passed-on (nat_lt (length d.file) (d.at + 12)) _ _ read was in
    let known = passed-on (not (is_version (version d))) _ _ read long.1 in
    (long.0, known.0)

first-offset : (file : List ℕ) → nat_lt (length file) 12 ≡ false → is_collection file ≡ false
    → offset_of file (reading.Wide 0) ≡ Ok 0
unfolding offset_of face_offset
first-offset file long one = rw (long, one) refl

one-font : (file : List ℕ) (d : Directory) → directory_of file ≡ Ok d → directory_by file (reading.Wide 0) ≡ Ok d
unfolding directory_by
one-font file d was =
    let tests = read-tests (file_directory file) d was in
    rw (first-offset file tests.0 (no-collection (version (file_directory file)) tests.1)) was

wide-face : (file table : List ℕ) (d : Directory) (m : Metrics) (k : WideCmap) → directory_of file ≡ Ok d
    → metrics_of d ≡ Ok m → needed_table d cmap_tag ≡ Ok table → wide_cmap_of table (glyphs_of m) ≡ Ok k
    → face_by file (reading.Wide 0) ≡ Ok (face-of d m (wide k))
unfolding face_by face_at
wide-face file table d m k directory metrics there given = rw (one-font file d directory, metrics, there, given) refl

is-face : (f g : Face) → ◌≡◌ {A = Result Face Fault} (Ok f) (Ok g) → f ≡ g
is-face f g was = cc

pub wide-faces-extend : WideFacesExtend
unfolding face_of
wide-faces-extend file face was =
    let by_directory = came-through (directory_of file) _ face was in
    let by_metrics = came-through (metrics_of by_directory.value) _ face by_directory.rest in
    let by_table = came-through (needed_table by_directory.value cmap_tag) _ face by_metrics.rest in
    let by_cmap = came-through (cmap_of by_table.value (glyphs_of by_metrics.value)) _ face by_table.rest in
    let more = wide-extends by_table.value (glyphs_of by_metrics.value) by_cmap.value by_cmap.first in
    let strict_face = face-of by_directory.value by_metrics.value (strict by_cmap.value) in
    subst (ExtendsFace file) (is-face strict_face face by_cmap.rest) (record {
      wide = face-of by_directory.value by_metrics.value (wide more.wide);
      given = wide-face file by_table.value by_directory.value by_metrics.value more.wide by_directory.first by_metrics.first
          by_table.first more.given;
      directory = refl;
      metrics = refl;
      instance = refl;
      same = more.same;
    })
