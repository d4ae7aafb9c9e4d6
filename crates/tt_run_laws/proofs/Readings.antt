-- The answers of `run` and `map` by the strict reading, by the wide one, and by a face's own font.
use Rattle.std.proofs.Common.{◌≡◌, ◌∙◌, ℕ, ◌≤◌, Bool, true, false, nat_lt, if◌then◌else◌, All, List, [], ◌∷◌, ◌++◌, length, map, flat_map, chars, Option, Some, None, Result, Ok, Err, refl, sym, ap, ap₂, arith}
use Rattle.std.proofs.lemmas.Bool.Decides.{nat_tests}
use Rattle.tt_advances.specs.Found.{advances_tested, units_of}
use Rattle.tt_advances.specs.Laws.{DefaultsGiveAdvances}
use Rattle.tt_cmap.specs.Lookup.{Cmap, glyph_of}
use Rattle.tt_cmap.specs.Maps.{CharacterMap, strict, wide, glyph_by, glyph_of_unit, map_by, units_by}
use Rattle.tt_cmap.specs.declared.units.TextUnit.{TextUnit}
use Rattle.tt_cmap.specs.Units.{is_selector, plain_unit}
use Rattle.tt_cmap.proofs.PlainUnits.{no-selector}
use Rattle.tt_cmap.proofs.UnitLaws.{plain-texts, characters-are-units}
use Rattle.tt_core.specs.Chains.{came-through}
use Rattle.tt_core.specs.Collections.{directory_by}
use Rattle.tt_core.specs.declared.collection.Reading.{Reading}
use Rattle.tt_core.specs.declared.collection.Reading.TheVariants as reading
use Rattle.tt_core.specs.declared.fault.JobFault.{JobFault}
use Rattle.tt_core.specs.Directory.{Directory, needed_table, table_of}
use Rattle.tt_core.specs.Faults.{Fault}
use Rattle.tt_core.specs.Limits.{font_limit}
use Rattle.tt_core.specs.Outcomes.{◌>>=◌}
use Rattle.tt_face.specs.declared.rules.LineRules.{LineRules}
use Rattle.tt_face.specs.Faces.{Face, FaceInstance, cmap_tag}
use Rattle.tt_face.specs.Files.{FacesAreTheirFonts, PlainRulesKeepFaces, SameTables, StrictIsTheFace, WideFacesExtend, face_at, face_by, face_of}
use Rattle.tt_face.specs.Instance.{face_at_instance}
use Rattle.tt_face.specs.Laws.{DefaultsAreFaces}
use Rattle.tt_face.specs.Rules.{gdef_tag, gpos_tag, kern_tag, kerning_by, plain_opening, ruled, table_bytes}
use Rattle.tt_line.specs.Layout.{text_glyphs}
use Rattle.tt_metrics.specs.Metrics.{Metrics, advance_of, glyphs_of, metrics_of}
use Rattle.tt_picture.specs.Pictures.{Image}
use Rattle.tt_strike.specs.Job.{Job, tested, text_tested}
use Rattle.tt_strike.specs.Picture.{pictured, pictured_by}
use Rattle.tt_strike_laws.specs.ReadingLaws.{FacesDrawAlike}
use Rattle.tt_strike.specs.Refusals.{Refused, as_font, as_job, large}
use Rattle.tt_render_streams.specs.File.{as_file}
use Rattle.tt_render_run.specs.MapLines.{line_text, lines_in, lines_of, map_line, map_lines, map_outcome, unit_text}
use Rattle.tt_run_laws.specs.ReadingLaws.{CharactersHaveLines, FacesMapAsFonts, FacesRunAsFonts, IsFontOf, IsPlainText, StrictMaps, StrictRuns, WideMaps, WideRuns, opened}
use Rattle.tt_render_run.specs.Run.{run_outcome}

-- what a file's bytes give, by the face alone
abbrev run_by : LineRules → Job → Result Face Fault → Result (List ℕ) Refused
run_by rules a read = as_file (as_font (read >>= λ face. Ok (ruled rules face)) >>= λ face. pictured_by face a)

abbrev map_by_face : List ℕ → Result Face Fault → Result (List ℕ) Refused
map_by_face text read = as_font (read >>= λ face. lines_in face text)

-- the answer for a file by what its face gives
abbrev answered : Result (Unit {0}) JobFault → (Result Face Fault → Result (List ℕ) Refused) → List ℕ → Result Face Fault
    → Result (List ℕ) Refused
answered tests by file read =
    as_job tests >>= λ u. if nat_lt font_limit (length file) then Err large else by read

run_answered : (r : Reading) (rules : LineRules) (a : Job) (file : List ℕ)
    → run_outcome (opened r rules) None a file ≡ answered (tested a) (run_by rules a) file (face_by file r)
unfolding run_outcome pictured face_at_instance
run_answered r rules a file = refl

-- a face without an instance, by plain rules, is that of its reading
pub record ArePlain : Type 0 where
  pub none : DefaultsAreFaces
  pub rules : PlainRulesKeepFaces
  pub advances : DefaultsGiveAdvances

map_answered : ArePlain → (r : Reading) (text file : List ℕ)
    → map_outcome r None text file ≡ answered (text_tested text) (map_by_face text) file (face_by file r)
unfolding map_outcome lines_of
map_answered are r text file =
    ap (answered (text_tested text) (map_by_face text) file) (are.none file (plain_opening r) ∙ are.rules file r)

-- the rules are those of the face that is drawn
by_rules : (rules : LineRules) (a : Job) (r : Result Face Fault)
    → run_by rules a r ≡ as_file (as_font r >>= λ face. pictured_by (ruled rules face) a)
by_rules rules a (Ok face) = refl
by_rules rules a (Err fault) = refl

-- the strict reading
pub strict_runs : StrictIsTheFace → StrictRuns
strict_runs law rules a file =
    run_answered reading.Strict rules a file
    ∙ ap (answered (tested a) (run_by rules a) file) (law file)
    ∙ ap (λ (r : Result (List ℕ) Refused). as_job (tested a) >>= λ u. if nat_lt font_limit (length file) then Err large else r)
    (by_rules rules a (face_of file))

pub strict_maps : ArePlain → StrictIsTheFace → StrictMaps
strict_maps are law text file =
    map_answered are reading.Strict text file ∙ ap (answered (text_tested text) (map_by_face text) file) (law file)

-- the lines of characters that are units
unit_lines : (face : Face) (cmap : Cmap) (cs : List ℕ) → face.cmap ≡ strict cmap → flat_map (map_line face) (map plain_unit cs)
    ≡ flat_map (λ c. line_text c (glyph_of cmap c) (units_of face (glyph_of cmap c))) cs
unit_lines face cmap [] is = refl
unit_lines face cmap (c ∷ cs) is =
    ap₂ (λ (line text : List ℕ). line ++ text)
    (ap (λ (m : CharacterMap). line_text c (glyph_of_unit m (plain_unit c)) (units_of face (glyph_of_unit m (plain_unit c)))) is)
    (unit_lines face cmap cs is)

pub characters_have_lines : CharactersHaveLines
characters_have_lines face cmap text is =
    ap (flat_map (map_line face)) (ap (λ (m : CharacterMap). units_by m (chars text)) is ∙ characters-are-units (chars text))
    ∙ unit_lines face cmap (chars text) is

-- with either reading each character of a text without selectors is a unit
abbrev IsNoSelector : ℕ → Type 0
IsNoSelector c = is_selector c ≡ false

plain_units : (m : CharacterMap) (cs : List ℕ) → All IsNoSelector cs → units_by m cs ≡ map plain_unit cs
plain_units (strict m) cs plain = characters-are-units cs
plain_units (wide m) cs plain = plain-texts cs plain

-- maps with the same glyphs for characters have the same glyphs and lines for these units
abbrev SameGlyphs : CharacterMap → CharacterMap → Type 0
SameGlyphs k l = (c : ℕ) → glyph_by k c ≡ glyph_by l c

same_glyph : (k l : CharacterMap) (c : ℕ) → SameGlyphs k l → glyph_of_unit k (plain_unit c) ≡ glyph_of_unit l (plain_unit c)
same_glyph k l c same =
    no-selector k (plain_unit c) refl ∙ same c ∙ sym (no-selector l (plain_unit c) refl)

glyphs_of_units : (k l : CharacterMap) (cs : List ℕ) → SameGlyphs k l
    → map (glyph_of_unit k) (map plain_unit cs) ≡ map (glyph_of_unit l) (map plain_unit cs)
glyphs_of_units k l [] same = refl
glyphs_of_units k l (c ∷ cs) same =
    ap₂ (λ (g : ℕ) (gs : List ℕ). g ∷ gs) (same_glyph k l c same) (glyphs_of_units k l cs same)

glyphs_alike : (k l : CharacterMap) (text : List ℕ) → IsPlainText text → SameGlyphs k l
    → text_glyphs k text ≡ text_glyphs l text
glyphs_alike k l text plain same =
    let cs = chars text in
    ap (map (glyph_of_unit k)) (plain_units k cs plain)
    ∙ glyphs_of_units k l cs same
    ∙ ap (map (glyph_of_unit l)) (sym (plain_units l cs plain))

-- faces with the same advances
abbrev SameUnits : Face → Face → Type 0
SameUnits e f = (g : ℕ) → units_of e g ≡ units_of f g

lines_of_units : (e f : Face) (cs : List ℕ) → SameGlyphs e.cmap f.cmap → SameUnits e f
    → flat_map (map_line e) (map plain_unit cs) ≡ flat_map (map_line f) (map plain_unit cs)
lines_of_units e f [] same units = refl
lines_of_units e f (c ∷ cs) same units =
    ap₂ (λ (line text : List ℕ). line ++ text)
    (ap (λ (g : ℕ). line_text c g (units_of e g)) (same_glyph e.cmap f.cmap c same)
    ∙ ap (line_text c (glyph_of_unit f.cmap (plain_unit c))) (units (glyph_of_unit f.cmap (plain_unit c))))
    (lines_of_units e f cs same units)

lines_alike : (e f : Face) (text : List ℕ) → IsPlainText text → SameGlyphs e.cmap f.cmap → SameUnits e f
    → map_lines e text ≡ map_lines f text
lines_alike e f text plain same units =
    let cs = chars text in
    ap (flat_map (map_line e)) (plain_units e.cmap cs plain)
    ∙ lines_of_units e f cs same units
    ∙ ap (flat_map (map_line f)) (sym (plain_units f.cmap cs plain))

-- at the default the advances are those of the metrics, and no glyph is read for them
units_alike : DefaultsGiveAdvances → (e f : Face) → e.instance ≡ None → f.instance ≡ None → e.metrics ≡ f.metrics → SameUnits e f
units_alike law e f first second same = λ g.
    (law e first).units g ∙ ap (λ (m : Metrics). advance_of m g) same ∙ sym ((law f second).units g)

lines_are : DefaultsGiveAdvances → (face : Face) (text : List ℕ) → face.instance ≡ None → lines_in face text ≡ Ok (map_lines face text)
unfolding lines_in
lines_are law face text none = rw ((law face none).tested (text_glyphs face.cmap text)) refl

-- the metrics of a face with some rules
abbrev ruled_metrics : LineRules → Option FaceInstance → Metrics → Directory → Metrics
ruled_metrics rules i m d = record m { heights = rules.heights; kerning = kerning_by rules.kerned d i }

-- the wide reading
same_tables : (d e : Directory) → d ≡ e → SameTables d e
same_tables d e is = λ tag. ap (λ (x : Directory). table_of x tag) is

pub wide_runs : StrictIsTheFace → WideFacesExtend → FacesDrawAlike → WideRuns
unfolding ruled
wide_runs first extends alike rules a file face was plain =
    let more = extends file face was in
    let strict_face : face_by file reading.Strict ≡ Ok face = first file ∙ was in
    let glyphs = glyphs_alike more.wide.cmap face.cmap a.text plain more.same in
    let metrics = ap₂ (ruled_metrics rules more.wide.instance) more.metrics more.directory
    ∙ ap (λ (i : Option FaceInstance). ruled_metrics rules i face.metrics face.directory) more.instance in
    let drawn = alike (ruled rules more.wide) (ruled rules face) a (same_tables _ _ more.directory) metrics more.instance glyphs in
    let by = answered (tested a) (λ (r : Result Face Fault). run_by rules a r) file in
    run_answered (reading.Wide 0) rules a file
    ∙ ap by more.given
    ∙ ap (λ (image : Result Image Refused). as_job (tested a) >>= λ u. if nat_lt font_limit (length file) then Err large else as_file image) drawn
    ∙ ap by (sym strict_face)
    ∙ sym (run_answered reading.Strict rules a file)

-- a face's directory
face_directory : (d : Directory) (r : Reading) (face : Face) → face_at d r ≡ Ok face → d ≡ face.directory
unfolding face_at
face_directory d r face was =
    let by_metrics = came-through (metrics_of d) _ face was in
    let by_table = came-through (needed_table d cmap_tag) _ face by_metrics.rest in
    let by_map = came-through (map_by r by_table.value (glyphs_of by_metrics.value)) _ face by_table.rest in
    let same : record { directory = d; metrics = by_metrics.value; cmap = by_map.value; instance = None } ≡ face = let done = by_map.rest in cc in
    ap (λ (f : Face). f.directory) same

-- a reading alone gives no instance
face_instance : (d : Directory) (r : Reading) (face : Face) → face_at d r ≡ Ok face → face.instance ≡ None
unfolding face_at
face_instance d r face was =
    let by_metrics = came-through (metrics_of d) _ face was in
    let by_table = came-through (needed_table d cmap_tag) _ face by_metrics.rest in
    let by_map = came-through (map_by r by_table.value (glyphs_of by_metrics.value)) _ face by_table.rest in
    let same : record { directory = d; metrics = by_metrics.value; cmap = by_map.value; instance = None } ≡ face = let done = by_map.rest in cc in
    ap (λ (f : Face). f.instance) (sym same)

read_instance : (file : List ℕ) (r : Reading) (face : Face) → face_by file r ≡ Ok face → face.instance ≡ None
unfolding face_by
read_instance file r face was =
    let by_directory = came-through (directory_by file r) (λ d. face_at d r) face was in
    face_instance by_directory.value r face by_directory.rest

pub wide_maps : ArePlain → StrictIsTheFace → WideFacesExtend → WideMaps
wide_maps are first extends text file face was plain =
    let more = extends file face was in
    let strict_face : face_by file reading.Strict ≡ Ok face = first file ∙ was in
    let none = read_instance file reading.Strict face strict_face in
    let none_more = read_instance file (reading.Wide 0) more.wide more.given in
    let units = units_alike are.advances more.wide face none_more none more.metrics in
    let lines : lines_in more.wide text ≡ lines_in face text =
    lines_are are.advances more.wide text none_more
    ∙ ap (λ (bytes : List ℕ). Ok bytes) (lines_alike more.wide face text plain more.same units)
    ∙ sym (lines_are are.advances face text none) in
    let by = answered (text_tested text) (λ (r : Result Face Fault). map_by_face text r) file in
    map_answered are (reading.Wide 0) text file
    ∙ ap by more.given
    ∙ ap (λ (r : Result (List ℕ) Fault). as_job (text_tested text) >>= λ u. if nat_lt font_limit (length file) then Err large else as_font r) lines
    ∙ ap by (sym strict_face)
    ∙ sym (map_answered are reading.Strict text file)

-- a face with its directory elsewhere
abbrev moved : Directory → Face → Face
moved e face = record { directory = e; metrics = face.metrics; cmap = face.cmap; instance = face.instance }

abbrev all_moved : Directory → Result Face Fault → Result Face Fault
all_moved e faces = faces >>= λ face. Ok (moved e face)

kerned_alike : (kerned : Bool) (i : Option FaceInstance) (d e : Directory) → SameTables d e → kerning_by kerned d i ≡ kerning_by kerned e i
unfolding table_bytes
kerned_alike true None d e same = rw (same gpos_tag, same kern_tag) refl
kerned_alike true (Some i) d e same = rw (same gpos_tag, same kern_tag, same gdef_tag) refl
kerned_alike false i d e same = refl

runs_moved : FacesDrawAlike → (rules : LineRules) (a : Job) (d e : Directory) (r : Result Face Fault)
    → ((face : Face) → r ≡ Ok face → d ≡ face.directory) → SameTables d e
    → run_by rules a r ≡ run_by rules a (all_moved e r)
unfolding ruled
runs_moved alike rules a d e (Ok face) its same =
    let tables : SameTables face.directory e = λ tag. ap (λ (x : Directory). table_of x tag) (sym (its face refl)) ∙ same tag in
    let metrics : (ruled rules face).metrics ≡ (ruled rules (moved e face)).metrics = rw (kerned_alike rules.kerned face.instance face.directory e tables) refl in
    ap (λ (image : Result Image Refused). as_file image)
    (alike (ruled rules face) (ruled rules (moved e face)) a tables metrics refl refl)
runs_moved alike rules a d e (Err f) its same = refl

lines_of_moved : (face : Face) (e : Directory) (us : List TextUnit) → SameUnits face (moved e face)
    → flat_map (map_line face) us ≡ flat_map (map_line (moved e face)) us
lines_of_moved face e [] units = refl
lines_of_moved face e (u ∷ us) units =
    ap₂ (λ (line text : List ℕ). line ++ text)
    (ap (unit_text u (glyph_of_unit face.cmap u)) (units (glyph_of_unit face.cmap u))) (lines_of_moved face e us units)

lines_moved : (face : Face) (e : Directory) (text : List ℕ) → SameUnits face (moved e face)
    → map_lines face text ≡ map_lines (moved e face) text
lines_moved face e text units = lines_of_moved face e (units_by face.cmap (chars text)) units

maps_moved : DefaultsGiveAdvances → (text : List ℕ) (e : Directory) (r : Result Face Fault)
    → ((face : Face) → r ≡ Ok face → face.instance ≡ None) → map_by_face text r ≡ map_by_face text (all_moved e r)
maps_moved law text e (Ok face) its =
    let none = its face refl in
    let units = units_alike law face (moved e face) none none refl in
    ap (λ (answer : Result (List ℕ) Fault). as_font answer) (lines_are law face text none
    ∙ ap (λ (bytes : List ℕ). Ok bytes) (lines_moved face e text units)
    ∙ sym (lines_are law (moved e face) text none))
maps_moved law text e (Err f) its = refl

-- files that are not too large, with the same result
answered_alike : (tests : Result (Unit {0}) JobFault) (by : Result Face Fault → Result (List ℕ) Refused) (file font : List ℕ)
    (r s : Result Face Fault) → length file ≤ font_limit → length font ≤ font_limit → by r ≡ by s
    → answered tests by file r ≡ answered tests by font s
answered_alike tests by file font r s small small_too same =
    let fits : nat_lt font_limit (length file) ≡ false = grind (arith, nat_tests) in
    let fits_too : nat_lt font_limit (length font) ≡ false = grind (arith, nat_tests) in
    ap (λ (b : Bool). as_job tests >>= λ u. if b then Err large else by r) fits
    ∙ ap (λ (answer : Result (List ℕ) Refused). as_job tests >>= λ u. answer) same
    ∙ sym (ap (λ (b : Bool). as_job tests >>= λ u. if b then Err large else by s) fits_too)

face_of_file : (file : List ℕ) (r : Reading) (d : Directory) → directory_by file r ≡ Ok d → face_by file r ≡ face_at d r
unfolding face_by
face_of_file file r d is = rw is refl

-- a face and its font give the same face, but for the directory
its_font : FacesAreTheirFonts → (file : List ℕ) (n : ℕ) (font : List ℕ) (is : IsFontOf file n font)
    → all_moved is.own (face_by file (reading.Wide n)) ≡ face_by font (reading.Wide 0)
its_font law file n font is =
    ap (all_moved is.own) (face_of_file file (reading.Wide n) is.face is.read)
    ∙ sym (law is.face is.own n 0 is.same)
    ∙ sym (face_of_file font (reading.Wide 0) is.own is.alone)

pub faces_run_as_fonts : FacesAreTheirFonts → FacesDrawAlike → FacesRunAsFonts
faces_run_as_fonts law alike rules a file n font is =
    let r = face_by file (reading.Wide n) in
    let its : (face : Face) → r ≡ Ok face → is.face ≡ face.directory = λ face was.
    face_directory is.face (reading.Wide n) face (sym (face_of_file file (reading.Wide n) is.face is.read) ∙ was) in
    let same = runs_moved alike rules a is.face is.own r its is.same
    ∙ ap (λ (s : Result Face Fault). run_by rules a s) (its_font law file n font is) in
    run_answered (reading.Wide n) rules a file
    ∙ answered_alike (tested a) (λ (s : Result Face Fault). run_by rules a s) file font r (face_by font (reading.Wide 0)) is.small is.small_too same
    ∙ sym (run_answered (reading.Wide 0) rules a font)

pub faces_map_as_fonts : ArePlain → FacesAreTheirFonts → FacesMapAsFonts
faces_map_as_fonts are law text file n font is =
    let r = face_by file (reading.Wide n) in
    let same = maps_moved are.advances text is.own r (read_instance file (reading.Wide n)) ∙ ap (λ (s : Result Face Fault). map_by_face text s) (its_font law file n font is) in
    map_answered are (reading.Wide n) text file
    ∙ answered_alike (text_tested text) (λ (s : Result Face Fault). map_by_face text s) file font r (face_by font (reading.Wide 0)) is.small is.small_too same
    ∙ sym (map_answered are (reading.Wide 0) text font)
