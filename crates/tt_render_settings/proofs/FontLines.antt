-- A call that stops before it reads a line, and the font that lines are drawn by.
use Rattle.std.proofs.Common.{◌≡◌, ◌∙◌, ap, sym, ℕ, ◌≤◌, Bool, true, false, nat_lt, if◌then◌else◌, List, length, Option, Some, None, Result, Ok, Err, IfSome, ℤ, refl, arith}
use Rattle.std.proofs.lemmas.Bool.Decides.{nat_tests}
use Rattle.tt_core.specs.Chains.{came-through}
use Rattle.tt_core.specs.Collections.{directory_at, directory_by, offset_of}
use Rattle.tt_core.specs.declared.collection.Reading.{Reading}
use Rattle.tt_core.specs.declared.fault.JobFault.{JobFault}
use Rattle.tt_cmap.specs.Maps.{map_by}
use Rattle.tt_core.specs.Directory.{Directory, needed_table}
use Rattle.tt_core.specs.Faults.{Fault}
use Rattle.tt_core.specs.Limits.{font_limit}
use Rattle.tt_core.specs.Outcomes.{◌>>=◌}
use Rattle.tt_core.proofs.Whole.{directory-kept}
use Rattle.tt_core.specs.declared.draw_fault.DrawFault.{DrawFault}
use Rattle.tt_core.specs.declared.draw_fault.DrawFault.TheVariants as draw
use Rattle.tt_strike.specs.Job.{size_tested}
use Rattle.tt_strike.specs.Refusals.{Refused, as_job, font, refusal}
use Rattle.tt_face.specs.Faces.{Face, cmap_tag}
use Rattle.tt_face.specs.declared.rules.Opening.{Opening}
use Rattle.tt_face.specs.Files.{face_at, face_by}
use Rattle.tt_face.specs.Instance.{Asked, asked_coordinates, face_at_asked, face_at_coordinates, face_at_instance, face_by_gvar}
use Rattle.tt_face.specs.Rules.{ruled}
use Rattle.tt_metrics.specs.Metrics.{glyphs_of, metrics_of}
use Rattle.tt_render_texts.specs.streams.declared.fault.RunFault.{RunFault}
use Rattle.tt_render_texts.specs.streams.declared.fault.RunFault.TheVariants as run
use Rattle.tt_render_settings.specs.declared.setting.Setting.{Setting}
use Rattle.tt_render_settings.specs.TextsOutcome.{IsIdle, StopsAtFont}
use Rattle.tt_render_texts.specs.streams.Reading.{FontIsRead, FontReader, ReadFails}
use Rattle.tt_render_settings.specs.Settings.{face_asked, setting_tested, strike_by, strike_of}
use Rattle.tt_render_texts.specs.Views.{before_lines, refusal_of_draw, refusal_of_run}
use Rattle.tt_render_texts.proofs.Printed.{keeps_itself}

-- unused devices
pub idle : (left out error : Option (List ℕ)) (read write failed : Bool) → read ≡ false → write ≡ false
    → failed ≡ false → IsIdle
    (record { left_before = left; left_after = left; read_failed = read; out_before = out; out_after = out; write_failed = write })
    (record { before = error; after = error; failed = failed })
idle left out error read write failed reads writes prints =
    ((keeps_itself left, reads), (keeps_itself out, writes), (keeps_itself error, prints))

-- the font was not read to its end
pub reading_stops : (V : Type 0) {S : Type 0} (tests : Result (Unit {0}) JobFault) (opened : List ℕ → Result S Refused)
    (fault : RunFault) (before after : Option (List ℕ)) (failed : Bool) → tests ≡ Ok tt
    → ReadFails fault before after failed
    → StopsAtFont {V = V} tests opened (Err (before_lines (refusal_of_run fault)))
    (record { before = before; after = after; failed = failed })
reading_stops V tests opened (run.Font f) before after failed passes fails = absurd fails
reading_stops V tests opened (run.Job j) before after failed passes fails = absurd fails
reading_stops V tests opened run.Read before after failed passes fails = (passes, fails)
reading_stops V tests opened run.FontLarge before after failed passes fails =
    (passes, fails.0, (fails.1, fails.2))
reading_stops V tests opened (run.Write sent) before after failed passes fails = absurd fails
reading_stops V tests opened run.Memory before after failed passes fails = (passes, fails)

-- a face's directory
face_directory : (d : Directory) (r : Reading) (face : Face) → face_at d r ≡ Ok face → d ≡ face.directory
unfolding face_at
face_directory d r face was =
    let by_metrics = came-through (metrics_of d) _ face was in
    let by_table = came-through (needed_table d cmap_tag) _ face by_metrics.rest in
    let by_map = came-through (map_by r by_table.value (glyphs_of by_metrics.value)) _ face by_table.rest in
    let same : record { directory = d; metrics = by_metrics.value; cmap = by_map.value; instance = None } ≡ face = let done = by_map.rest in cc in
    ap (λ (f : Face). f.directory) same

-- the directory of a face is in the file that was read
read_file : (file : List ℕ) (r : Reading) (face : Face) → face_by file r ≡ Ok face → file ≡ face.directory.file
unfolding face_by directory_by
read_file file r face was =
    let by_directory = came-through (directory_by file r) _ face was in
    let d = by_directory.value in
    let by_offset = came-through (offset_of file r) _ d by_directory.first in
    let kept = directory-kept (directory_at file by_offset.value) d by_offset.rest in
    ap (λ (e : Directory). e.file) (sym kept ∙ face_directory d r face by_directory.rest)

-- a face, or another one with the same directory
either_directory : {X : Type 0} (b : Bool) (face varied : Face) (r : Result X Fault) (other : X → Face)
    → ((x : X) → face.directory ≡ (other x).directory) → (if b then Ok face else (r >>= λ x. Ok (other x))) ≡ Ok varied
    → face.directory ≡ varied.directory
either_directory true face varied r other keeps was = let same : face ≡ varied = cc in ap (λ (f : Face). f.directory) same
either_directory false face varied r other keeps was =
    let read = came-through r _ varied was in
    let same : other read.value ≡ varied = let rest = read.rest in cc in
    keeps read.value ∙ ap (λ (f : Face). f.directory) same

-- an instance keeps the directory of its face
coordinates_directory : (face : Face) (c : List ℤ) (varied : Face) → face_at_coordinates face c ≡ Ok varied
    → face.directory ≡ varied.directory
unfolding face_at_coordinates
coordinates_directory face c varied was =
    either_directory _ face varied _ (face_by_gvar face c) (λ x. refl) was

asked_directory : (face : Face) (asked : Option Asked) (varied : Face) → face_at_asked face asked ≡ Ok varied
    → face.directory ≡ varied.directory
asked_directory face None varied was = let same : face ≡ varied = cc in ap (λ (f : Face). f.directory) same
asked_directory face (Some a) varied was =
    let by_asked = came-through (asked_coordinates face.directory a) (face_at_coordinates face) varied was in
    coordinates_directory face by_asked.value varied by_asked.rest

pub face_file : (file : List ℕ) (o : Opening) (asked : Option Asked) (face : Face)
    → face_at_instance file o asked ≡ Ok face → file ≡ face.directory.file
unfolding face_at_instance ruled
face_file file o asked face was =
    let read = came-through (face_by file o.reading) _ face was in
    let at = came-through (face_at_asked read.value asked) _ face read.rest in
    let same : ruled o.rules at.value ≡ face = let rest = at.rest in cc in
    read_file file o.reading read.value read.first
    ∙ (ap (λ (d : Directory). d.file) (asked_directory read.value asked at.value at.first)
    ∙ ap (λ (f : Face). f.directory.file) same)

-- the tables of a font that is not too large
pub font_opened : (a : Setting) (file : List ℕ) (face : Face) → length file ≤ font_limit → face_asked a file ≡ Ok face
    → strike_of a file ≡ Ok (strike_by a face)
unfolding strike_of
font_opened a file face small there =
    let fits : nat_lt font_limit (length file) ≡ false = grind (arith, nat_tests) in
    rw (fits, there) refl

pub font_refused : (a : Setting) (file : List ℕ) (f : Fault) → length file ≤ font_limit → face_asked a file ≡ Err f
    → strike_of a file ≡ Err (font f)
unfolding strike_of
font_refused a file f small there =
    let fits : nat_lt font_limit (length file) ≡ false = grind (arith, nat_tests) in
    rw (fits, there) refl

-- a strike is not refused for a size that passed its test
pub size_passes : (r : Result (Unit {0}) JobFault) (rest : Unit {0} → Result (Unit {0}) JobFault) (why : Refused)
    → (r >>= rest) ≡ Ok tt → as_job r ≡ Err why → ⊥
size_passes (Ok u) rest why passes refused = absurd cc
size_passes (Err j) rest why passes refused = absurd cc

-- so the strike was refused for lack of memory
pub strike_stops : (V : Type 0) {S : Type 0} (a : Setting) (opened : List ℕ → Result S Refused) (fault : DrawFault) (f : FontReader)
    (file : List ℕ) → setting_tested a ≡ Ok tt → FontIsRead f file
    → IfSome (refusal fault) (λ why. as_job (size_tested a.ppem) ≡ Err why)
    → StopsAtFont {V = V} (setting_tested a) opened (Err (before_lines (refusal_of_draw fault))) f
unfolding setting_tested
strike_stops V a opened (draw.Font fault) f file passes read refused =
    absurd (size_passes (size_tested a.ppem) _ _ passes refused)
strike_stops V a opened (draw.Job j) f file passes read refused =
    absurd (size_passes (size_tested a.ppem) _ _ passes refused)
strike_stops V a opened draw.Memory f file passes read refused = (passes, ((file, read.0), read.2))
