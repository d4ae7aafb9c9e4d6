-- A face that is opened has exact heights and no kerning.
use Rattle.std.proofs.Common.{◌≡◌, refl, ap, ℕ, List, Result, Ok, Err, None}
use Rattle.tt_cmap.specs.Maps.{map_by}
use Rattle.tt_core.specs.Chains.{came-through}
use Rattle.tt_core.specs.Collections.{directory_by}
use Rattle.tt_core.specs.declared.collection.Reading.{Reading}
use Rattle.tt_core.specs.Directory.{Directory, needed_table}
use Rattle.tt_metrics.specs.declared.heights.Heights.TheVariants.{Exact}
use Rattle.tt_metrics.specs.Head.{head_of}
use Rattle.tt_metrics.specs.Hhea.{hhea_of}
use Rattle.tt_metrics.specs.Hmtx.{hmtx_of}
use Rattle.tt_metrics.specs.Maxp.{maxp_of}
use Rattle.tt_metrics.specs.Metrics.{Metrics, glyphs_of, metrics_of}
use Rattle.tt_face.specs.Faces.{Face, cmap_tag}
use Rattle.tt_core.specs.Faults.{Fault}
use Rattle.tt_core.specs.Outcomes.{◌>>=◌}
use Rattle.tt_face.specs.Files.{face_at, face_by, face_with, OpenedFacesAreWhole, PlainRulesKeepFaces, RulesKeepFaults}
use Rattle.tt_face.specs.Rules.{plain_rules, ruled}
use Rattle.tt_face.proofs.Readings.{read-face-whole}

plain : (d : Directory) (m : Metrics) → metrics_of d ≡ Ok m → record m { heights = Exact; kerning = None } ≡ m
unfolding metrics_of
plain d m was =
    let by_head = came-through (head_of d) _ m was in
    let by_maxp = came-through (maxp_of d) _ m by_head.rest in
    let by_hhea = came-through (hhea_of d) _ m by_maxp.rest in
    let by_hmtx = came-through (hmtx_of d by_hhea.value.long_metrics) _ m by_hhea.rest in
    let whole : Metrics = record {
      head = by_head.value;
      maxp = by_maxp.value;
      hhea = by_hhea.value;
      hmtx = by_hmtx.value;
      heights = Exact;
      kerning = None;
      advances = None;
    } in
    let is : whole ≡ m = let rest = by_hmtx.rest in cc in
    rw (← is) refl

tables-keep : (d : Directory) (r : Reading) (face : Face) → face_at d r ≡ Ok face → ruled plain_rules face ≡ face
unfolding face_at ruled
tables-keep d r face was =
    let by_metrics = came-through (metrics_of d) _ face was in
    let by_table = came-through (needed_table d cmap_tag) _ face by_metrics.rest in
    let by_map = came-through (map_by r by_table.value (glyphs_of by_metrics.value)) _ face by_table.rest in
    let opened : Face = record { directory = d; metrics = by_metrics.value; cmap = by_map.value; instance = None } in
    let is : opened ≡ face = let rest = by_map.rest in cc in
    let same = plain d by_metrics.value by_metrics.first in
    rw (← is) (ap (λ (m : Metrics). record { directory = d; metrics = m; cmap = by_map.value; instance = None }) same)

given-keep : (file : List ℕ) (r : Reading) (face : Face) → face_by file r ≡ Ok face → ruled plain_rules face ≡ face
unfolding face_by
given-keep file r face was =
    let by_directory = came-through (directory_by file r) _ face was in
    tables-keep by_directory.value r face by_directory.rest

kept-by : (given : Result Face Fault) → ((face : Face) → given ≡ Ok face → ruled plain_rules face ≡ face)
    → (given >>= λ face. Ok (ruled plain_rules face)) ≡ given
kept-by (Ok face) keep = ap Ok (keep face refl)
kept-by (Err fault) keep = refl

pub plain-rules-keep : PlainRulesKeepFaces
unfolding face_with
plain-rules-keep file r = kept-by (face_by file r) (given-keep file r)

pub rules-keep-faults : RulesKeepFaults
unfolding face_with
rules-keep-faults file o fault is = rw is refl

pub opened-face-whole : OpenedFacesAreWhole
unfolding face_with
opened-face-whole file o face was =
    let read = came-through (face_by file o.reading) _ face was in
    read-face-whole file o.reading read.value read.first
