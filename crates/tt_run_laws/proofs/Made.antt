-- The written bytes were made of a file that is not too large.
use Rattle.std.proofs.Common.{◌≡◌, ℕ, nat_lt, List, length, Option, Result, Ok, Err, inl, inr}
use Rattle.tt_core.specs.declared.collection.Reading.{Reading}
use Rattle.tt_core.specs.declared.fault.JobFault.{JobFault}
use Rattle.tt_core.specs.Chains.{came-through, passed-on}
use Rattle.tt_core.specs.Directory.{HasNo}
use Rattle.tt_core.specs.Faults.{Fault}
use Rattle.tt_core.specs.Limits.{font_limit}
use Rattle.tt_advances.specs.Found.{advances_tested}
use Rattle.tt_advances.specs.Laws.{FoundAdvancesAreWhole}
use Rattle.tt_face.specs.Instance.{Asked, face_at_instance}
use Rattle.tt_face.specs.Laws.{InstancesAreWhole}
use Rattle.tt_face.specs.Rules.{plain_opening}
use Rattle.tt_line.specs.Layout.{text_glyphs}
use Rattle.tt_strike.specs.Job.{tested, text_tested}
use Rattle.tt_strike_laws.specs.Laws.{DrawnFontsAreWhole, OthersDrawByEdges}
use Rattle.tt_strike.specs.Picture.{pictured}
use Rattle.tt_strike.specs.Refusals.{Refused, as_font, as_job}
use Rattle.tt_render_run.specs.File.{file_pictured}
use Rattle.tt_run_laws.specs.Laws.{WrittenFontsAreWhole, MappedFontsAreWhole, OthersWriteByEdges}
use Rattle.tt_render_run.specs.MapLines.{IsMapDefect, lines_in, lines_of, map_outcome}
use Rattle.tt_render_run.specs.Outcome.{outcome_of}
use Rattle.tt_render_run.specs.Run.{run_outcome}
use Rattle.tt_render_run.proofs.Files.{file_made}

-- a result of a font was not refused
of-font : {X : Type 0} (r : Result X Fault) (x : X) → as_font r ≡ Ok x → r ≡ Ok x
of-font (Ok y) x was = cc
of-font (Err f) x was = absurd cc

made-of : (tests : Result (Unit {0}) JobFault) (made : List ℕ → Result (List ℕ) Refused) (file bytes : List ℕ)
    → outcome_of tests made file ≡ Ok bytes → made file ≡ Ok bytes
made-of tests made file bytes was =
    let by_tests = came-through (as_job tests) _ bytes was in
    let fits = passed-on (nat_lt font_limit (length file)) _ (made file) bytes by_tests.rest in fits.1

pub written-whole : DrawnFontsAreWhole → WrittenFontsAreWhole
unfolding run_outcome
written-whole law r i a file bytes was =
    let made = file_made (pictured r i a file) bytes (made-of (tested a) (file_pictured r i a) file bytes was) in
    law r i a file made.0 made.1

pub written-by-edges : OthersDrawByEdges → OthersWriteByEdges
unfolding run_outcome
written-by-edges law r i a file bytes other was =
    let made = file_made (pictured r i a file) bytes (made-of (tested a) (file_pictured r i a) file bytes was) in
    (made.0, made.2, law r i a file made.0 other made.1)

lines-whole : InstancesAreWhole → FoundAdvancesAreWhole → (r : Reading) (i : Option Asked) (file text bytes : List ℕ)
    → lines_of r i file text ≡ Ok bytes → HasNo (IsMapDefect r i text file)
unfolding lines_of lines_in
lines-whole law found r i file text bytes was =
    let by_face = came-through (face_at_instance file (plain_opening r) i) (λ face. lines_in face text) bytes was in
    let gs = text_glyphs by_face.value.cmap text in
    let by_units = came-through (advances_tested by_face.value gs) _ bytes by_face.rest in λ fault defect.
    elim defect [
      | inl tables ↦ law file (plain_opening r) i by_face.value by_face.first fault tables
      | inr units ↦ found by_face.value gs by_units.first fault (rw by_face.first at units)
    ]

pub mapped-whole : InstancesAreWhole → FoundAdvancesAreWhole → MappedFontsAreWhole
unfolding map_outcome
mapped-whole law found r i text file bytes was =
    lines-whole law found r i file text bytes
    (of-font (lines_of r i file text) bytes
    (made-of (text_tested text) (λ font. as_font (lines_of r i font text)) file bytes was))
