use Rattle.std.proofs.Common.{◌≡◌, ◌<◌, List, ℕ, length, take, Result, Ok, refl}
use Rattle.std.proofs.lemmas.Result.{err_from_is_err_and}
use Rattle.std.specs.Io.KnownBytes.{Appends}
use Rattle.tt_render_run.proofs.Answered.{reading_defects, lines_fail, lines_defects}
use Rattle.tt_render_run.proofs.Calls.{IsRead, reading_fails, with_bytes, tells_of_known}
use Rattle.tt_strike.specs.Refusals.{Refused, as_font}
use Rattle.tt_program_faces.specs.FaceLines.{IsFacesDefect, faces_of, faces_wanted}
use Rattle.tt_program_faces.proofs.FaceCalls.{faces-are-of-font}
use Rattle.tt_program_faces.proofs.listing.faces.Goals as goal

-- the lines of a font
abbrev made : List ℕ → Result (List ℕ) Refused
made file = as_font (faces_of file)

pub returns-in_err-file-clause-outcome : goal.returns-in_err-file-clause-outcome
returns-in_err-file-clause-outcome g c =
    let left = g.R.Source.left in
    let p = err_from_is_err_and c.from_residual.result c.from_residual.ensures.1 in
    rw (p.1, p.2) (reading_fails faces_wanted made faces-are-of-font c.in_err-file.field-0.0 (left c.args.font.now)
    (left c.read_font.new.font) (g.W.Sink.written c.args.out.now) (g.R.Source.has_failed c.read_font.new.font)
    (g.W.Sink.has_failed c.args.out.now) c.in_err-file.ensures c.requires.out)

pub returns-in_err-file-clause-defects : goal.returns-in_err-file-clause-defects
returns-in_err-file-clause-defects g c =
    let left = g.R.Source.left in
    let p = err_from_is_err_and c.from_residual.result c.from_residual.ensures.1 in
    rw (p.1, p.2) (reading_defects _ c.in_err-file.field-0.0 (left c.args.font.now) (left c.read_font.new.font)
    (g.R.Source.has_failed c.read_font.new.font) IsFacesDefect c.in_err-file.ensures)

pub returns-in_err-lines-clause-outcome : goal.returns-in_err-lines-clause-outcome
returns-in_err-lines-clause-outcome g c =
    let left = g.R.Source.left in
    let file = c.in_ok-file in
    let p = err_from_is_err_and c.from_residual-in_err-lines.result c.from_residual-in_err-lines.ensures.1 in
    let fails = rw c.deref.ensures.value at c.in_err-lines.ensures.exact in
    let read : IsRead (left c.args.font.now) (left c.read_font.new.font) file.file.items
    (g.R.Source.has_failed c.read_font.new.font) (g.W.Sink.has_failed c.args.out.now) =
    record { taken = file.ensures.0; end = file.ensures.1; small = file.ensures.2; reader_serves = file.ensures.3; writer_serves = c.requires.out } in
    rw (p.1, p.2) (lines_fail faces_wanted faces_of faces-are-of-font c.in_err-lines.field-0.0 (left c.args.font.now)
    (left c.read_font.new.font) (g.W.Sink.written c.args.out.now) file.file.items
    (g.R.Source.has_failed c.read_font.new.font) (g.W.Sink.has_failed c.args.out.now) read fails)

pub returns-in_err-lines-clause-defects : goal.returns-in_err-lines-clause-defects
returns-in_err-lines-clause-defects g c =
    let left = g.R.Source.left in
    let file = c.in_ok-file in
    let p = err_from_is_err_and c.from_residual-in_err-lines.result c.from_residual-in_err-lines.ensures.1 in
    let tells = rw c.deref.ensures.value at c.in_err-lines.ensures.defects in
    rw (p.1, p.2) (lines_defects c.in_err-lines.field-0.0 (left c.args.font.now)
    (left c.read_font.new.font) file.file.items IsFacesDefect file.ensures.0 file.ensures.1 tells)

pub returns-in_err-write_all_of-clause-outcome : goal.returns-in_err-write_all_of-clause-outcome
returns-in_err-write_all_of-clause-outcome g c =
    let left = g.R.Source.left in
    let written = g.W.Sink.written in
    let of_font = faces-are-of-font in
    let file = c.in_ok-file in
    let bytes = c.in_ok-lines.lines.items in
    let cut = c.in_err-write_all_of in
    let lines_are = rw c.deref.ensures.value at c.in_ok-lines.ensures.exact in
    let is_made : made file.file.items ≡ Ok bytes = rw lines_are refl in
    let within = rw c.deref-2.ensures.value at cut.ensures.within in
    let part = rw c.deref-2.ensures.value at cut.ensures.part in
    let Q : List ℕ → Type 0 = λ bs. (cut.field-0.0.sent < length bs) × Appends (written c.args.out.now)
    (written c.write_all_of.new.out) (take cut.field-0.0.sent bs) in
    let p = err_from_is_err_and c.from_residual-in_err-write_all_of.result c.from_residual-in_err-write_all_of.ensures.1
    in
    rw (p.1, p.2)
    (of_font.tested, with_bytes faces_wanted made of_font Q (left c.args.font.now) (left c.read_font.new.font) file.file.items bytes file.ensures.0 file.ensures.1 file.ensures.2 is_made (within, part), (file.ensures.1, file.ensures.3), cut.ensures.failure)

pub returns-in_err-write_all_of-clause-defects : goal.returns-in_err-write_all_of-clause-defects
returns-in_err-write_all_of-clause-defects g c =
    let left = g.R.Source.left in
    let file = c.in_ok-file in
    let p = err_from_is_err_and c.from_residual-in_err-write_all_of.result c.from_residual-in_err-write_all_of.ensures.1
    in
    let tells = rw c.deref.ensures.value at c.in_ok-lines.ensures.defects in
    rw (p.1, p.2) (tells_of_known IsFacesDefect (left c.args.font.now) (left c.read_font.new.font) file.file.items _
    file.ensures.0 file.ensures.1 tells)

pub returns-clause-outcome : goal.returns-clause-outcome
returns-clause-outcome g c =
    let left = g.R.Source.left in
    let written = g.W.Sink.written in
    let of_font = faces-are-of-font in
    let file = c.in_ok-file in
    let bytes = c.in_ok-lines.lines.items in
    let lines_are = rw c.deref.ensures.value at c.in_ok-lines.ensures.exact in
    let is_made : made file.file.items ≡ Ok bytes = rw lines_are refl in
    let all = rw c.deref-2.ensures.value at c.in_ok-write_all_of.ensures.all in
    let Q : List ℕ → Type 0 = Appends (written c.args.out.now) (written c.write_all_of.new.out) in
    (of_font.tested, with_bytes faces_wanted made of_font Q (left c.args.font.now) (left c.read_font.new.font) file.file.items bytes file.ensures.0 file.ensures.1 file.ensures.2 is_made all, (file.ensures.1, file.ensures.3), c.in_ok-write_all_of.ensures.failure)

pub returns-clause-defects : goal.returns-clause-defects
returns-clause-defects g c =
    let left = g.R.Source.left in
    let file = c.in_ok-file in
    let tells = rw c.deref.ensures.value at c.in_ok-lines.ensures.defects in
    tells_of_known {V = Unit {0}} IsFacesDefect (left c.args.font.now) (left c.read_font.new.font) file.file.items
    (Ok tt) file.ensures.0 file.ensures.1 tells
