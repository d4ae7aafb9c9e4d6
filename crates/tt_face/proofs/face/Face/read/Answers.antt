use Rattle.std.proofs.Common.{◌≡◌, Ok, inl, inr, refl}
use Rattle.std.proofs.lemmas.Result.{err_from_is_err_and}
use Rattle.tt_core.specs.Directory.{needed_table}
use Rattle.tt_face.specs.Faces.{cmap_tag}
use Rattle.tt_face.specs.Files.{face_by, face_at}
use Rattle.tt_face.proofs.Readings.{read-face-whole}
use Rattle.tt_face.proofs.face.Face.read.Goals as goal

pub returns-clause-exact : goal.returns-clause-exact
unfolding face_by face_at
returns-clause-exact c =
    let mapped = rw c.glyphs.ensures.exact at c.in_ok-cmap.ensures.exact in
    rw (c.in_ok-dir.ensures.exact, c.in_ok-metrics.ensures.exact, c.in_ok-table.ensures.exact, mapped) refl

pub returns-clause-sound : goal.returns-clause-sound
returns-clause-sound c = read-face-whole c.args.file.now c.args.reading _ (returns-clause-exact c)

pub returns-in_err-metrics-clause-fault : goal.returns-in_err-metrics-clause-fault
returns-in_err-metrics-clause-fault c =
    let p = err_from_is_err_and c.from_residual-in_err-metrics.result c.from_residual-in_err-metrics.ensures.1 in
    rw (p.1, p.2, c.in_ok-dir.ensures.exact) (inr (inl c.in_err-metrics.ensures.fault))

pub returns-in_err-table-clause-fault : goal.returns-in_err-table-clause-fault
returns-in_err-table-clause-fault c =
    let p = err_from_is_err_and c.from_residual-in_err-table.result c.from_residual-in_err-table.ensures.1 in
    rw (p.1, p.2, c.in_ok-dir.ensures.exact) (inr (inr (inl c.in_err-table.ensures.fault)))

pub returns-in_err-cmap-clause-fault : goal.returns-in_err-cmap-clause-fault
returns-in_err-cmap-clause-fault c =
    let p = err_from_is_err_and c.from_residual-in_err-cmap.result c.from_residual-in_err-cmap.ensures.1 in
    let there : needed_table c.in_ok-dir.dir cmap_tag ≡ Ok c.in_ok-table.table.now = c.in_ok-table.ensures.exact in
    rw (p.1, p.2, c.in_ok-dir.ensures.exact, there) (inr (inr (inr c.in_err-cmap.ensures.fault)))
