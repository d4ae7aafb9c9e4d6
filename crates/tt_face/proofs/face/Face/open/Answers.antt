use Rattle.std.proofs.Common.{◌≡◌, Ok, inl, inr, sym, subst}
use Rattle.std.proofs.lemmas.Result.{err_from_is_err_and}
use Rattle.tt_core.specs.Directory.{Directory, file_directory, needed_table, IsTableDefect, IsDefectIn, OnOk-HasNo-IsDefectIn}
use Rattle.tt_cmap.specs.Defects.{IsBadCmap}
use Rattle.tt_metrics.specs.Metrics.{IsMetricsDefect}
use Rattle.tt_face.specs.Faces.{cmap_tag}
use Rattle.tt_face.proofs.face.Face.open.Goals as goal

pub returns-clause-sound : goal.returns-clause-sound
returns-clause-sound c =
    let dir : c.in_ok-dir.dir ≡ file_directory c.args.file.now = c.in_ok-dir.ensures.whole in
    let there = c.in_ok-needed in
    λ fault defect. elim defect [
      | inl directory ↦ c.in_ok-dir.ensures.sound fault directory
      | inr (inl metrics) ↦
          let P : Directory → Type 0 = λ d. IsMetricsDefect d fault in
          c.in_ok-metrics.ensures.sound fault (subst P (sym dir) metrics)
      | inr (inr cmap) ↦
          let P : Directory → Type 0 = λ d. IsDefectIn d cmap_tag IsBadCmap fault in
          let good = OnOk-HasNo-IsDefectIn {X = Unit {0}} (Ok tt) c.in_ok-dir.dir cmap_tag there.field-0.now IsBadCmap
          there.ensures.exact there.ensures.sound c.in_ok-cmap.ensures.sound in
          good fault (subst P (sym dir) cmap)
    ]

pub returns-in_err-metrics-clause-fault : goal.returns-in_err-metrics-clause-fault
returns-in_err-metrics-clause-fault c =
    let p = err_from_is_err_and c.from_residual-in_err-metrics.result c.from_residual-in_err-metrics.ensures.1 in
    let P : Directory → Type 0 = λ d. IsMetricsDefect d c.in_err-metrics.field-0.0 in
    rw (p.1, p.2) (inr (inl (subst P c.in_ok-dir.ensures.whole c.in_err-metrics.ensures.fault)))

pub returns-in_err-needed-clause-fault : goal.returns-in_err-needed-clause-fault
returns-in_err-needed-clause-fault c =
    let p = err_from_is_err_and c.from_residual-in_err-needed.result c.from_residual-in_err-needed.ensures.1 in
    let P : Directory → Type 0 = λ d. IsTableDefect d cmap_tag c.in_err-needed.field-0.0 in
    rw (p.1, p.2) (inr (inr (inl (subst P c.in_ok-dir.ensures.whole c.in_err-needed.ensures.fault))))

pub returns-in_err-cmap-clause-fault : goal.returns-in_err-cmap-clause-fault
returns-in_err-cmap-clause-fault c =
    let p = err_from_is_err_and c.from_residual-in_err-cmap.result c.from_residual-in_err-cmap.ensures.1 in
    let P : Directory → Type 0 = λ d. IsDefectIn d cmap_tag IsBadCmap c.in_err-cmap.field-0.0 in
    let there : needed_table c.in_ok-dir.dir cmap_tag ≡ Ok c.in_ok-needed.field-0.now = c.in_ok-needed.ensures.exact in
    rw (p.1, p.2) (inr (inr (subst P c.in_ok-dir.ensures.whole (inr (rw there c.in_err-cmap.ensures.fault)))))
