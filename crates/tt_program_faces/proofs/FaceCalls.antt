-- The call that tells the faces of a file: its definition is that of the font's bytes.
use Rattle.std.proofs.Common.{refl}
use Rattle.tt_render_run.proofs.Calls.{IsOfFont}
use Rattle.tt_strike.specs.Refusals.{as_font}
use Rattle.tt_program_faces.specs.FaceLines.{faces_of, faces_outcome, faces_wanted}

pub faces-are-of-font : IsOfFont faces_wanted (λ file. as_font (faces_of file))
unfolding faces_outcome
faces-are-of-font = record { tested = refl; same = λ file. refl }
