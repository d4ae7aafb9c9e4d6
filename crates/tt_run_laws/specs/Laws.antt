-- Laws of the definitions: where bytes are defined, the font has no defect; and the picture without filled dropouts.
use Rattle.std.specs.Prelude.{◌≡◌, ◌≢◌, ℕ, List, Option, Ok}
use Rattle.tt_core.specs.declared.collection.Reading.{Reading}
use Rattle.tt_face.specs.declared.rules.Opening.{Opening}
use Rattle.tt_face.specs.Instance.{Asked}
use Rattle.tt_core.specs.Directory.{HasNo}
use Rattle.tt_fit.specs.declared.programs.Fit.TheVariants as fit
use Rattle.tt_strike.specs.Defects.{IsRunDefect}
use Rattle.tt_strike.specs.Job.{Job, ByFace}
use Rattle.tt_strike_laws.specs.Laws.{IsByEdges}
use Rattle.tt_picture.specs.Pictures.{Image}
use Rattle.tt_render_streams.specs.File.{p4}
use Rattle.tt_render_run.specs.MapLines.{IsMapDefect, map_outcome}
use Rattle.tt_render_run.specs.Run.{run_outcome}

-- where a picture is defined, the file has no defect for the job, its reading and its instance
abbrev pub WrittenFontsAreWhole : Type 0
WrittenFontsAreWhole = (r : Opening) (i : Option Asked) (a : Job) (file bytes : List ℕ) → run_outcome r i a file ≡ Ok bytes
    → HasNo (IsRunDefect r i a file)

-- where lines are defined, their tables have no defect
abbrev pub MappedFontsAreWhole : Type 0
MappedFontsAreWhole = (r : Reading) (i : Option Asked) (text file bytes : List ℕ) → map_outcome r i text file ≡ Ok bytes
    → HasNo (IsMapDefect r i text file)

-- these bytes are the file of the image of a job without dropout control
abbrev pub IsWrittenByEdges : Opening → Option Asked → Job → List ℕ → List ℕ → Type 0
IsWrittenByEdges r asked a file bytes =
    (i : Image) × (bytes ≡ p4 i) × ByFace (λ face a. IsByEdges a face i) r asked a file

-- with every fit but Best a picture is written as without dropout control
abbrev pub OthersWriteByEdges : Type 0
OthersWriteByEdges = (r : Opening) (i : Option Asked) (a : Job) (file bytes : List ℕ) → a.fit ≢ fit.Best
    → run_outcome r i a file ≡ Ok bytes → IsWrittenByEdges r i a file bytes
