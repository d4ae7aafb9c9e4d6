-- No part of the standard: without fitting no program is read (profile).
use Rattle.std.specs.Prelude.{◌≡◌, refl, Result, Ok}
use Rattle.tt_core.specs.Faults.{Fault}
use Rattle.tt_face.specs.Faces.{Face, programs_of}
use Rattle.tt_face.specs.Programs.{ProgramTables, no_programs}
use Rattle.tt_fit.specs.declared.programs.Fit.{Fit}
use Rattle.tt_fit.specs.declared.programs.Fit.TheVariants as fit

-- the programs that fit outlines
unfoldable pub programs_in : Face → Fit → Result ProgramTables Fault
programs_in face fit.None = Ok no_programs
programs_in face fit.Full = programs_of face.directory
programs_in face fit.Fallback = programs_of face.directory
programs_in face fit.Best = programs_of face.directory

-- a worked value: whatever the face
not_looked_at : (face : Face) → programs_in face fit.None ≡ Ok no_programs
unfolding programs_in
not_looked_at face = refl
