-- Apple TrueType Reference Manual, "The 'cvt ' table", "The 'fpgm' table" and "The 'prep' table".
use Rattle.std.specs.Prelude.{ℕ, List, []}
use Rattle.tt_face.specs.declared.programs.Programs as declared

-- the control values, the font program and the control value program
pub record ProgramTables : Type 0 where
  pub cvt : List ℕ
  pub fpgm : List ℕ
  pub prep : List ℕ

abbrev pub program_tables : declared.Programs → ProgramTables
program_tables p = record { cvt = p.cvt.now; fpgm = p.fpgm.now; prep = p.prep.now }

abbrev pub no_programs : ProgramTables
no_programs = record { cvt = []; fpgm = []; prep = [] }
