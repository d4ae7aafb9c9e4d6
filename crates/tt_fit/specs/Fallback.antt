-- No part of the standard: which glyphs are unfitted, with their points only scaled, because a program of the font is
-- refused (profile).
use Rattle.std.specs.Prelude.{◌≡◌, Bool, true, false, ◌&&◌, nat_le, if◌then◌else◌, codes, Option, Some, None, Result, Ok, Err, refl}
use Rattle.tt_core.specs.declared.fault.Why.TheVariants as why
use Rattle.tt_core.specs.Faults.{Fault, fault_at, why_number}
use Rattle.tt_fit_hinting.specs.machine.Work.{Worked, enough, spent}
use Rattle.tt_fit_outline.specs.Outline.{Outline}
use Rattle.tt_fit_hinting.specs.Hinting.{Hinting, off}

-- a fault of a program; smaller numbers are faults of the font's tables
unfoldable pub is_program_fault : Fault → Bool
is_program_fault fault = nat_le 30 (why_number fault.why) && nat_le (why_number fault.why) 50

-- Which glyphs are unfitted: none, or each whose own or whose component's program is refused. Or every glyph is, for a
-- fault of the font program or the control value program.
pub data Fallback : Type 0 where
  never : Fallback
  where_refused : Fallback
  everywhere : Fault → Fallback

-- the fault that makes a glyph unfitted, by the work of its programs and by its outline with them
abbrev pub unfitted_by : Fallback → Worked → Result Outline Fault → Option Fault
unfitted_by never worked by_programs = None
unfitted_by where_refused (spent fault) by_programs = Some fault
unfitted_by where_refused (enough left) (Ok o) = None
unfitted_by where_refused (enough left) (Err fault) = if is_program_fault fault then Some fault else None
unfitted_by (everywhere fault) worked by_programs = Some fault

-- the hinting of a glyph that is unfitted for this fault, or for none
abbrev pub hinting_for : Option Fault → Hinting → Hinting
hinting_for None hinting = hinting
hinting_for (Some fault) hinting = off

-- worked values: the last fault of a table, the first and the last one of a program
coordinate_is_of_a_table : is_program_fault (fault_at (codes "glyf") 0 why.CoordRange) ≡ false
unfolding is_program_fault why_number
coordinate_is_of_a_table = refl

steps_are_of_a_program : is_program_fault (fault_at (codes "prep") 3 why.StepLimit) ≡ true
unfolding is_program_fault why_number
steps_are_of_a_program = refl

argument_is_of_a_program : is_program_fault (fault_at (codes "glyf") 14 why.BadArgument) ≡ true
unfolding is_program_fault why_number
argument_is_of_a_program = refl

-- a glyph whose program is refused, and one whose bytes end too early
abbrev refused : Fault
refused = fault_at (codes "glyf") 14 why.OffProfile

abbrev short : Fault
short = fault_at (codes "glyf") 21 why.GlyphShort

refused_is_unfitted : unfitted_by where_refused (enough None) (Err refused) ≡ Some refused
unfolding is_program_fault why_number
refused_is_unfitted = refl

short_is_no_reason : unfitted_by where_refused (enough None) (Err short) ≡ None
unfolding is_program_fault why_number
short_is_no_reason = refl

-- a glyph whose programs exceed the job's remaining work, whatever their outline
abbrev over : Fault
over = fault_at (codes "glyf") 14 why.StepLimit

spent_is_unfitted : unfitted_by where_refused (spent over) (Err short) ≡ Some over
spent_is_unfitted = refl
