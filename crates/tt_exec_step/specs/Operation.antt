-- No part of the standard: an instruction, by the family that defines it. Each family's variants have the manual's
-- names.
use Rattle.std.specs.Prelude.{ℕ}
use Rattle.tt_exec_stack.specs.declared.instruction.Arithmetic.{Arithmetic}
use Rattle.tt_exec_stack.specs.declared.instruction.Logic.{Logic}
use Rattle.tt_exec_stack.specs.declared.instruction.Managing.{Managing}
use Rattle.tt_exec_state.specs.declared.instruction.StoredValues.{StoredValues}
use Rattle.tt_exec_state.specs.declared.instruction.Query.{Query}
use Rattle.tt_exec_state.specs.declared.instruction.GraphicsSetting.{GraphicsSetting}
use Rattle.tt_exec_state.specs.declared.instruction.Variation.{Variation}
use Rattle.tt_exec_state.specs.declared.instruction.Vectors.{Vectors}
use Rattle.tt_exec_points.specs.declared.instruction.OnPoints.{OnPoints}
use Rattle.tt_exec_stack.specs.Arithmetic as arithmetic
use Rattle.tt_exec_stack.specs.Logic as logic
use Rattle.tt_exec_stack.specs.Managing as managing
use Rattle.tt_exec_state.specs.Queries as queries
use Rattle.tt_exec_state.specs.Settings as settings
use Rattle.tt_exec_state.specs.StoredValues as values
use Rattle.tt_exec_state.specs.Vectors as vectors
use Rattle.tt_exec_points.specs.Instruction as points

pub data Operation : Type 0 where
  access_vectors : Vectors → Operation
  set_state : GraphicsSetting → Operation
  manage : Managing → Operation
  evaluate : Logic → Operation
  compute : Arithmetic → Operation
  access_values : StoredValues → Operation
  answer : Query → Operation
  instctrl : Operation
  if_from else_from eif jmpr jrot jrof : Operation
  fdef endf call loopcall : Operation
  -- an instruction that works on points, or DELTAC
  on_points : OnPoints → Operation
  idef : Operation
  -- an instruction that is refused without the whole instruction set (profile)
  beyond : Operation → Operation
  -- an instruction of variable fonts; without an instance its opcode has no name
  read_instance : Variation → ℕ → Operation
  -- an opcode without a name: a program may define it
  unnamed : ℕ → Operation

-- the count of values that an instruction takes at once, before points or pairs in turn
abbrev pub takes : Operation → ℕ
takes (access_vectors o) = vectors.takes o
takes (set_state o) = settings.takes o
takes (manage o) = managing.takes o
takes (evaluate o) = logic.takes o
takes (compute o) = arithmetic.takes o
takes (access_values o) = values.takes o
takes (answer o) = queries.takes o
takes instctrl = 2
takes if_from = 1
takes else_from = 0
takes eif = 0
takes jmpr = 1
takes jrot = 2
takes jrof = 2
takes fdef = 1
takes endf = 0
takes call = 1
takes loopcall = 2
takes (on_points o) = points.takes o
takes idef = 1
takes (beyond o) = takes o
takes (read_instance o opcode) = 0
takes (unnamed opcode) = 0
