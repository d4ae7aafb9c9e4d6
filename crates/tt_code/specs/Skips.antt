-- Apple TrueType Reference Manual, "Instruction Set" (IF, ELSE, EIF, FDEF, ENDF). An IF (58) with a false condition
-- continues after its ELSE (1B) or EIF (59). An ELSE that is reached continues after its EIF, and an FDEF after the
-- first ENDF (2D). A skip goes instruction by instruction, and passes inner IFs with their EIFs.
use Rattle.std.specs.Prelude.{◌≡◌, ℕ, zero, suc, ◌+◌, ◌-◌, ◌<◌, ◌≤◌, ◌==◌, ◌||◌, ◌&&◌, ◌⊎◌, nat_le, Bool, true, false, if◌then◌else◌, List, [], ◌∷◌, length, count_by, Result, Ok, Err, MatchResult, refl}
use Rattle.tt_core.specs.Outcomes.{◌>>=◌}
use Rattle.tt_core.specs.declared.fault.Why.{Why}
use Rattle.tt_core.specs.declared.fault.Why.TheVariants as why
use Rattle.tt_code.specs.declared.decoding.Halt.{Halt}
use Rattle.tt_code.specs.declared.skips.Sought.{Sought}
use Rattle.tt_code.specs.declared.skips.Sought.TheVariants as sought
use Rattle.tt_code.specs.Decoding.{Instr, instruction_at}

-- whether an opcode ends a skip while `depth` inner IFs are open
abbrev pub ends : Sought → ℕ → ℕ → Bool
ends sought.ElseOrEif depth op = depth == 0 && (op == 0x1B || op == 0x59)
ends sought.Eif depth op = depth == 0 && op == 0x59
ends sought.Endf depth op = op == 0x2D

-- the number of open inner IFs after an opcode
abbrev pub depth_after : ℕ → ℕ → ℕ
depth_after depth op = if op == 0x58 then depth + 1 else (if op == 0x59 then depth - 1 else depth)

-- the end of a skip from an offset on; the first argument bounds the remaining instructions
abbrev pub skip_from : ℕ → Sought → List ℕ → Halt → ℕ → ℕ → Result ℕ Halt
skip_from zero sought code lost place depth = Err lost
skip_from (suc n) sought code lost place depth =
    if nat_le (length code) place then Err lost else (
    instruction_at code place >>= λ i.
    if ends sought depth i.op then Ok (place + i.len)
    else skip_from n sought code lost (place + i.len) (depth_after depth i.op))

-- the end of a skip that begins at the opcode at an offset
abbrev pub skip_end : Sought → List ℕ → ℕ → Why → Result ℕ Halt
skip_end sought code at lost = skip_from (length code) sought code (record { at = at; why = lost }) (at + 1) 0

abbrev pub if_end : List ℕ → ℕ → Result ℕ Halt
if_end code at = skip_end sought.ElseOrEif code at why.IfOpen

abbrev pub else_end : List ℕ → ℕ → Result ℕ Halt
else_end code at = skip_end sought.Eif code at why.IfOpen

abbrev pub definition_end : List ℕ → ℕ → Result ℕ Halt
definition_end code at = skip_end sought.Endf code at why.NoEndf

-- a skip ends after its own opcode, in the program or at the program's end; a refusal is in the program
abbrev pub StaysIn : List ℕ → ℕ → Result ℕ Halt → Type 0
StaysIn code at (Ok place) = (at < place) × (place ≤ length code)
StaysIn code at (Err halt) = halt.at < length code

-- The end of a skip without a walk. It is the least offset reached, instruction by instruction, with a sought opcode
-- and all inner IFs closed. Lists of passed opcodes have the latest first.

-- the passed opcodes have equal numbers of IFs and EIFs
abbrev pub closed : List ℕ → Bool
closed passed = count_by (λ op. op == 0x58) passed == count_by (λ op. op == 0x59) passed

-- whether an opcode after the passed ones is the end
abbrev pub is_end : Sought → List ℕ → ℕ → Bool
is_end sought.ElseOrEif passed op = closed passed && (op == 0x1B || op == 0x59)
is_end sought.Eif passed op = closed passed && op == 0x59
is_end sought.Endf passed op = op == 0x2D

-- the instruction at an offset has this opcode, and ends at `next`
pub record StandsAt (code : List ℕ) (place op next : ℕ) : Type 0 where
  pub instruction : Instr
  pub there : instruction_at code place ≡ Ok instruction
  pub opcode : instruction.op ≡ op
  pub after : place + instruction.len ≡ next

-- instructions with these opcodes lead from one offset to another
abbrev pub Leads : List ℕ → ℕ → List ℕ → ℕ → Type 0
Leads code from [] to = from ≡ to
Leads code from (op ∷ before) to = (place : ℕ) × Leads code from before place × StandsAt code place op to

-- none of the opcodes is the end
abbrev pub NoEnd : Sought → List ℕ → Type 0
NoEnd sought [] = Unit {0}
NoEnd sought (op ∷ before) = (is_end sought before op ≡ false) × NoEnd sought before

-- the skip reaches an offset without ending before
pub record ComesTo (sought : Sought) (code : List ℕ) (at : ℕ) (passed : List ℕ) (place : ℕ) : Type 0 where
  pub leads : Leads code (at + 1) passed place
  pub first : NoEnd sought passed

-- the skip ends with the instruction before an offset
pub record EndsBefore (sought : Sought) (code : List ℕ) (at next : ℕ) : Type 0 where
  pub passed : List ℕ
  pub place : ℕ
  pub comes : ComesTo sought code at passed place
  pub op : ℕ
  pub stands : StandsAt code place op next
  pub end : is_end sought passed op ≡ true

-- the skip has no end: it reaches the program's end, or an instruction whose data passes the program's end
pub record IsOpen (sought : Sought) (code : List ℕ) (at : ℕ) (lost : Why) (halt : Halt) : Type 0 where
  pub passed : List ℕ
  pub place : ℕ
  pub comes : ComesTo sought code at passed place
  pub why : ((place ≡ length code) × (halt ≡ record { at = at; why = lost }))
      ⊎ ((place < length code) × (instruction_at code place ≡ Err halt))

abbrev pub IsSkip : Sought → List ℕ → ℕ → Why → Result ℕ Halt → Type 0
IsSkip sought code at lost result =
    MatchResult result (EndsBefore sought code at) (IsOpen sought code at lost)

-- worked values: IF, PUSHB with a byte that looks like EIF, and an inner IF with ELSE and EIF before the ELSE
to_the_else : if_end (0x58 ∷ 0xB0 ∷ 0x59 ∷ 0x58 ∷ 0x1B ∷ 0x59 ∷ 0x1B ∷ 0x59 ∷ []) 0 ≡ Ok 7
to_the_else = refl

to_the_eif : else_end (0x1B ∷ 0x58 ∷ 0x59 ∷ 0x59 ∷ []) 0 ≡ Ok 4
to_the_eif = refl

to_the_endf : definition_end (0x2C ∷ 0xB0 ∷ 0x2D ∷ 0x2D ∷ []) 0 ≡ Ok 4
to_the_endf = refl

never_closed : if_end (0 ∷ 0x58 ∷ 0x58 ∷ 0x59 ∷ []) 1 ≡ Err (record { at = 1; why = why.IfOpen })
never_closed = refl

cut_short : definition_end (0x2C ∷ 0xB1 ∷ 0x2D ∷ []) 0 ≡ Err (record { at = 1; why = why.CodeShort })
cut_short = refl
