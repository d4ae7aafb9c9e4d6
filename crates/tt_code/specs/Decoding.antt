-- Apple TrueType Reference Manual, "Instruction Set" (pushing data onto the interpreter stack). Data follows NPUSHB,
-- NPUSHW, PUSHB and PUSHW. Every other opcode, even one without a name, is an instruction of one byte.
use Rattle.std.specs.Prelude.{◌≡◌, ℕ, ◌+◌, ◌-◌, ◌*◌, ◌==◌, ◌||◌, ◌&&◌, nat_le, Bool, if◌then◌else◌, List, [], ◌∷◌, length, slice_index, slice_range, Result, Ok, Err, refl}
use Rattle.tt_core.specs.declared.fault.Why.TheVariants as why
use Rattle.tt_code.specs.declared.decoding.Halt.{Halt}

-- an opcode, the bytes that it pushes, and the instruction's size in bytes
pub record Instr : Type 0 where
  pub op : ℕ
  pub args : List ℕ
  pub len : ℕ

-- bytes before the data; NPUSHB (40) and NPUSHW (41) have a count after the opcode
abbrev pub head_length : ℕ → ℕ
head_length op = if op == 0x40 || op == 0x41 then 2 else 1

-- bytes of data, by that count; PUSHB (B0 to B7) has 1 to 8 bytes, PUSHW (B8 to BF) 1 to 8 words
abbrev pub data_length : ℕ → ℕ → ℕ
data_length op count =
    if op == 0x40 then count else (
    if op == 0x41 then 2 * count else (
    if nat_le 0xB0 op && nat_le op 0xB7 then op - 0xAF else (
    if nat_le 0xB8 op && nat_le op 0xBF then 2 * (op - 0xB7) else 0)))

-- whether data follows an opcode, even with a count of 0
abbrev pub takes_data : ℕ → Bool
takes_data op = op == 0x40 || op == 0x41 || (nat_le 0xB0 op && nat_le op 0xBF)

-- the program stops at an offset because the data there passes its end
abbrev pub short_at : ℕ → Halt
short_at at = record { at = at; why = why.CodeShort }

-- an instruction with these numbers of bytes before the data and in the data, if all bytes exist
abbrev pub taken : List ℕ → ℕ → ℕ → ℕ → Result Instr Halt
taken code at head more =
    let args = slice_range code (at + head) (at + head + more) in
    if nat_le (at + (head + more)) (length code)
    then Ok (record { op = slice_index code at; args = args; len = head + more })
    else Err (short_at at)

-- the instruction at an offset
abbrev pub instruction_at : List ℕ → ℕ → Result Instr Halt
instruction_at code at =
    let op = slice_index code at in taken code at (head_length op) (data_length op (slice_index code (at + 1)))

-- worked values
two_bytes : instruction_at (0xB1 ∷ 2 ∷ 3 ∷ 0x61 ∷ []) 0 ≡ Ok (record { op = 0xB1; args = 2 ∷ 3 ∷ []; len = 3 })
two_bytes = refl

counted_word : instruction_at (0 ∷ 0x41 ∷ 1 ∷ 4 ∷ 5 ∷ []) 1 ≡ Ok (record { op = 0x41; args = 4 ∷ 5 ∷ []; len = 4 })
counted_word = refl

no_data : instruction_at (0xFF ∷ []) 0 ≡ Ok (record { op = 0xFF; args = []; len = 1 })
no_data = refl

word_cut_short : instruction_at (0xB8 ∷ 1 ∷ []) 0 ≡ Err (short_at 0)
word_cut_short = refl

count_cut_short : instruction_at (0 ∷ 0x40 ∷ []) 1 ≡ Err (short_at 1)
count_cut_short = refl
