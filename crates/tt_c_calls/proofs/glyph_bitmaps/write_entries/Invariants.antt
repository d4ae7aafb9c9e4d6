use Rattle.std.proofs.Common.{◌≡◌, ◌++◌, drop, map, take}
use Rattle.tt_c_calls.specs.Bitmaps.{bitmap_told}
use Rattle.tt_c_calls.proofs.glyph_bitmaps.write_entries.Given as goal

-- the entries so far, and then the unchanged room
abbrev pub invariant-loop-i : goal.invariant-loop-i
invariant-loop-i l = l.told ≡ map bitmap_told (take l.i l.entries) ++ drop l.i l.initial.told
