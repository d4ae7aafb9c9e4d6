use Rattle.std.proofs.Common.{◌≡◌, ◌<◌, ◌^◌, All, ◌++◌, drop, length, map, take}
use Rattle.tt_advances.proofs.Known.{found_pair, numbers}
use Rattle.tt_advances.specs.Found.{all_found, glyph_units}
use Rattle.tt_advances.proofs.found.FoundAdvances.put.Given as goal

-- the glyphs so far have their advances, and the others are tested next
abbrev pub invariant-loop-i : goal.invariant-loop-i
invariant-loop-i l = record {
  same : l.self ≡ l.fn.self;
  count : length l.line ≡ length l.fn.line;
  rest : drop l.i l.line ≡ drop l.i l.fn.line;
  placed : l.line ≡ map (found_pair (glyph_units l.fn.self.face.instance l.fn.self.face.metrics l.fn.self.tables)) (take l.i l.fn.line) ++ drop l.i l.fn.line;
  bound : All (λ p. p.1 < 2 ^ 16) (take l.i l.line);
  tested : all_found (glyph_units l.fn.self.face.instance l.fn.self.face.metrics l.fn.self.tables) (numbers l.fn.line)
      ≡ all_found (glyph_units l.fn.self.face.instance l.fn.self.face.metrics l.fn.self.tables) (numbers (drop l.i l.fn.line));
}
