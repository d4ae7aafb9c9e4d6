-- No part of a standard: the facts of a font in its file.
use Rattle.std.specs.Prelude.{ℕ, Bool, ℤ, List, string_bytes}
use Rattle.tt_bdf.specs.declared.font.BdfFont.{BdfFont}

-- the bytes of the family's name, two styles, pixels and font units per em, and rows of a line above and below its base
-- line
pub record FontFacts : Type 0 where
  pub family : List ℕ
  pub bold : Bool
  pub italic : Bool
  pub size : ℕ
  pub em : ℕ
  pub rise : ℤ
  pub depth : ℤ

abbrev pub facts_of : BdfFont → FontFacts
facts_of f = record {
  family = string_bytes f.family;
  bold = f.bold;
  italic = f.italic;
  size = f.size;
  em = f.em;
  rise = f.rise;
  depth = f.depth;
}
