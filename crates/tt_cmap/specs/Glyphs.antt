-- OpenType, "cmap": glyph numbers, for subtables of all formats.
use Rattle.std.specs.Prelude.{ℕ, nat_lt, if◌then◌else◌}

-- the glyph number, if the font has the glyph; else 0, the missing glyph (profile)
abbrev pub or_missing : ℕ → ℕ → ℕ
or_missing glyphs g = if nat_lt g glyphs then g else 0
