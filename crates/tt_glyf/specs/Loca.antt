-- Apple TrueType Reference Manual, "The 'loca' table"; OpenType, "loca: Index to Location".
use Rattle.std.specs.Prelude.{◌≡◌, ◌≢◌, ℕ, ◌+◌, ◌*◌, ◌<◌, ◌≤◌, min, Bool, ◌||◌, ◌==◌, nat_lt, if◌then◌else◌, List, [], length, slice_range, codes, Result, Ok, Err, ◌⊎◌}
use Rattle.tt_core.specs.Faults.{Fault}
use Rattle.tt_core.specs.declared.fault.Why.TheVariants as why
use Rattle.tt_core.specs.Limits.{font_limit}
use Rattle.tt_core.specs.Faults.{fault_at}
use Rattle.tt_core.specs.Numbers.{unsigned_at}
use Rattle.tt_core.specs.Outcomes.{◌>>=◌}
use Rattle.tt_metrics.specs.declared.head.LocaFormat.{LocaFormat}
use Rattle.tt_metrics.specs.declared.head.LocaFormat.TheVariants.{Short, Long}
use Rattle.tt_metrics.specs.Metrics.{Metrics, loca_format_of, glyphs_of}

-- 'loca'
abbrev pub loca_tag : List ℕ
loca_tag = codes "loca"

-- loca, with its format from head and the number of glyphs from maxp
pub record Loca : Type 0 where
  pub loca : List ℕ
  pub format : LocaFormat
  pub glyphs : ℕ

-- bytes of an entry
abbrev pub entry_size : LocaFormat → ℕ
entry_size Short = 2
entry_size Long = 4

-- the offset of glyph g's entry in loca
abbrev pub entry_place : LocaFormat → ℕ → ℕ
entry_place format g = entry_size format * g

-- the offset from entry g; a short entry has half the offset
abbrev pub entry_at : LocaFormat → List ℕ → ℕ → ℕ
entry_at Short loca g = 2 * unsigned_at loca (2 * g) 2
entry_at Long loca g = unsigned_at loca (4 * g) 4

-- loca of a font with these metrics
abbrev pub loca_with : List ℕ → Metrics → Loca
loca_with loca m = record { loca = loca; format = loca_format_of m; glyphs = glyphs_of m }

-- bytes that loca needs: an entry for each glyph, and one more
abbrev pub loca_size : LocaFormat → ℕ → ℕ
loca_size format glyphs = entry_size format * (glyphs + 1)

-- loca, if it is long enough
unfoldable pub loca_of : List ℕ → Metrics → Result Loca Fault
loca_of loca m =
    if nat_lt (length loca) (loca_size (loca_format_of m) (glyphs_of m))
    then Err (fault_at loca_tag (length loca) why.LocaShort)
    else Ok (loca_with loca m)

-- loca has fewer entries than it needs
abbrev pub IsLocaDefect : List ℕ → Metrics → Fault → Type 0
IsLocaDefect loca m fault =
    (length loca < loca_size (loca_format_of m) (glyphs_of m)) × (fault ≡ fault_at loca_tag (length loca) why.LocaShort)

-- loca has an entry for each glyph, and one more
pub record IsLoca (l : Loca) : Type 0 where
  pub entries : loca_size l.format l.glyphs ≤ length l.loca
  pub limit : length l.loca ≤ font_limit
  pub some : 0 < l.glyphs

-- loca and glyf, with their format from head and the number of glyphs from maxp
pub record Glyf : Type 0 where
  pub loca : List ℕ
  pub glyf : List ℕ
  pub format : LocaFormat
  pub glyphs : ℕ

-- loca together with glyf
abbrev pub with_glyf : Loca → List ℕ → Glyf
with_glyf l glyf = record { loca = l.loca; glyf = glyf; format = l.format; glyphs = l.glyphs }

-- the two tables of a font with these metrics
abbrev pub tables_with : List ℕ → List ℕ → Metrics → Glyf
tables_with loca glyf m = with_glyf (loca_with loca m) glyf

-- the two tables, if loca is long enough
abbrev pub glyph_tables_of : List ℕ → List ℕ → Metrics → Result Glyf Fault
glyph_tables_of loca glyf m = loca_of loca m >>= λ l. Ok (with_glyf l glyf)

-- the sizes that reading a glyph relies on
pub record AreTables (t : Glyf) : Type 0 where
  pub entries : loca_size t.format t.glyphs ≤ length t.loca
  pub loca_limit : length t.loca ≤ font_limit
  pub glyf_limit : length t.glyf ≤ font_limit
  pub some : 0 < t.glyphs

-- the offset of glyph g in glyf
abbrev pub glyph_offset : Glyf → ℕ → ℕ
glyph_offset t g = entry_at t.format t.loca g

-- whether two neighbouring entries are equal, whatever their value; the glyph then has no bytes
abbrev pub has_no_bytes : Glyf → ℕ → Bool
has_no_bytes t g = glyph_offset t g == glyph_offset t (g + 1)

-- whether entry g is above the next one, or past glyf
abbrev pub is_out_of_range : Glyf → ℕ → Bool
is_out_of_range t g = nat_lt (glyph_offset t (g + 1)) (glyph_offset t g) || nat_lt (length t.glyf) (glyph_offset t g)

-- the bytes from entry g to the next entry or the end of glyf, whichever comes first (profile)
abbrev pub bytes_between : Glyf → ℕ → List ℕ
bytes_between t g = slice_range t.glyf (glyph_offset t g) (min (glyph_offset t (g + 1)) (length t.glyf))

-- the bytes of a glyph
unfoldable pub glyph_bytes_of : Glyf → ℕ → Result (List ℕ) Fault
glyph_bytes_of t g =
    if has_no_bytes t g then Ok []
    else (if is_out_of_range t g then Err (fault_at loca_tag (entry_place t.format g) why.GlyphRange)
    else Ok (bytes_between t g))

-- entries g and g + 1 differ, and entry g is above the next one or past glyf
abbrev pub IsRangeDefect : Glyf → ℕ → Fault → Type 0
IsRangeDefect t g fault =
    (glyph_offset t g ≢ glyph_offset t (g + 1))
    × ((glyph_offset t (g + 1) < glyph_offset t g) ⊎ (length t.glyf < glyph_offset t g))
    × (fault ≡ fault_at loca_tag (entry_place t.format g) why.GlyphRange)
