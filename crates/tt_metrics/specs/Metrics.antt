-- Apple TrueType Reference Manual, "The 'head' table", "The 'maxp' table", "The 'hhea' table" and "The 'hmtx' table":
-- the numbers of the four tables together, and how a line is laid out by them.
use Rattle.std.specs.Prelude.{◌≡◌, ℕ, ◌*◌, ◌<◌, ◌≤◌, ℤ, List, length, [], ◌∷◌, Result, Ok, IsOkAnd, ◌⊎◌, pos, negsuc, Option, Some, None, refl}
use Rattle.tt_core.specs.Directory.{Directory}
use Rattle.tt_core.specs.Faults.{Fault}
use Rattle.tt_core.specs.Outcomes.{◌>>=◌}
use Rattle.tt_metrics.specs.declared.head.Head.{Head}
use Rattle.tt_kern.specs.Kerning.{Tables, kerning}
use Rattle.tt_variation_store.specs.Store.{Store}
use Rattle.tt_metrics.specs.declared.head.LocaFormat.{LocaFormat}
use Rattle.tt_metrics.specs.declared.heights.Heights.{Heights}
use Rattle.tt_metrics.specs.declared.heights.Heights.TheVariants.{Exact}
use Rattle.tt_metrics.specs.declared.hhea.Hhea.{Hhea}
use Rattle.tt_metrics.specs.declared.maxp.Maxp.{Maxp}
use Rattle.tt_metrics.specs.Head.{smallest_em, largest_em, head_of, IsHeadDefect}
use Rattle.tt_metrics.specs.Hhea.{hhea_of, IsHheaDefect}
use Rattle.tt_metrics.specs.Hmtx.{hmtx_of, advance_in, bearing_in, IsHmtxDefect}
use Rattle.tt_metrics.specs.Maxp.{maxp_of, IsMaxpDefect}
use Rattle.tt_metrics.specs.Varied.{VariedAdvances, advance_by, advances_by, hhea_by}

pub record Metrics : Type 0 where
  pub head : Head
  pub maxp : Maxp
  pub hhea : Hhea
  pub hmtx : List ℕ
  pub heights : Heights
  pub kerning : Option Tables
  pub advances : Option VariedAdvances

-- the four tables, read in this order; the first fault is the result. Heights are exact, no pair is kerned, and heights and
-- advances are those of the font's default, unless that is asked for
unfoldable pub metrics_of : Directory → Result Metrics Fault
metrics_of directory = do
  head ← head_of directory
  maxp ← maxp_of directory
  hhea ← hhea_of directory
  hmtx ← hmtx_of directory hhea.long_metrics
  Ok (record { head = head; maxp = maxp; hhea = hhea; hmtx = hmtx; heights = Exact; kerning = None; advances = None })

-- the metrics of an instance, by MVAR and HVAR where these are there
abbrev pub varied_metrics : Option Store → Option Store → List ℤ → Metrics → Metrics
varied_metrics mvar hvar coordinates m =
    record m { hhea = hhea_by mvar coordinates m.hhea; advances = advances_by hvar coordinates }

-- font units in an em
abbrev pub units_per_em_of : Metrics → ℕ
units_per_em_of m = m.head.units_per_em

abbrev pub loca_format_of : Metrics → LocaFormat
loca_format_of m = m.head.loca_format

abbrev pub glyphs_of : Metrics → ℕ
glyphs_of m = m.maxp.glyphs

abbrev pub twilight_of : Metrics → ℕ
twilight_of m = m.maxp.twilight

abbrev pub storage_of : Metrics → ℕ
storage_of m = m.maxp.storage

-- font units above the base line
abbrev pub ascent_of : Metrics → ℤ
ascent_of m = m.hhea.ascent

-- font units above the base line, so usually negative
abbrev pub descent_of : Metrics → ℤ
descent_of m = m.hhea.descent

-- font units between the descent of a line and the ascent of the next
abbrev pub line_gap_of : Metrics → ℤ
line_gap_of m = m.hhea.line_gap

abbrev pub advance_of : Metrics → ℕ → ℕ
advance_of m g = advance_by m.advances g (advance_in m.hmtx m.hhea.long_metrics g)

abbrev pub left_side_bearing_of : Metrics → ℕ → ℤ
left_side_bearing_of m g = bearing_in m.hmtx m.hhea.long_metrics g

-- the kerning of two neighbouring glyphs by some tables, in font units
abbrev pub kerning_by : Option Tables → ℕ → ℕ → ℤ
kerning_by None g h = pos 0
kerning_by (Some tables) g h = kerning tables g h

abbrev pub kerning_of : Metrics → ℕ → ℕ → ℤ
kerning_of m g h = kerning_by m.kerning g h

-- the ranges that the rest of the program relies on
pub record IsInRange (m : Metrics) : Type 0 where
  pub em_low : smallest_em ≤ units_per_em_of m
  pub em_high : units_per_em_of m ≤ largest_em
  pub glyphs : 0 < glyphs_of m
  pub long_metrics : 0 < m.hhea.long_metrics
  pub pairs : 4 * m.hhea.long_metrics ≤ length m.hmtx

-- a defect of one of the four tables
abbrev pub IsMetricsDefect : Directory → Fault → Type 0
IsMetricsDefect directory fault =
    IsHeadDefect directory fault ⊎ IsMaxpDefect directory fault ⊎ IsHheaDefect directory fault
    ⊎ IsOkAnd (hhea_of directory) (λ hhea. IsHmtxDefect directory hhea.long_metrics fault)

-- worked values: one pair and one bearing after it
last_advance_repeats : advance_in (1 ∷ 2 ∷ 255 ∷ 254 ∷ 255 ∷ 253 ∷ []) 1 5 ≡ 258
last_advance_repeats = refl

bearing_in_its_pair : bearing_in (1 ∷ 2 ∷ 255 ∷ 254 ∷ 255 ∷ 253 ∷ []) 1 0 ≡ negsuc 1
bearing_in_its_pair = refl

bearing_after_the_pairs : bearing_in (1 ∷ 2 ∷ 255 ∷ 254 ∷ 255 ∷ 253 ∷ []) 1 1 ≡ negsuc 2
bearing_after_the_pairs = refl
