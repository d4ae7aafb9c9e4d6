-- The defects that the bitmaps of a list can meet in a font, and the facts that refuse a list.
use Rattle.std.specs.Prelude.{◌≡◌, ℕ, ◌+◌, ◌<◌, ◌≤◌, true, ⊤, ◌⊎◌, List, length, All, IsOkAnd}
use Rattle.tt_core.specs.declared.fault.JobFault.{JobFault}
use Rattle.tt_core.specs.declared.fault.JobFault.TheVariants as fault
use Rattle.tt_core.specs.Directory.{HasNo}
use Rattle.tt_core.specs.Faults.{Fault}
use Rattle.tt_core.specs.Limits.{size_limit, text_limit}
use Rattle.tt_face.specs.Faces.{Face}
use Rattle.tt_fit.specs.Defects.{IsOutlineDefect}
use Rattle.tt_fit.specs.Fitting.{Fitter}
use Rattle.tt_metrics.specs.Metrics.{glyphs_of}
use Rattle.tt_strike.specs.Defects.{AsksTooMuch, IsMadeDefect}
use Rattle.tt_strike.specs.Makers.{job_at}
use Rattle.tt_strike.specs.Picture.{setting}
use Rattle.tt_strike.specs.Work.{chord_limit, chords_in, crossings_allowed, is_bounded, line_fitter, work_left}
use Rattle.tt_glyphs.specs.declared.told.GlyphEntry.{GlyphEntry}
use Rattle.tt_glyphs.specs.declared.told.Told.{Told}
use Rattle.tt_glyphs.specs.declared.told.Told.TheVariants as told
use Rattle.tt_glyphs.specs.Listed.{known_of}
use Rattle.tt_glyphs.specs.Entries.{ToldFits, known, told_bytes}
use Rattle.tt_glyphs.specs.Requests.{GlyphJob, crossings_of_list}

-- what a report says of the defects of its glyph: a refused glyph has this one, and any other glyph of the font has none
abbrev pub TellsDefectsOf : Fitter → ℕ → Told → Type 0
TellsDefectsOf s g told.Unknown = ⊤
TellsDefectsOf s g (told.Broken fault) = IsOutlineDefect s g fault
TellsDefectsOf s g told.Large = HasNo (IsOutlineDefect s g)
TellsDefectsOf s g (told.Made m) = HasNo (IsOutlineDefect s g)

-- the same of each entry of a list, by the fitter of each glyph
abbrev pub TellGlyphDefects : Fitter → List ℕ → List GlyphEntry → Type 0
TellGlyphDefects s gs entries = All (λ (e : GlyphEntry). TellsDefectsOf (line_fitter s (known s gs) e.glyph) e.glyph e.told) entries

-- a report of a list without refused glyphs: only a number that is no glyph of the font is unknown
abbrev pub IsSoundReport : ℕ → ℕ → Told → Type 0
IsSoundReport count g told.Unknown = count ≤ g
IsSoundReport count g (told.Broken fault) = ⊥
IsSoundReport count g told.Large = ⊤
IsSoundReport count g (told.Made m) = ⊤

abbrev pub AreSound : ℕ → List GlyphEntry → Type 0
AreSound count entries = All (λ (e : GlyphEntry). IsSoundReport count e.glyph e.told) entries

-- a defect of the fitter's tables and programs, or of a glyph of a list
abbrev pub IsListDefect : Face → GlyphJob → Fault → Type 0
IsListDefect face a fault = IsMadeDefect face (job_at a.ppem a.fit) (known_of (glyphs_of face.metrics) a.glyphs) fault

-- an entry's bitmap is not too large, and its rows lie among all rows
pub record EntryFits (wanted : ℕ) (e : GlyphEntry) : Type 0 where
  pub told : ToldFits e.told
  pub within : e.at + told_bytes e.told ≤ wanted

-- the glyphs of a list have too many points, deltas, chords or crossings
abbrev pub ExceedsWork : Fitter → List ℕ → Type 0
ExceedsWork s gs = AsksTooMuch s gs ⊎ (chord_limit < chords_in s gs)
    ⊎ (crossings_allowed (work_left s gs) < crossings_of_list s gs)

-- the fact that refuses a list
abbrev pub IsListRefusal : Face → GlyphJob → JobFault → Type 0
IsListRefusal face a fault.SizeRange = (a.ppem < 1) ⊎ (size_limit < a.ppem)
IsListRefusal face a fault.TextLong = text_limit < length a.glyphs
IsListRefusal face a fault.WorkLarge =
    (is_bounded a.fit ≡ true) × IsOkAnd (setting face a.ppem a.fit) (λ s. ExceedsWork s (known s a.glyphs))
IsListRefusal face a j = ⊥
