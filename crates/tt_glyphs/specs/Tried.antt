-- No part of the standard: the outline of a glyph with what its edges and its dropouts are made by, or the fault that
-- refuses the outline.
use Rattle.std.specs.Prelude.{◌≡◌, ℕ, ◌+◌, ◌<◌, ◌≤◌, ◌⊎◌, List, map, Option, Some, None, IfSome, Result, Ok, Err, ⊤}
use Rattle.std.specs.List.{sum_by}
use Rattle.tt_core.specs.Faults.{Fault}
use Rattle.tt_fit.specs.Fitting.{Fitter, fitted_outline, unfitted_fault}
use Rattle.tt_fit.specs.outline.Outline.{Outline}
use Rattle.tt_picture.specs.declared.fitting.LineLimits.{LineLimits}
use Rattle.tt_picture.specs.Shapes.{chords_with, edges_at, extents_of, filled_by, filling_crossings}
use Rattle.tt_picture.specs.Steps.{chords_of}
use Rattle.tt_scan_dropouts.specs.Counted.{edges_counted}
use Rattle.tt_glyphs.specs.declared.ruled.TriedBody.{TriedBody}
use Rattle.tt_glyphs.specs.declared.ruled.TriedBody.TheVariants as body
use Rattle.tt_glyphs.specs.declared.ruled.TriedGlyph.{TriedGlyph}
use Rattle.tt_glyphs.specs.Ruled.{RuledOutline}

abbrev pub ruled_by : Fitter → ℕ → Result Outline Fault → TriedBody
ruled_by s g (Ok o) =
    body.Ruled (record { outline = o; rule = chords_with s; filled = filled_by s g o; unfitted = unfitted_fault s g })
ruled_by s g (Err fault) = body.Refused fault

-- a glyph by its fitter
abbrev pub tried_glyph : Fitter → ℕ → TriedGlyph
tried_glyph s g = record { number = g; body = ruled_by s g (fitted_outline s g) }

-- the dropout rules of an outline have its box
abbrev pub IsRuled : RuledOutline → Type 0
IsRuled r = IfSome r.filled (λ rules. rules.extents ≡ extents_of r.outline)

abbrev pub IsRuledBody : TriedBody → Type 0
IsRuledBody (body.Ruled r) = IsRuled r
IsRuledBody (body.Refused fault) = ⊤

-- the outline of a glyph is not refused
abbrev pub IsMadeBody : TriedBody → Type 0
IsMadeBody (body.Ruled r) = ⊤
IsMadeBody (body.Refused fault) = ⊥

abbrev pub tried_numbers : List TriedGlyph → List ℕ
tried_numbers ts = map (λ (t : TriedGlyph). t.number) ts

-- some glyphs, each by its own fitter
abbrev pub AreTriedBy : (ℕ → Fitter) → List TriedGlyph → Type 0
AreTriedBy maker ts = ts ≡ map (λ (t : TriedGlyph). tried_glyph (maker t.number) t.number) ts

-- the chords and the crossings of some glyphs, each at pen 0; a glyph that is refused has none
abbrev pub ruled_chords : TriedBody → ℕ
ruled_chords (body.Ruled r) = chords_of r.rule r.outline
ruled_chords (body.Refused fault) = 0

abbrev pub ruled_crossings : TriedBody → ℕ
ruled_crossings (body.Ruled r) =
    edges_counted (edges_at r.rule 0 r.outline) + filling_crossings r.filled (edges_at r.rule 0 r.outline)
ruled_crossings (body.Refused fault) = 0

abbrev pub tried_chords : List TriedGlyph → ℕ
tried_chords ts = sum_by (λ (t : TriedGlyph). ruled_chords t.body) ts

abbrev pub tried_crossings : List TriedGlyph → ℕ
tried_crossings ts = sum_by (λ (t : TriedGlyph). ruled_crossings t.body) ts

-- so many chords and crossings are within the limits, or past one of them. Without a bound of work there are no limits
abbrev pub IsWithin : Option LineLimits → ℕ → ℕ → Type 0
IsWithin None chords crossings = ⊤
IsWithin (Some l) chords crossings = (chords ≤ l.chords) × (crossings ≤ l.crossings)

abbrev pub IsPast : Option LineLimits → ℕ → ℕ → Type 0
IsPast None chords crossings = ⊥
IsPast (Some l) chords crossings = (l.chords < chords) ⊎ (l.crossings < crossings)
