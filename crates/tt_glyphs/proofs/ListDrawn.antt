-- The bitmaps of a tried list, once its glyphs are drawn.
use Rattle.std.proofs.Common.{◌≡◌, ◌∙◌, ap, refl, sym, ℕ, List, All, length, map, slice_index, Ok, Err}
use Rattle.std.specs.Prelude.{IfSome, flat_map}
use Rattle.tt_core.specs.declared.draw_fault.DrawFault.{DrawFault}
use Rattle.tt_core.specs.declared.draw_fault.DrawFault.TheVariants as draw
use Rattle.std.specs.List.{sum_by}
use Rattle.std.proofs.lemmas.List.Elements.{All-from_get_or, All-map}
use Rattle.tt_face.specs.Faces.{Face}
use Rattle.tt_fit.specs.Fitting.{Fitter}
use Rattle.tt_fit.specs.declared.programs.Fit.{Fit}
use Rattle.tt_metrics.specs.Metrics.{glyphs_of}
use Rattle.tt_picture.specs.Distinct.{distinct}
use Rattle.tt_picture.specs.Glyphs.{ArePlaces}
use Rattle.tt_strike.specs.declared.source.FitterSource.{FitterSource}
use Rattle.tt_strike.specs.Refusals.{as_job, refusal}
use Rattle.tt_strike.specs.Work.{edges_limited, line_fitter}
use Rattle.tt_strike.proofs.Setting.{maker_alike}
use Rattle.tt_glyphs.specs.declared.drawing.DrawnGlyph.{DrawnGlyph}
use Rattle.tt_glyphs.specs.declared.told.GlyphEntry.{GlyphEntry}
use Rattle.tt_glyphs.specs.declared.tried.TriedList.{TriedList}
use Rattle.tt_glyphs.specs.Defects.{EntryFits}
use Rattle.tt_glyphs.specs.Drawn.{DrawnFits, IsSourceOf, drawn_rows}
use Rattle.tt_glyphs.specs.Entries.{known, told_bytes}
use Rattle.tt_glyphs.specs.Listed.{drawn_numbers, entry_by, known_of}
use Rattle.tt_glyphs.specs.Lists.{IsTriedList}
use Rattle.tt_glyphs.specs.Requests.{Bitmaps, GlyphJob, bitmaps_by, bitmaps_tested, edges_of_list_tested}
use Rattle.tt_glyphs.specs.Tried.{tried_chords, tried_crossings}
use Rattle.tt_glyphs.proofs.Entered.{entry_within, reports_fit, wanted_is}
use Rattle.tt_glyphs.proofs.Reported.{AreDrawnOf, bytes_are, entries_are, rows_are}
use Rattle.tt_glyphs.proofs.WorkTested.{chords_tried, crossings_tried}

-- each glyph's fitter is of the same source
pub sources : (z : FitterSource) (s : Fitter) (gs : List ℕ) → IsSourceOf z s → (n : ℕ) → IsSourceOf z (line_fitter s gs n)
sources z s gs is n = record {
  metrics = ap (λ (t : Fitter). t.metrics) (maker_alike s gs n) ∙ is.metrics;
  ppem = ap (λ (t : Fitter). t.ppem) (maker_alike s gs n) ∙ is.ppem;
  instance = ap (λ (t : Fitter). t.instance) (maker_alike s gs n) ∙ is.instance;
  tables = is.tables ∙ ap Ok (sym (ap (λ (t : Fitter). t.tables) (maker_alike s gs n)));
}

-- the chords and the crossings are those that are tested
pub tested_is : (face : Face) (a : GlyphJob) (s : Fitter) (l : TriedList) → IsTriedList face a s l
    → edges_limited l.source.fit l.left (tried_chords l.tried.items) (tried_crossings l.tried.items)
    ≡ edges_of_list_tested a.fit s (known s a.glyphs)
tested_is face a s l is =
    rw (is.fit, is.left, chords_tried s (known s a.glyphs) l.tried.items is.tried is.numbers, crossings_tried s (known s a.glyphs) l.tried.items is.tried is.numbers)
    refl

same_bitmaps : (b : Bitmaps) (e : List GlyphEntry) (w : ℕ) (r : List ℕ) → b.entries ≡ e → b.wanted ≡ w → b.rows ≡ r
    → b ≡ record { entries = e; wanted = w; rows = r }
same_bitmaps b e w r entries wanted rows = rw (← entries, ← wanted, ← rows) refl

-- a list with the entries, the bytes and the rows of drawn glyphs is the definition's
pub bitmaps_are : (how : Fit) (s : Fitter) (gs places : List ℕ) (ds : List DrawnGlyph) (b : Bitmaps) → AreDrawnOf how s gs ds
    → ArePlaces places (drawn_numbers ds) → length places ≡ glyphs_of s.metrics
    → b.entries ≡ map (entry_by ds (distinct gs)) gs → b.wanted ≡ sum_by (λ (d : DrawnGlyph). told_bytes d.told) ds
    → b.rows ≡ flat_map drawn_rows ds → b ≡ bitmaps_by how gs s
bitmaps_are how s gs places ds b are seated room entries wanted rows =
    same_bitmaps b _ _ _ (entries ∙ entries_are how s gs ds are) (wanted ∙ bytes_are how s gs places ds are seated room)
    (rows ∙ rows_are how s gs ds are)

-- the entries fit
pub entries_fit : (places gs : List ℕ) (ds : List DrawnGlyph) → ArePlaces places (drawn_numbers ds)
    → drawn_numbers ds ≡ distinct (known_of (length places) gs) → All DrawnFits ds
    → All (EntryFits (sum_by (λ (d : DrawnGlyph). told_bytes d.told) ds)) (map (entry_by ds (distinct gs)) gs)
entries_fit places gs ds seated numbers fits =
    let w = sum_by (λ (d : DrawnGlyph). told_bytes d.told) ds in
    let each : All (λ g. EntryFits w (entry_by ds (distinct gs) g)) gs =
    All-from_get_or (λ g. EntryFits w (entry_by ds (distinct gs) g)) gs 0 (λ i below. record {
      told = reports_fit ds (slice_index gs i) fits;
      within = rw (← wanted_is places ds gs seated numbers) (entry_within ds gs i below);
    }) in
    All-map (EntryFits w) (entry_by ds (distinct gs)) gs each

-- a stop at the chords or the crossings
pub edges_stop : (how : Fit) (gs : List ℕ) (s : Fitter) (e : DrawFault)
    → IfSome (refusal e) (λ r. as_job (edges_of_list_tested how s (known s gs)) ≡ Err r)
    → IfSome (refusal e) (λ r. bitmaps_tested how gs s ≡ Err r)
edges_stop how gs s (draw.Font f) fails = rw fails refl
edges_stop how gs s (draw.Job j) fails = rw fails refl
edges_stop how gs s draw.Memory fails = tt
