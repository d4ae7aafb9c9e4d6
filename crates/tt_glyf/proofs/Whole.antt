-- A glyph that was read has no defect in its bytes.
use Rattle.std.proofs.Common.{◌≡◌, ℕ, zero, suc, ◌+◌, ◌<◌, true, false, List, [], ◌∷◌, length, inl, inr, ℤ, pos, refl, subst, arith, sym, ap, ◌∙◌}
use Rattle.std.specs.Prelude.{◌⊎◌}
use Rattle.std.proofs.lemmas.Bool.{true≢false}
use Rattle.tt_core.specs.Faults.{Fault}
use Rattle.tt_core.specs.declared.fault.Why.TheVariants as why
use Rattle.tt_core.specs.Numbers.{unsigned_at}
use Rattle.tt_glyf.specs.declared.raw.RawPoint.{RawPoint}
use Rattle.tt_core.specs.Limits.{component_limit}
use Rattle.tt_glyf.specs.Bytes.{GlyphBytes, Listing, glyph_fault}
use Rattle.tt_glyf.specs.Composite.{has_program}
use Rattle.tt_glyf.specs.Format.{more_components, has, size_place}
use Rattle.tt_glyf.specs.Coordinates.{AxisFlags, Coordinate, x_axis, y_axis, origin}
use Rattle.tt_glyf.specs.Defects.{IsCut, LeavesWords, IsFallingEnd, written_points, IsFlagDefect, IsCoordinateDefect, IsSimpleDefect, IsRecordsDefect, IsProgramDefect, IsCompositeDefect, written_records, record_place, GoesOn}
use Rattle.tt_glyf.specs.Meaning.{flags_place, written_run, runs_end, written_flags, written_delta, deltas, x_deltas, y_place, y_deltas, points_end, written_component_flags, record_end, records_end}
use Rattle.tt_glyf.specs.Raw.{SimpleGlyph, CompositeGlyph}
use Rattle.tt_glyf.proofs.Broken.{count-is}
use Rattle.tt_glyf.proofs.Covers.{AreGoodRuns, flags-length}
use Rattle.tt_glyf.proofs.Deltas.{AreRead}
use Rattle.tt_glyf.proofs.Glyphs.{SimpleRead, CompositeRead}
use Rattle.tt_glyf.proofs.Outlines.{EndsRead, never-falls, PointsRead}
use Rattle.tt_glyf.proofs.Parts.{AreUpTo, AreGoodRecords, IsProgramAfter}

-- the possible defects after a number of runs
abbrev IsBadAfter : GlyphBytes → ℕ → ℕ → Fault → Type 0
IsBadAfter g at runs f =
    IsCut g (points_end g.bytes at runs) f
    ⊎ ((LeavesWords (x_deltas g.bytes at runs) ⊎ LeavesWords (y_deltas g.bytes at runs))
    × (f ≡ glyph_fault g 0 why.CoordRange))

-- after n + 1 records, a program passes the end of the bytes
abbrev IsProgramCut : GlyphBytes → ℕ → Fault → Type 0
IsProgramCut g n f =
    (has_program (written_records g 10 (suc n)) ≡ true)
    × IsCut g (record_place g.bytes 10 (suc n) + 2 + unsigned_at g.bytes (record_place g.bytes 10 (suc n)) 2) f

-- equal counts of covered points mean equal counts of runs
runs-same : (bytes : List ℕ) (at k n : ℕ) → length (written_flags bytes at k) ≡ length (written_flags bytes at n)
    → k ≡ n
runs-same bytes at zero zero same = refl
runs-same bytes at zero (suc n) same =
    let total = flags-length bytes at n in
    absurd (omega arith)
runs-same bytes at (suc k) zero same =
    let total = flags-length bytes at k in
    absurd (omega arith)
runs-same bytes at (suc k) (suc n) same =
    let total_k = flags-length bytes at k in
    let total_n = flags-length bytes at n in
    ap suc (runs-same bytes (written_run bytes at).next k n (omega arith))

many-deltas : (bytes : List ℕ) (a : AxisFlags) (flags : List ℕ) (at : ℕ) → length (deltas bytes a flags at) ≡ length flags
many-deltas bytes a [] at = refl
many-deltas bytes a (flag ∷ flags) at = ap suc (many-deltas bytes a flags (written_delta bytes a flag at).next)

no-falling : (g : GlyphBytes) (contours : ℕ) (ends : Listing ℕ) (f : Fault) → EndsRead g.bytes 10 contours 0 ends
    → ¬ IsFallingEnd g contours f
no-falling g contours ends f read bad =
    let many = read.many in
    let within = bad.1 in
    let falls = bad.3 in
    let first = read.words bad.0 (omega arith) in
    let second = read.words (bad.0 + 1) (omega arith) in
    let rises = never-falls 0 ends.items bad.0 (bad.0 + 1) read.rise (omega arith) (omega arith) in
    absurd (omega arith)

no-flag-defect : (g : GlyphBytes) (at n : ℕ) (f : Fault) → AreGoodRuns g.bytes at n → ¬ IsFlagDefect g at n f
no-flag-defect g at n f good bad =
    let run = good bad.0 bad.1 in
    let within = run.within in
    let room = run.room in
    elim (bad.2) [
      | inl short ↦ let ends = short.0 in absurd (omega arith)
      | inr copies ↦ let over = copies.0 in absurd (omega arith)
    ]

-- no sum of the deltas along an axis leaves 16 bits
no-leaving : (bytes : List ℕ) (a : AxisFlags) (flags : List ℕ) (before : Coordinate) (read : Listing ℤ)
    → before.value ≡ pos 0 → AreRead bytes a flags before read → ¬ LeavesWords (deltas bytes a flags before.next)
no-leaving bytes a flags before read start are bad =
    let many = many-deltas bytes a flags before.next in
    let below = bad.1 in
    let fits = rw start at (are.fit bad.0 (omega arith)) in
    let leaves = bad.2 in
    absurd (true≢false (sym fits ∙ leaves))

no-coordinate-defect-by : (g : GlyphBytes) (at n : ℕ) (points : List RawPoint) (f : Fault)
    → (read : PointsRead g.bytes at n points) → ¬ IsBadAfter g at read.runs f
no-coordinate-defect-by g at n points f read bad = elim bad [
  | inl short ↦
      let ends = short.0 in
      let room = read.ys.room in
      absurd (omega arith)
  | inr leaves ↦ elim (leaves.0) [
    | inl along_x ↦ no-leaving g.bytes x_axis (written_flags g.bytes at read.runs)
        (origin (runs_end g.bytes at read.runs)) _ refl read.xs along_x
    | inr along_y ↦ no-leaving g.bytes y_axis (written_flags g.bytes at read.runs)
        (origin (y_place g.bytes at read.runs)) _ refl read.ys along_y
  ]
]

no-coordinate-defect : (g : GlyphBytes) (at n : ℕ) (points : List RawPoint) (f : Fault) → PointsRead g.bytes at n points
    → ¬ IsCoordinateDefect g at n f
no-coordinate-defect g at n points f read bad =
    let same : bad.0 ≡ read.runs = runs-same g.bytes at bad.0 read.runs (bad.1 ∙ sym read.covers) in
    no-coordinate-defect-by g at n points f read (subst (λ (k : ℕ). IsBadAfter g at k f) same bad.2)

points-are-written : (g : GlyphBytes) (x_min : ℤ) (contours : ℕ) (s : SimpleGlyph) → 0 < contours
    → SimpleRead g x_min contours s → length s.points ≡ written_points g.bytes contours
points-are-written g x_min contours s some read =
    read.count.is ∙ count-is g.bytes contours (record { items = s.ends; next = size_place contours }) some read.ends

pub simple-whole : (g : GlyphBytes) (x_min : ℤ) (contours : ℕ) (s : SimpleGlyph) (f : Fault) → 0 < contours
    → SimpleRead g x_min contours s → ¬ IsSimpleDefect g contours f
simple-whole g x_min contours s f some read bad =
    let points = points-are-written g x_min contours s some read in
    let there = rw points at read.points in
    elim bad [
      | inl short ↦
          let ends = short.0 in
          let size = read.code_size in
          let room = read.code.room in
          absurd (omega arith)
      | inr (inl falls) ↦ no-falling g contours (record { items = s.ends; next = size_place contours }) f read.ends
          falls
      | inr (inr (inl many)) ↦
          let over = many.1 in
          let few = read.count.few in
          absurd (omega arith)
      | inr (inr (inr (inl flags))) ↦ no-flag-defect g (flags_place g.bytes contours) (written_points g.bytes contours)
          f there.good flags
      | inr (inr (inr (inr coordinates))) ↦ no-coordinate-defect g (flags_place g.bytes contours)
          (written_points g.bytes contours) s.points f there coordinates
    ]

-- there is only one last record
last-same : (g : GlyphBytes) (at k n : ℕ) → GoesOn g at k → has
    (written_component_flags g.bytes (record_place g.bytes at k)) more_components ≡ false → GoesOn g at n
    → has (written_component_flags g.bytes (record_place g.bytes at n)) more_components ≡ false → k ≡ n
last-same g at zero zero on_k stops_k on_n stops_n = refl
last-same g at zero (suc n) on_k stops_k on_n stops_n = absurd (true≢false (sym on_n.0 ∙ stops_k))
last-same g at (suc k) zero on_k stops_k on_n stops_n = absurd (true≢false (sym on_k.0 ∙ stops_n))
last-same g at (suc k) (suc n) on_k stops_k on_n stops_n =
    ap suc (last-same g (record_end g.bytes at) k n on_k.1 stops_k on_n.1 stops_n)

no-records-defect : (glyphs : ℕ) (g : GlyphBytes) (f : Fault) → AreGoodRecords glyphs g 10 component_limit
    → ¬ IsRecordsDefect glyphs g 10 component_limit f
no-records-defect glyphs g f good bad = elim bad [
  | inl one ↦
      let record_is = good one.0 one.2 in
      elim (one.3) [
        | inl short ↦
            let ends = short.0 in
            let room = record_is.room in
            absurd (omega arith)
        | inr (inl unknown) ↦
            let over = unknown.0 in
            let known = record_is.known in
            absurd (omega arith)
        | inr (inr scaled) ↦ absurd (true≢false (sym scaled.0 ∙ record_is.unscaled))
      ]
  | inr over ↦
      let few = (good component_limit over.0).few in
      absurd (omega arith)
]

no-program-defect : (g : GlyphBytes) (c : CompositeGlyph) (f : Fault)
    → AreUpTo g 10 (record { items = c.records; next = records_end g.bytes 10 c.records })
    → IsProgramAfter g (records_end g.bytes 10 c.records) (has_program c.records)
    (record { code = c.code; code_at = c.code_at }) → ¬ IsProgramDefect g 10 f
no-program-defect g c f up_to program bad =
    let same : bad.0 ≡ up_to.n = last-same g 10 bad.0 up_to.n bad.1 bad.2 up_to.goes_on up_to.stops in
    let there = subst (λ (n : ℕ). IsProgramCut g n f) same (bad.3, bad.4) in
    let items = up_to.items in
    let next = up_to.next in
    let says : has_program c.records ≡ true = sym (ap has_program items) ∙ there.0 in
    let room = program.room says in
    let ends = rw next at there.1.0 in
    absurd (omega arith)

pub composite-whole : (glyphs : ℕ) (g : GlyphBytes) (x_min : ℤ) (c : CompositeGlyph) (f : Fault)
    → CompositeRead glyphs g x_min c → ¬ IsCompositeDefect glyphs g f
composite-whole glyphs g x_min c f read bad = elim bad [
  | inl records ↦ no-records-defect glyphs g f read.parts.good records
  | inr program ↦ no-program-defect g c f read.parts.up_to read.program program
]
