-- The meaning of a glyph that was read.
use Rattle.std.proofs.Common.{◌≡◌, ℕ, ◌+◌, ◌<◌, ◌≤◌, min, Bool, true, false, ◌==◌, nat_lt, if◌then◌else◌, List, [], length, Ok, Err, ℤ, pos, unsigned_abs, int_lt, inl, inr, refl, arith, ap, sym, ◌∙◌}
use Rattle.std.specs.Prelude.{◌<ℤ◌}
use Rattle.std.proofs.lemmas.Bool.Decides.{nat_tests}
use Rattle.std.proofs.lemmas.Int.{ints}
use Rattle.tt_core.specs.Chains.{came-through}
use Rattle.tt_core.specs.Faults.{Fault}
use Rattle.tt_core.specs.Limits.{component_limit, point_limit}
use Rattle.tt_core.specs.Numbers.{unsigned_at}
use Rattle.tt_core.specs.Outcomes.{◌>>=◌}
use Rattle.tt_glyf.specs.declared.raw.RawPoint.{RawPoint}
use Rattle.tt_glyf.specs.declared.raw.Record.{Record}
use Rattle.tt_glyf.specs.Bytes.{GlyphBytes, stretch_at, Listing, word_in, signed_in, slice_in, short}
use Rattle.tt_glyf.specs.Composite.{Program, records_of, has_program, program_of, composite_of}
use Rattle.tt_glyf.specs.GlyphData.{GlyphHeader, header_of, described, glyph_in, glyph_data_of}
use Rattle.tt_glyf.specs.Loca.{Glyf, glyph_offset, has_no_bytes, is_out_of_range, bytes_between, glyph_bytes_of}
use Rattle.tt_glyf.specs.Meaning.{IfEmpty, HasNoOutline, IfSimple, IfComposite, glyph_bytes_at, IsProgram, HasProgram, contour_count, written_x_min, written_size, flags_place, records_end, AreEnds, AreWords, ArePoints, AreComponents, AreRecords, AreCompositeWords, IsAsWritten}
use Rattle.tt_glyf.specs.Format.{size_place}
use Rattle.tt_glyf.specs.Raw.{SimpleGlyph, CompositeGlyph, Raw, empty, simple, composite}
use Rattle.tt_glyf.specs.Simple.{ends_of, points_within, points_of, simple_of}
use Rattle.tt_glyf.proofs.Fields.{IsField, word-was, signed-was}
use Rattle.tt_glyf.proofs.Outlines.{EndsRead, ends-were, never-falls, CountRead, count-was, PointsRead, points-were, points-are}
use Rattle.tt_glyf.proofs.Parts.{ArePartsRead, records-were, IsProgramRead, IsProgramAfter, program-was}
use Rattle.tt_glyf.proofs.Places.{IsWithin, slice-was, program-is}

-- the program is a part of the glyph's bytes
abbrev pub IsProgramOf : GlyphBytes → Raw → Type 0
IsProgramOf g empty = Unit {0}
IsProgramOf g (simple s) = IsProgramRead g (record { code = s.code; code_at = s.code_at })
IsProgramOf g (composite c) = IsProgramRead g (record { code = c.code; code_at = c.code_at })

-- the statements about a glyph, in terms of its own bytes
pub record IsRead (glyphs : ℕ) (g : GlyphBytes) (d : Raw) : Type 0 where
  pub nothing : IfEmpty d (contour_count g.bytes ≡ pos 0)
  pub few : IfSimple d (λ s. length s.points ≤ point_limit)
  pub ends : IfSimple d (λ s. AreEnds (length s.points) s.ends)
  pub words : IfSimple d (AreWords g)
  pub points : IfSimple d (λ s. ArePoints g.bytes (flags_place g.bytes (length s.ends)) s.points)
  pub components : IfComposite d (λ c. AreComponents g 10 c.records)
  pub records : IfComposite d (λ c. AreRecords glyphs c.records)
  pub composite_words : IfComposite d (AreCompositeWords g)
  pub program : IsProgramOf g d

nothing-read : (glyphs : ℕ) (g : GlyphBytes) → contour_count g.bytes ≡ pos 0 → IsRead glyphs g empty
nothing-read glyphs g is =
    record {
      nothing = is;
      few = tt;
      ends = tt;
      words = tt;
      points = tt;
      components = tt;
      records = tt;
      composite_words = tt;
      program = tt;
    }

-- the number of contours and its sign
pub is-negative : (c : ℤ) → int_lt c (pos 0) ≡ true → c <ℤ pos 0
is-negative c is = grind (arith, ints)

is-count : (c : ℤ) → int_lt c (pos 0) ≡ false → pos (unsigned_abs c) ≡ c
is-count c is = grind (arith, ints)

is-none : (c : ℤ) → (unsigned_abs c == 0) ≡ true → c ≡ pos 0
is-none c is = grind (arith, ints, nat_tests)

-- the statements about a simple glyph with this number of contours
pub record SimpleRead (g : GlyphBytes) (x_min : ℤ) (contours : ℕ) (s : SimpleGlyph) : Type 0 where
  pub x_min_is : s.x_min ≡ x_min
  pub ends : EndsRead g.bytes 10 contours 0 (record { items = s.ends; next = size_place contours })
  pub code_at : s.code_at ≡ g.start + (size_place contours + 2)
  pub code_size : length s.code ≡ written_size g.bytes contours
  pub code : IsWithin g.bytes s.code (size_place contours + 2)
  pub count : CountRead s.ends (length s.points)
  pub points : PointsRead g.bytes (flags_place g.bytes contours) (length s.points) s.points

simple-make : (g : GlyphBytes) (x_min : ℤ) (contours n size : ℕ) (ends : Listing ℕ) (code : List ℕ)
    (points : List RawPoint) → EndsRead g.bytes 10 contours 0 ends → CountRead ends.items n
    → size ≡ unsigned_at g.bytes ends.next 2 → (length code ≡ size) × IsWithin g.bytes code (ends.next + 2)
    → PointsRead g.bytes (ends.next + 2 + size) n points
    → SimpleRead g x_min contours (record {
      x_min = x_min;
      points = points;
      ends = ends.items;
      code = code;
      code_at = g.start + (ends.next + 2);
    })
simple-make g x_min contours n size ends code points e c s k p =
    let many = p.many in
    let next = e.next in
    let place : size_place contours + 2 + written_size g.bytes contours ≡ ends.next + 2 + size = rw (s, next) refl in
    record {
      x_min_is = refl;
      ends = rw next at e;
      code_at = rw next refl;
      code_size = rw next at (k.0 ∙ s);
      code = rw next at k.1;
      count = rw (← many) at c;
      points = rw place (rw (← many) at p);
    }

pub simple-was : (g : GlyphBytes) (x_min : ℤ) (contours : ℕ) (d : Raw) → 10 ≤ length g.bytes
    → simple_of g x_min contours ≡ Ok d → (s : SimpleGlyph) × SimpleRead g x_min contours s × (d ≡ simple s)
unfolding simple_of
simple-was g x_min contours d header was =
    let by_ends = came-through (ends_of g contours) _ d was in
    let ends = by_ends.value in
    let by_count = came-through (points_within g ends) _ d by_ends.rest in
    let n = by_count.value in
    let by_size = came-through (word_in g ends.next) _ d by_count.rest in
    let size = by_size.value in
    let by_code = came-through (slice_in g (ends.next + 2) size) _ d by_size.rest in
    let code = by_code.value in
    let by_points = came-through (points_of g (ends.next + 2 + size) n) _ d by_code.rest in
    let points = by_points.value in
    let is : simple (record {
      x_min = x_min;
      points = points;
      ends = ends.items;
      code = code;
      code_at = g.start + (ends.next + 2);
    }) ≡ d = cc by_points.rest in
    let k = slice-was g (ends.next + 2) size code by_code.first in
    let room = k.1.room in
    let many = k.0 in (
      record {
        x_min = x_min;
        points = points;
        ends = ends.items;
        code = code;
        code_at = g.start + (ends.next + 2);
      },
      simple-make g x_min contours n size ends code points
          (ends-were g 10 contours 0 ends header by_ends.first) (count-was g ends n by_count.first)
          (word-was g ends.next size by_size.first).is k (points-were g (ends.next + 2 + size) n points (omega arith)
          by_points.first),
      sym is,
    )

ends-are : (bytes ends : List ℕ) (points n contours : ℕ) → 0 < contours
    → EndsRead bytes 10 contours 0 (record { items = ends; next = n }) → CountRead ends points → AreEnds points ends
ends-are bytes ends points n contours some read count =
    let many = read.many in
    record {
      some = omega arith;
      rising = λ i j le below. never-falls 0 ends i j read.rise le below;
      last = sym count.is;
    }

simple-is : (glyphs : ℕ) (g : GlyphBytes) (contours : ℕ) (s : SimpleGlyph) → 0 < contours
    → pos contours ≡ contour_count g.bytes → SimpleRead g (written_x_min g.bytes) contours s
    → IsRead glyphs g (simple s)
simple-is glyphs g contours s some is read =
    let many = read.ends.many in
    record {
      nothing = tt;
      few = read.count.few;
      ends = ends-are g.bytes s.ends (length s.points) (size_place contours) contours some read.ends read.count;
      words = record {
        x_min = read.x_min_is;
        contours = ap pos many ∙ is;
        ends = λ i below. read.ends.words i (omega arith);
        code_at = rw many read.code_at;
        code_size = rw many read.code_size;
      };
      points = rw many (points-are g.bytes (flags_place g.bytes contours) (length s.points) s.points read.points);
      components = tt;
      records = tt;
      composite_words = tt;
      program = record { place = size_place contours + 2; at = read.code_at; within = read.code };
    }

-- the statements about a composite glyph
pub record CompositeRead (glyphs : ℕ) (g : GlyphBytes) (x_min : ℤ) (c : CompositeGlyph) : Type 0 where
  pub x_min_is : c.x_min ≡ x_min
  pub parts : ArePartsRead glyphs g 10 component_limit (record {
    items = c.records;
    next = records_end g.bytes 10 c.records;
  })
  pub program : IsProgramAfter g (records_end g.bytes 10 c.records) (has_program c.records)
      (record { code = c.code; code_at = c.code_at })

composite-make : (glyphs : ℕ) (g : GlyphBytes) (x_min : ℤ) (records : Listing Record) (p : Program)
    → ArePartsRead glyphs g 10 component_limit records → IsProgramAfter g records.next (has_program records.items) p
    → CompositeRead glyphs g x_min (record {
      x_min = x_min;
      records = records.items;
      code = p.code;
      code_at = p.code_at;
    })
composite-make glyphs g x_min records p parts program =
    let end = parts.end in
    record { x_min_is = refl; parts = rw end at parts; program = rw end at program }

pub composite-was : (glyphs : ℕ) (g : GlyphBytes) (x_min : ℤ) (d : Raw) → composite_of glyphs g x_min ≡ Ok d
    → (c : CompositeGlyph) × CompositeRead glyphs g x_min c × (d ≡ composite c)
unfolding composite_of
composite-was glyphs g x_min d was =
    let by_records = came-through (records_of glyphs g) _ d was in
    let records = by_records.value in
    let read = records-were glyphs g 10 component_limit records by_records.first in
    let by_program = came-through (program_of g records) _ d by_records.rest in
    let p = by_program.value in
    let is : composite (record { x_min = x_min; records = records.items; code = p.code; code_at = p.code_at }) ≡ d = cc
    by_program.rest in (
      record {
        x_min = x_min;
        records = records.items;
        code = p.code;
        code_at = p.code_at;
      },
      composite-make glyphs g x_min records p read
          (program-was g records p read.room by_program.first),
      sym is,
    )

composite-is : (glyphs : ℕ) (g : GlyphBytes) (c : CompositeGlyph) → contour_count g.bytes <ℤ pos 0
    → CompositeRead glyphs g (written_x_min g.bytes) c
    → IsRead glyphs g (composite c)
composite-is glyphs g c is read = record {
  nothing = tt;
  few = tt;
  ends = tt;
  words = tt;
  points = tt;
  components = read.parts.are;
  records = record { some = read.parts.some; few = read.parts.few; known = read.parts.known };
  composite_words = record {
    contours = is;
    x_min = read.x_min_is;
    follows = read.program.size;
    none = read.program.none;
  };
  program = read.program.read;
}

described-cases : (glyphs : ℕ) (g : GlyphBytes) (contours : ℕ) (negative none : Bool) (d : Raw)
    → 10 ≤ length g.bytes → contours ≡ unsigned_abs (contour_count g.bytes)
    → int_lt (contour_count g.bytes) (pos 0) ≡ negative
    → (contours == 0) ≡ none
    → (if negative then composite_of glyphs g (written_x_min g.bytes)
    else (if none then Ok empty else simple_of g (written_x_min g.bytes) contours)) ≡ Ok d → IsRead glyphs g d
described-cases glyphs g contours true none d header count sign is was =
    let read = composite-was glyphs g (written_x_min g.bytes) d was in
    let whole = composite-is glyphs g read.0 (is-negative (contour_count g.bytes) sign) read.1 in
    rw read.2 whole
described-cases glyphs g contours false true d header count sign is was =
    let e : d ≡ empty = cc in
    rw e (nothing-read glyphs g (is-none (contour_count g.bytes) (rw count at is)))
described-cases glyphs g contours false false d header count sign is was =
    let read = simple-was g (written_x_min g.bytes) contours d header was in
    let whole = simple-is glyphs g contours read.0 (grind (arith, nat_tests))
    (ap pos count ∙ is-count (contour_count g.bytes) sign) read.1 in
    rw read.2 whole

-- the header in the bytes
abbrev pub written_header : List ℕ → GlyphHeader
written_header bytes = record { contours = contour_count bytes; x_min = written_x_min bytes }

header-cases : (g : GlyphBytes) (h : GlyphHeader) (cut : Bool) → nat_lt (length g.bytes) 10 ≡ cut
    → (if cut then Err (short g) else (signed_in g 0 >>= λ contours. signed_in g 2
    >>= λ x_min. Ok (record { contours = contours; x_min = x_min }))) ≡ Ok h → IsField g 10 h (written_header g.bytes)
header-cases g h true is was = absurd cc
header-cases g h false is was =
    let by_contours = came-through (signed_in g 0) _ h was in
    let by_x_min = came-through (signed_in g 2) _ h by_contours.rest in
    let contours = (signed-was g 0 by_contours.value by_contours.first).is in
    let x_min = (signed-was g 2 by_x_min.value by_x_min.first).is in
    let e : ◌≡◌ {A = GlyphHeader} (record { contours = by_contours.value; x_min = by_x_min.value }) h = cc by_x_min.rest in
    rw (← e) (record { is = rw (← contours, ← x_min) refl; room = grind (arith, nat_tests) })

pub header-was : (g : GlyphBytes) (h : GlyphHeader) → header_of g ≡ Ok h → IsField g 10 h (written_header g.bytes)
unfolding header_of
header-was g h was = header-cases g h (nat_lt (length g.bytes) 10) refl was

described-was : (glyphs : ℕ) (g : GlyphBytes) (d : Raw) → 10 ≤ length g.bytes
    → described glyphs g (written_header g.bytes) ≡ Ok d → IsRead glyphs g d
unfolding described
described-was glyphs g d header was =
    described-cases glyphs g (unsigned_abs (contour_count g.bytes)) (int_lt (contour_count g.bytes) (pos 0))
    (unsigned_abs (contour_count g.bytes) == 0) d header refl refl refl was

pub glyph-was : (glyphs : ℕ) (g : GlyphBytes) (d : Raw) → glyph_in glyphs g ≡ Ok d → IsRead glyphs g d
glyph-was glyphs g d was =
    let by_header = came-through (header_of g) (described glyphs g) d was in
    let header = header-was g by_header.value by_header.first in
    described-was glyphs g d header.room (rw header.is at by_header.rest)

-- the bytes of a glyph, if loca's entries differ
pub record AreBytes (t : Glyf) (g : ℕ) (bytes : List ℕ) : Type 0 where
  pub is : bytes ≡ bytes_between t g
  pub ordered : glyph_offset t g ≤ min (glyph_offset t (g + 1)) (length t.glyf)

bytes-cases : (t : Glyf) (g : ℕ) (none out : Bool) (f : Fault) (bytes : List ℕ) → none ≡ false
    → is_out_of_range t g ≡ out → (if none then Ok [] else (if out then Err f else Ok (bytes_between t g))) ≡ Ok bytes
    → AreBytes t g bytes
bytes-cases t g true out f bytes some is was = absurd cc
bytes-cases t g false true f bytes some is was = absurd cc
bytes-cases t g false false f bytes some is was = record { is = cc; ordered = grind (arith, nat_tests) }

pub bytes-were : (t : Glyf) (g : ℕ) (bytes : List ℕ) → has_no_bytes t g ≡ false → glyph_bytes_of t g ≡ Ok bytes
    → AreBytes t g bytes
unfolding glyph_bytes_of
bytes-were t g bytes some was = bytes-cases t g (has_no_bytes t g) (is_out_of_range t g) _ bytes some refl was

program-in : (t : Glyf) (g : ℕ) (bytes code : List ℕ) (at : ℕ) → AreBytes t g bytes
    → IsProgramRead (stretch_at (glyph_offset t g) bytes) (record { code = code; code_at = at })
    → IsProgram t.glyf code at
program-in t g bytes code at b p =
    let whole = program-is t.glyf bytes code (glyph_offset t g) (min (glyph_offset t (g + 1)) (length t.glyf)) p.place
    b.ordered (omega arith) b.is p.within in
    rw p.at whole

programs-in : (t : Glyf) (g : ℕ) (bytes : List ℕ) (d : Raw) → AreBytes t g bytes
    → IsProgramOf (stretch_at (glyph_offset t g) bytes) d → HasProgram t.glyf d
programs-in t g bytes empty b p = tt
programs-in t g bytes (simple s) b p = program-in t g bytes s.code s.code_at b p
programs-in t g bytes (composite c) b p = program-in t g bytes c.code c.code_at b p

-- the statements about the glyph with a number
pub record IsGlyph (t : Glyf) (g : ℕ) (d : Raw) : Type 0 where
  pub nothing : IfEmpty d (HasNoOutline t g)
  pub few : IfSimple d (λ s. length s.points ≤ point_limit)
  pub ends : IfSimple d (λ s. AreEnds (length s.points) s.ends)
  pub words : IfSimple d (AreWords (glyph_bytes_at t g))
  pub points : IfSimple d (λ s. ArePoints (bytes_between t g) (flags_place (bytes_between t g) (length s.ends))
      s.points)
  pub components : IfComposite d (λ c. AreComponents (glyph_bytes_at t g) 10 c.records)
  pub records : IfComposite d (λ c. AreRecords t.glyphs c.records)
  pub composite_words : IfComposite d (AreCompositeWords (glyph_bytes_at t g))
  pub program : HasProgram t.glyf d

nothing-in : (t : Glyf) (g : ℕ) (d : Raw) → IfEmpty d (contour_count (bytes_between t g) ≡ pos 0)
    → IfEmpty d (HasNoOutline t g)
nothing-in t g empty is = inr is
nothing-in t g (simple s) is = tt
nothing-in t g (composite c) is = tt

glyph-make : (t : Glyf) (g : ℕ) (bytes : List ℕ) (d : Raw) → AreBytes t g bytes
    → IsRead t.glyphs (stretch_at (glyph_offset t g) bytes) d → IsGlyph t g d
glyph-make t g bytes d b read =
    let program = programs-in t g bytes d b read.program in
    let is = b.is in
    let whole : IsRead t.glyphs (glyph_bytes_at t g) d = rw is at read in
    record {
      nothing = nothing-in t g d whole.nothing;
      few = whole.few;
      ends = whole.ends;
      words = whole.words;
      points = whole.points;
      components = whole.components;
      records = whole.records;
      composite_words = whole.composite_words;
      program = program;
    }

glyph-cases : (t : Glyf) (g : ℕ) (none : Bool) (d : Raw) → has_no_bytes t g ≡ none
    → (if none then Ok empty else (glyph_bytes_of t g >>= λ bytes. glyph_in t.glyphs
    (stretch_at (glyph_offset t g) bytes))) ≡ Ok d → IsGlyph t g d
glyph-cases t g true d is was =
    let e : d ≡ empty = cc in
    rw e (record {
      nothing = inl is;
      few = tt;
      ends = tt;
      words = tt;
      points = tt;
      components = tt;
      records = tt;
      composite_words = tt;
      program = tt;
    })
glyph-cases t g false d is was =
    let by_bytes = came-through (glyph_bytes_of t g) _ d was in
    let bytes = by_bytes.value in
    glyph-make t g bytes d (bytes-were t g bytes is by_bytes.first)
    (glyph-was t.glyphs (stretch_at (glyph_offset t g) bytes) d by_bytes.rest)

pub glyph-is : (t : Glyf) (g : ℕ) (d : Raw) → glyph_data_of t g ≡ Ok d → IsGlyph t g d
unfolding glyph_data_of
glyph-is t g d was = glyph-cases t g (has_no_bytes t g) d refl was

pub as-written : (t : Glyf) (g : ℕ) (d : Raw) → glyph_data_of t g ≡ Ok d → IsAsWritten t g d
as-written t g d was =
    let is = glyph-is t g d was in
    record {
      nothing = is.nothing;
      words = is.words;
      points = is.points;
      composite_words = is.composite_words;
      components = is.components;
    }
