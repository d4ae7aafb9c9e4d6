-- A glyph is refused for a defect that exists, and a glyph that is read has no defect.
use Rattle.std.proofs.Common.{◌≡◌, ℕ, ◌+◌, ◌<◌, ◌≤◌, Bool, true, false, ◌==◌, nat_lt, if◌then◌else◌, List, [], length, Result, Ok, Err, inl, inr, ℤ, pos, unsigned_abs, int_lt, refl, arith}
use Rattle.std.specs.Prelude.{◌≢◌, ◌⊎◌, ◌||◌, ◌<ℤ◌}
use Rattle.std.proofs.lemmas.Bool.Decides.{nat_tests}
use Rattle.std.proofs.lemmas.Int.{ints}
use Rattle.tt_core.specs.Chains.{came-through, was-err}
use Rattle.tt_core.specs.Faults.{Fault, fault_at}
use Rattle.tt_core.specs.declared.fault.Why.TheVariants as why
use Rattle.tt_core.specs.Directory.{HasNo}
use Rattle.tt_core.specs.Outcomes.{◌>>=◌}
use Rattle.tt_glyf.specs.Bytes.{GlyphBytes, stretch_at, signed_in, short}
use Rattle.tt_glyf.specs.Composite.{composite_of}
use Rattle.tt_glyf.specs.Defects.{IsCut, IsBadGlyph, HasBytes, IsGlyphDefect}
use Rattle.tt_glyf.specs.GlyphData.{GlyphHeader, header_of, described, glyph_in, glyph_data_of}
use Rattle.tt_glyf.specs.Loca.{Glyf, loca_tag, entry_place, glyph_offset, has_no_bytes, is_out_of_range, bytes_between, glyph_bytes_of, IsRangeDefect}
use Rattle.tt_glyf.specs.Meaning.{glyph_bytes_at, contour_count, written_x_min}
use Rattle.tt_glyf.specs.Raw.{Raw, empty}
use Rattle.tt_glyf.specs.Simple.{simple_of}
use Rattle.tt_glyf.proofs.BadRecords.{composite-broke}
use Rattle.tt_glyf.proofs.Broken.{cut, simple-broke}
use Rattle.tt_glyf.proofs.Fields.{signed-short}
use Rattle.tt_glyf.proofs.Glyphs.{is-negative, written_header, header-was, simple-was, composite-was, AreBytes, bytes-were}
use Rattle.tt_glyf.proofs.Whole.{simple-whole, composite-whole}

-- the header
header-broke-cases : (g : GlyphBytes) (shorter : Bool) (f : Fault) → nat_lt (length g.bytes) 10 ≡ shorter
    → ◌≡◌ {A = Result GlyphHeader Fault} (if shorter then Err (short g)
    else (signed_in g 0 >>= λ contours. signed_in g 2 >>= λ x_min. Ok (record { contours = contours; x_min = x_min })))
    (Err f) → IsCut g 10 f
header-broke-cases g true f is was = (grind (arith, nat_tests), cc)
header-broke-cases g false f is was = elim (was-err (signed_in g 0) _ f was) [
  | inl here ↦ cut g (0 + 2) 10 f (omega arith) (signed-short g 0 f here)
  | inr by_contours ↦ elim (was-err (signed_in g 2) _ f by_contours.rest) [
    | inl here ↦ cut g (2 + 2) 10 f (omega arith) (signed-short g 2 f here)
    | inr by_x_min ↦ let rest = by_x_min.rest in absurd cc
  ]
]

header-broke : (g : GlyphBytes) (f : Fault) → header_of g ≡ Err f → IsCut g 10 f
unfolding header_of
header-broke g f was = header-broke-cases g (nat_lt (length g.bytes) 10) f refl was

-- the sign of the number of contours
is-positive : (c : ℤ) → int_lt c (pos 0) ≡ false → (unsigned_abs c == 0) ≡ false → pos 0 <ℤ c
is-positive c is some = grind (arith, ints, nat_tests)

negative-is : (c : ℤ) → c <ℤ pos 0 → int_lt c (pos 0) ≡ true
negative-is c is = grind (arith, ints)

positive-is : (c : ℤ) → pos 0 <ℤ c → (int_lt c (pos 0) ≡ false) × ((unsigned_abs c == 0) ≡ false) × (0 < unsigned_abs c)
positive-is c is = (grind (arith, ints), grind (arith, ints, nat_tests), grind (arith, ints))

abbrev described_by : ℕ → GlyphBytes → Bool → Bool → Result Raw Fault
described_by glyphs g negative none =
    if negative then composite_of glyphs g (written_x_min g.bytes)
    else (if none then Ok empty else simple_of g (written_x_min g.bytes) (unsigned_abs (contour_count g.bytes)))

described-broke-cases : (glyphs : ℕ) (g : GlyphBytes) (negative none : Bool) (f : Fault) → 10 ≤ length g.bytes
    → int_lt (contour_count g.bytes) (pos 0) ≡ negative → (unsigned_abs (contour_count g.bytes) == 0) ≡ none
    → described_by glyphs g negative none ≡ Err f → IsBadGlyph glyphs g f
described-broke-cases glyphs g true none f header negative is was =
    inr (inr (
      header,
      is-negative (contour_count g.bytes) negative,
      composite-broke glyphs g (written_x_min g.bytes) f
          was,
    ))
described-broke-cases glyphs g false true f header negative is was = absurd cc
described-broke-cases glyphs g false false f header negative is was =
    inr (inl (
      header,
      is-positive (contour_count g.bytes) negative is,
      simple-broke g (written_x_min g.bytes)
          (unsigned_abs (contour_count g.bytes)) f header (grind (arith, nat_tests)) was,
    ))

described-broke : (glyphs : ℕ) (g : GlyphBytes) (f : Fault) → 10 ≤ length g.bytes
    → described glyphs g (written_header g.bytes) ≡ Err f → IsBadGlyph glyphs g f
unfolding described
described-broke glyphs g f header was =
    described-broke-cases glyphs g (int_lt (contour_count g.bytes) (pos 0)) (unsigned_abs (contour_count g.bytes) == 0)
    f header refl refl was

bytes-broke : (glyphs : ℕ) (g : GlyphBytes) (f : Fault) → glyph_in glyphs g ≡ Err f → IsBadGlyph glyphs g f
bytes-broke glyphs g f was = elim (was-err (header_of g) (described glyphs g) f was) [
  | inl here ↦ inl (header-broke g f here)
  | inr later ↦
      let header = header-was g later.value later.first in
      described-broke glyphs g f header.room (rw header.is at later.rest)
]

-- the range
either : (a b : Bool) → (a || b) ≡ true → (a ≡ true) ⊎ (b ≡ true)
either true b is = inl refl
either false b is = inr is

differ : (a b : ℕ) → (a == b) ≡ false → a ≢ b
differ a b is same = grind (arith, nat_tests)

less : (a b : ℕ) → nat_lt a b ≡ true → a < b
less a b is = grind (arith, nat_tests)

range-broke-cases : (t : Glyf) (g : ℕ) (none out : Bool) (f : Fault) → has_no_bytes t g ≡ none
    → is_out_of_range t g ≡ out → ◌≡◌ {A = Result (List ℕ) Fault}
    (if none then Ok [] else (if out then Err (fault_at loca_tag (entry_place t.format g) why.GlyphRange)
    else Ok (bytes_between t g))) (Err f) → IsRangeDefect t g f
range-broke-cases t g true out f some is was = absurd cc
range-broke-cases t g false true f some is was = (
  differ (glyph_offset t g) (glyph_offset t (g + 1)) some,
  elim (either (nat_lt (glyph_offset t (g + 1)) (glyph_offset t g)) (nat_lt (length t.glyf) (glyph_offset t g)) is) [
    | inl falls ↦ inl (less (glyph_offset t (g + 1)) (glyph_offset t g) falls)
    | inr past ↦ inr (less (length t.glyf) (glyph_offset t g) past)
  ],
  cc,
)
range-broke-cases t g false false f some is was = absurd cc

range-broke : (t : Glyf) (g : ℕ) (f : Fault) → glyph_bytes_of t g ≡ Err f → IsRangeDefect t g f
unfolding glyph_bytes_of
range-broke t g f was = range-broke-cases t g (has_no_bytes t g) (is_out_of_range t g) f refl refl was

has-bytes : (t : Glyf) (g : ℕ) (bytes : List ℕ) → has_no_bytes t g ≡ false → AreBytes t g bytes → HasBytes t g
has-bytes t g bytes some are =
    let ordered = are.ordered in
    let other = differ (glyph_offset t g) (glyph_offset t (g + 1)) some in
    (omega arith, omega arith)

glyph-broke-cases : (t : Glyf) (g : ℕ) (none : Bool) (f : Fault) → has_no_bytes t g ≡ none
    → (if none then Ok empty else (glyph_bytes_of t g >>= λ bytes. glyph_in t.glyphs
    (stretch_at (glyph_offset t g) bytes))) ≡ Err f → IsGlyphDefect t g f
glyph-broke-cases t g true f is was = absurd cc
glyph-broke-cases t g false f is was = elim (was-err (glyph_bytes_of t g) _ f was) [
  | inl here ↦ inl (range-broke t g f here)
  | inr later ↦
      let are = bytes-were t g later.value is later.first in
      inr (has-bytes t g later.value is are, bytes-broke t.glyphs (glyph_bytes_at t g) f (rw are.is at later.rest))
]

-- a fault names a defect that exists
pub glyph-broke : (t : Glyf) (g : ℕ) (f : Fault) → glyph_data_of t g ≡ Err f → IsGlyphDefect t g f
unfolding glyph_data_of
glyph-broke t g f was = glyph-broke-cases t g (has_no_bytes t g) f refl was

described-whole-cases : (glyphs : ℕ) (g : GlyphBytes) (negative none : Bool) (d : Raw) (f : Fault)
    → 10 ≤ length g.bytes → int_lt (contour_count g.bytes) (pos 0) ≡ negative
    → (unsigned_abs (contour_count g.bytes) == 0) ≡ none → described_by glyphs g negative none ≡ Ok d
    → ¬ IsBadGlyph glyphs g f
described-whole-cases glyphs g negative none d f header is_negative is was bad = elim bad [
  | inl short ↦ let ends = short.0 in absurd (omega arith)
  | inr (inl one) ↦
      let sign = positive-is (contour_count g.bytes) one.1 in
      let came : simple_of g (written_x_min g.bytes) (unsigned_abs (contour_count g.bytes)) ≡ Ok d = rw
      (← is_negative, ← is, sign.0, sign.1) at was in
      let read = simple-was g (written_x_min g.bytes) (unsigned_abs (contour_count g.bytes)) d header came in
      simple-whole g (written_x_min g.bytes) (unsigned_abs (contour_count g.bytes)) read.0 f sign.2 read.1 one.2
  | inr (inr one) ↦
      let sign = negative-is (contour_count g.bytes) one.1 in
      let came : composite_of glyphs g (written_x_min g.bytes) ≡ Ok d = rw (← is_negative, sign) at was in
      let read = composite-was glyphs g (written_x_min g.bytes) d came in
      composite-whole glyphs g (written_x_min g.bytes) read.0 f read.1 one.2
]

described-whole : (glyphs : ℕ) (g : GlyphBytes) (d : Raw) (f : Fault) → 10 ≤ length g.bytes
    → described glyphs g (written_header g.bytes) ≡ Ok d → ¬ IsBadGlyph glyphs g f
unfolding described
described-whole glyphs g d f header was bad =
    described-whole-cases glyphs g (int_lt (contour_count g.bytes) (pos 0)) (unsigned_abs (contour_count g.bytes) == 0)
    d f header refl refl was bad

bytes-whole : (glyphs : ℕ) (g : GlyphBytes) (d : Raw) (f : Fault) → glyph_in glyphs g ≡ Ok d
    → ¬ IsBadGlyph glyphs g f
bytes-whole glyphs g d f was bad =
    let by_header = came-through (header_of g) (described glyphs g) d was in
    let header = header-was g by_header.value by_header.first in
    described-whole glyphs g d f header.room (rw header.is at by_header.rest) bad

glyph-whole-cases : (t : Glyf) (g : ℕ) (none : Bool) (d : Raw) (f : Fault) → has_no_bytes t g ≡ none
    → (if none then Ok empty else (glyph_bytes_of t g >>= λ bytes. glyph_in t.glyphs
    (stretch_at (glyph_offset t g) bytes))) ≡ Ok d → ¬ IsGlyphDefect t g f
glyph-whole-cases t g true d f is was bad = elim bad [
  | inl range ↦ let other = range.0 in grind (arith, nat_tests)
  | inr one ↦ let below = one.0.0 in grind (arith, nat_tests)
]
glyph-whole-cases t g false d f is was bad =
    let by_bytes = came-through (glyph_bytes_of t g) _ d was in
    let are = bytes-were t g by_bytes.value is by_bytes.first in
    let ordered = are.ordered in
    elim bad [
      | inl range ↦ elim (range.1) [
        | inl falls ↦ absurd (omega arith)
        | inr past ↦ absurd (omega arith)
      ]
      | inr one ↦ bytes-whole t.glyphs (glyph_bytes_at t g) d f (rw are.is at by_bytes.rest) one.1
    ]

-- a glyph that is read has no defect
pub glyph-whole : (t : Glyf) (g : ℕ) (d : Raw) → glyph_data_of t g ≡ Ok d → HasNo (IsGlyphDefect t g)
unfolding glyph_data_of
glyph-whole t g d was = λ f bad. glyph-whole-cases t g (has_no_bytes t g) d f refl was bad
