-- If a glyph can be read, the size that its first bytes declare is right.
use Rattle.std.proofs.Common.{◌≡◌, ℕ, ◌+◌, ◌-◌, ◌<◌, ◌≤◌, Bool, true, false, if◌then◌else◌, List, [], length, Result, Ok, Err, ℤ, pos, nat_lt, nat_le, int_lt, get_or, refl, arith}
use Rattle.std.specs.Prelude.{◌<ℤ◌}
use Rattle.std.proofs.lemmas.Bool.Decides.{nat_tests}
use Rattle.std.proofs.lemmas.Int.{ints}
use Rattle.tt_core.specs.Chains.{came-through}
use Rattle.tt_core.specs.Faults.{Fault}
use Rattle.tt_core.specs.Outcomes.{◌>>=◌}
use Rattle.tt_glyf.specs.Bytes.{stretch_at}
use Rattle.tt_glyf.specs.GlyphData.{header_of, described, glyph_in, glyph_data_of}
use Rattle.tt_glyf.specs.Loca.{Glyf, glyph_offset, has_no_bytes, bytes_between, glyph_bytes_of}
use Rattle.tt_glyf.specs.Meaning.{contour_count, glyph_bytes_at, written_end}
use Rattle.tt_glyf.specs.declared.raw.Raw as declared
use Rattle.tt_glyf.specs.Raw.{Raw, CompositeGlyph, empty, simple, composite, raw_view}
use Rattle.tt_glyf.specs.Format.{size_place}
use Rattle.tt_glyf.specs.Laws.{SizesAreTold}
use Rattle.tt_glyf.specs.Told.{told_contours, told_outline, told_size, tells_composite, records_in, records_read, components_of}
use Rattle.tt_glyf.proofs.Glyphs.{IsProgramOf, bytes-were, glyph-is, glyph-was, header-was}

-- a glyph's bytes, with its header and its program
pub record HasHeader (t : Glyf) (g : ℕ) (d : Raw) : Type 0 where
  pub bytes : glyph_bytes_of t g ≡ Ok (bytes_between t g)
  pub room : 10 ≤ length (bytes_between t g)
  pub program : IsProgramOf (glyph_bytes_at t g) d

header-cases : (t : Glyf) (g : ℕ) (none : Bool) (d : Raw) → has_no_bytes t g ≡ none
    → (if none then Ok empty else (glyph_bytes_of t g >>= λ bytes. glyph_in t.glyphs
    (stretch_at (glyph_offset t g) bytes))) ≡ Ok d → (d ≡ empty → ⊥) → HasHeader t g d
header-cases t g true d is was some = absurd (some cc)
header-cases t g false d is was some =
    let by_bytes = came-through (glyph_bytes_of t g) _ d was in
    let bytes = by_bytes.value in
    let same = (bytes-were t g bytes is by_bytes.first).is in
    let read = stretch_at (glyph_offset t g) bytes in
    let by_header = came-through (header_of read) (described t.glyphs read) d by_bytes.rest in
    let room = (header-was read by_header.value by_header.first).room in
    let program = (glyph-was t.glyphs read d by_bytes.rest).program in
    record { bytes = rw (← same) by_bytes.first; room = rw (← same) room; program = rw same at program }

pub has-header : (t : Glyf) (g : ℕ) (d : Raw) → glyph_data_of t g ≡ Ok d → (d ≡ empty → ⊥) → HasHeader t g d
unfolding glyph_data_of
has-header t g d was some = header-cases t g (has_no_bytes t g) d refl was some

contours-are : (bytes : List ℕ) → 10 ≤ length bytes → told_contours bytes ≡ contour_count bytes
contours-are bytes room =
    let there : nat_lt (length bytes) 10 ≡ false = grind (arith, nat_tests) in
    rw there refl

is-below : (n : ℤ) → n <ℤ pos 0 → int_lt n (pos 0) ≡ true
is-below n below = grind (arith, ints)

composite-tells : (t : Glyf) (g : ℕ) (c : CompositeGlyph) → glyph_data_of t g ≡ Ok (composite c)
    → tells_composite (glyph_bytes_of t g) ≡ true
composite-tells t g c was =
    let there = has-header t g (composite c) was (λ is. cc) in
    let below = is-below _ (glyph-is t g (composite c) was).composite_words.contours in
    rw (there.bytes, contours-are (bytes_between t g) there.room) below

no-records : (t : Glyf) (g : ℕ) (d : Result Raw Fault) → glyph_data_of t g ≡ d
    → tells_composite (glyph_bytes_of t g) ≡ false → records_read d ≡ []
no-records t g (Err f) was tells = refl
no-records t g (Ok empty) was tells = refl
no-records t g (Ok (simple s)) was tells = refl
no-records t g (Ok (composite c)) was tells =
    let other = composite-tells t g c was in
    absurd cc

pub no-components : (t : Glyf) (g : ℕ) → tells_composite (glyph_bytes_of t g) ≡ false → components_of t g ≡ []
unfolding components_of
no-components t g tells = no-records t g (glyph_data_of t g) refl tells

-- the result of a call that reads a glyph
pub components-read : (t : Glyf) (g : ℕ) (raw : declared.Raw) → glyph_data_of t g ≡ Ok (raw_view raw)
    → components_of t g ≡ records_in (raw_view raw)
unfolding components_of
components-read t g raw was = rw was refl

pub components-unread : (t : Glyf) (g : ℕ) (f : Fault) → glyph_data_of t g ≡ Err f → components_of t g ≡ []
unfolding components_of
components-unread t g f was = rw was refl

is-outline : (bytes : List ℕ) (contours points : ℕ) → 0 < contours → size_place contours ≤ length bytes
    → written_end bytes (contours - 1) + 1 ≡ points
    → (if int_lt (pos 0) (pos contours) then told_outline bytes contours else 0) ≡ contours + points
is-outline bytes contours points some room last =
    let above : int_lt (pos 0) (pos contours) ≡ true = grind (arith, ints) in
    let there : nat_le (size_place contours) (length bytes) ≡ true = grind (arith, nat_tests) in
    rw (above, there, last) refl

pub sizes-told : SizesAreTold
unfolding told_size
sizes-told t g s was =
    let there = has-header t g (simple s) was (λ is. cc) in
    let are = glyph-is t g (simple s) was in
    let bytes = bytes_between t g in
    let contours = length s.ends in
    let some = are.ends.some in
    let at = are.words.code_at in
    let program = there.program in
    let place = program.at in
    let within = program.within.room in
    let room : size_place contours ≤ length bytes = omega arith in
    let read : get_or s.ends (contours - 1) 0 ≡ written_end bytes (contours - 1) = are.words.ends (contours - 1) (omega arith) in
    let last : written_end bytes (contours - 1) + 1 ≡ length s.points = rw (← read) are.ends.last in
    rw (there.bytes, contours-are bytes there.room, ← are.words.contours) (is-outline bytes contours (length s.points) some room last)
