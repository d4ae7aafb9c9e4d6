-- The meaning of a composite glyph that was read.
use Rattle.std.proofs.Common.{◌≡◌, ℕ, zero, suc, ◌+◌, ◌-◌, ◌*◌, ◌<◌, ◌≤◌, Bool, true, false, nat_lt, if◌then◌else◌, List, [], ◌∷◌, length, Ok, ℤ, pos, refl, arith, ap, sym, ◌∙◌}
use Rattle.std.specs.Prelude.{All, slice_index, slice_range}
use Rattle.std.proofs.lemmas.List.Elements.{All-cons}
use Rattle.std.proofs.lemmas.Bool.Decides.{nat_tests}
use Rattle.tt_core.specs.Chains.{came-through, passed, passed-else}
use Rattle.tt_core.specs.Numbers.{unsigned_at, signed16}
use Rattle.tt_core.specs.Outcomes.{◌>>=◌}
use Rattle.tt_glyf.specs.declared.raw.Record.{Record}
use Rattle.tt_glyf.specs.Bytes.{GlyphBytes, Listing, byte_in, word_in, signed_in, slice_in}
use Rattle.tt_glyf.specs.Composite.{ArgumentPair, Transform, Program, signed8, argument_at, arguments_at, one_scale, identity, two_scales_at, two_by_two_at, transform_at, asks_scaled_offset, unscaled, known_glyph, record_at, records_from, has_program, program_of}
use Rattle.tt_glyf.specs.Format.{argument_size, transform_size, record_size, more_components, arg_1_and_2_are_words, args_are_xy_values, we_have_a_scale, we_have_an_x_and_y_scale, we_have_a_two_by_two, has}
use Rattle.tt_glyf.specs.Defects.{written_records, record_place, GoesOn}
use Rattle.tt_glyf.specs.Meaning.{written_argument, written_transform, record_of, written_component_flags, written_component, written_record, record_end, records_end, AreComponents}
use Rattle.tt_glyf.proofs.Chains.{came-after}
use Rattle.tt_glyf.proofs.Fields.{IsField, byte-was, word-was, signed-was}
use Rattle.tt_glyf.proofs.Places.{IsWithin, slice-was}

argument-cases : (g : GlyphBytes) (at : ℕ) (words offsets : Bool) (a : ℤ)
    → (if words then (if offsets then signed_in g at else (word_in g at >>= λ n. Ok (pos n)))
    else (byte_in g at >>= λ n. Ok (if offsets then signed8 n else pos n))) ≡ Ok a
    → IsField g (at + (if words then 2 else 1)) a (if words
    then (if offsets then signed16 (unsigned_at g.bytes at 2) else pos (unsigned_at g.bytes at 2))
    else (if offsets then signed8 (slice_index g.bytes at) else pos (slice_index g.bytes at)))
argument-cases g at true true a was = signed-was g at a was
argument-cases g at true false a was =
    let through = came-through (word_in g at) _ a was in
    let word = word-was g at through.value through.first in
    let is : pos through.value ≡ a = cc through.rest in
    rw (← is) (record { is = ap pos word.is; room = word.room })
argument-cases g at false offsets a was =
    let through = came-through (byte_in g at) _ a was in
    let byte = byte-was g at through.value through.first in
    let is : (if offsets then signed8 through.value else pos through.value) ≡ a = cc through.rest in
    rw (← is) (record { is = ap (λ (n : ℕ). if offsets then signed8 n else pos n) byte.is; room = byte.room })

pub argument-was : (g : GlyphBytes) (flags at : ℕ) (a : ℤ) → argument_at g flags at ≡ Ok a
    → IsField g (at + argument_size flags) a (written_argument g.bytes flags at)
unfolding argument_at
argument-was g flags at a was =
    argument-cases g at (has flags arg_1_and_2_are_words) (has flags args_are_xy_values) a was

abbrev pub written_arguments : List ℕ → ℕ → ℕ → ArgumentPair
written_arguments bytes flags at =
    record { arg1 = written_argument bytes flags at; arg2 = written_argument bytes flags (at + argument_size flags) }

pub arguments-were : (g : GlyphBytes) (flags at : ℕ) (a : ArgumentPair) → arguments_at g flags at ≡ Ok a
    → IsField g (at + 2 * argument_size flags) a (written_arguments g.bytes flags at)
unfolding arguments_at
arguments-were g flags at a was =
    let first = came-through (argument_at g flags at) _ a was in
    let second = came-through (argument_at g flags (at + argument_size flags)) _ a first.rest in
    let arg1 = argument-was g flags at first.value first.first in
    let arg2 = argument-was g flags (at + argument_size flags) second.value second.first in
    let room = arg2.room in
    let value1 = arg1.is in
    let value2 = arg2.is in
    let is : ◌≡◌ {A = ArgumentPair} (record { arg1 = first.value; arg2 = second.value }) a = cc second.rest in
    rw (← is) (record { is = rw (← value1, ← value2) refl; room = omega arith })

two_scales-were : (g : GlyphBytes) (at : ℕ) (t : Transform) → two_scales_at g at ≡ Ok t
    → IsField g (at + 4) t (record {
      xx = signed16 (unsigned_at g.bytes at 2);
      yx = pos 0;
      xy = pos 0;
      yy = signed16 (unsigned_at g.bytes (at + 2) 2);
    })
unfolding two_scales_at
two_scales-were g at t was =
    let by_xx = came-through (signed_in g at) _ t was in
    let by_yy = came-through (signed_in g (at + 2)) _ t by_xx.rest in
    let xx = signed-was g at by_xx.value by_xx.first in
    let yy = signed-was g (at + 2) by_yy.value by_yy.first in
    let room = yy.room in
    let value_xx = xx.is in
    let value_yy = yy.is in
    let is : ◌≡◌ {A = Transform} (record { xx = by_xx.value; yx = pos 0; xy = pos 0; yy = by_yy.value }) t = cc
    by_yy.rest in
    rw (← is) (record { is = rw (← value_xx, ← value_yy) refl; room = omega arith })

two_by_two-was : (g : GlyphBytes) (at : ℕ) (t : Transform) → two_by_two_at g at ≡ Ok t
    → IsField g (at + 8) t (record {
      xx = signed16 (unsigned_at g.bytes at 2);
      yx = signed16 (unsigned_at g.bytes (at + 2) 2);
      xy = signed16 (unsigned_at g.bytes (at + 4) 2);
      yy = signed16 (unsigned_at g.bytes (at + 6) 2);
    })
unfolding two_by_two_at
two_by_two-was g at t was =
    let by_xx = came-through (signed_in g at) _ t was in
    let by_yx = came-through (signed_in g (at + 2)) _ t by_xx.rest in
    let by_xy = came-through (signed_in g (at + 4)) _ t by_yx.rest in
    let by_yy = came-through (signed_in g (at + 6)) _ t by_xy.rest in
    let xx = signed-was g at by_xx.value by_xx.first in
    let yx = signed-was g (at + 2) by_yx.value by_yx.first in
    let xy = signed-was g (at + 4) by_xy.value by_xy.first in
    let yy = signed-was g (at + 6) by_yy.value by_yy.first in
    let room = yy.room in
    let value_xx = xx.is in
    let value_yx = yx.is in
    let value_xy = xy.is in
    let value_yy = yy.is in
    let is : ◌≡◌ {A = Transform} (record { xx = by_xx.value; yx = by_yx.value; xy = by_xy.value; yy = by_yy.value })
    t = cc by_yy.rest in
    rw (← is) (record { is = rw (← value_xx, ← value_yx, ← value_xy, ← value_yy) refl; room = omega arith })

transform-cases : (g : GlyphBytes) (at : ℕ) (a b c : Bool) (t : Transform) → at ≤ length g.bytes
    → (if a then (signed_in g at >>= λ s. Ok (one_scale s))
    else (if b then two_scales_at g at else (if c then two_by_two_at g at else Ok identity))) ≡ Ok t
    → IsField g (at + (if a then 2 else (if b then 4 else (if c then 8 else 0)))) t
    (if a then one_scale (signed16 (unsigned_at g.bytes at 2))
    else (if b then record {
      xx = signed16 (unsigned_at g.bytes at 2);
      yx = pos 0;
      xy = pos 0;
      yy = signed16 (unsigned_at g.bytes (at + 2) 2);
    } else (if c
    then record {
      xx = signed16 (unsigned_at g.bytes at 2);
      yx = signed16 (unsigned_at g.bytes (at + 2) 2);
      xy = signed16 (unsigned_at g.bytes (at + 4) 2);
      yy = signed16 (unsigned_at g.bytes (at + 6) 2);
    } else identity)))
transform-cases g at true b c t le was =
    let through = came-through (signed_in g at) _ t was in
    let scale = signed-was g at through.value through.first in
    let is : one_scale through.value ≡ t = cc through.rest in
    rw (← is) (record { is = ap one_scale scale.is; room = scale.room })
transform-cases g at false true c t le was = two_scales-were g at t was
transform-cases g at false false true t le was = two_by_two-was g at t was
transform-cases g at false false false t le was = record { is = cc; room = omega arith }

pub transform-was : (g : GlyphBytes) (flags at : ℕ) (t : Transform) → at ≤ length g.bytes → transform_at g flags at ≡ Ok t
    → IsField g (at + transform_size flags) t (written_transform g.bytes flags at)
unfolding transform_at
transform-was g flags at t le was =
    transform-cases g at (has flags we_have_a_scale) (has flags we_have_an_x_and_y_scale)
    (has flags we_have_a_two_by_two) t le was

-- a glyph of the font
pub record IsKnown (glyphs number glyph : ℕ) : Type 0 where
  pub is : glyph ≡ number
  pub known : number < glyphs

pub glyph-known : (glyphs : ℕ) (g : GlyphBytes) (at number glyph : ℕ) → known_glyph glyphs g at number ≡ Ok glyph
    → IsKnown glyphs number glyph
unfolding known_glyph
glyph-known glyphs g at number glyph was =
    let p = passed-else (nat_lt number glyphs) _ number glyph was in
    let test = p.0 in
    record { is = sym p.1; known = grind (arith, nat_tests) }

-- facts about a record that was read, with these flags
pub record IsPartBy (glyphs : ℕ) (g : GlyphBytes) (at flags : ℕ) (r : Record) : Type 0 where
  pub is : r ≡ record_of (g.start + at) flags (written_component g.bytes at) (written_argument g.bytes flags (at + 4))
      (written_argument g.bytes flags (at + 4 + argument_size flags))
      (written_transform g.bytes flags (at + 4 + 2 * argument_size flags))
  pub known : written_component g.bytes at < glyphs
  pub room : at + record_size flags ≤ length g.bytes
  pub unscaled : asks_scaled_offset r ≡ false

abbrev pub IsPart : ℕ → GlyphBytes → ℕ → Record → Type 0
IsPart glyphs g at r = IsPartBy glyphs g at (written_component_flags g.bytes at) r

part-was : (g : GlyphBytes) (at : ℕ) (part r : Record) → unscaled g at part ≡ Ok r → (asks_scaled_offset part ≡ false)
    × (part ≡ r)
unfolding unscaled
part-was g at part r was = passed (asks_scaled_offset part) _ part r was

part-make : (glyphs : ℕ) (g : GlyphBytes) (at flags number glyph : ℕ) (args : ArgumentPair) (t : Transform) (r : Record)
    → unscaled g at (record_of (g.start + at) flags glyph args.arg1 args.arg2 t) ≡ Ok r
    → number ≡ written_component g.bytes at → IsKnown glyphs number glyph
    → args ≡ written_arguments g.bytes flags (at + 4) → IsField g
    (at + 4 + 2 * argument_size flags + transform_size flags) t
    (written_transform g.bytes flags (at + 4 + 2 * argument_size flags)) → IsPartBy glyphs g at flags r
part-make glyphs g at flags number glyph args t r was component known arguments transform =
    let p = part-was g at (record_of (g.start + at) flags glyph args.arg1 args.arg2 t) r was in
    let e1 = known.is in
    let e2 = transform.is in
    let room = transform.room in
    let there = known.known in
    let is : record_of (g.start + at) flags glyph args.arg1 args.arg2 t ≡ record_of (g.start + at) flags
    (written_component g.bytes at) (written_argument g.bytes flags (at + 4))
    (written_argument g.bytes flags (at + 4 + argument_size flags))
    (written_transform g.bytes flags (at + 4 + 2 * argument_size flags)) = rw (e1, component, arguments, e2)
    refl in
    record { is = sym p.1 ∙ is; known = rw (← component) there; room = omega arith; unscaled = rw (← p.1) p.0 }

pub record-was : (glyphs : ℕ) (g : GlyphBytes) (at : ℕ) (r : Record) → record_at glyphs g at ≡ Ok r → IsPart glyphs g at r
unfolding record_at
record-was glyphs g at r was =
    let by_flags = came-through (word_in g at) _ r was in
    let flags = by_flags.value in
    let by_number = came-through (word_in g (at + 2)) _ r by_flags.rest in
    let by_glyph = came-through (known_glyph glyphs g at by_number.value) _ r by_number.rest in
    let by_args = came-through (arguments_at g flags (at + 4)) _ r by_glyph.rest in
    let by_t = came-through (transform_at g flags (at + 4 + 2 * argument_size flags)) _ r by_args.rest in
    let args = arguments-were g flags (at + 4) by_args.value by_args.first in
    let number = word-was g (at + 2) by_number.value by_number.first in
    let known = glyph-known glyphs g at by_number.value by_glyph.value by_glyph.first in
    let t = transform-was g flags (at + 4 + 2 * argument_size flags) by_t.value args.room by_t.first in
    rw (word-was g at flags by_flags.first).is at (part-make glyphs g at flags by_number.value by_glyph.value
    by_args.value by_t.value r by_t.rest number.is known args.is t)

-- the records up to the last one, and the offset after them
pub record AreUpTo (g : GlyphBytes) (at : ℕ) (read : Listing Record) : Type 0 where
  pub n : ℕ
  pub goes_on : GoesOn g at n
  pub stops : has (written_component_flags g.bytes (record_place g.bytes at n)) more_components ≡ false
  pub items : written_records g at (suc n) ≡ read.items
  pub next : record_place g.bytes at (suc n) ≡ read.next

-- a good record: within the limit and the bytes, of a glyph of the font, and without a scaled offset
pub record IsGoodRecord (glyphs : ℕ) (g : GlyphBytes) (at n allowed : ℕ) : Type 0 where
  pub few : n < allowed
  pub known : written_component g.bytes at < glyphs
  pub room : record_end g.bytes at ≤ length g.bytes
  pub unscaled : asks_scaled_offset (written_record g at) ≡ false

abbrev pub AreGoodRecords : ℕ → GlyphBytes → ℕ → ℕ → Type 0
AreGoodRecords glyphs g at allowed =
    (n : ℕ) → GoesOn g at n → IsGoodRecord glyphs g (record_place g.bytes at n) n allowed

good-first : (glyphs : ℕ) (g : GlyphBytes) (at allowed : ℕ) (r : Record) → IsPart glyphs g at r
    → IsGoodRecord glyphs g at 0 (suc allowed)
good-first glyphs g at allowed r part =
    let is : r ≡ written_record g at = part.is in
    record { few = omega arith; known = part.known; room = part.room; unscaled = rw is at part.unscaled }

good-last : (glyphs : ℕ) (g : GlyphBytes) (at allowed : ℕ) (r : Record) (n : ℕ) → IsPart glyphs g at r
    → has (written_component_flags g.bytes at) more_components ≡ false → GoesOn g at n
    → IsGoodRecord glyphs g (record_place g.bytes at n) n (suc allowed)
good-last glyphs g at allowed r zero part stops goes_on = good-first glyphs g at allowed r part
good-last glyphs g at allowed r (suc n) part stops goes_on = let more = goes_on.0 in absurd cc

good-more : (glyphs : ℕ) (g : GlyphBytes) (at allowed : ℕ) (r : Record) (n : ℕ) → IsPart glyphs g at r
    → AreGoodRecords glyphs g (record_end g.bytes at) allowed → GoesOn g at n
    → IsGoodRecord glyphs g (record_place g.bytes at n) n (suc allowed)
good-more glyphs g at allowed r zero part others goes_on = good-first glyphs g at allowed r part
good-more glyphs g at allowed r (suc n) part others goes_on =
    let good = others n goes_on.1 in
    let few = good.few in
    record { few = omega arith; known = good.known; room = good.room; unscaled = good.unscaled }

-- the records that were read
pub record ArePartsRead (glyphs : ℕ) (g : GlyphBytes) (at allowed : ℕ) (read : Listing Record) : Type 0 where
  pub are : AreComponents g at read.items
  pub some : 0 < length read.items
  pub few : length read.items ≤ allowed
  pub known : All (λ r. r.glyph < glyphs) read.items
  pub end : read.next ≡ records_end g.bytes at read.items
  pub room : read.next ≤ length g.bytes
  pub up_to : AreUpTo g at read
  pub good : AreGoodRecords glyphs g at allowed

pub flags-are : (glyphs : ℕ) (g : GlyphBytes) (at : ℕ) (r : Record) → IsPart glyphs g at r
    → r.flags ≡ written_component_flags g.bytes at
flags-are glyphs g at r part = ap (λ (x : Record). x.flags) part.is

glyph-is : (glyphs : ℕ) (g : GlyphBytes) (at : ℕ) (r : Record) → IsPart glyphs g at r → r.glyph < glyphs
glyph-is glyphs g at r part =
    let is : r.glyph ≡ written_component g.bytes at = ap (λ (x : Record). x.glyph) part.is in
    let known = part.known in
    rw is known

components-more : (glyphs : ℕ) (g : GlyphBytes) (at : ℕ) (r : Record) (rs : List Record) → IsPart glyphs g at r
    → has r.flags more_components ≡ true → AreComponents g (record_end g.bytes at) rs → AreComponents g at (r ∷ rs)
components-more glyphs g at r [] part goes_on are = absurd are
components-more glyphs g at r (s ∷ rs) part goes_on are = (part.is, part.room, goes_on, are)

parts-last : (glyphs : ℕ) (g : GlyphBytes) (at allowed : ℕ) (r : Record) → IsPart glyphs g at r
    → has r.flags more_components ≡ false → ArePartsRead glyphs g at (suc allowed)
    (record { items = r ∷ []; next = record_end g.bytes at })
parts-last glyphs g at allowed r part stops =
    let is : r ≡ written_record g at = part.is in
    let flags = flags-are glyphs g at r part in
    let stop : has (written_component_flags g.bytes at) more_components ≡ false = rw flags at stops in
    record {
      are = (part.is, part.room, stops);
      some = omega arith;
      few = omega arith;
      known = All-cons (λ r. r.glyph < glyphs) r [] (glyph-is glyphs g at r part) (λ k d below. absurd (omega arith));
      end = refl;
      room = part.room;
      up_to = record { n = 0; goes_on = tt; stops = stop; items = rw (← is) refl; next = refl };
      good = λ n goes_on. good-last glyphs g at allowed r n part stop goes_on;
    }

parts-more : (glyphs : ℕ) (g : GlyphBytes) (at allowed : ℕ) (r : Record) (rest : Listing Record) → IsPart glyphs g at r
    → has r.flags more_components ≡ true → ArePartsRead glyphs g (record_end g.bytes at) allowed rest
    → ArePartsRead glyphs g at (suc allowed) (record { items = r ∷ rest.items; next = rest.next })
parts-more glyphs g at allowed r rest part goes_on read =
    let few = read.few in
    let is : r ≡ written_record g at = part.is in
    let flags = flags-are glyphs g at r part in
    let more : has (written_component_flags g.bytes at) more_components ≡ true = rw flags at goes_on in
    let others = read.up_to in
    record {
      are = components-more glyphs g at r rest.items part goes_on read.are;
      some = omega arith;
      few = omega arith;
      known = All-cons (λ r. r.glyph < glyphs) r rest.items (glyph-is glyphs g at r part) read.known;
      end = read.end;
      room = read.room;
      up_to = record {
        n = suc others.n;
        goes_on = (more, others.goes_on);
        stops = others.stops;
        items = rw (← is) (ap (λ (rs : List Record). r ∷ rs) others.items);
        next = others.next;
      };
      good = λ n goes_on. good-more glyphs g at allowed r n part read.good goes_on;
    }

parts-cases : (glyphs : ℕ) (g : GlyphBytes) (at allowed : ℕ) (r : Record) (rest : Listing Record) (m : Bool)
    → IsPart glyphs g at r → has r.flags more_components ≡ m
    → (if m then records_from glyphs g (at + record_size r.flags) allowed
    else Ok (record { items = []; next = at + record_size r.flags })) ≡ Ok rest
    → (records_from glyphs g (record_end g.bytes at) allowed ≡ Ok rest
    → ArePartsRead glyphs g (record_end g.bytes at) allowed rest)
    → ArePartsRead glyphs g at (suc allowed) (record { items = r ∷ rest.items; next = rest.next })
parts-cases glyphs g at allowed r rest true part is came further =
    let flags = flags-are glyphs g at r part in
    parts-more glyphs g at allowed r rest part is (further (rw flags at came))
parts-cases glyphs g at allowed r rest false part is came further =
    let flags = flags-are glyphs g at r part in
    let e : ◌≡◌ {A = Listing Record} (record { items = []; next = at + record_size r.flags }) rest = cc in
    let place : ◌≡◌ {A = Listing Record} (record { items = []; next = record_end g.bytes at }) rest = rw (← flags) e in
    rw (← place) (parts-last glyphs g at allowed r part is)

pub records-were : (glyphs : ℕ) (g : GlyphBytes) (at allowed : ℕ) (read : Listing Record)
    → records_from glyphs g at allowed ≡ Ok read → ArePartsRead glyphs g at allowed read
unfolding records_from
records-were glyphs g at zero read was = absurd cc
records-were glyphs g at (suc allowed) read was =
    let through = came-through (record_at glyphs g at) _ read was in
    let r = through.value in
    let later = came-after (r ∷ []) (if has r.flags more_components
    then records_from glyphs g (at + record_size r.flags) allowed
    else Ok (record { items = []; next = at + record_size r.flags })) read through.rest in
    let whole = parts-cases glyphs g at allowed r later.read (has r.flags more_components)
    (record-was glyphs g at r through.first) refl later.was
    (λ came. records-were glyphs g (record_end g.bytes at) allowed later.read came) in
    rw later.is whole

nothing-there : (bytes : List ℕ) (at : ℕ) → ◌≡◌ {A = List ℕ} [] (slice_range bytes at (at + 0))
nothing-there bytes at =
    let none : at + 0 - at ≡ 0 = omega arith in
    rw none refl

-- the program that was read
pub record IsProgramRead (g : GlyphBytes) (p : Program) : Type 0 where
  pub place : ℕ
  pub at : p.code_at ≡ g.start + place
  pub within : IsWithin g.bytes p.code place

-- the program read after the records, if one of them announces it
pub record IsProgramAfter (g : GlyphBytes) (next : ℕ) (follows : Bool) (p : Program) : Type 0 where
  pub read : IsProgramRead g p
  pub size : follows ≡ true → (p.code_at ≡ g.start + (next + 2)) × (length p.code ≡ unsigned_at g.bytes next 2)
  pub none : follows ≡ false → p.code ≡ []
  pub room : follows ≡ true → next + 2 + unsigned_at g.bytes next 2 ≤ length g.bytes

program-there : (g : GlyphBytes) (next size : ℕ) (code : List ℕ) → size ≡ unsigned_at g.bytes next 2 → length code ≡ size
    → IsWithin g.bytes code (next + 2) → IsProgramAfter g next true
    (record { code = code; code_at = g.start + (next + 2) })
program-there g next size code is many within =
    let room = within.room in
    record {
      read = record { place = next + 2; at = refl; within = within };
      size = λ t. (refl, many ∙ is);
      none = λ f. absurd cc;
      room = λ t. rw (← is) (omega arith);
    }

program-cases : (g : GlyphBytes) (next : ℕ) (follows : Bool) (p : Program) → next ≤ length g.bytes
    → (if follows then (word_in g next >>= λ size. slice_in g (next + 2) size
    >>= λ code. Ok (record { code = code; code_at = g.start + (next + 2) }))
    else Ok (record { code = []; code_at = g.start + next })) ≡ Ok p → IsProgramAfter g next follows p
program-cases g next true p room was =
    let by_size = came-through (word_in g next) _ p was in
    let by_code = came-through (slice_in g (next + 2) by_size.value) _ p by_size.rest in
    let is : ◌≡◌ {A = Program} (record { code = by_code.value; code_at = g.start + (next + 2) }) p = cc by_code.rest in
    let code = slice-was g (next + 2) by_size.value by_code.value by_code.first in
    rw (← is) (program-there g next by_size.value by_code.value (word-was g next by_size.value by_size.first).is code.0
    code.1)
program-cases g next false p room was =
    let is : ◌≡◌ {A = Program} (record { code = []; code_at = g.start + next }) p = cc in
    rw (← is) (record {
      read = record {
        place = next;
        at = refl;
        within = record {
          room = omega arith;
          is = nothing-there g.bytes next;
        };
      };
      size = λ t. absurd cc;
      none = λ f. refl;
      room = λ t. absurd cc;
    })

pub program-was : (g : GlyphBytes) (records : Listing Record) (p : Program) → records.next ≤ length g.bytes
    → program_of g records ≡ Ok p → IsProgramAfter g records.next (has_program records.items) p
unfolding program_of
program-was g records p room was = program-cases g records.next (has_program records.items) p room was
