-- A composite glyph is refused for a defect that exists: the one that the fault names.
use Rattle.std.proofs.Common.{◌≡◌, ℕ, zero, suc, ◌+◌, ◌*◌, ◌≤◌, Bool, true, false, nat_lt, if◌then◌else◌, [], ◌∷◌, Result, Ok, Err, inl, inr, ℤ, pos, refl, arith, ap, sym, ◌∙◌}
use Rattle.std.specs.Prelude.{◌⊎◌}
use Rattle.std.proofs.lemmas.Bool.Decides.{nat_tests}
use Rattle.tt_core.specs.Chains.{was-err, failed, failed-else}
use Rattle.tt_core.specs.Faults.{Fault}
use Rattle.tt_core.specs.declared.fault.Why.TheVariants as why
use Rattle.tt_core.specs.Limits.{component_limit}
use Rattle.tt_core.specs.Numbers.{unsigned_at}
use Rattle.tt_core.specs.Outcomes.{◌>>=◌}
use Rattle.tt_glyf.specs.declared.raw.Record.{Record}
use Rattle.tt_glyf.specs.Bytes.{GlyphBytes, Listing, byte_in, word_in, signed_in, slice_in, glyph_fault}
use Rattle.tt_glyf.specs.Composite.{ArgumentPair, Transform, Program, signed8, argument_at, arguments_at, one_scale, identity, two_scales_at, two_by_two_at, transform_at, asks_scaled_offset, unscaled, known_glyph, record_at, records_from, records_of, has_program, program_of, composite_of}
use Rattle.tt_glyf.specs.Format.{argument_size, transform_size, record_size, more_components, arg_1_and_2_are_words, args_are_xy_values, we_have_a_scale, we_have_an_x_and_y_scale, we_have_a_two_by_two, has}
use Rattle.tt_glyf.specs.Defects.{IsCut, IsBadRecord, IsRecordsDefect, IsProgramDefect, IsCompositeDefect}
use Rattle.tt_glyf.specs.Meaning.{written_argument, written_transform, record_of, written_component_flags, written_component, record_end}
use Rattle.tt_glyf.proofs.Broken.{cut}
use Rattle.tt_glyf.proofs.Chains.{after-err}
use Rattle.tt_glyf.proofs.Fields.{IsShort, short-further, byte-short, word-was, word-short, signed-short, slice-short}
use Rattle.tt_glyf.proofs.Parts.{AreUpTo, flags-are, arguments-were, written_arguments, transform-was, glyph-known, record-was, records-were}

argument-broke-cases : (g : GlyphBytes) (at : ℕ) (words offsets : Bool) (f : Fault)
    → (if words then (if offsets then signed_in g at else (word_in g at >>= λ n. Ok (pos n)))
    else (byte_in g at >>= λ n. Ok (if offsets then signed8 n else pos n))) ≡ Err f
    → IsShort g (at + (if words then 2 else 1)) f
argument-broke-cases g at true true f was = signed-short g at f was
argument-broke-cases g at true false f was = elim (was-err (word_in g at) _ f was) [
  | inl here ↦ word-short g at f here
  | inr later ↦ let rest = later.rest in absurd cc
]
argument-broke-cases g at false offsets f was = elim (was-err (byte_in g at) _ f was) [
  | inl here ↦ byte-short g at f here
  | inr later ↦ let rest = later.rest in absurd cc
]

argument-broke : (g : GlyphBytes) (flags at : ℕ) (f : Fault) → argument_at g flags at ≡ Err f
    → IsShort g (at + argument_size flags) f
unfolding argument_at
argument-broke g flags at f was =
    argument-broke-cases g at (has flags arg_1_and_2_are_words) (has flags args_are_xy_values) f was

arguments-broke : (g : GlyphBytes) (flags at : ℕ) (f : Fault) → arguments_at g flags at ≡ Err f
    → IsShort g (at + 2 * argument_size flags) f
unfolding arguments_at
arguments-broke g flags at f was = elim (was-err (argument_at g flags at) _ f was) [
  | inl here ↦ short-further g (at + argument_size flags) (at + 2 * argument_size flags) f (omega arith)
      (argument-broke g flags at f here)
  | inr first ↦ elim (was-err (argument_at g flags (at + argument_size flags)) _ f first.rest) [
    | inl here ↦ short-further g (at + argument_size flags + argument_size flags) (at + 2 * argument_size flags) f
        (omega arith) (argument-broke g flags (at + argument_size flags) f here)
    | inr second ↦ let rest = second.rest in absurd cc
  ]
]

two_scales-broke : (g : GlyphBytes) (at : ℕ) (f : Fault) → two_scales_at g at ≡ Err f → IsShort g (at + 4) f
unfolding two_scales_at
two_scales-broke g at f was = elim (was-err (signed_in g at) _ f was) [
  | inl here ↦ short-further g (at + 2) (at + 4) f (omega arith) (signed-short g at f here)
  | inr xx ↦ elim (was-err (signed_in g (at + 2)) _ f xx.rest) [
    | inl here ↦ short-further g (at + 2 + 2) (at + 4) f (omega arith) (signed-short g (at + 2) f here)
    | inr yy ↦ let rest = yy.rest in absurd cc
  ]
]

two_by_two-broke : (g : GlyphBytes) (at : ℕ) (f : Fault) → two_by_two_at g at ≡ Err f → IsShort g (at + 8) f
unfolding two_by_two_at
two_by_two-broke g at f was = elim (was-err (signed_in g at) _ f was) [
  | inl here ↦ short-further g (at + 2) (at + 8) f (omega arith) (signed-short g at f here)
  | inr xx ↦ elim (was-err (signed_in g (at + 2)) _ f xx.rest) [
    | inl here ↦ short-further g (at + 2 + 2) (at + 8) f (omega arith) (signed-short g (at + 2) f here)
    | inr yx ↦ elim (was-err (signed_in g (at + 4)) _ f yx.rest) [
      | inl here ↦ short-further g (at + 4 + 2) (at + 8) f (omega arith) (signed-short g (at + 4) f here)
      | inr xy ↦ elim (was-err (signed_in g (at + 6)) _ f xy.rest) [
        | inl here ↦ short-further g (at + 6 + 2) (at + 8) f (omega arith) (signed-short g (at + 6) f here)
        | inr yy ↦ let rest = yy.rest in absurd cc
      ]
    ]
  ]
]

transform-broke-cases : (g : GlyphBytes) (at : ℕ) (a b c : Bool) (f : Fault)
    → (if a then (signed_in g at >>= λ s. Ok (one_scale s))
    else (if b then two_scales_at g at else (if c then two_by_two_at g at else Ok identity))) ≡ Err f
    → IsShort g (at + (if a then 2 else (if b then 4 else (if c then 8 else 0)))) f
transform-broke-cases g at true b c f was = elim (was-err (signed_in g at) _ f was) [
  | inl here ↦ signed-short g at f here
  | inr later ↦ let rest = later.rest in absurd cc
]
transform-broke-cases g at false true c f was = two_scales-broke g at f was
transform-broke-cases g at false false true f was = two_by_two-broke g at f was
transform-broke-cases g at false false false f was = absurd cc

transform-broke : (g : GlyphBytes) (flags at : ℕ) (f : Fault) → transform_at g flags at ≡ Err f
    → IsShort g (at + transform_size flags) f
unfolding transform_at
transform-broke g flags at f was =
    transform-broke-cases g at (has flags we_have_a_scale) (has flags we_have_an_x_and_y_scale)
    (has flags we_have_a_two_by_two) f was

unknown-broke : (glyphs : ℕ) (g : GlyphBytes) (at number : ℕ) (f : Fault) → known_glyph glyphs g at number ≡ Err f
    → (glyphs ≤ number) × (f ≡ glyph_fault g at why.ComponentGlyph)
unfolding known_glyph
unknown-broke glyphs g at number f was =
    let p = failed-else (nat_lt number glyphs) _ number f was in
    let test = p.0 in
    (grind (arith, nat_tests), p.1)

scaled-broke : (g : GlyphBytes) (at : ℕ) (r : Record) (f : Fault) → unscaled g at r ≡ Err f
    → (asks_scaled_offset r ≡ true) × (f ≡ glyph_fault g at why.ScaledOffset)
unfolding unscaled
scaled-broke g at r f was = failed (asks_scaled_offset r) _ r f was

-- the record with these flags
abbrev record_by : GlyphBytes → ℕ → ℕ → Record
record_by g at flags =
    record_of (g.start + at) flags (written_component g.bytes at) (written_argument g.bytes flags (at + 4))
    (written_argument g.bytes flags (at + 4 + argument_size flags))
    (written_transform g.bytes flags (at + 4 + 2 * argument_size flags))

abbrev IsBadBy : ℕ → GlyphBytes → ℕ → ℕ → Fault → Type 0
IsBadBy glyphs g at flags f =
    IsCut g (at + record_size flags) f
    ⊎ ((glyphs ≤ written_component g.bytes at) × (f ≡ glyph_fault g at why.ComponentGlyph))
    ⊎ ((asks_scaled_offset (record_by g at flags) ≡ true) × (f ≡ glyph_fault g at why.ScaledOffset))

scaled-by : (g : GlyphBytes) (at flags number glyph : ℕ) (args : ArgumentPair) (t : Transform) (f : Fault) → glyph ≡ number
    → number ≡ written_component g.bytes at → args ≡ written_arguments g.bytes flags (at + 4)
    → t ≡ written_transform g.bytes flags (at + 4 + 2 * argument_size flags)
    → unscaled g at (record_of (g.start + at) flags glyph args.arg1 args.arg2 t) ≡ Err f
    → (asks_scaled_offset (record_by g at flags) ≡ true) × (f ≡ glyph_fault g at why.ScaledOffset)
scaled-by g at flags number glyph args t f e1 e2 e3 e4 was =
    let is : record_of (g.start + at) flags glyph args.arg1 args.arg2 t ≡ record_by g at flags = rw (e1, e2, e3, e4)
    refl in
    let p = scaled-broke g at (record_of (g.start + at) flags glyph args.arg1 args.arg2 t) f was in
    (sym (ap asks_scaled_offset is) ∙ p.0, p.1)

record-broke : (glyphs : ℕ) (g : GlyphBytes) (at : ℕ) (f : Fault) → record_at glyphs g at ≡ Err f
    → IsBadRecord glyphs g at f
unfolding record_at
record-broke glyphs g at f was = elim (was-err (word_in g at) _ f was) [
  | inl here ↦ inl (cut g (at + 2) (record_end g.bytes at) f (omega arith) (word-short g at f here))
  | inr by_flags ↦
      let flags = by_flags.value in
      let word = word-was g at flags by_flags.first in
      let bad : IsBadBy glyphs g at flags f = elim (was-err (word_in g (at + 2)) _ f by_flags.rest) [
        | inl here ↦ inl (cut g (at + 2 + 2) (at + record_size flags) f (omega arith) (word-short g (at + 2) f here))
        | inr by_number ↦
            let number = word-was g (at + 2) by_number.value by_number.first in
            elim (was-err (known_glyph glyphs g at by_number.value) _ f by_number.rest) [
              | inl here ↦ inr (inl (rw number.is at (unknown-broke glyphs g at by_number.value f here)))
              | inr by_glyph ↦
                  let known = glyph-known glyphs g at by_number.value by_glyph.value by_glyph.first in
                  elim (was-err (arguments_at g flags (at + 4)) _ f by_glyph.rest) [
                    | inl here ↦ inl (cut g (at + 4 + 2 * argument_size flags) (at + record_size flags) f (omega arith)
                        (arguments-broke g flags (at + 4) f here))
                    | inr by_args ↦
                        let args = arguments-were g flags (at + 4) by_args.value by_args.first in
                        elim (was-err (transform_at g flags (at + 4 + 2 * argument_size flags)) _ f by_args.rest) [
                          | inl here ↦ inl (cut g (at + 4 + 2 * argument_size flags + transform_size flags)
                              (at + record_size flags) f (omega arith)
                              (transform-broke g flags (at + 4 + 2 * argument_size flags) f here))
                          | inr by_t ↦
                              let t = transform-was g flags (at + 4 + 2 * argument_size flags) by_t.value args.room
                              by_t.first in
                              inr (inr (scaled-by g at flags by_number.value by_glyph.value by_args.value by_t.value f
                              known.is number.is args.is t.is by_t.rest))
                        ]
                  ]
            ]
      ] in
      rw word.is at bad
]

-- the records
records-further : (glyphs : ℕ) (g : GlyphBytes) (at allowed : ℕ) (f : Fault)
    → has (written_component_flags g.bytes at) more_components ≡ true
    → IsRecordsDefect glyphs g (record_end g.bytes at) allowed f → IsRecordsDefect glyphs g at (suc allowed) f
records-further glyphs g at allowed f more bad = elim bad [
  | inl one ↦ let few = one.1 in inl (suc one.0, omega arith, (more, one.2), one.3)
  | inr over ↦ inr ((more, over.0), over.1)
]

records-broke-cases : (glyphs : ℕ) (g : GlyphBytes) (at allowed : ℕ) (r : Record) (m : Bool) (f : Fault)
    → r.flags ≡ written_component_flags g.bytes at → has r.flags more_components ≡ m
    → ◌≡◌ {A = Result (Listing Record) Fault} (if m then records_from glyphs g (at + record_size r.flags) allowed
    else Ok (record { items = []; next = at + record_size r.flags })) (Err f)
    → (records_from glyphs g (record_end g.bytes at) allowed ≡ Err f
    → IsRecordsDefect glyphs g (record_end g.bytes at) allowed f) → IsRecordsDefect glyphs g at (suc allowed) f
records-broke-cases glyphs g at allowed r true f flags is came others =
    records-further glyphs g at allowed f (rw flags at is) (others (rw flags at came))
records-broke-cases glyphs g at allowed r false f flags is came others = absurd cc

pub records-broke : (glyphs : ℕ) (g : GlyphBytes) (at allowed : ℕ) (f : Fault) → records_from glyphs g at allowed ≡ Err f
    → IsRecordsDefect glyphs g at allowed f
unfolding records_from
records-broke glyphs g at zero f was = inr (tt, cc)
records-broke glyphs g at (suc allowed) f was = elim (was-err (record_at glyphs g at) _ f was) [
  | inl here ↦ inl (0, omega arith, tt, record-broke glyphs g at f here)
  | inr later ↦
      let r = later.value in
      let rest = after-err (r ∷ []) _ f later.rest in
      records-broke-cases glyphs g at allowed r (has r.flags more_components) f
      (flags-are glyphs g at r (record-was glyphs g at r later.first)) refl rest
      (λ came. records-broke glyphs g (record_end g.bytes at) allowed f came)
]

-- the program
record ProgramBroke (g : GlyphBytes) (next : ℕ) (follows : Bool) (f : Fault) : Type 0 where
  pub says : follows ≡ true
  pub short : IsShort g (next + 2 + unsigned_at g.bytes next 2) f

program-broke-cases : (g : GlyphBytes) (next : ℕ) (follows : Bool) (f : Fault)
    → ◌≡◌ {A = Result Program Fault} (if follows then (word_in g next >>= λ size. slice_in g (next + 2) size
    >>= λ code. Ok (record { code = code; code_at = g.start + (next + 2) }))
    else Ok (record { code = []; code_at = g.start + next })) (Err f) → ProgramBroke g next follows f
program-broke-cases g next true f was = elim (was-err (word_in g next) _ f was) [
  | inl here ↦ record {
    says = refl;
    short = short-further g (next + 2) (next + 2 + unsigned_at g.bytes next 2) f
        (omega arith) (word-short g next f here);
  }
  | inr by_size ↦
      let size = word-was g next by_size.value by_size.first in
      elim (was-err (slice_in g (next + 2) by_size.value) _ f by_size.rest) [
        | inl here ↦ record { says = refl; short = rw size.is at (slice-short g (next + 2) by_size.value f here) }
        | inr by_code ↦ let rest = by_code.rest in absurd cc
      ]
]
program-broke-cases g next false f was = absurd cc

program-broke : (g : GlyphBytes) (records : Listing Record) (f : Fault) → program_of g records ≡ Err f
    → ProgramBroke g records.next (has_program records.items) f
unfolding program_of
program-broke g records f was = program-broke-cases g records.next (has_program records.items) f was

program-after : (g : GlyphBytes) (records : Listing Record) (f : Fault) → AreUpTo g 10 records
    → ProgramBroke g records.next (has_program records.items) f → IsProgramDefect g 10 f
program-after g records f up_to broke =
    let next = up_to.next in
    let items = up_to.items in
    let short = rw (← next) at broke.short in
    (up_to.n, up_to.goes_on, up_to.stops, ap has_program items ∙ broke.says, (short.ends, short.is))

pub composite-broke : (glyphs : ℕ) (g : GlyphBytes) (x_min : ℤ) (f : Fault) → composite_of glyphs g x_min ≡ Err f
    → IsCompositeDefect glyphs g f
unfolding composite_of
composite-broke glyphs g x_min f was = elim (was-err (records_of glyphs g) _ f was) [
  | inl here ↦ inl (records-broke glyphs g 10 component_limit f here)
  | inr by_records ↦
      let records = by_records.value in
      let read = records-were glyphs g 10 component_limit records by_records.first in
      elim (was-err (program_of g records) _ f by_records.rest) [
        | inl here ↦ inr (program-after g records f read.up_to (program-broke g records f here))
        | inr by_program ↦ let rest = by_program.rest in absurd cc
      ]
]
