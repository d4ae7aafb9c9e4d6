-- No part of the standard: the bitmaps of a list of glyph numbers, for C (profile).
use Rattle.std.specs.Prelude.{◌≡◌, ◌≢◌, refl, ℕ, ◌<◌, ◌≤◌, pos, List, [], ◌∷◌, ◌++◌, length, map, take, drop, All, codes, Option, Some, None, Result, Ok, IsOkAnd, ◌⊎◌}
use Rattle.tt_core.specs.declared.fault.JobFault.TheVariants as fault
use Rattle.tt_core.specs.declared.fault.Why.TheVariants as why
use Rattle.tt_core.specs.Faults.{Fault, fault_at, job_number, why_number}
use Rattle.tt_core.specs.Outcomes.{◌>>=◌}
use Rattle.tt_face.specs.Faces.{Face}
use Rattle.tt_face.specs.Instance.{face_at_instance}
use Rattle.tt_fit.specs.declared.programs.Fit.{Fit}
use Rattle.tt_fit.specs.Defects.{IsOutlineDefect}
use Rattle.tt_glyphs.specs.declared.place.InkPlace.{InkPlace}
use Rattle.tt_glyphs.specs.declared.told.GlyphEntry.{GlyphEntry}
use Rattle.tt_glyphs.specs.declared.told.MadeBitmap.{MadeBitmap}
use Rattle.tt_glyphs.specs.declared.told.Told.{Told}
use Rattle.tt_glyphs.specs.declared.told.Told.TheVariants as told
use Rattle.tt_glyphs.specs.Entries.{known}
use Rattle.tt_glyphs.specs.Requests.{Bitmaps, bitmaps_in, job_for, limits_tested}
use Rattle.tt_render_run.specs.Outcome.{of_font}
use Rattle.tt_strike.specs.Defects.{IsSettingDefect}
use Rattle.tt_strike.specs.Makers.{job_at}
use Rattle.tt_strike.specs.Picture.{setting}
use Rattle.tt_strike.specs.Refusals.{as_font, as_job}
use Rattle.tt_strike.specs.Work.{line_fitter}
use Rattle.tt_c_calls.specs.declared.answer.CAnswer.{CAnswer}
use Rattle.tt_c_calls.specs.declared.asked.CJob.{CJob}
use Rattle.tt_c_calls.specs.declared.glyph_bitmaps.CBitmap.{CBitmap}
use Rattle.tt_c_calls.specs.Answers.{DefectStands, TellsRefusal, done_answer, room_answer}
use Rattle.tt_c_calls.specs.Asked.{IsPlainFaceDefect, job_fit, job_instance, plain_of}
use Rattle.tt_c_calls.specs.Refusals.{Refusal, as_call}

-- an entry with a status and the number of a refusal, and no bitmap
abbrev pub empty_bitmap : GlyphEntry → ℕ → ℕ → CBitmap
empty_bitmap e status number = record {
  glyph = e.glyph;
  status = status;
  number = number;
  table = 0 ∷ 0 ∷ 0 ∷ 0 ∷ [];
  offset = 0;
  advance = 0;
  advance_64ths = pos 0;
  left = pos 0;
  top = pos 0;
  width = 0;
  height = 0;
  at = e.at;
}

-- an entry that names a defect of the font
abbrev pub bitmap_with : CBitmap → Fault → CBitmap
bitmap_with b f = record b { number = why_number f.why; table = f.table; offset = f.offset }

-- an entry names the defect that makes its glyph unfitted, if there is one
abbrev pub bitmap_fitted : CBitmap → Option Fault → CBitmap
bitmap_fitted b None = b
bitmap_fitted b (Some f) = bitmap_with b f

-- the entry of a glyph whose rows are made
abbrev pub bitmap_made : GlyphEntry → MadeBitmap → CBitmap
bitmap_made e m = bitmap_fitted (record (empty_bitmap e 0 0) {
  advance = m.advance;
  advance_64ths = m.advance_left;
  left = m.place.left;
  top = m.place.top;
  width = m.place.width;
  height = m.place.height;
}) m.unfitted

-- an entry, by the report of its glyph
abbrev pub bitmap_by : GlyphEntry → Told → CBitmap
bitmap_by e told.Unknown = empty_bitmap e 2 68
bitmap_by e (told.Broken f) = bitmap_with (empty_bitmap e 1 0) f
bitmap_by e told.Large = empty_bitmap e 2 (job_number fault.PictureLarge)
bitmap_by e (told.Made m) = bitmap_made e m

abbrev pub bitmap_told : GlyphEntry → CBitmap
bitmap_told e = bitmap_by e e.told

-- the face of a list by a font file
abbrev pub plain_face : List ℕ → CJob → Fit → Result Face Fault
plain_face file j how = face_at_instance file (plain_of j how) (job_instance j)

-- the bitmaps of a list by a font file. The way to fit, the number of values of axes, the size and the count are tested
-- in this order, and then the font's size
unfoldable pub bitmaps_wanted : CJob → List ℕ → List ℕ → Result Bitmaps Refusal
bitmaps_wanted j glyphs font =
    job_fit j >>= λ how. as_call (as_job (limits_tested glyphs j.size) >>= λ u. of_font (λ file.
    as_font (plain_face file j how) >>= λ face. bitmaps_in face (job_for glyphs j.size how)) font)

-- a defect of a font that refuses a whole list: of the tables that every text needs, or of the tables and programs that
-- every glyph needs
abbrev pub IsListDefect : CJob → List ℕ → Fault → Type 0
IsListDefect j font f = IsOkAnd (job_fit j) (λ how. IsPlainFaceDefect j how font f
    ⊎ IsOkAnd (plain_face font j how) (λ face. IsSettingDefect face (job_at j.size how) f))

-- a defect of one glyph of a list, or of a component reached from the glyph
abbrev pub IsListGlyphDefect : CJob → List ℕ → List ℕ → ℕ → Fault → Type 0
IsListGlyphDefect j glyphs font g f = IsOkAnd (job_fit j) (λ how.
    IsOkAnd (plain_face font j how) (λ face. IsOkAnd (setting face j.size how) (λ s.
    IsOutlineDefect (line_fitter s (known s glyphs) g) g f)))

-- if an entry refuses its glyph for a defect of the font, the defect has a property
abbrev pub EntryStands : (ℕ → Fault → Type 0) → CBitmap → Type 0
EntryStands IsOne b = b.status ≡ 1 → (f : Fault) × (b ≡ bitmap_with b f) × IsOne b.glyph f

-- the entries and the rows of a list were written at the fronts of two rooms
pub record AreBitmapsWritten (b : Bitmaps) (count : ℕ) (rows_old rows_new : List ℕ) (told_old told_new : List CBitmap)
    (a : CAnswer) : Type 0 where
  pub entries : told_new ≡ map bitmap_told b.entries ++ drop count told_old
  pub rows : take b.wanted rows_new ≡ b.rows
  pub rest : drop b.wanted rows_new ≡ drop b.wanted rows_old
  pub answer : a ≡ done_answer b.wanted count

abbrev pub AreBitmapsOf : CJob → List ℕ → List ℕ → List ℕ → List ℕ → List CBitmap → List CBitmap → CAnswer → Type 0
AreBitmapsOf j glyphs font rows_old rows_new told_old told_new a =
    (b : Bitmaps) × (bitmaps_wanted j glyphs font ≡ Ok b) × (length b.entries ≡ length glyphs)
    × AreBitmapsWritten b (length glyphs) rows_old rows_new told_old told_new a

-- the rows of a list are more than a room has, and the answer reports their bytes and the count of the list
abbrev pub IsRowsSmall : CJob → List ℕ → List ℕ → ℕ → CAnswer → Type 0
IsRowsSmall j glyphs font room a =
    (b : Bitmaps) × (bitmaps_wanted j glyphs font ≡ Ok b) × (room < b.wanted) × (a ≡ room_answer b.wanted (length glyphs))

-- the room for the entries is tested first, and then the request; the room for the rows comes last
abbrev pub IsRoomFirst : ℕ → ℕ → CAnswer → Type 0
IsRoomFirst room count a = room < count → a ≡ room_answer 0 count

-- a call made the bitmaps of a list, or says why not
pub record DrawsGlyphs (j : CJob) (glyphs font rows_before rows : List ℕ) (told_before told : List CBitmap) (a : CAnswer)
    : Type 0 where
  pub order : IsRoomFirst (length told_before) (length glyphs) a
  pub done : a.status ≡ 0 → AreBitmapsOf j glyphs font rows_before rows told_before told a
  pub refused : length glyphs ≤ length told_before → a.status ≢ 0 → a.status ≢ 7
      → TellsRefusal (bitmaps_wanted j glyphs font) a
  pub small : length glyphs ≤ length told_before → a.status ≡ 7 → IsRowsSmall j glyphs font (length rows_before) a
  pub kept : a.status ≢ 0 → rows ≡ rows_before
  pub told_kept : a.status ≢ 0 → told ≡ told_before
  pub stands : DefectStands (IsListDefect j font) a
  pub glyphs_stand : a.status ≡ 0 → All (EntryStands (IsListGlyphDefect j glyphs font)) (take (length glyphs) told)

-- worked values
abbrev two_by_two : InkPlace
two_by_two = record { left = pos 1; top = pos 2; width = 2; height = 2 }

an_unfitted_glyph : bitmap_told (record {
  glyph = 1;
  told = told.Made (record {
    advance = 4;
    advance_left = pos 287;
    place = two_by_two;
    unfitted = Some (fault_at (codes "glyf") 17 why.DivZero);
  });
  at = 0;
})
    ≡ record {
      glyph = 1;
      status = 0;
      number = 47;
      table = codes "glyf";
      offset = 17;
      advance = 4;
      advance_64ths = pos 287;
      left = pos 1;
      top = pos 2;
      width = 2;
      height = 2;
      at = 0;
    }
unfolding why_number
an_unfitted_glyph = refl

a_glyph_too_deep : bitmap_told (record {
  glyph = 1;
  told = told.Broken (fault_at (codes "glyf") 10 why.ComponentDepth);
  at = 0;
}) ≡ record {
  glyph = 1;
  status = 1;
  number = 17;
  table = codes "glyf";
  offset = 10;
  advance = 0;
  advance_64ths = pos 0;
  left = pos 0;
  top = pos 0;
  width = 0;
  height = 0;
  at = 0;
}
unfolding why_number
a_glyph_too_deep = refl

no_such_glyph : bitmap_told (record { glyph = 65535; told = told.Unknown; at = 2 })
    ≡ empty_bitmap (record { glyph = 65535; told = told.Unknown; at = 2 }) 2 68
no_such_glyph = refl

too_large : bitmap_told (record { glyph = 1; told = told.Large; at = 0 })
    ≡ empty_bitmap (record { glyph = 1; told = told.Large; at = 0 }) 2 63
unfolding job_number
too_large = refl
