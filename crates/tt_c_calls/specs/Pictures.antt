-- No part of the standard: the rows of a picture, for C (profile). Netpbm, "PBM", format P4, has the bytes of a row;
-- each row begins with a new byte.
use Rattle.std.specs.Prelude.{◌≡◌, ◌≢◌, refl, ℕ, ◌*◌, ◌-◌, ◌<◌, min, pos, ◌+ℤ◌, List, ◌++◌, length, take, drop, Option, Result, Ok, IsOkAnd}
use Rattle.tt_core.specs.Bits.{stride}
use Rattle.tt_face.specs.declared.rules.Opening.{Opening}
use Rattle.tt_face.specs.Instance.{Asked}
use Rattle.tt_core.specs.Outcomes.{◌>>=◌}
use Rattle.tt_render_run.specs.Outcome.{of_font}
use Rattle.tt_render_settings.specs.Products.{IsMadeBy, picture_by}
use Rattle.tt_strike.specs.Job.{ByFace, Job, by_face, tested}
use Rattle.tt_picture.specs.Pictures.{Image, IsReady, Picture, image_of}
use Rattle.tt_strike.specs.Refusals.{Refused, as_job}
use Rattle.tt_face.specs.Faces.{Face}
use Rattle.tt_c_calls.specs.declared.answer.CAnswer.{CAnswer}
use Rattle.tt_c_calls.specs.declared.asked.CJob.{CJob}
use Rattle.tt_c_calls.specs.declared.pictures.CPicture.{CPicture}
use Rattle.tt_c_calls.specs.Answers.{DefectStands, TellsRefusal, done_answer, room_answer}
use Rattle.tt_c_calls.specs.Asked.{IsAskedDefect, asked, grows, job_instance, job_opening}
use Rattle.tt_c_calls.specs.Refusals.{Refusal, as_call}

-- a result made from the tables of a font, after the tests of the job and then of the font's size
abbrev pub made_of : {X : Type 0} → (Face → Result X Refused) → Opening → Option Asked → Job → List ℕ → Result X Refused
made_of make r i a font = as_job (tested a) >>= λ u. of_font (by_face (λ face j. make face) r i a) font

-- the same for a C job, whose text is that of `a`
abbrev pub made_for : {X : Type 0} → (Face → Result X Refused) → CJob → Job → List ℕ → Result X Refused
made_for make j a font = made_of make (job_opening j a.fit) (job_instance j) a font

-- the image of the picture of a text by a font file
unfoldable pub picture_wanted : CJob → List ℕ → List ℕ → Result Image Refusal
picture_wanted j text font =
    asked j text >>= λ a. as_call (made_for (λ face. picture_by (grows j) face a) j a font)

-- a picture is that of a text by a font file
pub record IsPictureOf (j : CJob) (text font : List ℕ) (p : Picture) : Type 0 where
  pub image : picture_wanted j text font ≡ Ok (image_of p)
  pub ready : IsReady p
  pub made : IsOkAnd (asked j text)
      (λ a. ByFace (λ face a. IsMadeBy (grows j) a p face) (job_opening j a.fit) (job_instance j) a font)

-- a picture for C
abbrev pub picture_told : Picture → CPicture
picture_told p = record {
  width = p.frame.width;
  height = p.frame.height;
  row_bytes = stride p.frame.width;
  baseline = p.frame.rise +ℤ pos p.frame.margin;
  unfitted = length p.unfitted;
}

-- the number of rows of a band: at most `count` from row `first` on, of a picture of `height` rows
abbrev pub band_rows : ℕ → ℕ → ℕ → ℕ
band_rows height first count = min count (height - first)

-- the bytes of that band
abbrev pub band_of : Picture → ℕ → ℕ → List ℕ
band_of p first count =
    take (stride p.frame.width * band_rows p.frame.height first count) (drop (stride p.frame.width * first) p.rows)

-- these bytes were written at the front of a room
abbrev pub IsWritten : List ℕ → List ℕ → List ℕ → Type 0
IsWritten bytes old new = new ≡ bytes ++ drop (length bytes) old

-- a band of a picture was written
pub record IsBandWritten (p : Picture) (first count : ℕ) (old new : List ℕ) (told : CPicture) (a : CAnswer)
    : Type 0 where
  pub rows : IsWritten (band_of p first count) old new
  pub picture : told ≡ picture_told p
  pub answer : a ≡ done_answer (length (band_of p first count)) (band_rows p.frame.height first count)

-- a band of the picture of a text was written
abbrev pub IsBandDrawn : CJob → List ℕ → List ℕ → ℕ → ℕ → List ℕ → List ℕ → CPicture → CAnswer → Type 0
IsBandDrawn j text font first count old new told a =
    (p : Picture) × IsPictureOf j text font p × IsBandWritten p first count old new told a

-- a band of a picture is more than a room has, and the answer reports its size
abbrev pub IsBandSmall : Picture → ℕ → ℕ → List ℕ → CAnswer → Type 0
IsBandSmall p first count room a =
    (length room < length (band_of p first count))
    × (a ≡ room_answer (length (band_of p first count)) (band_rows p.frame.height first count))

-- a band of the picture of a text is more than a room has, and the answer reports its size
abbrev pub IsRoomSmall : CJob → List ℕ → List ℕ → ℕ → ℕ → List ℕ → CAnswer → Type 0
IsRoomSmall j text font first count room a =
    (p : Picture) × IsPictureOf j text font p × IsBandSmall p first count room a

-- a call drew a band of the picture of a text into a room and described the picture, or says why not
pub record DrawsBand (j : CJob) (text font : List ℕ) (first count : ℕ) (rows_before rows : List ℕ)
    (told_before told : CPicture) (a : CAnswer) : Type 0 where
  pub done : a.status ≡ 0 → IsBandDrawn j text font first count rows_before rows told a
  pub refused : a.status ≢ 0 → a.status ≢ 7 → TellsRefusal (picture_wanted j text font) a
  pub small : a.status ≡ 7 → IsRoomSmall j text font first count rows_before a
  pub kept : a.status ≢ 0 → rows ≡ rows_before
  pub told_kept : a.status ≢ 0 → told ≡ told_before
  pub stands : DefectStands (IsAskedDefect j text font) a

-- worked values
the_whole_of_three_rows : band_rows 3 0 4096 ≡ 3
the_whole_of_three_rows = refl

the_last_of_three_rows : band_rows 3 2 2 ≡ 1
the_last_of_three_rows = refl

past_three_rows : band_rows 3 4 2 ≡ 0
past_three_rows = refl
