-- A font at a size without a text, for C: the rows of its lines (profile) and of its underline. OpenType, "post":
-- underlinePosition is the upper edge of the underline above the base line, and the thickness follows. A font without
-- these two numbers, or with a thickness that is not above 0, has no underline (profile). Both are rounded to the
-- nearest row, a half up, and an underline has at least one row (profile).
use Rattle.std.specs.Prelude.{◌≡◌, ◌≢◌, refl, ℕ, List, [], ◌∷◌, ◌++◌, codes, replicate, if◌then◌else◌, ℤ, pos, negsuc, ◌*ℤ◌, int_le, Option, Some, None, Result, Ok, Err}
use Rattle.tt_core.specs.Collections.{directory_by}
use Rattle.tt_core.specs.declared.collection.Reading.{Reading}
use Rattle.tt_core.specs.Directory.{Directory, table_of}
use Rattle.tt_core.specs.Faults.{Fault}
use Rattle.tt_core.specs.Numbers.{rounded_quotient, signed_at}
use Rattle.tt_core.specs.Outcomes.{◌>>=◌}
use Rattle.tt_line.specs.declared.measured.LineSize.{LineSize}
use Rattle.tt_line.specs.Sizes.{line_size}
use Rattle.tt_line.specs.Steps.{at_least}
use Rattle.tt_metrics.specs.Metrics.{units_per_em_of}
use Rattle.tt_strike.specs.Refusals.{as_job}
use Rattle.tt_c_calls.specs.declared.answer.CAnswer.{CAnswer}
use Rattle.tt_c_calls.specs.declared.asked.CJob.{CJob}
use Rattle.tt_c_calls.specs.declared.strikes.CStrike.{CStrike}
use Rattle.tt_c_calls.specs.declared.strikes.CUnderline.{CUnderline}
use Rattle.tt_c_calls.specs.Answers.{DefectStands, TellsRefusal, done_answer}
use Rattle.tt_c_calls.specs.Asked.{IsAskedFaceDefect}
use Rattle.tt_c_calls.specs.Lines.{lines_wanted}
use Rattle.tt_c_calls.specs.Refusals.{Refusal, as_call}

abbrev pub no_underline : CUnderline
no_underline = record { exists = 0; top = pos 0; thickness = 0 }

-- the underline of a font with these numbers in font units, at a size and with so many units in an em
abbrev pub underline_told : Option ℤ → Option ℤ → ℕ → ℕ → CUnderline
underline_told None thickness ppem em = no_underline
underline_told (Some top) None ppem em = no_underline
underline_told (Some top) (Some thickness) ppem em = if int_le thickness (pos 0) then no_underline
    else record {
      exists = 1;
      top = rounded_quotient (top *ℤ pos ppem) (pos em);
      thickness = at_least 1 (rounded_quotient (thickness *ℤ pos ppem) (pos em));
    }

abbrev pub number_in : ℕ → Result (Option (List ℕ)) Fault → Option ℤ
number_in at (Ok (Some post)) = signed_at post at
number_in at (Ok None) = None
number_in at (Err fault) = None

-- the signed number at an offset of the table post
unfoldable pub post_number : Directory → ℕ → Option ℤ
post_number d at = number_in at (table_of d (codes "post"))

-- the underline by a directory, and by a reading of a font file
abbrev pub underline_in : Directory → ℕ → ℕ → CUnderline
underline_in d ppem em = underline_told (post_number d 8) (post_number d 10) ppem em

abbrev pub underline_of : Result Directory Fault → ℕ → ℕ → CUnderline
underline_of (Ok d) ppem em = underline_in d ppem em
underline_of (Err fault) ppem em = no_underline

abbrev pub underline_by : List ℕ → Reading → ℕ → ℕ → CUnderline
underline_by font r ppem em = underline_of (directory_by font r) ppem em

-- a strike for C, by the size of a line
abbrev pub strike_told : LineSize → CUnderline → CStrike
strike_told z u = record { rise = z.rise; depth = z.depth; gap = z.gap; step = z.step; underline = u }

-- the strike of a job by a font file: that of a line of one column
unfoldable pub strike_wanted : CJob → List ℕ → Result CStrike Refusal
strike_wanted j font =
    lines_wanted j font >>= λ face.
    as_call (as_job (line_size face.metrics j.size j.margin 1)) >>= λ z.
    Ok (strike_told z (underline_in face.directory j.size (units_per_em_of face.metrics)))

-- a call wrote a strike, or says why not; it took no memory
pub record TellsStrike (j : CJob) (font : List ℕ) (before told : CStrike) (a : CAnswer) : Type 0 where
  pub done : a.status ≡ 0 → (strike_wanted j font ≡ Ok told) × (a ≡ done_answer 0 0)
  pub refused : a.status ≢ 0 → TellsRefusal (strike_wanted j font) a
  pub memory : a.status ≢ 5
  pub kept : a.status ≢ 0 → told ≡ before
  pub stands : DefectStands (IsAskedFaceDefect j font) a

-- worked values, of 1,024 units in an em: at 16, 96 units below the base line are a row and a half, and 48 units three
-- quarters of a row
abbrev at_sixteen : ℤ → ℤ → CUnderline
at_sixteen top thickness = underline_told (Some top) (Some thickness) 16 1024

below_the_base_line : at_sixteen (negsuc 95) (pos 48) ≡ record { exists = 1; top = negsuc 0; thickness = 1 }
below_the_base_line = refl

a_half_goes_up : at_sixteen (negsuc 96) (pos 96) ≡ record { exists = 1; top = negsuc 1; thickness = 2 }
a_half_goes_up = refl

at_least_a_row : at_sixteen (pos 0) (pos 1) ≡ record { exists = 1; top = pos 0; thickness = 1 }
at_least_a_row = refl

no_thickness : at_sixteen (negsuc 95) (pos 0) ≡ no_underline
no_thickness = refl

a_short_table : number_in 10 (Ok (Some (replicate 11 0))) ≡ None
a_short_table = refl

its_numbers : number_in 8 (Ok (Some (replicate 8 0 ++ 0xFF ∷ 0xA0 ∷ 0 ∷ 48 ∷ []))) ≡ Some (negsuc 95)
its_numbers = refl
