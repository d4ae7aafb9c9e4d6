-- No part of the standard: the drawing of a text's lines in order (profile).
use Rattle.std.specs.Prelude.{◌≡◌, refl, ℕ, ◌+◌, ◌*◌, Bool, true, false, ◌&&◌, nat_le, nat_lt, if◌then◌else◌, List, [], ◌∷◌, ◌++◌, length, map, codes, Option, Some, None, Result, Ok, Err}
use Rattle.std.specs.Fmt.{digits}
use Rattle.std.specs.Str.{is_utf8}
use Rattle.tt_core.specs.declared.fault.JobFault.TheVariants as fault
use Rattle.tt_strike.specs.Refusals.{font, job, large}
use Rattle.tt_strike.specs.Strikes.{Strike}
use Rattle.tt_render_settings.specs.declared.setting.Setting.{Setting}
use Rattle.tt_render_texts.specs.Lines.{line_limit, lines_of}
use Rattle.tt_render_texts.specs.Reports.{report_text_of, told_of}
use Rattle.tt_render_texts.specs.Answers.{TextAnswer}
use Rattle.tt_render_settings.specs.Texts.{TextRefusal, not_utf8, refused, text_answer}

-- lines of a text
abbrev pub lines_limit : ℕ
lines_limit = 4294967295

-- the answer of a line: its length is tested first, and then its UTF-8
abbrev pub line_answer : (List ℕ → Result TextAnswer TextRefusal) → List ℕ → Result TextAnswer TextRefusal
line_answer answer line =
    if nat_lt line_limit (length line) then Err (refused (job fault.TextLong))
    else if is_utf8 line then answer line
    else Err not_utf8

-- the answer of a line that is drawn by a strike
unfoldable pub line_drawn : Setting → Strike → List ℕ → Result TextAnswer TextRefusal
line_drawn a s line = line_answer (text_answer a s) line

-- where outputs go: what stands there for an output, by its line's number and by its bytes; and whether each has a place
-- of its own, which is made for it
pub record Outlet : Type 0 where
  pub shown : Option ℕ → List ℕ → List ℕ
  pub creates : Bool

-- a stream has the bytes of each output, one after the other
abbrev pub stream : Outlet
stream = record { shown = λ number bytes. bytes; creates = false }

-- places of their own, by what stands there for an output
abbrev pub places : (Option ℕ → List ℕ → List ℕ) → Outlet
places shown = record { shown = shown; creates = true }

-- the drawing of each line: where its output goes, its answer, and the report of a refused line where the lines behind
-- such a line are drawn
pub record Drawing : Type 0 where
  pub to : Outlet
  pub answer : List ℕ → Result TextAnswer TextRefusal
  pub tells : Option (ℕ → TextRefusal → List ℕ)

-- what the lines of a call may take before one more is drawn, by how many they are
abbrev pub lines_budget : ℕ → ℕ
lines_budget before = 10000000 + 4000000 * before

-- what a refused line takes of this budget: as much as a line takes at most that is drawn, where its glyphs are too much
-- work; else nothing
abbrev pub cost_refused : TextRefusal → ℕ
cost_refused (refused (job fault.WorkLarge)) = 52000000
cost_refused why = 0

-- what a line takes of it
abbrev pub cost_drawn : Result TextAnswer TextRefusal → ℕ
cost_drawn (Ok a) = a.cost
cost_drawn (Err why) = cost_refused why

-- the same behind lines that took this much: nothing, where they took more than the budget
abbrev pub cost_behind : ℕ → ℕ → Result TextAnswer TextRefusal → ℕ
cost_behind before used answer = if nat_lt (lines_budget before) used then 0 else cost_drawn answer

-- the answer of a line behind others, which took this much. No line is drawn where they took more than the budget
abbrev pub tried : Drawing → ℕ → ℕ → List ℕ → Result TextAnswer TextRefusal
tried d before used line =
    if nat_lt (lines_budget before) used && nat_le (length line) line_limit
    then Err (refused (job fault.WorkLarge)) else d.answer line

-- a refusal of a line alone; one of the font stops a call
abbrev pub is_of_line : TextRefusal → Bool
is_of_line (refused (font f)) = false
is_of_line (refused large) = false
is_of_line why = true

-- the report of a refused line, where the lines behind it are drawn
abbrev pub passing : Option (ℕ → TextRefusal → List ℕ) → ℕ → TextRefusal → Option (List ℕ)
passing None number why = None
passing (Some tell) number why = if is_of_line why then Some (tell number why) else None

-- the drawing of lines: their outputs as they stand; the reports, those of refused lines among them; what the lines took;
-- the number of the first line that was refused and passed over, with its refusal; and the same of the line that stopped
-- the drawing
pub record LinesDrawn : Type 0 where
  pub bytes : List ℕ
  pub told : List ℕ
  pub used : ℕ
  pub first : Option (ℕ × TextRefusal)
  pub stop : Option (ℕ × TextRefusal)

-- a refused line, by its report, followed by the drawing of the later lines
abbrev pub passed_with : ℕ → ℕ → TextRefusal → Option (List ℕ) → LinesDrawn → LinesDrawn
passed_with number used why (Some words) after = record after { told = words ++ after.told; first = Some (number, why) }
passed_with number used why None after =
    record { bytes = []; told = []; used = used; first = None; stop = Some (number, why) }

-- a line's answer, followed by the drawing of the later lines
abbrev pub drawn_with : Drawing → ℕ → ℕ → Result TextAnswer TextRefusal → LinesDrawn → LinesDrawn
drawn_with d number used (Ok a) after = record after {
  bytes = d.to.shown (Some number) a.bytes ++ after.bytes;
  told = told_of (Some number) a ++ after.told;
}
drawn_with d number used (Err why) after = passed_with number used why (passing d.tells number why) after

-- the drawing of lines behind others, which took this much
abbrev pub drawn_from : Drawing → ℕ → ℕ → List (List ℕ) → LinesDrawn
drawn_from d before used [] = record { bytes = []; told = []; used = used; first = None; stop = None }
drawn_from d before used (line ∷ lines) =
    drawn_with d (before + 1) used (tried d before used line)
    (drawn_from d (before + 1) (used + cost_behind before used (tried d before used line)) lines)

-- the drawing of a text's lines
abbrev pub text_drawn : Drawing → List ℕ → LinesDrawn
text_drawn d text = drawn_from d 0 0 (lines_of text)

-- worked values
-- lines of one letter are drawn and reported, others are refused
letters : Option (ℕ → TextRefusal → List ℕ) → Drawing
letters tells = record {
  to = stream;
  answer = λ line. if nat_lt 1 (length line) then Err not_utf8
      else Ok (record { bytes = line; unfitted = []; lacking = line; cost = 7000000; label = None });
  tells = tells;
}

-- the first two lines are drawn
as_many_as_are_drawn : drawn_from (letters None) 0 0 (codes "A" ∷ (codes "B" ∷ (codes "CD" ∷ (codes "E" ∷ []))))
    ≡ record {
      bytes = codes "AB";
      told = codes "tt_render: line 1: U+0041 has no glyph\ntt_render: line 2: U+0042 has no glyph\n";
      used = 14000000;
      first = None;
      stop = Some (3, not_utf8);
    }
unfolding letters report_text_of digits
as_many_as_are_drawn = refl

-- all but the third and the fourth are drawn; the third is the first that was refused
all_but_the_refused : drawn_from (letters (Some (λ number why. codes "no\n"))) 0 0
    (codes "A" ∷ (codes "B" ∷ (codes "CD" ∷ (codes "EF" ∷ (codes "G" ∷ [])))))
    ≡ record {
      bytes = codes "ABG";
      told = codes "tt_render: line 1: U+0041 has no glyph\ntt_render: line 2: U+0042 has no glyph\nno\nno\ntt_render: line 5: U+0047 has no glyph\n";
      used = 21000000;
      first = Some (3, not_utf8);
      stop = None;
    }
unfolding letters report_text_of digits
all_but_the_refused = refl

the_font_stops_all : is_of_line (refused large) ≡ false
the_font_stops_all = refl

a_file_of_each_line : (drawn_from (record (letters None) { to = record { shown = λ number bytes. 70 ∷ bytes; creates = true } }) 0 0
    (codes "A" ∷ (codes "B" ∷ []))).bytes ≡ codes "FAFB"
unfolding letters
a_file_of_each_line = refl

the_first_line_may_follow_nothing : lines_budget 0 ≡ 10000000
the_first_line_may_follow_nothing = refl

the_fifth_line : lines_budget 4 ≡ 26000000
the_fifth_line = refl

-- two lines may take 14,000,000, but a third line is not begun behind two that took more
behind_dear_lines : map (λ used. tried (letters None) 1 used (codes "B")) (14000000 ∷ 14000001 ∷ [])
    ≡ Ok (record { bytes = codes "B"; unfitted = []; lacking = codes "B"; cost = 7000000; label = None })
    ∷ Err (refused (job fault.WorkLarge)) ∷ []
unfolding letters
behind_dear_lines = refl

-- a line behind a spent budget takes nothing, so the next one is drawn
one_behind_a_spent_budget : (drawn_from (letters (Some (λ number why. codes "!"))) 1 14000001 (codes "A" ∷ (codes "B" ∷ [])))
    ≡ record {
      bytes = codes "B";
      told = codes "!tt_render: line 3: U+0042 has no glyph\n";
      used = 21000001;
      first = Some (2, refused (job fault.WorkLarge));
      stop = None;
    }
unfolding letters report_text_of digits
one_behind_a_spent_budget = refl

-- a line that is too much work by itself takes 52,000,000, and the later ones are refused until their shares have paid
by_itself : Result TextAnswer TextRefusal
by_itself = Err (refused (job fault.WorkLarge))

taken_by_itself : map (λ used. cost_behind 1 used by_itself) (14000000 ∷ 14000001 ∷ []) ≡ 52000000 ∷ 0 ∷ []
unfolding by_itself
taken_by_itself = refl

refused_until_paid : map (λ before. tried (letters None) before 52000000 (codes "B")) (10 ∷ 11 ∷ [])
    ≡ by_itself ∷ Ok (record { bytes = codes "B"; unfitted = []; lacking = codes "B"; cost = 7000000; label = None }) ∷ []
unfolding letters by_itself
refused_until_paid = refl

-- a line that is not UTF-8 takes nothing
some_lines_take_nothing : cost_drawn (Err not_utf8) ≡ 0
some_lines_take_nothing = refl
