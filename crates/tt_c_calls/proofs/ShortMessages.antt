-- Each message has at most 90 bytes, its zero included.
use Rattle.std.proofs.Common.{◌≡◌, ◌≢◌, refl, ap, ℕ, ◌+◌, ◌^◌, ◌<◌, ◌≤◌, ◌==◌, nat_lt, Bool, true, false, List, ◌++◌, length, decimal, Option, Some, None, inl, inr, arith}
use Rattle.std.specs.Prelude.{codes, if◌then◌else◌}
use Rattle.std.specs.Fmt.{digits}
use Rattle.std.proofs.lemmas.Bool.{cases_eq}
use Rattle.std.proofs.lemmas.Bool.Decides.{nat_tests}
use Rattle.std.proofs.lemmas.Fmt.{length-decimal-le}
use Rattle.std.proofs.lemmas.List.{length-append}
use Rattle.tt_core.specs.declared.fault.JobFault.{JobFault}
use Rattle.tt_core.specs.declared.fault.JobFault.TheVariants as job
use Rattle.tt_core.specs.declared.fault.Why.{Why}
use Rattle.tt_core.specs.declared.fault.Why.TheVariants as why
use Rattle.tt_core.specs.Faults.{Fault, fault_at, is_ascii, job_fault_of, job_name, job_number, why_name, why_number, why_of}
use Rattle.tt_render_streams.specs.declared.fault.RunFault.TheVariants as run
use Rattle.tt_render_streams.specs.Messages.{fault_words, font_line, job_line, job_words, line_of}
use Rattle.tt_c_calls.specs.declared.answer.CAnswer.{CAnswer}
use Rattle.tt_c_calls.specs.Laws.{AnswerFits, MessagesAreShort, ShortRoomsAreEnough}
use Rattle.tt_c_calls.specs.Messages.{defect_message, defect_of, fault_of, fault_text, job_message, message_of, refusal_text, room_message, unknown_text}

-- a text that begins with another, and one of two texts

joined : (front text : List ℕ) (n m : ℕ) → length front ≤ n → length text ≤ m → length (front ++ text) ≤ n + m
joined front text n m first rest = omega (arith, length-append front text, first, rest)

either : (b : Bool) (x y : List ℕ) (n : ℕ) → length x ≤ n → length y ≤ n → length (if b then x else y) ≤ n
either true x y n first other = first
either false x y n first other = other

more : (text : List ℕ) (n m : ℕ) → length text ≤ n → n ≤ m → length text ≤ m
more text n m short few = omega (arith, short, few)

-- a text by the test of its length
by_test : (text : List ℕ) (n : ℕ) → nat_lt (length text) (n + 1) ≡ true → length text ≤ n
by_test text n short = grind (arith, nat_tests, short)

-- numbers of 32 and of 64 bits

digits_32 : (n : ℕ) → n < 2 ^ 32 → length (decimal n) ≤ 10
digits_32 n fits = length-decimal-le 10 n (omega arith) (omega (arith, fits)) (omega (arith, fits))

digits_64 : (n : ℕ) → n < 2 ^ 64 → length (decimal n) ≤ 20
digits_64 n fits = length-decimal-le 20 n (omega arith) (omega (arith, fits)) fits

-- the number and the name of a refusal

abbrev why_words : Why → List ℕ
why_words w = decimal (why_number w) ++ (codes " " ++ why_name w)

why_tested : (w : Why) → nat_lt (length (why_words w)) 21 ≡ true
unfolding why_number why_name digits
why_tested why.BadVersion = refl
why_tested why.DirShort = refl
why_tested why.NoTable = refl
why_tested why.TableRange = refl
why_tested why.HeadMagic = refl
why_tested why.EmRange = refl
why_tested why.LocaFormat = refl
why_tested why.MaxpVersion = refl
why_tested why.MetricsShort = refl
why_tested why.NoCmap = refl
why_tested why.CmapShape = refl
why_tested why.LocaShort = refl
why_tested why.GlyphRange = refl
why_tested why.GlyphShort = refl
why_tested why.ContourOrder = refl
why_tested why.FlagRun = refl
why_tested why.ComponentDepth = refl
why_tested why.ComponentCount = refl
why_tested why.ComponentGlyph = refl
why_tested why.MatchPoint = refl
why_tested why.ScaledOffset = refl
why_tested why.PointLimit = refl
why_tested why.CoordRange = refl
why_tested why.CollectionVersion = refl
why_tested why.NoFace = refl
why_tested why.VariationShape = refl
why_tested why.NoAxis = refl
why_tested why.NoInstance = refl
why_tested why.GlyphVariation = refl
why_tested why.StepLimit = refl
why_tested why.StackFull = refl
why_tested why.StackShort = refl
why_tested why.CallDepth = refl
why_tested why.BadOpcode = refl
why_tested why.OffProfile = refl
why_tested why.JumpRange = refl
why_tested why.CodeShort = refl
why_tested why.NoFunction = refl
why_tested why.DefinitionPlace = refl
why_tested why.IfOpen = refl
why_tested why.NoEndf = refl
why_tested why.PointRange = refl
why_tested why.ContourRange = refl
why_tested why.ZoneRange = refl
why_tested why.CvtRange = refl
why_tested why.StorageRange = refl
why_tested why.DivZero = refl
why_tested why.ValueRange = refl
why_tested why.Perpendicular = refl
why_tested why.BadArgument = refl

job_tested : (j : JobFault) → nat_lt (length (job_words j)) 21 ≡ true
unfolding job_number job_name digits
job_tested job.SizeRange = refl
job_tested job.TextLong = refl
job_tested job.EmptyPicture = refl
job_tested job.PictureLarge = refl
job_tested job.MarginRange = refl
job_tested job.WorkLarge = refl

-- the text of each status

unknown_short : length unknown_text ≤ 89
unknown_short = by_test unknown_text 89 refl

line_short : (f : Fault) → length f.table ≡ 4 → f.offset < 2 ^ 32 → length (font_line f) ≤ 89
line_short f four fits =
    let words : length (why_words f.why) ≤ 20 = by_test (why_words f.why) 20 (why_tested f.why) in
    let behind : length (codes ": " ++ why_words f.why) ≤ 22 = joined (codes ": ") (why_words f.why) 2 20 (by_test (codes ": ") 2 refl) words in
    let at = decimal f.offset ++ (codes ": " ++ why_words f.why) in
    let from : length at ≤ 32 = joined (decimal f.offset) (codes ": " ++ why_words f.why) 10 22 (digits_32 f.offset fits) behind in
    let sign : length (codes "+" ++ at) ≤ 33 = joined (codes "+") at 1 32 (by_test (codes "+") 1 refl) from in
    let tag : length (fault_words f) ≤ 37 = joined f.table (codes "+" ++ at) 4 33 (omega (arith, four)) sign in
    more (font_line f) 48 89 (joined (codes "tt_render: ") (fault_words f) 11 37 (by_test (codes "tt_render: ") 11 refl) tag) (omega arith)

ascii_short : (ascii : Bool) (f : Fault) → length (font_line f) ≤ 89 → length (fault_text (if ascii then Some f else None)) ≤ 89
ascii_short true f short = short
ascii_short false f short = unknown_short

fault_short : (table : List ℕ) (offset : ℕ) (w : Option Why) → length table ≡ 4 → offset < 2 ^ 32
    → length (fault_text (fault_of table offset w)) ≤ 89
fault_short table offset None four fits = unknown_short
fault_short table offset (Some w) four fits =
    ascii_short (is_ascii table) (fault_at table offset w) (line_short (fault_at table offset w) four fits)

defect_short : (a : CAnswer) → AnswerFits a → length (defect_message a) ≤ 89
unfolding defect_of
defect_short a fits = fault_short a.table a.offset (why_of a.number) fits.table fits.offset

refusal_short : (j : Option JobFault) → length (refusal_text j) ≤ 89
refusal_short None = unknown_short
refusal_short (Some j) =
    let words : length (job_words j) ≤ 20 = by_test (job_words j) 20 (job_tested j) in
    more (job_line j) 31 89 (joined (codes "tt_render: ") (job_words j) 11 20 (by_test (codes "tt_render: ") 11 refl) words) (omega arith)

job_short : (a : CAnswer) → length (job_message a) ≤ 89
job_short a =
    either (a.number == 66) _ _ 89 (by_test (codes "tt_render: 66 UnknownFit") 89 refl)
    (either (a.number == 67) _ _ 89 (by_test (codes "tt_render: 67 LineEnds") 89 refl)
    (either (a.number == 68) _ _ 89 (by_test (codes "tt_render: 68 GlyphNumber") 89 refl)
    (either (a.number == 69) _ _ 89 (by_test (codes "tt_render: 69 WidthRange") 89 refl)
    (either (a.number == 70) _ _ 89 (by_test (codes "tt_render: 70 BoxRange") 89 refl)
    (either (a.number == 71) _ _ 89 (by_test (codes "tt_render: 71 BoxSmall") 89 refl)
    (either (a.number == 72) _ _ 89 (by_test (codes "tt_render: 72 UnknownAlign") 89 refl)
    (either (a.number == 73) _ _ 89 (by_test (codes "tt_render: 73 AxesMany") 89 refl)
    (refusal_short (job_fault_of a.number)))))))))

room_short : (a : CAnswer) → AnswerFits a → length (room_message a) ≤ 89
room_short a fits =
    let count = decimal a.count ++ codes " entries is wanted" in
    let bytes = decimal a.bytes ++ (codes " bytes and " ++ count) in
    let last : length count ≤ 38 = joined (decimal a.count) (codes " entries is wanted") 20 18 (digits_64 a.count fits.count)
    (by_test (codes " entries is wanted") 18 refl) in
    let next : length (codes " bytes and " ++ count) ≤ 49 = joined (codes " bytes and ") count 11 38 (by_test (codes " bytes and ") 11 refl) last in
    let first : length bytes ≤ 69 = joined (decimal a.bytes) (codes " bytes and " ++ count) 20 49 (digits_64 a.bytes fits.bytes) next in
    joined (codes "tt_render: room for ") bytes 20 69 (by_test (codes "tt_render: room for ") 20 refl) first

message_short : (a : CAnswer) → AnswerFits a → length (message_of a) ≤ 89
unfolding message_of
message_short a fits =
    either (a.status == 0) _ _ 89 (by_test (codes "tt_render: done") 89 refl)
    (either (a.status == 1) _ _ 89 (defect_short a fits)
    (either (a.status == 2) _ _ 89 (job_short a)
    (either (a.status == 3) _ _ 89 (by_test (line_of run.FontLarge) 89 refl)
    (either (a.status == 5) _ _ 89 (by_test (line_of run.Memory) 89 refl)
    (either (a.status == 6) _ _ 89 (by_test (codes "tt_render: not UTF-8") 89 refl)
    (either (a.status == 7) _ _ 89 (room_short a fits) unknown_short))))))

pub messages_are_short : MessagesAreShort
messages_are_short a fits = omega (arith, message_short a fits)

-- the answer of a call that writes a message

by_status : (n bytes : ℕ) → (n ≡ 0 → bytes ≤ 90) → (n ≡ 7 → bytes ≤ 90) → (n ≢ 0 → n ≢ 7 → bytes ≤ 90) → bytes ≤ 90
by_status n bytes done small refused = elim (cases_eq n 0) [
  | inl zero ↦ done zero
  | inr some ↦
      elim (cases_eq n 7) [
        | inl seven ↦ small seven
        | inr other ↦ refused some other
      ]
]

pub short_rooms_are_enough : ShortRoomsAreEnough
short_rooms_are_enough told a before room fits writes =
    let short : length (message_of told) + 1 ≤ 90 = messages_are_short told fits in
    record {
      bytes = by_status a.status a.bytes
          (λ done. let count : a.bytes ≡ length (message_of told) + 1 = ap (λ (x : CAnswer). x.bytes) (writes.done done).1 in omega (arith, count, short))
          (λ small. let count : a.bytes ≡ length (message_of told) + 1 = ap (λ (x : CAnswer). x.bytes) (writes.small small).1 in omega (arith, count, short))
          (λ some other. let count : a.bytes ≡ 0 = ap (λ (x : CAnswer). x.bytes) (writes.refused some other) in omega (arith, count));
      enough = λ wide small. let lacks = (writes.small small).0 in omega (arith, wide, lacks, short);
    }
