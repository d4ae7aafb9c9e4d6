-- The promises of reading the lines of a text.
use Rattle.std.specs.Prelude.{◌≡◌, ℕ, ◌-◌, ◌<◌, List, [], ◌∷◌, ◌++◌, length, take, drop, Option, Some, None, IfSome, Result, Ok, Err, ⊤}
use Rattle.std.specs.Io.KnownBytes.{Consumes, IsAtEnd, Keeps, prepend_known}
use Rattle.tt_render_texts.specs.declared.lines.LinePlace.{LinePlace}
use Rattle.tt_render_texts.specs.declared.lines.LineReader.{LineReader}
use Rattle.tt_render_texts.specs.declared.lines.NextLine.{NextLine}
use Rattle.tt_render_texts.specs.declared.lines.NextLine.TheVariants as next
use Rattle.tt_render_texts.specs.Lines.{line_limit, lines_of}

-- the bytes read and not yet given out
abbrev pub held : LineReader → List ℕ
held r = drop r.from (take r.until r.buf.items)

-- the bytes of a line that was given out
abbrev pub line_at : LineReader → LinePlace → List ℕ
line_at r place = take (place.until - place.from) (drop place.from r.buf.items)

-- a reader holds n bytes more, taken from its source
abbrev pub GetsMore : List ℕ → List ℕ → Option (List ℕ) → Option (List ℕ) → ℕ → Type 0
GetsMore before after left_before left_after n =
    (bytes : List ℕ) × (length bytes ≡ n) × (after ≡ before ++ bytes) × Consumes left_before left_after bytes

-- the remaining text, where it is known: the held bytes, and then those of the source
abbrev pub text_left : LineReader → Option (List ℕ) → Option (List ℕ)
text_left r left = prepend_known (held r) left

-- a known text loses its first line
abbrev pub LosesLine : Option (List ℕ) → Option (List ℕ) → List ℕ → Type 0
LosesLine None after line = ⊤
LosesLine (Some text) None line = ⊥
LosesLine (Some text) (Some rest) line = lines_of text ≡ line ∷ lines_of rest

-- a known text loses its first line, whichever that is
abbrev pub LosesFirst : Option (List ℕ) → Option (List ℕ) → Type 0
LosesFirst before after = (line : List ℕ) × LosesLine before after line

-- the first line of a text is too long
abbrev pub BeginsLong : List ℕ → Type 0
BeginsLong text = (line : List ℕ) × (rest : List (List ℕ)) × (lines_of text ≡ line ∷ rest) × (line_limit < length line)

-- the remaining text after reading a line; a line that is too long, and a failed read, leave the text
-- unchanged; some bytes of that line are held
abbrev pub ReadsLine : {E : Type 0} → LineReader → Result NextLine E → Option (List ℕ) → Option (List ℕ) → Type 0
ReadsLine r (Ok (next.Line place)) before after = LosesLine before after (line_at r place)
ReadsLine r (Ok next.Long) before after = IfSome before BeginsLong × Keeps before after × (0 < length (held r))
ReadsLine r (Ok next.End) before after = IfSome before (λ text. lines_of text ≡ []) × IsAtEnd after
ReadsLine r (Err e) before after = Keeps before after
