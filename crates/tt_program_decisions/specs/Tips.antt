-- No part of the standard: what helps a person where the parser of the command line refuses its words (profile). The
-- first line of the parser's text says what is wrong. A tip stands behind that line, in place of the parser's advice.
use Rattle.std.specs.Prelude.{◌≡◌, refl, ℕ, ◌-◌, ◌==◌, Bool, true, false, not, ◌||◌, ◌&&◌, nat_lt, if◌then◌else◌, List, [], ◌∷◌, ◌++◌, length, take, drop, map, slice_index, codes, bytes_eq, Option, Some, None}
use Rattle.std.specs.List.{before_first}
use Rattle.tt_advice.specs.Kinds.{begins}
use Rattle.tt_program_decisions.specs.declared.tips.Tip.{Tip}
use Rattle.tt_program_decisions.specs.declared.tips.Tip.TheVariants as tip

-- whether some bytes end with others
abbrev pub ends : List ℕ → List ℕ → Bool
ends bytes with_these = bytes_eq (drop (length bytes - length with_these) bytes) with_these

abbrev pub first_line : List ℕ → List ℕ
first_line text = before_first (λ b. b == 10) text

-- what a line has behind its front and before its end, if these are there
abbrev pub behind : List ℕ → List ℕ → Option (List ℕ)
behind line front = if begins line front then Some (drop (length front) line) else None

abbrev pub before : List ℕ → List ℕ → Option (List ℕ)
before line end = if ends line end then Some (take (length line - length end) line) else None

abbrev pub before_in : List ℕ → Option (List ℕ) → Option (List ℕ)
before_in end None = None
before_in end (Some line) = before line end

-- the word that a line calls unexpected
unfoldable pub unexpected_word : List ℕ → Option (List ℕ)
unexpected_word line = before_in (codes "' found") (behind line (codes "error: unexpected argument '"))

-- whether a line says that the value of `--size` has another character than digits, or none
unfoldable pub is_no_number : List ℕ → Bool
is_no_number line =
    begins line (codes "error: invalid value '")
    && (ends line (codes "' for '--size <N>': invalid digit found in string")
    || ends line (codes "' for '--size <N>': cannot parse integer from empty string"))

-- the commands
unfoldable pub is_command : List ℕ → Bool
is_command name =
    bytes_eq name (codes "label") || bytes_eq name (codes "draw") || bytes_eq name (codes "measure")
    || bytes_eq name (codes "map") || bytes_eq name (codes "faces") || bytes_eq name (codes "bdf")

-- a word that no parser takes for an option; a dash alone is such a word
abbrev pub is_plain_word : List ℕ → Bool
is_plain_word word = nat_lt (length word) 2 || not (slice_index word 0 == 45)

abbrev pub is_output : List ℕ → Bool
is_output word = bytes_eq word (codes "-o") || bytes_eq word (codes "--output")

-- the tip about an unexpected word: each command but `faces` has a text, which the word may belong to
unfoldable pub tip_of_word : List ℕ → List ℕ → Option Tip
tip_of_word command word =
    if is_output word then Some tip.Output
    else (if bytes_eq word (codes "--font") then Some tip.Font
    else (if not (bytes_eq command (codes "faces")) && is_plain_word word then Some tip.Quotes else None))

abbrev pub tip_of_size : List ℕ → Option Tip
tip_of_size line = if is_no_number line then Some tip.Size else None

abbrev pub tip_by : List ℕ → List ℕ → Option (List ℕ) → Option Tip
tip_by command line (Some word) = tip_of_word command word
tip_by command line None = tip_of_size line

-- the tip about a refusal by its first line, if there is one
unfoldable pub tip_of : List ℕ → List ℕ → Option Tip
tip_of command line = if is_command command then tip_by command line (unexpected_word line) else None

-- the words of a tip
abbrev pub tip_words : List ℕ → Tip → List ℕ
tip_words command tip.Output = command ++ codes " writes to standard output: > FILE"
tip_words command tip.Font = codes "FONT is an argument: leave out --font"
tip_words command tip.Size = codes "--size is a whole number of pixels"
tip_words command tip.Quotes = codes "quote the text"

-- the first line alone, and then the tip's; without a tip the parser's text as it is
abbrev pub text_with : List ℕ → List ℕ → Option Tip → List ℕ
text_with command refusal None = refusal
text_with command refusal (Some t) =
    first_line refusal ++ (codes "\ntt_render: " ++ (tip_words command t ++ codes "\n"))

unfoldable pub refused_text : List ℕ → List ℕ → List ℕ
refused_text command refusal = text_with command refusal (tip_of command (first_line refusal))

-- worked values: a file for the output, an option for the font, a second word, and no tip
a_file_for_the_output : refused_text (codes "draw") (codes "error: unexpected argument '-o' found\n\n  tip: to pass '-o' as a value, use '-- -o'\n\nUsage: tt_render draw\n")
    ≡ codes "error: unexpected argument '-o' found\ntt_render: draw writes to standard output: > FILE\n"
unfolding refused_text tip_of is_command unexpected_word tip_of_word
a_file_for_the_output = refl

other_words : map (λ word. tip_of_word (codes "map") word) (codes "--output" ∷ codes "--font" ∷ codes "b" ∷ codes "-" ∷ [] ∷ codes "--" ∷ codes "-x" ∷ codes "--fonts" ∷ [])
    ≡ Some tip.Output ∷ Some tip.Font ∷ Some tip.Quotes ∷ Some tip.Quotes ∷ Some tip.Quotes ∷ None ∷ None ∷ None ∷ []
unfolding tip_of_word
other_words = refl

faces_has_no_text : map (λ word. tip_of_word (codes "faces") word) (codes "b" ∷ codes "-o" ∷ codes "--font" ∷ [])
    ≡ None ∷ Some tip.Output ∷ Some tip.Font ∷ []
unfolding tip_of_word
faces_has_no_text = refl

-- a word with quotes of its own
a_quoted_word : unexpected_word (codes "error: unexpected argument '' found' found") ≡ Some (codes "' found")
unfolding unexpected_word
a_quoted_word = refl

-- the front and the end of a line share no byte
no_word : map unexpected_word (codes "error: unexpected argument ' found" ∷ codes "error: unexpected argument 'a' found." ∷ codes "' found" ∷ [])
    ≡ None ∷ None ∷ None ∷ []
unfolding unexpected_word
no_word = refl

sizes : map is_no_number (codes "error: invalid value '16px' for '--size <N>': invalid digit found in string"
    ∷ codes "error: invalid value '' for '--size <N>': cannot parse integer from empty string"
    ∷ codes "error: invalid value '16px' for '--margin <N>': invalid digit found in string"
    ∷ codes "error: invalid value '5000000000' for '--size <N>': 5000000000 is not in 0..=4294967295" ∷ [])
    ≡ true ∷ true ∷ false ∷ false ∷ []
unfolding is_no_number
sizes = refl

-- the whole program has no command's tips
no_command : tip_of (codes "--font") (codes "error: unexpected argument '--font' found") ≡ None
unfolding tip_of is_command
no_command = refl
