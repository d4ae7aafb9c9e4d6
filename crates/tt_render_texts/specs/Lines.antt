-- No part of the standard: the lines of a text (profile).
use Rattle.std.specs.Prelude.{◌≡◌, ◌≢◌, refl, ℕ, ◌<◌, ◌==◌, if◌then◌else◌, List, [], ◌∷◌, ◌++◌, length, take, slice_index, All, codes}
use Rattle.std.specs.Io.BufRead.{strip_last}

-- bytes of a line
abbrev pub line_limit : ℕ
line_limit = 16384

-- the bytes of the buffer of a reader of lines: a line with its end, and one read
abbrev pub line_room : ℕ
line_room = 81922

-- the first line feed of some bytes
pub record IsFirstFeed (bytes : List ℕ) (at : ℕ) : Type 0 where
  pub within : at < length bytes
  pub feed : slice_index bytes at ≡ 10
  pub before : All (λ x. x ≢ 10) (take at bytes)

-- a line without the carriage return before its line feed
abbrev pub before_feed : List ℕ → List ℕ
before_feed line = strip_last 13 line

-- the rest after the last line feed is a line too, unless it is empty
abbrev pub last_lines : List ℕ → List (List ℕ)
last_lines [] = []
last_lines (x ∷ xs) = (x ∷ xs) ∷ []

-- the lines of a text that goes on after the front of its first line
abbrev pub lines_after : List ℕ → List ℕ → List (List ℕ)
lines_after front [] = last_lines front
lines_after front (x ∷ xs) =
    if x == 10 then before_feed front ∷ lines_after [] xs else lines_after (front ++ (x ∷ [])) xs

-- the lines of a text
unfoldable pub lines_of : List ℕ → List (List ℕ)
lines_of text = lines_after [] text

-- worked values
no_lines : lines_of [] ≡ []
unfolding lines_of
no_lines = refl

the_last_line_has_no_feed : lines_of (codes "a\nbc") ≡ codes "a" ∷ (codes "bc" ∷ [])
unfolding lines_of
the_last_line_has_no_feed = refl

an_empty_line_is_a_line : lines_of (codes "a\n\nb\n") ≡ codes "a" ∷ ([] ∷ (codes "b" ∷ []))
unfolding lines_of
an_empty_line_is_a_line = refl

a_return_before_the_feed : lines_of (codes "a\r\n\r\r\nb\rc\r") ≡ codes "a" ∷ (codes "\r" ∷ (codes "b\rc\r" ∷ []))
unfolding lines_of
a_return_before_the_feed = refl
