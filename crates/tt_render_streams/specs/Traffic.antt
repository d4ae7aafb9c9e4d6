-- No part of the standard: what a call reads and writes.
use Rattle.std.specs.Prelude.{◌≡◌, ℕ, ◌<◌, Bool, true, false, nat_lt, if◌then◌else◌, List, length, take, Option, Result, Err}
use Rattle.std.specs.Io.KnownBytes.{Appends, Consumes, IsAtEnd, Keeps}
use Rattle.tt_core.specs.Limits.{font_limit}

-- the result by a font, or this refusal if the font is too large to be read
abbrev pub if_readable : {X E : Type 0} → E → (List ℕ → Result X E) → List ℕ → Result X E
if_readable large made file = if nat_lt font_limit (length file) then Err large else made file

-- a reader and a writer, before a call and after it: the reader's remaining bytes, and the written bytes, each None
-- where no contract knows them (a file's). Then whether each device has failed
pub record Traffic : Type 0 where
  pub left_before : Option (List ℕ)
  pub left_after : Option (List ℕ)
  pub read_failed : Bool
  pub out_before : Option (List ℕ)
  pub out_after : Option (List ℕ)
  pub write_failed : Bool

-- a reader and a writer by their own contracts, before a call and after it
abbrev pub traffic_of : {R W : Type 0} → (R → Option (List ℕ)) → (R → Bool) → (W → Option (List ℕ)) → (W → Bool)
    → R → R → W → W → Traffic
traffic_of left read_failed written write_failed font_before font_after out_before out_after = record {
  left_before = left font_before;
  left_after = left font_after;
  read_failed = read_failed font_after;
  out_before = written out_before;
  out_after = written out_after;
  write_failed = write_failed out_after;
}

-- some bytes, perhaps none, were read
abbrev pub Advances : Option (List ℕ) → Option (List ℕ) → Type 0
Advances before after = (bytes : List ℕ) × Consumes before after bytes

-- the reader was not used in a call
abbrev pub ReadsNothing : Traffic → Type 0
ReadsNothing t = Keeps t.left_before t.left_after × (t.read_failed ≡ false)

-- it gave some bytes, perhaps none
abbrev pub ReadsSome : Traffic → Type 0
ReadsSome t = Advances t.left_before t.left_after × (t.read_failed ≡ false)

-- it gave all its bytes
abbrev pub ReadsToEnd : Traffic → Type 0
ReadsToEnd t = IsAtEnd t.left_after × (t.read_failed ≡ false)

-- it failed after some bytes
abbrev pub ReaderFails : Traffic → Type 0
ReaderFails t = Advances t.left_before t.left_after × (t.read_failed ≡ true)

-- the writer in a call: nothing was written; it worked; it failed
abbrev pub WritesNothing : Traffic → Type 0
WritesNothing t = Keeps t.out_before t.out_after × (t.write_failed ≡ false)

abbrev pub WriterServes : Traffic → Type 0
WriterServes t = t.write_failed ≡ false

abbrev pub WriterFails : Traffic → Type 0
WriterFails t = t.write_failed ≡ true

-- all of these bytes were written
abbrev pub SendsAll : Traffic → List ℕ → Type 0
SendsAll t bytes = Appends t.out_before t.out_after bytes

-- the first of these bytes were written, and not all
abbrev pub SendsFirst : ℕ → Traffic → List ℕ → Type 0
SendsFirst sent t bytes = (sent < length bytes) × Appends t.out_before t.out_after (take sent bytes)
