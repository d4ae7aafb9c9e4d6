-- OpenType, "OpenType Font Variations Common Table Formats", "Tuple variation store header" and "TupleVariationHeader".
-- In cvar the header follows four bytes, and its offset counts from the table's first byte.
use Rattle.std.specs.Prelude.{ℕ, ◌+◌, ◌*◌, ◌%◌, ◌==◌, Bool, nat_lt, nat_le, if◌then◌else◌, Option, Some, None, List, length, slice_range, Result, Ok, Err}
use Rattle.std.specs.Int.RustNames.{bit_and}
use Rattle.tt_core.specs.Numbers.{number_at}
use Rattle.tt_core.specs.Outcomes.{◌>>=◌}
use Rattle.tt_core.specs.Faults.{Fault}
use Rattle.tt_tuples.specs.declared.source.TupleTable.{TupleTable}
use Rattle.tt_tuples.specs.declared.source.TupleTable.TheVariants as table
use Rattle.tt_tuples.specs.Bytes.{TupleStore, Read, broken, slice_in, word_in}
use Rattle.tt_tuples.specs.Regions.{RegionSides, share_of}
use Rattle.tt_tuples.specs.Sources.{Source}

-- where the header begins
abbrev pub header_place : TupleTable → ℕ
header_place table.Gvar = 0
header_place table.Cvar = 4

-- bits of the count of tuples: the count, and whether tuples share point numbers
abbrev pub tuples_told : ℕ → ℕ
tuples_told count = count % 4096

abbrev pub shared_point_numbers : ℕ
shared_point_numbers = 0x8000

-- bits of a tuple's index: a peak of its own, ends of its own, point numbers of its own
abbrev pub embedded_peak_tuple : ℕ
embedded_peak_tuple = 0x8000

abbrev pub intermediate_region : ℕ
intermediate_region = 0x4000

abbrev pub private_point_numbers : ℕ
private_point_numbers = 0x2000

-- whether a word includes a bit
abbrev pub has : ℕ → ℕ → Bool
has word bit = bit_and word bit == bit

-- how many tuples there are, whether they share point numbers, and where these or the tuples' data begin
pub record TupleStoreHeader : Type 0 where
  pub tuples : ℕ
  pub shares_points : Bool
  pub data_at : ℕ

-- data past the end of the bytes are refused at their offset
unfoldable pub header_at : TupleStore → ℕ → Result TupleStoreHeader Fault
header_at store at = do
  count ← word_in store at
  offset ← word_in store (at + 2)
  if nat_lt (length store.bytes) offset then Err (broken store (at + 2))
      else Ok (record { tuples = tuples_told count; shares_points = has count shared_point_numbers; data_at = offset })

-- the count of tuples, 0 where the count is missing
unfoldable pub tuple_count : TupleTable → List ℕ → ℕ
tuple_count t b = counted (number_at b (header_place t) 2)
  where
    counted : Option ℕ → ℕ
    counted (Some count) = tuples_told count
    counted None = 0

-- a tuple of the shared ones, refused at the tuple's index if it is not there
abbrev pub shared_peak : Source → ℕ → ℕ → Result (Read (List ℕ)) Fault
shared_peak s at index =
    if nat_le (2 * length s.coordinates * (index % 4096) + 2 * length s.coordinates) (length s.shared)
    then Ok (record {
      value = slice_range s.shared (2 * length s.coordinates * (index % 4096))
          (2 * length s.coordinates * (index % 4096) + 2 * length s.coordinates);
      next = at + 4;
    })
    else Err (broken s.store (at + 2))

-- bytes, and the place after them
abbrev pub taken : TupleStore → ℕ → ℕ → Result (Read (List ℕ)) Fault
taken store at n = slice_in store at n >>= λ value. Ok (record { value = value; next = at + n })

-- the peak of the tuple that begins at a place: its own, or one of the shared ones
unfoldable pub peak_at : Source → ℕ → ℕ → Result (Read (List ℕ)) Fault
peak_at s at index =
    if has index embedded_peak_tuple then taken s.store (at + 4) (2 * length s.coordinates)
    else shared_peak s at index

-- the ends at a place, where the tuple has its own
unfoldable pub sides_at : Source → ℕ → ℕ → Result (Read (Option RegionSides)) Fault
sides_at s at index =
    if has index intermediate_region
    then (taken s.store at (2 * length s.coordinates) >>= λ start. taken s.store start.next (2 * length s.coordinates)
    >>= λ end. Ok (record { value = Some (record { start = start.value; end = end.value }); next = end.next }))
    else Ok (record { value = None; next = at })

-- the bytes of a tuple's data, how much of the tuple holds, whether it has point numbers of its own, and the place after
-- the header
pub record TupleHeader : Type 0 where
  pub size : ℕ
  pub share : ℕ
  pub own_points : Bool
  pub next : ℕ

unfoldable pub tuple_header_at : Source → ℕ → Result TupleHeader Fault
tuple_header_at s at = do
  size ← word_in s.store at
  index ← word_in s.store (at + 2)
  peak ← peak_at s at index
  sides ← sides_at s peak.next index
  Ok (record {
    size = size;
    share = share_of s.coordinates (record { peak = peak.value; sides = sides.value });
    own_points = has index private_point_numbers;
    next = sides.next;
  })
