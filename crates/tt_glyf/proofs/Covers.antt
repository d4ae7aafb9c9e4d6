-- A flag is that of the run that covers its point.
use Rattle.std.proofs.Common.{◌≡◌, ℕ, zero, suc, ◌+◌, ◌-◌, ◌<◌, ◌≤◌, Bool, true, false, nat_lt, if◌then◌else◌, List, [], ◌++◌, length, length-append, Ok, refl, arith, ap, ◌∙◌}
use Rattle.std.specs.Prelude.{slice_index}
use Rattle.std.proofs.Math.ListN.{replicate}
use Rattle.std.proofs.lemmas.List.{length-replicate}
use Rattle.std.proofs.lemmas.Bool.Decides.{nat_tests}
use Rattle.tt_core.specs.Chains.{came-through, passed-else}
use Rattle.tt_core.specs.Outcomes.{◌>>=◌}
use Rattle.tt_glyf.specs.Bytes.{GlyphBytes, Listing, byte_in, after}
use Rattle.tt_glyf.specs.Flags.{Run, run_within, run_at, flags_from}
use Rattle.tt_glyf.specs.Format.{has, repeat_flag}
use Rattle.tt_glyf.specs.Meaning.{written_run, runs_end, written_flags}
use Rattle.tt_glyf.proofs.Chains.{came-after}
use Rattle.tt_glyf.proofs.Fields.{byte-was}

-- facts about a run that was read
pub record IsRead (g : GlyphBytes) (r is : Run) (left : ℕ) : Type 0 where
  pub same : r ≡ is
  pub within : r.copies < left
  pub room : r.next ≤ length g.bytes

run-cases : (g : GlyphBytes) (at left flag : ℕ) (repeats : Bool) (r : Run) → 0 < left → at + 1 ≤ length g.bytes
    → (if repeats then (byte_in g (at + 1) >>= λ copies. run_within g at left
    (record { flag = flag; copies = copies; next = at + 2 }))
    else Ok (record { flag = flag; copies = 0; next = at + 1 })) ≡ Ok r
    → IsRead g r (if repeats then record { flag = flag; copies = slice_index g.bytes (at + 1); next = at + 2 }
    else record { flag = flag; copies = 0; next = at + 1 }) left
run-cases g at left flag true r some le was =
    let through = came-through (byte_in g (at + 1)) _ r was in
    let byte = byte-was g (at + 1) through.value through.first in
    let value = byte.is in
    let room = byte.room in
    let p = passed-else (nat_lt through.value left) _ (record { flag = flag; copies = through.value; next = at + 2 }) r
    through.rest in
    let test = p.0 in
    rw (← p.1) (record { same = rw (← value) refl; within = grind (arith, nat_tests); room = omega arith })
run-cases g at left flag false r some le was =
    let is : r ≡ record { flag = flag; copies = 0; next = at + 1 } = cc in
    rw is (record { same = refl; within = some; room = le })

pub run-was : (g : GlyphBytes) (at left : ℕ) (r : Run) → 0 < left → run_at g at left ≡ Ok r
    → IsRead g r (written_run g.bytes at) left
unfolding run_at
run-was g at left r some was =
    let through = came-through (byte_in g at) _ r was in
    let flag = byte-was g at through.value through.first in
    rw flag.is at (run-cases g at left through.value (has through.value repeat_flag) r some flag.room through.rest)

-- the points that runs cover: those of the first run, and those of the others
pub flags-length : (bytes : List ℕ) (at runs : ℕ) → length (written_flags bytes at (suc runs)) ≡ suc
    (written_run bytes at).copies + length (written_flags bytes (written_run bytes at).next runs)
flags-length bytes at runs =
    length-append (replicate (suc (written_run bytes at).copies) (written_run bytes at).flag) _
    ∙ ap (λ (n : ℕ). n + length (written_flags bytes (written_run bytes at).next runs))
    (length-replicate (suc (written_run bytes at).copies) (written_run bytes at).flag)

-- a run within the bytes that copies no flag past the last point
pub record IsGoodRun (bytes : List ℕ) (at left : ℕ) : Type 0 where
  pub within : (written_run bytes at).copies < left
  pub room : (written_run bytes at).next ≤ length bytes

-- the runs that cover all points
abbrev pub AreGoodRuns : List ℕ → ℕ → ℕ → Type 0
AreGoodRuns bytes at left =
    (k : ℕ) → length (written_flags bytes at k) < left → IsGoodRun bytes (runs_end bytes at k)
    (left - length (written_flags bytes at k))

-- the flags that were read
pub record AreCovered (bytes : List ℕ) (at left : ℕ) (read : Listing ℕ) : Type 0 where
  pub runs : ℕ
  pub end : read.next ≡ runs_end bytes at runs
  pub covers : read.items ≡ written_flags bytes at runs
  pub many : length (written_flags bytes at runs) ≡ left
  pub room : read.next ≤ length bytes
  pub good : AreGoodRuns bytes at left

good-more : (bytes : List ℕ) (at left : ℕ) (k : ℕ) → IsGoodRun bytes at (suc left)
    → AreGoodRuns bytes (written_run bytes at).next (left - (written_run bytes at).copies)
    → length (written_flags bytes at k) < suc left → IsGoodRun bytes (runs_end bytes at k)
    (suc left - length (written_flags bytes at k))
good-more bytes at left zero first others below =
    let all : suc left - 0 ≡ suc left = omega arith in
    rw all first
good-more bytes at left (suc k) first others below =
    let total = flags-length bytes at k in
    let within = first.within in
    let count : suc left - length (written_flags bytes at (suc k)) ≡ left - (written_run bytes at).copies - length
    (written_flags bytes (written_run bytes at).next k) = rw total (omega arith) in
    rw count (others k (omega arith))

covered-more : (g : GlyphBytes) (at left : ℕ) (r : Run) (rest read : Listing ℕ)
    → IsRead g r (written_run g.bytes at) (suc left) → AreCovered g.bytes r.next (left - r.copies) rest
    → read ≡ record { items = replicate (suc r.copies) r.flag ++ rest.items; next = rest.next }
    → AreCovered g.bytes at (suc left) read
covered-more g at left r rest read run are whole =
    let same = run.same in
    let within : (written_run g.bytes at).copies < suc left = rw same at run.within in
    let room : (written_run g.bytes at).next ≤ length g.bytes = rw same at run.room in
    let is : AreCovered g.bytes (written_run g.bytes at).next (left - (written_run g.bytes at).copies) rest = rw same
    at are in
    let many = is.many in
    let total = flags-length g.bytes at is.runs in
    rw (whole, same) (record {
      runs = suc is.runs;
      end = is.end;
      covers = ap (λ (xs : List ℕ). replicate (suc (written_run g.bytes at).copies) (written_run g.bytes at).flag ++
          xs) is.covers;
      many = total ∙ (omega arith);
      room = is.room;
      good = λ k below. good-more g.bytes at left k (record { within = within; room = room }) is.good below;
    })

pub flags-were : (fuel : ℕ) (g : GlyphBytes) (at left : ℕ) (read : Listing ℕ) → left ≤ fuel → at ≤ length g.bytes
    → flags_from fuel g at left ≡ Ok read → AreCovered g.bytes at left read
unfolding flags_from
flags-were fuel g at zero read enough le was =
    let is : read ≡ record { items = []; next = at } = cc in
    rw is (record {
      runs = 0;
      end = refl;
      covers = refl;
      many = refl;
      room = le;
      good = λ k below. absurd (omega arith);
    })
flags-were zero g at (suc left) read enough le was = absurd (omega arith)
flags-were (suc fuel) g at (suc left) read enough le was =
    let through = came-through (run_at g at (suc left)) (λ r. after (replicate (suc r.copies) r.flag)
    (flags_from fuel g r.next (left - r.copies))) read was in
    let r = through.value in
    let later = came-after (replicate (suc r.copies) r.flag) (flags_from fuel g r.next (left - r.copies)) read
    through.rest in
    let run = run-was g at (suc left) r (omega arith) through.first in
    covered-more g at left r later.read read run (flags-were fuel g r.next (left - r.copies) later.read (omega arith)
    run.room later.was) later.is
