-- Printing text after text, on a device that may fail.
use Rattle.std.proofs.Common.{◌≡◌, ℕ, ◌+◌, ◌<◌, ◌≤◌, Bool, true, false, List, [], ◌++◌, length, take, Option, Some, None, Result, Ok, Err, ◌∙◌, sym, refl, arith, append-nil, length-append}
use Rattle.std.proofs.lemmas.List.{take-append-le}
use Rattle.std.specs.Io.KnownBytes.{Appends, Keeps}
use Rattle.tt_pbm.specs.declared.writing.Cut.{Cut}
use Rattle.tt_pbm.specs.Writing.{Writes}
use Rattle.tt_render_texts.specs.Printing.{PrintsBehind, PrintsUnless}
use Rattle.tt_render_streams.proofs.Sent.{appends_both, appends_more}

-- a text that was written is printed
pub printed : (r : Result (Unit {0}) Cut) (failed : Bool) (before after : Option (List ℕ)) (text : List ℕ)
    → Writes r before after failed text → PrintsUnless failed before after text
printed (Ok v) failed before after text out = rw out.failure out.all
printed (Err cut) failed before after text out = rw out.failure (cut.sent, out.within, out.part)

pub keeps_itself : (a : Option (List ℕ)) → Keeps a a
keeps_itself None = tt
keeps_itself (Some xs) = refl

pub appends_nothing : (a : Option (List ℕ)) → Appends a a []
appends_nothing None = tt
appends_nothing (Some xs) = sym (append-nil xs)

appends_then_keeps : (a b c : Option (List ℕ)) (bytes : List ℕ) → Appends a b bytes → Keeps b c → Appends a c bytes
appends_then_keeps None b c bytes out kept = tt
appends_then_keeps (Some xs) None c bytes out kept = absurd out
appends_then_keeps (Some xs) (Some ys) None bytes out kept = absurd kept
appends_then_keeps (Some xs) (Some ys) (Some zs) bytes out kept = kept ∙ out

-- printing behind a text that was printed, or a part of it
pub printed_behind : (failed now : Bool) (a b c : Option (List ℕ)) (first second : List ℕ)
    → PrintsUnless failed a b first
    → PrintsBehind failed (record { before = b; after = c; failed = now }) second
    → PrintsUnless now a c (first ++ second)
printed_behind false false a b c first second out more = appends_more a b c first second (first ++ second) out more refl
printed_behind false true a b c first second out more = (
  length first + more.0,
  omega (arith, length-append first second, more.1),
  appends_both a b c first second more.0 out more.2,
)
printed_behind true now a b c first second out more =
    let within : out.0 ≤ length first = omega (arith, out.1) in
    let few : out.0 < length (first ++ second) = omega (arith, length-append first second, out.1) in
    rw more.1 (
      out.0,
      few,
      rw (take-append-le out.0 first second within) (appends_then_keeps a b c (take out.0 first) out.2 more.0),
    )

-- nothing is printed for an empty text
pub nothing_printed : (a : Option (List ℕ)) (failed : Bool) → failed ≡ false → PrintsUnless failed a a []
nothing_printed a failed serves = rw serves (appends_nothing a)
