-- A loca that is long enough is given, a shorter one is refused, and any that is given is long enough.
use Rattle.std.proofs.Common.{◌≡◌, ℕ, ◌<◌, ◌≤◌, nat_lt, true, false, List, length, Ok, Err, refl, arith}
use Rattle.std.proofs.lemmas.Bool.Decides.{nat_tests}
use Rattle.tt_core.specs.Chains.{passed, not-below}
use Rattle.tt_core.specs.Faults.{fault_at}
use Rattle.tt_core.specs.declared.fault.Why.TheVariants as why
use Rattle.tt_metrics.specs.Metrics.{Metrics, loca_format_of, glyphs_of}
use Rattle.tt_glyf.specs.Laws.{LocationsAreWhole}
use Rattle.tt_glyf.specs.Loca.{loca_tag, loca_with, loca_size, loca_of}

long-enough : (a b : ℕ) → b ≤ a → nat_lt a b ≡ false
long-enough a b room = grind (arith, nat_tests)

too-short : (a b : ℕ) → a < b → nat_lt a b ≡ true
too-short a b short = grind (arith, nat_tests)

pub locations-refused : (loca : List ℕ) (m : Metrics) → length loca < loca_size (loca_format_of m) (glyphs_of m)
    → loca_of loca m ≡ Err (fault_at loca_tag (length loca) why.LocaShort)
unfolding loca_of
locations-refused loca m short = rw (too-short (length loca) (loca_size (loca_format_of m) (glyphs_of m)) short) refl

pub locations-given : (loca : List ℕ) (m : Metrics) → loca_size (loca_format_of m) (glyphs_of m) ≤ length loca
    → loca_of loca m ≡ Ok (loca_with loca m)
unfolding loca_of
locations-given loca m room = rw (long-enough (length loca) (loca_size (loca_format_of m) (glyphs_of m)) room) refl

pub locations-whole : LocationsAreWhole
unfolding loca_of
locations-whole loca m l was =
    let size = loca_size (loca_format_of m) (glyphs_of m) in
    let long = passed (nat_lt (length loca) size) _ (loca_with loca m) l was in
    λ fault defect. not-below (length loca) size long.0 defect.0
