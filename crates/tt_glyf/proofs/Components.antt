-- The component records, one at a time.
use Rattle.std.proofs.Common.{◌≡◌, ℕ, suc, ◌+◌, ◌-◌, ◌<◌, ◌≤◌, true, false, List, [], ◌∷◌, ◌++◌, Ok, Err, refl, arith}
use Rattle.tt_core.specs.Faults.{Fault}
use Rattle.tt_core.specs.declared.fault.Why.TheVariants as why
use Rattle.tt_core.specs.Limits.{component_limit}
use Rattle.tt_glyf.specs.declared.raw.Record.{Record}
use Rattle.tt_glyf.specs.Bytes.{GlyphBytes, after, glyph_fault}
use Rattle.tt_glyf.specs.Composite.{record_at, records_from}
use Rattle.tt_glyf.specs.Format.{record_size, more_components, has}
use Rattle.tt_glyf.proofs.Chains.{after-after}

pub more : (n : ℕ) (g : GlyphBytes) (before : List Record) (at i : ℕ) (r : Record) → i < component_limit
    → record_at n g at ≡ Ok r → has r.flags more_components ≡ true
    → after before (records_from n g at (component_limit - i)) ≡ after (before ++ r ∷ [])
    (records_from n g (at + record_size r.flags) (component_limit - (i + 1)))
unfolding records_from
more n g before at i r below was goes_on =
    let step : component_limit - i ≡ suc (component_limit - (i + 1)) = omega arith in
    rw (step, was, goes_on, after-after) refl

pub last : (n : ℕ) (g : GlyphBytes) (before : List Record) (at i : ℕ) (r : Record) → i < component_limit
    → record_at n g at ≡ Ok r → has r.flags more_components ≡ false
    → after before (records_from n g at (component_limit - i)) ≡ Ok
    (record { items = before ++ r ∷ []; next = at + record_size r.flags })
unfolding records_from
last n g before at i r below was stops =
    let step : component_limit - i ≡ suc (component_limit - (i + 1)) = omega arith in
    rw (step, was, stops) refl

pub breaks : (n : ℕ) (g : GlyphBytes) (before : List Record) (at i : ℕ) (f : Fault) → i < component_limit
    → record_at n g at ≡ Err f → after before (records_from n g at (component_limit - i)) ≡ Err f
unfolding records_from
breaks n g before at i f below was =
    let step : component_limit - i ≡ suc (component_limit - (i + 1)) = omega arith in
    rw (step, was) refl

pub over : (n : ℕ) (g : GlyphBytes) (before : List Record) (at i : ℕ) → component_limit ≤ i
    → after before (records_from n g at (component_limit - i)) ≡ Err (glyph_fault g at why.ComponentCount)
unfolding records_from
over n g before at i all =
    let none : component_limit - i ≡ 0 = omega arith in
    rw none refl
