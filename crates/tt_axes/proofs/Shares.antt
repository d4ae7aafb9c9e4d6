-- No axis makes a share larger.
use Rattle.std.proofs.Common.{◌≡◌, ℕ, ◌<◌, ◌≤◌, ℤ, pos, Bool, true, false, Option, Some, None, refl, arith}
use Rattle.std.specs.Prelude.{int_lt, int_le, unsigned_abs, if◌then◌else◌, ◌||◌}
use Rattle.std.specs.Int.{int_max, int_min}
use Rattle.std.specs.Ordering.{int_eq}
use Rattle.std.proofs.lemmas.Bool.Decides.{Decides-int_eq}
use Rattle.std.proofs.lemmas.Int.{ints}
use Rattle.tt_axes.specs.declared.region.RegionEnds.{RegionEnds}
use Rattle.tt_axes.proofs.Portions.{portion_less}
use Rattle.tt_axes.specs.Shares.{distance, has_effect, share_between, share_to_peak, share_towards, share_of_tuple_axis, share_of_region_axis}

nearer-start : (c p a : ℤ) → int_le c a ≡ false → int_lt c p ≡ true → distance c a ≤ distance p a
nearer-start c p a above before = grind (arith, ints)

some-start : (c p a : ℤ) → int_le c a ≡ false → int_lt c p ≡ true → 0 < distance p a
some-start c p a above before = grind (arith, ints)

nearer-end : (c p b : ℤ) → int_le b c ≡ false → int_lt c p ≡ false → distance c b ≤ distance p b
nearer-end c p b below past = grind (arith, ints)

some-end : (c p b : ℤ) → int_le b c ≡ false → int_lt c p ≡ false → 0 < distance p b
some-end c p b below past = grind (arith, ints)

between-by : (s : ℕ) (c p : ℤ) (e : RegionEnds) (above below before : Bool) → int_le c e.start ≡ above → int_le e.end c ≡ below
    → int_lt c p ≡ before → share_between s c p e ≤ s
between-by s c p e true below before ea eb el = rw ea (omega arith)
between-by s c p e false true before ea eb el = rw (ea, eb) (omega arith)
between-by s c p e false false true ea eb el =
    rw (ea, eb, el) (portion_less s _ _ (nearer-start c p e.start ea el) (some-start c p e.start ea el))
between-by s c p e false false false ea eb el =
    rw (ea, eb, el) (portion_less s _ _ (nearer-end c p e.end eb el) (some-end c p e.end eb el))

pub between-less : (s : ℕ) (c p : ℤ) (e : RegionEnds) → share_between s c p e ≤ s
between-less s c p e = between-by s c p e (int_le c e.start) (int_le e.end c) (int_lt c p) refl refl refl

nearer-peak : (c p : ℤ) → int_lt c (int_min (pos 0) p) ≡ false → int_lt (int_max (pos 0) p) c ≡ false → unsigned_abs c ≤ unsigned_abs p
nearer-peak c p low high = grind (arith, ints)

some-peak : (p : ℤ) → int_eq p (pos 0) ≡ false → 0 < unsigned_abs p
some-peak p other = grind (arith, ints)

to-peak-by : (s : ℕ) (c p : ℤ) (low high : Bool) → int_lt c (int_min (pos 0) p) ≡ low → int_lt (int_max (pos 0) p) c ≡ high
    → int_eq p (pos 0) ≡ false → share_to_peak s c p ≤ s
to-peak-by s c p true high el eh some = rw el (omega arith)
to-peak-by s c p false true el eh some = rw (el, eh) (omega arith)
to-peak-by s c p false false el eh some = rw (el, eh) (portion_less s _ _ (nearer-peak c p el eh) (some-peak p some))

towards-less : (s : ℕ) (c p : ℤ) (ends : Option RegionEnds) → int_eq p (pos 0) ≡ false → share_towards s c p ends ≤ s
towards-less s c p None some = to-peak-by s c p (int_lt c (int_min (pos 0) p)) (int_lt (int_max (pos 0) p) c) refl refl some
towards-less s c p (Some e) some = between-less s c p e

tuple-by : (s : ℕ) (c p : ℤ) (ends : Option RegionEnds) (none zero same : Bool) → int_eq p (pos 0) ≡ none → int_eq c (pos 0) ≡ zero
    → int_eq c p ≡ same → share_of_tuple_axis s c p ends ≤ s
unfolding share_of_tuple_axis
tuple-by s c p ends true zero same en ez es = rw en (omega arith)
tuple-by s c p ends false true same en ez es = rw (en, ez) (omega arith)
tuple-by s c p ends false false true en ez es = rw (en, ez, es) (omega arith)
tuple-by s c p ends false false false en ez es = rw (en, ez, es) (towards-less s c p ends en)

pub tuple-less : (s : ℕ) (c p : ℤ) (ends : Option RegionEnds) → share_of_tuple_axis s c p ends ≤ s
tuple-less s c p ends = tuple-by s c p ends (int_eq p (pos 0)) (int_eq c (pos 0)) (int_eq c p) refl refl refl

region-by : (s : ℕ) (c p : ℤ) (e : RegionEnds) (effect same : Bool) → has_effect p e ≡ effect → int_eq c p ≡ same
    → share_of_region_axis s c p e ≤ s
unfolding share_of_region_axis
region-by s c p e false same ee es = rw ee (omega arith)
region-by s c p e true true ee es = rw (ee, es) (omega arith)
region-by s c p e true false ee es = rw (ee, es) (between-less s c p e)

pub region-less : (s : ℕ) (c p : ℤ) (e : RegionEnds) → share_of_region_axis s c p e ≤ s
region-less s c p e = region-by s c p e (has_effect p e) (int_eq c p) refl refl

at-itself : (c : ℤ) → int_le c c ≡ true
at-itself c = grind (arith, ints)

at-end : (a : Bool) (x : ℕ) → (if (a || true) then 0 else x) ≡ 0
at-end true x = refl
at-end false x = refl

pub nothing-at-start : (s : ℕ) (p : ℤ) (e : RegionEnds) → share_between s e.start p e ≡ 0
nothing-at-start s p e = rw (at-itself e.start) refl

pub nothing-at-end : (s : ℕ) (p : ℤ) (e : RegionEnds) → share_between s e.end p e ≡ 0
nothing-at-end s p e = rw (at-itself e.end) (at-end (int_le e.end e.start) _)

equal : (c : ℤ) → int_eq c c ≡ true
equal c = (Decides-int_eq c c).1 refl

at-peak-by : (s : ℕ) (p : ℤ) (ends : Option RegionEnds) (none : Bool) → int_eq p (pos 0) ≡ none → share_of_tuple_axis s p p ends ≡ s
unfolding share_of_tuple_axis
at-peak-by s p ends true en = rw en refl
at-peak-by s p ends false en = rw (en, equal p) refl

pub all-at-peak : (s : ℕ) (p : ℤ) (ends : Option RegionEnds) → share_of_tuple_axis s p p ends ≡ s
all-at-peak s p ends = at-peak-by s p ends (int_eq p (pos 0)) refl

region-at-by : (s : ℕ) (p : ℤ) (e : RegionEnds) (effect : Bool) → has_effect p e ≡ effect → share_of_region_axis s p p e ≡ s
unfolding share_of_region_axis
region-at-by s p e false ee = rw ee refl
region-at-by s p e true ee = rw (ee, equal p) refl

pub all-at-region-peak : (s : ℕ) (p : ℤ) (e : RegionEnds) → share_of_region_axis s p p e ≡ s
all-at-region-peak s p e = region-at-by s p e (has_effect p e) refl
