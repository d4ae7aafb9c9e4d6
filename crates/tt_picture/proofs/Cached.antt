-- Cached glyphs equal those made anew.
use Rattle.std.proofs.Common.{◌≡◌, ◌∙◌, ℕ, ◌++◌, subst, ◌-◌, ◌<◌, ◌≤◌, Bool, true, false, ◌==◌, if◌then◌else◌, nat_eq, List, [], ◌∷◌, Option, None, Some, ◌⊎◌, ap, refl, sym}
use Rattle.std.specs.Prelude.{IfSome}
use Rattle.std.specs.Map.{lookup, remove_entry}
use Rattle.tt_fit.proofs.WorkApart.{costs-stay, glyphs-take-work-alone, work-is-apart}
use Rattle.tt_fit.specs.Counting.{points_asked}
use Rattle.tt_fit.specs.DeltaCounting.{deltas_asked}
use Rattle.tt_fit.specs.Fitting.{Fitter, after_glyph}
use Rattle.tt_fit.specs.GlyphCost.{all_used, without_work}
use Rattle.tt_fit.specs.outline.Outline.{Outline}
use Rattle.tt_picture.specs.Cached.{CachedStays, IsCacheFor, IsCached, IsOfOutline, entries_of}
use Rattle.tt_picture.specs.Distinct.{fitter_after, fitter_for}
use Rattle.tt_picture.specs.Fitted.{AreFitted, FittedGlyph, IsFitted}
use Rattle.tt_picture.specs.Shapes.{chords_with, rule_by}
use Rattle.tt_picture.proofs.Parts.{of_front, of_middle}
use Rattle.tt_scan_dropouts.specs.declared.boxed.BoxedRules.{BoxedRules}
use Rattle.tt_strike_kept.proofs.CallerLemmas.{all_found, all_kept}
use Rattle.tt_strike_kept.specs.Glyph.{KeptGlyph}
use Rattle.tt_strike_kept.specs.Kept.{Kept, bytes_of, fitting}
use Rattle.tt_strike_kept.specs.declared.glyph.KeptCounts.{KeptCounts}

abbrev pub IsAsMade : Fitter → ℕ × KeptGlyph → Type 0
IsAsMade s e = IsCached s e.0 e.1

-- a glyph found in the cache
pub one_found : (s : Fitter) (n : ℕ) (g : KeptGlyph) (c : Option Kept) → IsCacheFor s c
    → lookup (nat_eq n) (entries_of c) ≡ Some g → IsCached s n g
one_found s n g None own found = absurd cc
one_found s n g (Some k) own found = all_found (IsAsMade s) n k.entries g own found

-- a glyph put into the cache
pub one_put : (s : Fitter) (old new : Kept) (n : ℕ) (g : KeptGlyph) → (old.most < bytes_of g → new ≡ old)
    → (bytes_of g ≤ old.most
    → (new.entries ≡ fitting old.most ((n, g) ∷ remove_entry (nat_eq n) old.entries))
    ⊎ (new.entries ≡ fitting (old.most - bytes_of g) (remove_entry (nat_eq n) old.entries)))
    → IsCached s n g → IsCacheFor s (Some old) → IsCacheFor s (Some new)
one_put s old new n g larger entries one own = all_kept (IsAsMade s) old new n g larger entries one own

-- the counts of a glyph found in the cache
abbrev pub HasCounts : ℕ → Kept → Option KeptCounts → Type 0
HasCounts n k counts = IfSome counts (λ c. (g : KeptGlyph) × (lookup (nat_eq n) k.entries ≡ Some g) × (c ≡ g.counts))

pub points_found : (n : ℕ) (k : Kept) (c : Option Kept) (counts : Option KeptCounts) → c ≡ Some k → HasCounts n k counts
    → IfSome counts (λ p. (s : Fitter) → IsCacheFor s c → p.points ≡ points_asked s.tables s.levels n)
points_found n k c None there found = tt
points_found n k c (Some p) there found = λ s own.
    let one = all_found (IsAsMade s) n k.entries found.0 (rw there at own) found.1 in
    ap (λ (p : KeptCounts). p.points) found.2 ∙ one.points

pub deltas_found : (n : ℕ) (k : Kept) (c : Option Kept) (counts : Option KeptCounts) → c ≡ Some k → HasCounts n k counts
    → IfSome counts (λ p. (s : Fitter) → IsCacheFor s c → p.deltas ≡ deltas_asked s.instance s.tables s.levels n)
deltas_found n k c None there found = tt
deltas_found n k c (Some p) there found = λ s own.
    let one = all_found (IsAsMade s) n k.entries found.0 (rw there at own) found.1 in
    ap (λ (p : KeptCounts). p.deltas) found.2 ∙ one.deltas

-- the cache is that of every fitter that differs in its remaining work alone

same_rule : (a b : Option ℕ) → all_used b ≡ all_used a → rule_by b ≡ rule_by a
same_rule None None same = refl
same_rule None (Some n) same = absurd cc
same_rule (Some m) None same = absurd cc
same_rule (Some m) (Some n) same = refl

outline_stays : (s t : Fitter) (filled : Option BoxedRules) (o : Outline) (k : KeptGlyph) → chords_with t ≡ chords_with s
    → IsOfOutline s filled o k → IsOfOutline t filled o k
outline_stays s t filled o k way is = record { cut = rw way is.cut; advance = is.advance; chords = rw way is.chords }

one_stays : (s t : Fitter) (n : ℕ) (k : KeptGlyph) → without_work t ≡ without_work s → IsCached s n k → IsCached t n k
one_stays s t n k same is =
    let alike = work-is-apart s t same in
    let way = same_rule s.work t.work alike.bound in
    record {
      shape = is.shape;
      made = costs-stay s t n k.counts.cost is.shape k.unfitted same is.made;
      shown = rw (alike.dropouts k.unfitted is.shape) (outline_stays s t _ is.shape k way is.shown);
      points = rw (alike.tables, alike.levels) is.points;
      deltas = rw (alike.instance, alike.tables, alike.levels) is.deltas;
    }

pub cached_stays : CachedStays
cached_stays s t None same own = tt
cached_stays s t (Some k) same own = λ i d below. one_stays s t _ _ same (own i d below)

-- glyphs change nothing but the remaining work
pub after_alike : (s : Fitter) (gs : List ℕ) → without_work (fitter_after s gs) ≡ without_work s
after_alike s [] = refl
after_alike s (g ∷ gs) = after_alike (after_glyph s g) gs ∙ glyphs-take-work-alone s g

pub cache_after : (s : Fitter) (gs : List ℕ) (c : Option Kept) → IsCacheFor s c → IsCacheFor (fitter_after s gs) c
cache_after s gs c own = cached_stays s (fitter_after s gs) c (after_alike s gs) own

pub cache_before : (s : Fitter) (gs : List ℕ) (c : Option Kept) → IsCacheFor (fitter_after s gs) c → IsCacheFor s c
cache_before s gs c own = cached_stays (fitter_after s gs) s c (sym (after_alike s gs)) own

for_by : (here : Bool) (s t : Fitter) → without_work t ≡ without_work s
    → without_work (if here then s else t) ≡ without_work s
for_by true s t alike = refl
for_by false s t alike = alike

pub for_alike : (s : Fitter) (gs : List ℕ) (n : ℕ) → without_work (fitter_for s gs n) ≡ without_work s
for_alike s [] n = refl
for_alike s (g ∷ gs) n = for_by (g == n) s (fitter_for (after_glyph s g) gs n)
    (for_alike (after_glyph s g) gs n ∙ glyphs-take-work-alone s g)

-- the cache after a glyph, which another fitter makes
pub one_cached : (s t : Fitter) (g : FittedGlyph) (old new : Option Kept) → without_work t ≡ without_work s
    → IsFitted t g → ((s : Fitter) → IsFitted s g → IsCacheFor s old → IsCacheFor s new)
    → IsCacheFor s old → IsCacheFor s new
one_cached s t g old new alike is puts own =
    cached_stays t s new (sym alike) (puts t is (cached_stays s t old alike own))

-- a cache that serves the fitters of some glyphs serves them still when the glyphs are drawn
abbrev pub Serves : Option Kept → Option Kept → List FittedGlyph → Type 0
Serves old new gs = (maker : ℕ → Fitter) (s : Fitter) → AreFitted maker gs
    → ((n : ℕ) → without_work (maker n) ≡ without_work s) → IsCacheFor s old → IsCacheFor s new

abbrev IsBy : (ℕ → Fitter) → FittedGlyph → Type 0
IsBy maker g = IsFitted (maker g.number) g

-- one glyph more of some that are left
pub served : (old middle new : Option Kept) (drawn left rest all : List FittedGlyph) (g : FittedGlyph) → drawn ++ left ≡ all
    → left ≡ g ∷ rest → Serves old middle drawn
    → ((s : Fitter) → IsFitted s g → IsCacheFor s middle → IsCacheFor s new) → Serves old new all
served old middle new drawn left rest all g parts first so_far puts = λ maker s fitted alike own.
    let here : drawn ++ g ∷ rest ≡ all = rw first at parts in
    let each : AreFitted maker (drawn ++ g ∷ rest) = subst (AreFitted maker) (sym here) fitted in
    one_cached s (maker g.number) g middle new (alike g.number) (of_middle (IsBy maker) drawn rest g each) puts
    (so_far maker s (of_front (IsBy maker) drawn (g ∷ rest) each) alike own)
