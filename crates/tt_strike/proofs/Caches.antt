-- The cache of a font at a size, between two lines.
use Rattle.std.proofs.Common.{◌≡◌, ℕ, ◌≤◌, List, [], Option, None, Some, Result, Ok, refl, arith}
use Rattle.std.specs.Prelude.{IfSome}
use Rattle.tt_core.specs.Faults.{Fault}
use Rattle.tt_fit.specs.Fitting.{Fitter}
use Rattle.tt_picture.specs.Cached.{AreCachedFor, IsCacheFor, entries_of, limit_of}
use Rattle.tt_strike.specs.Makers.{IsSetting}
use Rattle.tt_strike.specs.Picture.{setting}
use Rattle.tt_strike.specs.Strikes.{IsCacheOf, IsFresh, SizedFace}
use Rattle.tt_strike_kept.specs.Glyph.{KeptGlyph}
use Rattle.tt_strike_kept.specs.Kept.{Kept, bytes_in}

-- glyphs cached for one fitter of a font are cached for the fitter of the definition
pub kept_for : (made : Result Fitter Fault) (t : Fitter) (es : List (ℕ × KeptGlyph)) → made ≡ Ok t → AreCachedFor t es
    → (s : Fitter) → made ≡ Ok s → AreCachedFor s es
kept_for made t es this all s that = let same : t ≡ s = cc in rw (← same) all

-- the cache of a font at a size is that of its fitter
pub of_fitter : (z : SizedFace) (s : Fitter) (c : Option Kept) → IsSetting z.face z.ppem z.fit s → IsCacheOf z c
    → IsCacheFor s c
of_fitter z s None set own = tt
of_fitter z s (Some k) set own = own s set.exact

-- what the fitter leaves in it
pub of_face : (z : SizedFace) (s : Fitter) (before after : Option Kept) → setting z.face z.ppem z.fit ≡ Ok s
    → limit_of after ≡ limit_of before → IsCacheOf z before → IsCacheFor s after → IsCacheOf z after
of_face z s None None set same own new = tt
of_face z s None (Some k) set same own new = absurd cc
of_face z s (Some j) None set same own new = tt
of_face z s (Some j) (Some k) set same own new =
    kept_for (setting z.face z.ppem z.fit) s k.entries set new

-- a new cache
pub fresh_of : (z : SizedFace) (most : ℕ) (c : Option Kept) → IsFresh most c → IsCacheOf z c
fresh_of z most None fresh = tt
fresh_of z most (Some k) fresh = λ s set. rw fresh.0 (λ i d below. absurd (omega (arith, below)))

pub fresh_empty : (most : ℕ) (c : Option Kept) → IsFresh most c → entries_of c ≡ []
fresh_empty most None fresh = refl
fresh_empty most (Some k) fresh = fresh.0

pub fresh_limit : (most : ℕ) (c : Option Kept) → IsFresh most c → IfSome (limit_of c) (λ n. n ≤ most)
fresh_limit most None fresh = tt
fresh_limit most (Some k) fresh = rw fresh.1 (omega arith)

-- lines leave the limit
pub limit_stays : (most : ℕ) (before after : Option Kept) → limit_of after ≡ limit_of before
    → IfSome (limit_of before) (λ n. n ≤ most) → IfSome (limit_of after) (λ n. n ≤ most)
limit_stays most before after same low = rw same low

-- bytes within the limit of the cache are within that of the font at a size
pub bytes_within : (most bytes : ℕ) (c : Option Kept) → bytes ≡ bytes_in (entries_of c)
    → IfSome (limit_of c) (λ n. bytes ≤ n) → IfSome (limit_of c) (λ n. n ≤ most) → bytes ≤ most
bytes_within most bytes None is low least = rw is (omega arith)
bytes_within most bytes (Some k) is low least = omega (arith, low, least)
