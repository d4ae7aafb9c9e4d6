-- The pieces of a text, read one after the other.
use Rattle.std.proofs.Common.{◌≡◌, refl, ap, ℕ, ◌<◌, ◌==◌, Bool, true, false, List, [], ◌∷◌, ◌++◌, length, Option, Some, None, append_assoc, arith}
use Rattle.tt_core.specs.Cutting.{after, all_read, before, onto_first, onto_read, pieces}

-- what was read before others, if those can be read
abbrev pub behind : {A : Type 0} → List A → Option (List A) → Option (List A)
behind rs None = None
behind rs (Some ss) = Some (rs ++ ss)

abbrev pub pieces_by : ℕ → List ℕ → Option (List ℕ) → List (List ℕ)
pieces_by sep t None = t ∷ []
pieces_by sep t (Some u) = t ∷ pieces sep u

onto_by : (x sep : ℕ) (t : List ℕ) (u : Option (List ℕ)) → onto_first x (pieces_by sep t u) ≡ pieces_by sep (x ∷ t) u
onto_by x sep t None = refl
onto_by x sep t (Some u) = refl

pieces_step : (sep x : ℕ) (t : List ℕ) (b : Bool) → (x == sep) ≡ b
    → pieces sep t ≡ pieces_by sep (before sep t) (after sep t)
    → pieces sep (x ∷ t) ≡ pieces_by sep (before sep (x ∷ t)) (after sep (x ∷ t))
pieces_step sep x t true is rest = rw is refl
pieces_step sep x t false is rest = rw (is, rest) (onto_by x sep (before sep t) (after sep t))

-- a text's pieces: what is before the first separator, and the pieces after that
pub pieces_are : (sep : ℕ) (t : List ℕ) → pieces sep t ≡ pieces_by sep (before sep t) (after sep t)
pieces_are sep [] = refl
pieces_are sep (x ∷ t) = pieces_step sep x t (x == sep) refl (pieces_are sep t)

-- one more before the others
pub one_more : {A : Type 0} (rs : List A) (r : A) (ss : Option (List A))
    → behind (rs ++ r ∷ []) ss ≡ behind rs (onto_read (Some r) ss)
one_more rs r None = refl
one_more rs r (Some ss) = ap Some (append_assoc rs (r ∷ []) ss)

stops_by : {A : Type 0} (read : List ℕ → Option A) (rs : List A) (sep : ℕ) (t : List ℕ) (u : Option (List ℕ)) → read t ≡ None
    → behind rs (all_read read (pieces_by sep t u)) ≡ None
stops_by read rs sep t None none = rw none refl
stops_by read rs sep t (Some u) none = rw none refl

-- a piece that can't be read
pub stops : {A : Type 0} (read : List ℕ → Option A) (rs : List A) (sep : ℕ) (t : List ℕ) → read (before sep t) ≡ None
    → behind rs (all_read read (pieces sep t)) ≡ None
stops read rs sep t none = rw (pieces_are sep t) (stops_by read rs sep (before sep t) (after sep t) none)

-- the last piece
pub ends : {A : Type 0} (read : List ℕ → Option A) (rs : List A) (sep : ℕ) (t : List ℕ) (r : A) → read (before sep t) ≡ Some r
    → after sep t ≡ None → behind rs (all_read read (pieces sep t)) ≡ Some (rs ++ r ∷ [])
ends read rs sep t r is none = rw (pieces_are sep t, none, is) refl

-- a piece before others
pub goes_on : {A : Type 0} (read : List ℕ → Option A) (rs : List A) (sep : ℕ) (t u : List ℕ) (r : A)
    → read (before sep t) ≡ Some r → after sep t ≡ Some u
    → behind (rs ++ r ∷ []) (all_read read (pieces sep u)) ≡ behind rs (all_read read (pieces sep t))
goes_on read rs sep t u r is more = rw (pieces_are sep t, more, is) (one_more rs r (all_read read (pieces sep u)))

shorter_by : (sep x : ℕ) (t u : List ℕ) (b : Bool) → (x == sep) ≡ b
    → (after sep t ≡ Some u → length u < length t) → after sep (x ∷ t) ≡ Some u → length u < length (x ∷ t)
shorter_by sep x t u true same rest is = grind (arith, rw same at is)
shorter_by sep x t u false same rest is = let less = rest (rw same at is) in omega (arith, less)

-- what is after a separator is shorter
pub shorter : (sep : ℕ) (t u : List ℕ) → after sep t ≡ Some u → length u < length t
shorter sep [] u is = cc
shorter sep (x ∷ t) u is = shorter_by sep x t u (x == sep) refl (shorter sep t u) is
