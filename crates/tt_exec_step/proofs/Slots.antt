-- Functions by their places: the body of a number, and the list after a body is added or replaced.
use Rattle.std.proofs.Common.{◌≡◌, ◌≢◌, ◌∙◌, ap, sym, ℕ, zero, suc, ◌+◌, ◌<◌, ◌≤◌, max, List, [], ◌∷◌, ◌++◌, length, set, get_or, replicate, All, inl, inr, refl, arith, add-one}
use Rattle.std.proofs.lemmas.Bool.{cases_eq, cases_lt}
use Rattle.std.proofs.lemmas.Bool.Decides.{nat_tests}
use Rattle.std.proofs.lemmas.Option.{slice_get-map}
use Rattle.std.specs.BTreeMap.{insert_entry, is_at}
use Rattle.std.specs.List.{slice_get}
use Rattle.std.specs.Map.{lookup}
use Rattle.std.specs.Option.{option_map}
use Rattle.std.specs.Ordering.{nat_cmp}
use Rattle.std.specs.declared.option.Option.{Option}
use Rattle.std.specs.declared.option.Option.TheVariants.{None, Some}
use Rattle.std.specs.declared.cmp.Ordering.TheVariants.{Less, Equal, Greater}
use Rattle.tt_exec_step.specs.MachineState.{Body}
use Rattle.tt_exec_step.specs.FunctionTable.{body_of_place, body_if, body_at, listed_from, listed, slots}
use Rattle.tt_exec_step.specs.Numbered.{extent}

less : (n m : ℕ) → n < m → nat_cmp n m ≡ Less
less n m lt = grind (arith, nat_tests)

equal : (n : ℕ) → nat_cmp n n ≡ Equal
equal n = grind (arith, nat_tests)

greater : (n m : ℕ) → m < n → nat_cmp n m ≡ Greater
greater n m lt = grind (arith, nat_tests)

-- a number below all others goes before them, and none of them is that number
put-first : (n k : ℕ) (b : Body) (ss : List (Option Body)) → n < k
    → insert_entry nat_cmp (listed_from k ss) n b ≡ (n, b) ∷ listed_from k ss
put-first n k b [] lt = refl
put-first n k b (None ∷ ss) lt = put-first n (suc k) b ss (omega arith)
put-first n k b (Some c ∷ ss) lt = rw (less n k lt) refl

none-below : (n k : ℕ) (ss : List (Option Body)) → n < k → lookup (is_at (nat_cmp n)) (listed_from k ss) ≡ None
none-below n k [] lt = refl
none-below n k (None ∷ ss) lt = none-below n (suc k) ss (omega arith)
none-below n k (Some c ∷ ss) lt = rw (less n k lt) (none-below n (suc k) ss (omega arith))

-- the list with a number's body is the list with that inserted
pub put-slot : (n k i : ℕ) (b : Body) (ss : List (Option Body)) → i < length ss → n ≡ k + i
    → listed_from k (set ss i (Some b)) ≡ insert_entry nat_cmp (listed_from k ss) n b
put-slot n k i b [] lt is = absurd (omega arith)
put-slot n k zero b (None ∷ ss) lt is =
    let same : n ≡ k = omega arith in
    rw same (sym (put-first k (suc k) b ss (omega arith)))
put-slot n k zero b (Some c ∷ ss) lt is =
    let same : n ≡ k = omega arith in
    rw (same, equal k) refl
put-slot n k (suc i) b (None ∷ ss) lt is = put-slot n (suc k) i b ss (omega arith) (omega arith)
put-slot n k (suc i) b (Some c ∷ ss) lt is =
    rw (greater n k (omega arith)) (ap (λ es. (k, c) ∷ es) (put-slot n (suc k) i b ss (omega arith) (omega arith)))

none-more : (k m : ℕ) → listed_from k (replicate m None) ≡ []
none-more k zero = refl
none-more k (suc m) = none-more (suc k) m

pub grown : (k m : ℕ) (ss : List (Option Body)) → listed_from k (ss ++ replicate m None) ≡ listed_from k ss
grown k m [] = none-more k m
grown k m (None ∷ ss) = grown (suc k) m ss
grown k m (Some c ∷ ss) = ap (λ es. (k, c) ∷ es) (grown (suc k) m ss)

abbrev joined : Option (Option Body) → Option Body
joined None = None
joined (Some o) = o

found-slot : (n k i : ℕ) (ss : List (Option Body)) → n ≡ k + i
    → lookup (is_at (nat_cmp n)) (listed_from k ss) ≡ joined (slice_get ss i)
found-slot n k i [] is = refl
found-slot n k zero (None ∷ ss) is = none-below n (suc k) ss (omega arith)
found-slot n k zero (Some c ∷ ss) is =
    let same : n ≡ k = omega arith in
    rw (same, equal k) refl
found-slot n k (suc i) (None ∷ ss) is = found-slot n (suc k) i ss (omega arith)
found-slot n k (suc i) (Some c ∷ ss) is = rw (greater n k (omega arith)) (found-slot n (suc k) i ss (omega arith))

joined-if : (bodies : List Body) (o : Option ℕ) → joined (option_map (body_of_place bodies) o) ≡ body_if bodies o
joined-if bodies None = refl
joined-if bodies (Some p) = refl

pub found-listed : (n : ℕ) (places : List ℕ) (bodies : List Body)
    → lookup (is_at (nat_cmp n)) (listed places bodies) ≡ body_at n places bodies
found-listed n places bodies =
    found-slot n 0 n (slots places bodies) (omega arith)
    ∙ ap joined (slice_get-map (body_of_place bodies) places n) ∙ joined-if bodies (slice_get places n)

-- the count of numbers with a body
pub one-more : (k i : ℕ) (b : Body) (ss : List (Option Body)) → i < length ss → slice_get ss i ≡ Some None
    → length (listed_from k (set ss i (Some b))) ≡ length (listed_from k ss) + 1
one-more k i b [] lt is = absurd (omega arith)
one-more k zero b (None ∷ ss) lt is = omega arith
one-more k zero b (Some c ∷ ss) lt is = absurd (cc)
one-more k (suc i) b (None ∷ ss) lt is = one-more (suc k) i b ss (omega arith) is
one-more k (suc i) b (Some c ∷ ss) lt is = omega (arith, one-more (suc k) i b ss (omega arith) is)

pub as-many : (k i : ℕ) (b c : Body) (ss : List (Option Body)) → i < length ss → slice_get ss i ≡ Some (Some c)
    → length (listed_from k (set ss i (Some b))) ≡ length (listed_from k ss)
as-many k i b c [] lt is = absurd (omega arith)
as-many k zero b c (None ∷ ss) lt is = absurd (cc)
as-many k zero b c (Some d ∷ ss) lt is = refl
as-many k (suc i) b c (None ∷ ss) lt is = as-many (suc k) i b c ss (omega arith) is
as-many k (suc i) b c (Some d ∷ ss) lt is = ap suc (as-many (suc k) i b c ss (omega arith) is)

-- a body at the end
get-front : (bs : List Body) (b : Body) (q : ℕ) → q < length bs → slice_get (bs ++ b ∷ []) q ≡ slice_get bs q
get-front [] b q lt = absurd (omega arith)
get-front (c ∷ bs) b zero lt = refl
get-front (c ∷ bs) b (suc q) lt = get-front bs b q (omega arith)

get-last : (bs : List Body) (b : Body) → slice_get (bs ++ b ∷ []) (length bs) ≡ Some b
get-last [] b = refl
get-last (c ∷ bs) b = get-last bs b

last-place : (bs : List Body) (b : Body) → body_of_place (bs ++ b ∷ []) (length bs + 1) ≡ Some b
last-place bs b = rw add-one (get-last bs b)

same-place : (bs : List Body) (b : Body) (p : ℕ) → p ≤ length bs → body_of_place (bs ++ b ∷ []) p ≡ body_of_place bs p
same-place bs b zero le = refl
same-place bs b (suc q) le = get-front bs b q (omega arith)

same-slots : (ps : List ℕ) (bs : List Body) (b : Body) → All (λ p. p ≤ length bs) ps
    → slots ps (bs ++ b ∷ []) ≡ slots ps bs
same-slots [] bs b all = refl
same-slots (p ∷ ps) bs b all =
    let tail : All (λ p. p ≤ length bs) ps = λ k d lt. all (suc k) d (omega (arith, lt)) in
    rw (same-place bs b p (all 0 0 (omega arith)), same-slots ps bs b tail) refl

pub new-slots : (ps : List ℕ) (bs : List Body) (b : Body) (i : ℕ) → All (λ p. p ≤ length bs) ps
    → slots (set ps i (length bs + 1)) (bs ++ b ∷ []) ≡ set (slots ps bs) i (Some b)
new-slots [] bs b i all = refl
new-slots (p ∷ ps) bs b zero all =
    let tail : All (λ p. p ≤ length bs) ps = λ k d lt. all (suc k) d (omega (arith, lt)) in
    rw (last-place bs b, same-slots ps bs b tail) refl
new-slots (p ∷ ps) bs b (suc i) all =
    let tail : All (λ p. p ≤ length bs) ps = λ k d lt. all (suc k) d (omega (arith, lt)) in
    rw (same-place bs b p (all 0 0 (omega arith)), new-slots ps bs b i tail) refl

-- another body in a place
get-put : (bs : List Body) (b : Body) (q : ℕ) → q < length bs → slice_get (set bs q b) q ≡ Some b
get-put [] b q lt = absurd (omega arith)
get-put (c ∷ bs) b zero lt = refl
get-put (c ∷ bs) b (suc q) lt = get-put bs b q (omega arith)

get-other : (bs : List Body) (b : Body) (q r : ℕ) → r ≢ q → slice_get (set bs q b) r ≡ slice_get bs r
get-other [] b q r ne = refl
get-other (c ∷ bs) b zero zero ne = absurd (ne refl)
get-other (c ∷ bs) b zero (suc r) ne = refl
get-other (c ∷ bs) b (suc q) zero ne = refl
get-other (c ∷ bs) b (suc q) (suc r) ne = get-other bs b q r (λ same. ne (ap suc same))

other-place : (bs : List Body) (b : Body) (q p : ℕ) → p ≢ suc q → body_of_place (set bs q b) p ≡ body_of_place bs p
other-place bs b q zero ne = refl
other-place bs b q (suc r) ne = get-other bs b q r (λ same. ne (ap suc same))

other-slots : (ps : List ℕ) (bs : List Body) (b : Body) (q : ℕ) → ((k : ℕ) → k < length ps → get_or ps k 0 ≢ suc q)
    → slots ps (set bs q b) ≡ slots ps bs
other-slots [] bs b q none = refl
other-slots (p ∷ ps) bs b q none =
    rw (
      other-place bs b q p (none 0 (omega arith)),
      other-slots ps bs b q (λ k lt. none (suc k) (omega (arith, lt))),
    ) refl

pub put-slots : (ps : List ℕ) (bs : List Body) (b : Body) (i q : ℕ) → i < length ps → q < length bs
    → get_or ps i 0 ≡ suc q → ((k : ℕ) → k < length ps → k ≢ i → get_or ps k 0 ≢ suc q)
    → slots ps (set bs q b) ≡ set (slots ps bs) i (Some b)
put-slots [] bs b i q lt within is apart = absurd (omega arith)
put-slots (p ∷ ps) bs b zero q lt within is apart =
    let others = other-slots ps bs b q
    (λ k below. apart (suc k) (omega (arith, below)) (λ same. absurd (omega (arith, same)))) in
    rw (is, get-put bs b q within, others) refl
put-slots (p ∷ ps) bs b (suc i) q lt within is apart =
    let head : p ≢ suc q = apart 0 (omega arith) (λ same. absurd (omega (arith, same))) in
    let rest = put-slots ps bs b i q (omega arith) within is
    (λ k below ne. apart (suc k) (omega (arith, below)) (λ same. ne (omega (arith, same)))) in
    rw (other-place bs b q p head, rest) refl

-- at most all numbers have a body
pub few-listed : (k : ℕ) (ss : List (Option Body)) → length (listed_from k ss) ≤ length ss
few-listed k [] = omega arith
few-listed k (None ∷ ss) = omega (arith, few-listed (suc k) ss)
few-listed k (Some c ∷ ss) = omega (arith, few-listed (suc k) ss)

-- the places after a number has a body
pub extent-put : (n : ℕ) (b : Body) (fs : List (ℕ × Body)) → extent (insert_entry nat_cmp fs n b) ≡ max (n + 1) (extent fs)
extent-put n b [] = refl
extent-put n b ((k, c) ∷ fs) =
    elim (cases_lt n k) [
      | inl below ↦ rw (less n k below) refl
      | inr above ↦ elim (cases_eq n k) [
        | inl same ↦ rw (same, equal k) (omega arith)
        | inr unlike ↦
            let after : k < n = omega (arith, unlike) in
            rw (greater n k after, extent-put n b fs) (omega arith)
      ]
    ]
