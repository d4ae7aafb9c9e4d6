-- Entries written one after the other at the front of a room.
use Rattle.std.proofs.Common.{◌≡◌, ℕ, ◌+◌, ◌<◌, ◌≤◌, List, [], ◌∷◌, ◌++◌, length, get_or, take, drop, map, zip, sym, refl, ap, ◌∙◌, append_assoc, add-one, drop-cons, length-take-le, arith}
use Rattle.std.proofs.Math.ListN.{set}
use Rattle.std.proofs.lemmas.List.{append-nil, length-append, length-map, map_more, take_all}
use Rattle.std.proofs.lemmas.Slice.Zip.{get_or-zip, length-zip}
use Rattle.std.proofs.Math.Seq.{set-append_seam}

pub one_more : {A : Type 0} (xs old : List A) (i : ℕ) (v : A) → i ≡ length xs → i < length old
    → set (xs ++ drop i old) i v ≡ (xs ++ (v ∷ [])) ++ drop (i + 1) old
one_more xs old i v n within =
    let next : drop i old ≡ get_or old i v ∷ drop (i + 1) old = rw (add-one, drop-cons old i v) refl in
    rw (next, n) (set-append_seam xs (get_or old (length xs) v) (drop (length xs + 1) old) v
    ∙ sym (append_assoc xs (v ∷ []) (drop (length xs + 1) old)))

-- the entry of one element more
pub next_told : {A B : Type 0} (told : A → B) (xs : List A) (old : List B) (i : ℕ) (d : A) → i < length xs
    → length xs ≤ length old
    → set (map told (take i xs) ++ drop i old) i (told (get_or xs i d)) ≡ map told (take (i + 1) xs) ++ drop (i + 1) old
next_told told xs old i d within few =
    let upto : i ≤ length xs = omega arith in
    let many : i ≡ length (map told (take i xs)) = rw (length-map, length-take-le) refl in
    one_more (map told (take i xs)) old i (told (get_or xs i d)) many (omega arith)
    ∙ ap (λ m. m ++ drop (i + 1) old) (sym (map_more told xs i d within))

-- a walk over a list: those so far, and those that are left
pub one_further : {A : Type 0} (done left rest all : List A) (x : A) → left ≡ x ∷ rest → done ++ left ≡ all
    → ((done ++ x ∷ []) ++ rest ≡ all) × (length done < length all)
one_further done left rest all x first split =
    let long = length-append done (x ∷ rest) in
    let parts : done ++ x ∷ rest ≡ all = rw first at split in
    let many = ap length parts in
    (append_assoc done (x ∷ []) rest ∙ parts, omega (arith, long, many))

pub none_further : {A : Type 0} (done left all : List A) → left ≡ [] → done ++ left ≡ all → done ≡ all
none_further done left all none split = sym (append-nil done) ∙ (rw none at split)

-- entries that are each made of two lists of equal length

zipped_long : {A B : Type 0} (xs : List A) (ys : List B) → length xs ≡ length ys → length (zip xs ys) ≡ length xs
zipped_long xs ys same = let long = length-zip xs ys in omega (arith, long, same)

pub next_zipped : {A B C : Type 0} (told : A × B → C) (xs : List A) (ys : List B) (old : List C) (i : ℕ) (d : A × B)
    → length xs ≡ length ys → i < length xs → length xs ≤ length old
    → set (map told (take i (zip xs ys)) ++ drop i old) i (told (get_or xs i d.0, get_or ys i d.1))
    ≡ map told (take (i + 1) (zip xs ys)) ++ drop (i + 1) old
next_zipped told xs ys old i d same within few =
    let long = zipped_long xs ys same in
    rw (← (get_or-zip xs ys i d within (omega (arith, same, within))))
    (next_told told (zip xs ys) old i d (omega (arith, long, within)) (omega (arith, long, few)))

pub all_told : {A B C : Type 0} (told : A × B → C) (xs : List A) (ys : List B) (old : List C) → length xs ≡ length ys
    → map told (take (length xs) (zip xs ys)) ++ drop (length xs) old ≡ map told (zip xs ys) ++ drop (length xs) old
all_told told xs ys old same =
    ap (λ ps. map told ps ++ drop (length xs) old) (take_all (length xs) (zip xs ys) (let long = zipped_long xs ys same in omega (arith, long)))
