-- A reader's remaining bytes, over several calls.
use Rattle.std.proofs.Common.{◌≡◌, ℕ, ◌+◌, ◌<◌, List, ◌++◌, length, take, drop, Option, Some, None, IfSome, Result, Ok, Err, drop_at, sym, ap, subst, ◌∙◌, arith, append_assoc, length-append}
use Rattle.std.proofs.Math.Seq.{take-add}
use Rattle.std.proofs.lemmas.List.{take-append-le}
use Rattle.std.specs.Io.{ReadsAtMost}
use Rattle.std.proofs.lemmas.Grind.{common_steps}
use Rattle.std.specs.Io.KnownBytes.{Consumes, IsAtEnd, ReadConsumes}
use Rattle.std.specs.Prelude.{IfOk}

pub consumes_more : (a b c : Option (List ℕ)) (front piece : List ℕ) → Consumes a b front → Consumes b c piece
    → Consumes a c (front ++ piece)
consumes_more None b c front piece first next = tt
consumes_more (Some xs) None c front piece first next = absurd first
consumes_more (Some xs) (Some ys) None front piece first next = absurd next
consumes_more (Some xs) (Some ys) (Some zs) front piece first next = rw (first, next)
    (sym (append_assoc front piece zs))

-- the bytes read are no more than those of the reader
pub consumes_larger : (a b : Option (List ℕ)) (bytes : List ℕ) (limit : ℕ) → Consumes a b bytes → limit < length bytes
    → IfSome a (λ file. limit < length file)
consumes_larger None b bytes limit taken large = tt
consumes_larger (Some xs) None bytes limit taken large = absurd taken
consumes_larger (Some xs) (Some ys) bytes limit taken large = rw taken (simp length-append (omega arith))

-- the bytes read up to the end are all
pub consumes_all : (xs : List ℕ) (b : Option (List ℕ)) (bytes : List ℕ) → Consumes (Some xs) b bytes → IsAtEnd b → bytes
    ≡ xs
consumes_all xs None bytes taken end = absurd taken
consumes_all xs (Some ys) bytes taken end = grind (arith, common_steps)

-- bytes read behind a filled front make it longer
pub consumes_filled : (a b c : Option (List ℕ)) (old new : List ℕ) (filled n : ℕ) → take filled new ≡ take filled old
    → Consumes a b (take filled old) → Consumes b c (take n (drop filled new)) → Consumes a c (take (filled + n) new)
consumes_filled a b c old new filled n front first next =
    let both : take (filled + n) new ≡ take filled old ++ take n (drop filled new) =
    take-add filled n new ∙ ap (λ xs. xs ++ take n (drop filled new)) front in
    subst (Consumes a c) (sym both) (consumes_more a b c (take filled old) (take n (drop filled new)) first next)

-- bytes read into a part of a buffer are behind the front
pub consumes_in_place : {E : Type 0} (a b : Option (List ℕ)) (r : Result ℕ E) (front part rest : List ℕ) (filled : ℕ)
    → length front ≡ filled → ReadsAtMost r part → ReadConsumes a b r part
    → IfOk r (λ n. Consumes a b (take n (drop filled (front ++ (part ++ rest)))))
consumes_in_place a b (Ok n) front part rest filled long fits read =
    subst (Consumes a b) (sym (ap (take n) (drop_at front (part ++ rest) filled long) ∙ take-append-le n part rest fits.0))
    read.0
consumes_in_place a b (Err e) front part rest filled long fits read = tt

-- a fact of the bytes read to the end is one of the reader's
pub known_of : (before after : Option (List ℕ)) (file : List ℕ) (P : List ℕ → Type 0) → Consumes before after file
    → IsAtEnd after → P file → IfSome before P
known_of None after file P taken end holds = tt
known_of (Some xs) after file P taken end holds = subst P (consumes_all xs after file taken end) holds
