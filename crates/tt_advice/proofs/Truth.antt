-- The advice is true, by the tests that lead to it.
use Rattle.std.proofs.Common.{◌≡◌, refl, ℕ, Bool, true, false, List, drop, codes, Option, Some, None, inl, inr, arith}
use Rattle.std.specs.Prelude.{[], ◌∷◌, ◌==◌, nat_le, ◌&&◌, length, bytes_eq, if◌then◌else◌}
use Rattle.std.proofs.lemmas.Bool.Decides.{nat_tests}
use Rattle.tt_core.specs.Faults.{Fault, why_number}
use Rattle.tt_core.specs.Numbers.{number_at}
use Rattle.tt_advice.specs.Advice.{advice, counted_advice, cut_advice, face_advice, has_cff, has_pictures, is_limit, lack_advice, plain_advice, version_advice}
use Rattle.tt_advice.specs.declared.hint.FixedHint.{FixedHint}
use Rattle.tt_advice.specs.declared.hint.FixedHint.TheVariants as fixed
use Rattle.tt_advice.specs.declared.hint.Hint.{Hint}
use Rattle.tt_advice.specs.declared.hint.Hint.TheVariants as hint
use Rattle.tt_advice.specs.Kinds.{begins, is_bitmaps, is_type1, kind_of}
use Rattle.tt_advice.specs.Laws.{CffIsThere, FacesAreCounted, ProgramsAreRefused}

-- a choice that gives a value came from one of its branches
either : {X : Type 0} (b : Bool) (x y v : X) (P : Type 0) → (if b then x else y) ≡ v
    → (b ≡ true → x ≡ v → P) → (b ≡ false → y ≡ v → P) → P
either true x y v P is holds fails = holds refl is
either false x y v P is holds fails = fails refl is

cff_version : (b : List ℕ) → kind_of b ≡ fixed.Cff → begins b (codes "OTTO") ≡ true
unfolding kind_of
cff_version b is =
    either (begins b (codes "OTTO")) _ _ _ _ is (λ holds e. holds) (λ fails e.
    either (begins b (codes "wOFF")) _ _ _ _ e (λ holds e. absurd cc) (λ fails e.
    either (begins b (codes "wOF2")) _ _ _ _ e (λ holds e. absurd cc) (λ fails e.
    either (is_type1 b) _ _ _ _ e (λ holds e. absurd cc) (λ fails e.
    either (is_bitmaps b) _ _ _ _ e (λ holds e. absurd cc) (λ fails e.
    either (begins b (0x1F ∷ 0x8B ∷ [])) _ _ _ _ e (λ holds e. absurd cc) (λ fails e.
    either (begins b (codes "<")) _ _ _ _ e (λ holds e. absurd cc) (λ fails e. absurd cc)))))))

kind_alone : (k l : FixedHint) → ◌≡◌ {A = Hint} (hint.Fixed k) (hint.Fixed l) → k ≡ l
kind_alone k l is = cc

cff_lack : (f : Fault) (file : List ℕ) (n : ℕ) → lack_advice f file n ≡ hint.Fixed fixed.Cff → has_cff file n ≡ true
cff_lack f file n is =
    either (bytes_eq f.table (codes "fvar")) _ _ _ _ is (λ holds e. absurd cc) (λ fails e.
    either (has_cff file n) _ _ _ _ e (λ holds e. holds)
    (λ fails e. either (has_pictures file n) _ _ _ _ e (λ holds e. absurd cc) (λ fails e. absurd cc)))

cff_maxp : (f : Fault) (file : List ℕ) (n : ℕ) → version_advice f file n ≡ hint.Fixed fixed.Cff → has_cff file n ≡ true
cff_maxp f file n is = either (has_cff file n) _ _ _ _ is (λ holds e. holds) (λ fails e. absurd cc)

-- the advice about a directory that is cut off, and about a file without a face
not_cut : (f : Fault) (file : List ℕ) (v : Hint) (P : Type 0) → cut_advice f file ≡ v
    → (hint.Fixed fixed.Empty ≡ v → P) → (hint.Fixed fixed.Cut ≡ v → P) → P
not_cut f file v P is empty cut =
    either ((length file == 0) && bytes_eq f.table (codes "file")) _ _ _ _ is (λ holds e. empty e) (λ fails e. cut e)

by_count : (o : Option ℕ) (v : Hint) (P : Type 0) → counted_advice o ≡ v
    → (hint.Fixed fixed.NoFaces ≡ v → P) → ((k : ℕ) → o ≡ Some k → hint.Faces k ≡ v → P) → P
by_count None v P is none some = none is
by_count (Some k) v P is none some = either (k == 0) _ _ _ _ is (λ holds e. none e) (λ fails e. some k refl e)

by_face : (file : List ℕ) (v : Hint) (P : Type 0) → face_advice file ≡ v
    → (hint.Fixed fixed.NoCollection ≡ v → P) → (hint.Fixed fixed.NoFaces ≡ v → P)
    → ((k : ℕ) → begins file (codes "ttcf") ≡ true → number_at file 8 4 ≡ Some k → hint.Faces k ≡ v → P) → P
unfolding face_advice
by_face file v P is no_collection no_faces faces =
    either (begins file (codes "ttcf")) _ _ _ _ is
    (λ holds e. by_count (number_at file 8 4) v P e no_faces (λ k there e. faces k holds there e))
    (λ fails e. no_collection e)

lack_fixed : (f : Fault) (file : List ℕ) (n : ℕ) (v : Hint) (P : Type 0) → lack_advice f file n ≡ v
    → (hint.Fixed fixed.NotVariable ≡ v → P) → (hint.Fixed fixed.Cff ≡ v → P) → (hint.Fixed fixed.Bitmaps ≡ v → P) → (hint.Lacks f ≡ v → P) → P
lack_fixed f file n v P is plain cff pictures lacks =
    either (bytes_eq f.table (codes "fvar")) _ _ _ _ is (λ holds e. plain e) (λ fails e.
    either (has_cff file n) _ _ _ _ e (λ holds e. cff e)
    (λ fails e. either (has_pictures file n) _ _ _ _ e (λ holds e. pictures e) (λ fails e. lacks e)))

maxp_fixed : (f : Fault) (file : List ℕ) (n : ℕ) (v : Hint) (P : Type 0) → version_advice f file n ≡ v
    → (hint.Fixed fixed.Cff ≡ v → P) → (hint.Damaged f ≡ v → P) → P
maxp_fixed f file n v P is cff damaged = either (has_cff file n) _ _ _ _ is (λ holds e. cff e) (λ fails e. damaged e)

-- the advice that needs no byte of the file
by_plain : (k : ℕ) (f : Fault) (v : Hint) (P : Type 0) → plain_advice k f ≡ v → (hint.Fixed fixed.Cut ≡ v → P)
    → (hint.Fixed fixed.NoMap ≡ v → P) → (hint.Fixed fixed.Beyond ≡ v → P) → (hint.Fixed fixed.Version ≡ v → P)
    → (hint.Fixed fixed.NoInstance ≡ v → P)
    → (nat_le 30 k ≡ true → hint.Fixed fixed.Program ≡ v → P) → (hint.Damaged f ≡ v → P) → P
by_plain k f v P is cut map limit version instance program damaged =
    either (k == 4) _ _ _ _ is (λ holds e. cut e) (λ fails e.
    either (k == 10) _ _ _ _ e (λ holds e. map e) (λ fails e.
    either (is_limit k) _ _ _ _ e (λ holds e. limit e) (λ fails e.
    either (k == 24) _ _ _ _ e (λ holds e. version e) (λ fails e.
    either (k == 28) _ _ _ _ e (λ holds e. instance e) (λ fails e.
    either (nat_le 30 k) _ _ _ _ e (λ holds e. program holds e) (λ fails e. damaged e))))))

pub cff_is_there : CffIsThere
unfolding advice
cff_is_there f file n is =
    let k = why_number f.why in
    either (k == 1) _ _ _ _ is (λ holds e. inl (cff_version (drop f.offset file) (kind_alone _ _ e))) (λ fails e.
    either (k == 2) _ _ _ _ e (λ holds e. not_cut f file _ _ e (λ e. absurd cc) (λ e. absurd cc)) (λ fails e.
    either (k == 3) _ _ _ _ e (λ holds e. inr (cff_lack f file n e)) (λ fails e.
    either (k == 8) _ _ _ _ e (λ holds e. inr (cff_maxp f file n e)) (λ fails e.
    either (k == 25) _ _ _ _ e (λ holds e. by_face file _ _ e (λ e. absurd cc) (λ e. absurd cc)
    (λ m has there e. absurd cc)) (λ fails e.
    by_plain k f _ _ e (λ e. absurd cc) (λ e. absurd cc) (λ e. absurd cc) (λ e. absurd cc) (λ e. absurd cc) (λ holds e. absurd cc) (λ e. absurd cc))))))

pub faces_are_counted : FacesAreCounted
unfolding advice
faces_are_counted f file n count is =
    let k = why_number f.why in
    either (k == 1) _ _ _ _ is (λ holds e. absurd cc) (λ fails e.
    either (k == 2) _ _ _ _ e (λ holds e. not_cut f file _ _ e (λ e. absurd cc) (λ e. absurd cc)) (λ fails e.
    either (k == 3) _ _ _ _ e (λ holds e. lack_fixed f file n _ _ e (λ e. absurd cc) (λ e. absurd cc) (λ e. absurd cc) (λ e. absurd cc)) (λ fails e.
    either (k == 8) _ _ _ _ e (λ holds e. maxp_fixed f file n _ _ e (λ e. absurd cc) (λ e. absurd cc)) (λ fails e.
    either (k == 25) _ _ _ _ e (λ holds e. by_face file _ _ e (λ e. absurd cc) (λ e. absurd cc)
    (λ m has there e. let same : m ≡ count = cc in (has, rw same at there))) (λ fails e.
    by_plain k f _ _ e (λ e. absurd cc) (λ e. absurd cc) (λ e. absurd cc) (λ e. absurd cc) (λ e. absurd cc) (λ holds e. absurd cc) (λ e. absurd cc))))))

-- a kind is never that of a program
no_program : (b : List ℕ) → kind_of b ≡ fixed.Program → ⊥
unfolding kind_of
no_program b is =
    either (begins b (codes "OTTO")) _ _ _ _ is (λ holds e. cc) (λ fails e.
    either (begins b (codes "wOFF")) _ _ _ _ e (λ holds e. cc) (λ fails e.
    either (begins b (codes "wOF2")) _ _ _ _ e (λ holds e. cc) (λ fails e.
    either (is_type1 b) _ _ _ _ e (λ holds e. cc) (λ fails e.
    either (is_bitmaps b) _ _ _ _ e (λ holds e. cc) (λ fails e.
    either (begins b (0x1F ∷ 0x8B ∷ [])) _ _ _ _ e (λ holds e. cc) (λ fails e.
    either (begins b (codes "<")) _ _ _ _ e (λ holds e. cc) (λ fails e. cc)))))))

pub programs_are_refused : ProgramsAreRefused
unfolding advice
programs_are_refused f file n is =
    let k = why_number f.why in
    either (k == 1) _ _ _ _ is (λ holds e. absurd (no_program (drop f.offset file) (kind_alone _ _ e))) (λ fails e.
    either (k == 2) _ _ _ _ e (λ holds e. not_cut f file _ _ e (λ e. absurd cc) (λ e. absurd cc)) (λ fails e.
    either (k == 3) _ _ _ _ e (λ holds e. lack_fixed f file n _ _ e (λ e. absurd cc) (λ e. absurd cc) (λ e. absurd cc) (λ e. absurd cc)) (λ fails e.
    either (k == 8) _ _ _ _ e (λ holds e. maxp_fixed f file n _ _ e (λ e. absurd cc) (λ e. absurd cc)) (λ fails e.
    either (k == 25) _ _ _ _ e (λ holds e. by_face file _ _ e (λ e. absurd cc) (λ e. absurd cc)
    (λ m has there e. absurd cc)) (λ fails e.
    by_plain k f _ _ e (λ e. absurd cc) (λ e. absurd cc) (λ e. absurd cc) (λ e. absurd cc) (λ e. absurd cc) (λ holds e. grind (arith, nat_tests, holds)) (λ e. absurd cc))))))
