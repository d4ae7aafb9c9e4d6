use Rattle.std.proofs.Common.{◌≡◌, ap, arith, IfOk, IfSome, Ok, Err, Result}
use Rattle.std.specs.Result.{result_ok}
use Rattle.std.proofs.lemmas.Int.{ints}
use Rattle.tt_test_glyphs.proofs.Near.{near_of}
use Rattle.tt_test_glyphs.proofs.outlines.tape_of.Goals as goal

-- Lemma: a fact of the value that a result may have
fact_of_ok : {T E : Type 0} (r : Result T E) (P Q : T → Type 0) → ((t : T) → P t → Q t) → IfOk r P
    → IfSome (result_ok r) Q
fact_of_ok (Ok t) P Q more is = more t is
fact_of_ok (Err e) P Q more is = tt

pub chords-requires : goal.chords-requires
chords-requires c = record {
  frame = c.requires;
  ends = c.args.outline.now.valid.ends;
  near = near_of _ _ (grind (arith, ints)) c.args.outline.now.valid.coordinates;
}

pub chords-requires-in-Err : goal.chords-requires-in-Err
chords-requires-in-Err c = record {
  frame = c.requires;
  ends = c.args.outline.now.valid.ends;
  near = near_of _ _ (grind (arith, ints)) c.args.outline.now.valid.coordinates;
}

pub returns-in-Ok : goal.returns-in-Ok
returns-in-Ok c = ap (λ t. t.frame) c.in-Ok.ensures.exact

pub returns-in-Err : goal.returns-in-Err
returns-in-Err c = rw c.ok.ensures.value (fact_of_ok c.chords-in-Err.result _ (λ t. t.frame ≡ c.args.frame)
    (λ t is. ap (λ u. u.frame) is) c.chords-in-Err.ensures.exact)
