use Rattle.std.proofs.Common.{◌≡◌, ◌≢◌, arith, refl}
use Rattle.tt_c_calls.specs.Asked.{face_reading}
use Rattle.tt_c_instances.specs.VariationLists.{instances_wanted}
use Rattle.tt_c_calls.proofs.Answered.{fails, stands, tells, wants_none}
use Rattle.tt_c_instances.proofs.variation_lists.instances.Goals as goal

pub returns-in-Ok : goal.returns-in-Ok
returns-in-Ok c =
    let told = c.in-Ok.instances.items in
    let own = rw c.deref.ensures.value at c.write_instances.ensures in
    let status = c.write_instances.result.status in
    let seven : status ≢ 0 → status ≡ 7 = λ other. rw (own.small other).1 refl in
    record {
      entries = record {
        done = λ h. (told, c.in-Ok.ensures.exact, own.done h);
        refused = λ other not_seven. absurd (not_seven (seven other));
        small = λ h. (told, c.in-Ok.ensures.exact, own.small (λ zero. omega (arith, h, zero)));
        kept = own.kept;
      };
      stands = λ one. absurd (omega (arith, one, seven (λ zero. omega (arith, one, zero))));
    }

pub returns-in-Err : goal.returns-in-Err
returns-in-Err c =
    let fault = c.in-Err.fault in
    rw c.answer_of.ensures (record {
      entries = record {
        done = λ h. absurd (fails fault h);
        refused = λ _ _. tells (instances_wanted (face_reading c.args.face) c.args.font.now) fault c.in-Err.ensures.exact;
        small = λ h. absurd (wants_none fault h);
        kept = λ _. refl;
      };
      stands = stands _ fault c.in-Err.ensures.defects;
    })
