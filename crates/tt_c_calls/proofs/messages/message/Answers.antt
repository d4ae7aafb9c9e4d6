use Rattle.std.proofs.Common.{◌≡◌, ◌≢◌, arith, refl}
use Rattle.tt_c_calls.proofs.messages.message.Goals as goal

pub returns-in-Ok : goal.returns-in-Ok
returns-in-Ok c =
    let own = rw (c.as_bytes.ensures.value, c.in-Ok.ensures) at c.write_text.ensures in
    let seven : c.write_text.result.status ≢ 0 → c.write_text.result.status ≡ 7 = λ other. rw (own.small other).1 refl in
    record {
      done = own.done;
      refused = λ other not_seven. absurd (not_seven (seven other));
      small = λ h. own.small (λ zero. omega (arith, h, zero));
      kept = own.kept;
    }

pub returns-in-Err : goal.returns-in-Err
returns-in-Err c = rw c.answer_of.ensures (record {
  done = λ h. absurd (omega (arith, h));
  refused = λ _ _. refl;
  small = λ h. absurd (omega (arith, h));
  kept = λ _. refl;
})
