-- Not from the standard: readers and writers that remember whether they failed. Their remaining or written bytes are as
-- in std: None if they are not known.
use Rattle.std.specs.Prelude.{◌≡◌, ℕ, ◌<◌, Bool, true, Result, Ok, Err, List, length, IfOk}
use Rattle.tt_core.specs.declared.device.Device.{Device}

-- a failed call is remembered; a successful call changes nothing
abbrev pub RemembersFailure : {X E : Type 0} → Bool → Bool → Result X E → Type 0
RemembersFailure old new (Ok x) = new ≡ old
RemembersFailure old new (Err e) = new ≡ true

-- if there are bytes, at least one is taken
abbrev pub TakesSome : {E : Type 0} → Result ℕ E → List ℕ → Type 0
TakesSome result bytes = IfOk result (λ n. 0 < length bytes → 0 < n)

-- the wrapped reader or writer
abbrev pub device_inner : {T : Type 0} → Device T → T
device_inner d = d.inner

-- whether a call has failed
abbrev pub has_device_failed : {T : Type 0} → Device T → Bool
has_device_failed d = d.failed
