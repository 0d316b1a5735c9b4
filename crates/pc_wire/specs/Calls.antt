-- The request of a call: the event that its numbers and bytes are, or why they are none.
use Rattle.std.specs.Prelude.{◌==◌, ◌&&◌, ℕ, Bool, nat_lt, nat_le, List, length, Option, Some, None, Result, Ok, Err, if◌then◌else◌}
use Rattle.pc_types.specs.declared.Event.{Event}
use Rattle.pc_types.specs.declared.Event.TheVariants as asked
use Rattle.pc_types.specs.declared.refusal.Refusal.{Refusal}
use Rattle.pc_types.specs.declared.refusal.Refusal.TheVariants.{KeyLength, ValueLength, BadKind, BadLength}
use Rattle.pc_types.specs.declared.limits.TheConstants.{MOST_KEY_BYTES, MOST_VALUE_BYTES}
use Rattle.pc_types.specs.Keys.{key_of}
use Rattle.pc_wire.specs.declared.calls.Call.{Call}
use Rattle.pc_wire.specs.declared.calls.TheConstants.{MOST_SPACE}
use Rattle.pc_wire.specs.declared.codes.TheConstants.{BEGIN, GET, PUT, DEL, ADD, COMMIT, ABORT, POINT, SEAL, CAPTURE, TAKE, DONE, REST, JOIN}

-- events of this kind have a key
abbrev pub kind_has_key : ℕ → Bool
kind_has_key kind = nat_le GET kind && nat_le kind ADD

-- why the space and the bytes are no key, if they aren't
abbrev pub key_fault : ℕ → List ℕ → Option Refusal
key_fault space own = if nat_lt MOST_SPACE space then Some BadLength else if length own == 0 then Some KeyLength else if nat_lt MOST_KEY_BYTES (length own) then Some KeyLength else None

-- why the bytes are no value of an event of this kind, if they aren't
abbrev pub value_fault : ℕ → List ℕ → Option Refusal
value_fault kind bytes = if kind == PUT then (if nat_lt MOST_VALUE_BYTES (length bytes) then Some ValueLength else None) else None

-- the first of two causes, if there is one
abbrev pub first_call_fault : Option Refusal → Option Refusal → Option Refusal
first_call_fault (Some why) other = Some why
first_call_fault None other = other

-- why a call asks no event with these bytes of a key and of a value, if it doesn't
abbrev pub call_fault : Call → List ℕ → List ℕ → Option Refusal
call_fault call own bytes =
    if call.kind == 0 then Some BadKind else
    if nat_lt JOIN call.kind then Some BadKind else
    if kind_has_key call.kind then first_call_fault (key_fault call.space own) (value_fault call.kind bytes) else None

-- the event that a call without a fault asks
abbrev pub event_at : Call → List ℕ → List ℕ → Event
event_at call own bytes =
    if call.kind == BEGIN then asked.Begin call.session else
    if call.kind == GET then asked.Get call.session (key_of call.space own) else
    if call.kind == PUT then asked.Put call.session (key_of call.space own) bytes else
    if call.kind == DEL then asked.Del call.session (key_of call.space own) else
    if call.kind == ADD then asked.Add call.session (key_of call.space own) call.delta else
    if call.kind == COMMIT then asked.Commit call.session else
    if call.kind == ABORT then asked.Abort call.session else
    if call.kind == POINT then asked.StartPoint else
    if call.kind == SEAL then asked.Seal else
    if call.kind == CAPTURE then asked.OpenCapture else
    if call.kind == TAKE then asked.Take else
    if call.kind == DONE then asked.Done else
    if call.kind == REST then asked.Rest else
    asked.Join call.first call.second

-- the event, or why there is none
abbrev pub event_unless : Option Refusal → Event → Result Event Refusal
event_unless None event = Ok event
event_unless (Some why) event = Err why

-- the event that a call asks with these bytes, or why it asks none
abbrev pub event_asked : Call → List ℕ → List ℕ → Result Event Refusal
event_asked call own bytes = event_unless (call_fault call own bytes) (event_at call own bytes)
