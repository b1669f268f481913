-- What a call of the environment leaves in the place of a reply.
use Rattle.std.specs.Prelude.{◌≡◌, Result, Ok, Err}
use Rattle.pc_calls.specs.declared.call.Posted.{Posted}
use Rattle.pc_calls.specs.declared.event.Reply.{Reply}
use Rattle.pc_calls.specs.declared.event.Reply.TheVariants as replies
use Rattle.pc_calls.specs.declared.refusal.CallFault.{CallFault}
use Rattle.pc_calls.specs.declared.refusal.CallFault.TheVariants as faults
use Rattle.pc_join.specs.declared.join.OutOfMemory.{OutOfMemory}

-- what a call of the environment came to was put into the place of a reply
abbrev pub IsPut : Result Posted CallFault → Result (Unit {0}) OutOfMemory → Reply → Type 0
IsPut (Ok posted) (Ok done) told = told ≡ replies.Posted posted
IsPut (Err (faults.Refused refusal)) (Ok done) told = told ≡ replies.Refused refusal
IsPut (Err faults.OutOfMemory) (Err fault) told = Unit {0}
IsPut (Ok posted) (Err fault) told = ⊥
IsPut (Err (faults.Refused refusal)) (Err fault) told = ⊥
IsPut (Err faults.OutOfMemory) (Ok done) told = ⊥
