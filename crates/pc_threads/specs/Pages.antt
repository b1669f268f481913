-- What a book is seen as: a kernel, and the list of every call that it accepted with what it answered.
use Rattle.std.specs.Prelude.{◌≡◌, List, [], ◌∷◌, ◌++◌, map, Option, Some, None, Result, Ok, Err}
use Rattle.pc_calls.specs.declared.call.Call.{Call}
use Rattle.pc_calls.specs.declared.call.Answer.{Answer}
use Rattle.pc_calls.specs.declared.refusal.Refusal.{Refusal}
use Rattle.pc_calls.specs.declared.refusal.CallFault.{CallFault}
use Rattle.pc_calls.specs.declared.refusal.CallFault.TheVariants.{Refused, OutOfMemory}
use Rattle.pc_messages.specs.Run.{Run}
use Rattle.pc_kernel.specs.Answers.{Accepts, Shows}
use Rattle.pc_kernel.specs.PlainKernel.{PlainKernel, start}
use Rattle.pc_kernel.specs.Reads.{seen, kinds_read}
use Rattle.pc_kernel.specs.Rows.{KernelRows}
use Rattle.pc_kernel.specs.Steps.{after, replay, reply}

-- what a book is seen as
pub record Pages : Type 0 where
  pub kernel : KernelRows
  pub calls : List (Call × Answer)

-- the calls of a list, without their answers
abbrev pub calls_of : List (Call × Answer) → List Call
calls_of listed = map (λ entry. entry.0) listed

-- the plain kernel to which the listed calls lead, one after another, from a new one of the kernel's limits
abbrev pub replayed : Pages → PlainKernel
replayed book = replay (start book.kernel.limits) (calls_of book.calls)

-- each call is accepted where it stands, with the answer beside it
abbrev pub AreAccepted : PlainKernel → List (Call × Answer) → Type 0
AreAccepted P [] = Unit {0}
AreAccepted P (entry ∷ listed) = (reply P entry.0 ≡ Ok entry.1) × AreAccepted (after P entry.0) listed

-- the kernel shows the replay of the listed calls, each accepted with the answer beside it
pub record IsReplay (book : Pages) : Type 0 where
  pub accepted : AreAccepted (start book.kernel.limits) book.calls
  pub shown : Shows book.kernel (replayed book)

-- the kernel accepted the call with the answer, and both stand at the end of the list
pub record Lists (call : Call) (answer : Answer) (old new : Pages) : Type 0 where
  pub accepted : Accepts call answer old.kernel new.kernel
  pub listed : new.calls ≡ old.calls ++ (call, answer) ∷ []

-- the kinds of the messages that the kernel has posted
abbrev pub run_of : Pages → Run
run_of book = kinds_read (seen book.kernel)

-- what was answered, where memory did not run out
abbrev pub answered : {A : Type 0} → Result A CallFault → Option (Result A Refusal)
answered (Ok answer) = Some (Ok answer)
answered (Err (Refused refusal)) = Some (Err refusal)
answered (Err OutOfMemory) = None
