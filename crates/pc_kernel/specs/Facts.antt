-- What holds of a plain kernel after every list of calls.
use Rattle.std.specs.Prelude.{ℕ, ◌+◌, ◌≡◌, ◌≢◌, nat_lt, true, false, List, [], ◌∷◌, drop, Some}
use Rattle.std.specs.List.{filter_map}
use Rattle.std.specs.Option.{option_map_or}
use Rattle.pc_messages.specs.Items.{message_in}
use Rattle.pc_messages.specs.Mask.{allows}
use Rattle.pc_messages.specs.State.{phase_of, mask_of}
use Rattle.pc_messages.specs.Run.{IsBegun, Extends}
use Rattle.pc_messages.specs.declared.kind.Kind.{Kind}
use Rattle.pc_messages.specs.declared.message.Message.{Message}
use Rattle.pc_messages.specs.declared.reported.Phase.TheVariants.{Ready}
use Rattle.pc_calls.specs.declared.call.Call.{Call}
use Rattle.pc_calls.specs.declared.limits.Limits.{Limits}
use Rattle.pc_kernel.specs.PlainKernel.{PlainKernel, start, kinds, is_known, threads, aseq, content}
use Rattle.pc_kernel.specs.Steps.{replay, after}

-- what a queue holds of a thread
abbrev pub waiting : PlainKernel → ℕ → ℕ → List Message
waiting P t q = filter_map (message_in t) (content P q)

-- the messages of a thread whose kinds these are, from a number on
abbrev pub numbered : ℕ → ℕ → List Kind → List Message
numbered t n [] = []
numbered t n (kind ∷ kinds) = record { thread = t; number = n; kind = kind } ∷ numbered t (n + 1) kinds

-- all messages of a thread
abbrev pub messages : PlainKernel → ℕ → List Message
messages P t = numbered t 1 (kinds P t)

-- a thread's messages that were not consumed all stand in its home queue, and are its last ones, in order
pub record IsAtHome (P : PlainKernel) (t : ℕ) : Type 0 where
  pub elsewhere : (q : ℕ) → q ≢ P.home t → waiting P t q ≡ []
  pub last : (few : ℕ) × (waiting P t (P.home t) ≡ drop few (messages P t))

-- a thread that is on a CPU is on no other; that CPU is its home queue's; it is ready, and its mask allows the CPU
pub record IsPlaced (P : PlainKernel) (c t : ℕ) : Type 0 where
  pub alone : P.on c ≡ Some t → (other : ℕ) → P.on other ≡ Some t → other ≡ c
  pub home : P.on c ≡ Some t → P.home t ≡ c
  pub ready : P.on c ≡ Some t → phase_of (kinds P t) ≡ Some Ready
  pub allowed : P.on c ≡ Some t → option_map_or (λ mask. allows mask c) (mask_of (kinds P t)) false ≡ true

-- a sleeping agent that its own queue wakes has had no post since it slept
abbrev pub HadNoPost : PlainKernel → ℕ → Type 0
HadNoPost P c = (then' : ℕ) → P.slept c ≡ Some then' → P.target c ≡ Some c → aseq P c ≡ then'

-- after every list of calls from the start of some limits, as the next four: a thread's waiting messages stand at home
abbrev pub AlwaysAtHome : Type 0
AlwaysAtHome = (limits : Limits) (calls : List Call) (t : ℕ) → IsAtHome (replay (start limits) calls) t

-- a thread that is on a CPU is placed there
abbrev pub AlwaysPlaced : Type 0
AlwaysPlaced = (limits : Limits) (calls : List Call) (c t : ℕ) → IsPlaced (replay (start limits) calls) c t

-- a sleeping agent that its own queue wakes had no post since it slept
abbrev pub SleepersHadNoPost : Type 0
SleepersHadNoPost = (limits : Limits) (calls : List Call) (c : ℕ) → HadNoPost (replay (start limits) calls) c

-- each thread's kinds begin with their only Created
abbrev pub RunsAreBegun : Type 0
RunsAreBegun = (limits : Limits) (calls : List Call) (t : ℕ) → IsBegun (kinds (replay (start limits) calls) t)

-- the known threads are those whose names are below their count
abbrev pub NamesAreDense : Type 0
NamesAreDense =
    (limits : Limits) (calls : List Call) (t : ℕ) →
    is_known (replay (start limits) calls) t ≡ nat_lt t (threads (replay (start limits) calls))

-- every call extends the run, whatever plain kernel it is called on
abbrev pub CallsExtend : Type 0
CallsExtend = (P : PlainKernel) (call : Call) → Extends (kinds (after P call)) (kinds P)
