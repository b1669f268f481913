-- What the effect of a call tells of the kernel, where the call is accepted.
use Rattle.std.specs.Prelude.{ℕ, ◌≡◌, List, [], ◌∷◌, ◌++◌, Option, Some, None, MatchBool, if◌then◌else◌}
use Rattle.std.specs.Option.{option_or}
use Rattle.pc_messages.specs.Items.{thread_in}
use Rattle.pc_messages.specs.State.{phase_of}
use Rattle.pc_messages.specs.declared.reported.Phase.{Phase}
use Rattle.pc_calls.specs.Effects.{changed_cpu, effect_of_agent, effect_of_env}
use Rattle.pc_calls.specs.declared.call.AgentCall.{AgentCall}
use Rattle.pc_calls.specs.declared.call.EnvCall.{EnvCall}
use Rattle.pc_calls.specs.declared.call.Call.{Call}
use Rattle.pc_calls.specs.declared.call.Call.TheVariants.{Agent, Env}
use Rattle.pc_calls.specs.declared.effect.Effect.{Effect}
use Rattle.pc_calls.specs.declared.leaving.Left.{Left}
use Rattle.pc_calls.specs.declared.limits.Limits.{Limits}
use Rattle.pc_kernel.specs.PlainKernel.{PlainKernel, Post, is_named, kinds, start}
use Rattle.pc_kernel.specs.Reads.{shown}
use Rattle.pc_kernel.specs.Steps.{after, at, refused, replay}

-- who is on each CPU, where on the one that is named, if any, this thread comes, or none
abbrev pub on_behind : Option ℕ → Option ℕ → (ℕ → Option ℕ) → ℕ → Option ℕ
on_behind None comes on = on
on_behind (Some cpu) comes on = at on cpu comes

-- a thread's phase, where an item is posted that puts its thread in this phase, or leaves it where it was
abbrev pub phase_then : Option Phase → Option ℕ → ℕ → Option Phase → Option Phase
phase_then given of_item t before = if is_named of_item t then option_or given before else before

-- a post goes to the queue that the effect names; it is of the thread that the effect names, or of the one that leaves
-- its CPU; that thread's phase is what the effect says, and no other thread's changes
pub record IsPostOf (e : Effect) (P Q : PlainKernel) (post : Post) : Type 0 where
  pub queue : (c : ℕ) → e.cpu ≡ Some c → post.queue ≡ c
  pub thread : (t : ℕ) → e.thread ≡ Some t → thread_in post.item ≡ Some t
  pub left : (l : Left) → e.left ≡ Some l → (t : ℕ) × (P.on l.cpu ≡ Some t) × (thread_in post.item ≡ Some t)
  pub phase : (t : ℕ) → phase_of (kinds Q t) ≡ phase_then e.phase (thread_in post.item) t (phase_of (kinds P t))

-- from one plain kernel to another there is one post more where the effect posts, else none, and on each CPU is who was
-- there, but for the one on which the effect says that this changes
pub record IsEffect (e : Effect) (P Q : PlainKernel) : Type 0 where
  pub posts : MatchBool e.posts ((post : Post) × (Q.posts ≡ P.posts ++ post ∷ []) × IsPostOf e P Q post)
      (Q.posts ≡ P.posts)
  pub on : (c : ℕ) → Q.on c ≡ on_behind (changed_cpu e) (if e.comes then e.thread else None) P.on c

-- after every list of calls from the start of some limits, an accepted call has this effect
abbrev pub HasEffect : Effect → Call → Type 0
HasEffect e call =
    (limits : Limits) (calls : List Call) →
    refused (shown (replay (start limits) calls)) call ≡ None →
    IsEffect e (replay (start limits) calls) (after (replay (start limits) calls) call)

-- a call of the environment has its effect
abbrev pub EnvCallsHaveEffects : Type 0
EnvCallsHaveEffects = (call : EnvCall) → HasEffect (effect_of_env call) (Env call)

-- a call of an agent has its effect
abbrev pub AgentCallsHaveEffects : Type 0
AgentCallsHaveEffects = (call : AgentCall) → HasEffect (effect_of_agent call) (Agent call)
