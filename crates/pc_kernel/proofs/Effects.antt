-- An accepted call has its effect.
use Rattle.std.proofs.Common.{◌≡◌, ◌∙◌, ℕ, ◌+◌, ◌==◌, Bool, true, false, not, List, [], ◌∷◌, ◌++◌, Option, Some, None, is_none, unwrap_or, refl, sym, ap, subst, if◌then◌else◌}
use Rattle.std.specs.List.{cons_option}
use Rattle.std.specs.Option.{option_or}
use Rattle.std.proofs.lemmas.List.{append-nil}
use Rattle.std.proofs.lemmas.Option.{same_Some}
use Rattle.pc_messages.specs.State.{phase_given, phase_of}
use Rattle.pc_messages.specs.declared.kind.Kind.{Kind}
use Rattle.pc_messages.specs.declared.kind.Kind.TheVariants as kind
use Rattle.pc_messages.specs.declared.message.Item.TheVariants as item
use Rattle.pc_messages.specs.declared.message.Message.{Message}
use Rattle.pc_messages.specs.declared.reported.Phase.{Phase}
use Rattle.pc_messages.proofs.States.{last_given-push, or_else}
use Rattle.pc_calls.specs.Effects.{effect_of_agent, effect_of_env, leaving, phase_behind, posting, telling}
use Rattle.pc_calls.specs.Leavings.{leaves}
use Rattle.pc_calls.specs.declared.call.AgentCall.{AgentCall}
use Rattle.pc_calls.specs.declared.call.AgentCall.TheVariants.{Associate, Commit, Sleep, Rouse, Config}
use Rattle.pc_calls.specs.declared.call.Call.{Call}
use Rattle.pc_calls.specs.declared.call.Call.TheVariants.{Env, Agent}
use Rattle.pc_calls.specs.declared.effect.Effect.{Effect}
use Rattle.pc_calls.specs.declared.call.EnvCall.{EnvCall}
use Rattle.pc_calls.specs.declared.call.EnvCall.TheVariants.{Create, Wake, Block, YieldNow, Preempt, Die, SetAffinity, SetPriority, Tick}
use Rattle.pc_calls.specs.declared.leaving.Leaving.{Leaving}
use Rattle.pc_calls.specs.declared.leaving.Leaving.TheVariants as how
use Rattle.pc_calls.specs.declared.leaving.Left.{Left}
use Rattle.pc_kernel.specs.PlainKernel.{PlainKernel, kinds, number, threads}
use Rattle.pc_kernel.specs.Reads.{shown}
use Rattle.pc_kernel.specs.Reads as reads
use Rattle.pc_kernel.specs.Steps.{after, after_of, at, changed, posted, refusals, refused}
use Rattle.pc_kernel.specs.Effects.{IsEffect, phase_then}
use Rattle.pc_kernel.proofs.Always.{IsKept, at_same}
use Rattle.pc_kernel.proofs.AlwaysCalls.{none_some, not_false, without}
use Rattle.pc_kernel.proofs.Posting.{kinds-posted}
use Rattle.pc_kernel.proofs.Refusals.{NoneHold, none_hold}
use Rattle.pc_kernel.proofs.ShownReads.{shown-on}

or_same : (o other : Option Phase) → or_else o other ≡ option_or o other
or_same None other = refl
or_same (Some x) other = refl

-- the phases behind a post
message_phase : (B : PlainKernel) (q : ℕ) (m : Message) (t : ℕ) → phase_of (kinds (posted B q (item.Thread m)) t) ≡ phase_then (phase_given m.kind) (Some m.thread) t (phase_of (kinds B t))
message_phase B q m t =
    ap phase_of (kinds-posted B q (item.Thread m) t)
    ∙ elim (m.thread == t) as (λ b. phase_of (kinds B t ++ cons_option (if b then Some m.kind else None) []) ≡ (if b then option_or (phase_given m.kind) (phase_of (kinds B t)) else phase_of (kinds B t))) [
      | true ↦ last_given-push phase_given (kinds B t) m.kind ∙ or_same (phase_given m.kind) (phase_of (kinds B t))
      | false ↦ ap phase_of (append-nil (kinds B t))
    ]

tick_phase : (B : PlainKernel) (q cpu t : ℕ) → phase_of (kinds (posted B q (item.Tick cpu)) t) ≡ phase_of (kinds B t)
tick_phase B q cpu t = ap phase_of (kinds-posted B q (item.Tick cpu) t ∙ append-nil (kinds B t))

-- a thread's next message
abbrev next : PlainKernel → ℕ → Kind → Message
next P t k = record { thread = t; number = number P t + 1; kind = k }

-- a call that names a thread
named_effect : (P : PlainKernel) (t : ℕ) (k : Kind) → IsEffect (telling t (phase_given k)) P (posted P (P.home t) (item.Thread (next P t k)))
named_effect P t k = record {
  posts = (
    record { queue = P.home t; item = item.Thread (next P t k) },
    refl,
    record {
      queue = λ c e. cc;
      thread = λ s e. e;
      left = λ l e. cc;
      phase = message_phase P (P.home t) (next P t k);
    },
  );
  on = λ c. refl;
}

-- a thread that is new
abbrev housed : PlainKernel → ℕ → PlainKernel
housed P queue = record P { home = at P.home (threads P) queue }

new_effect : (P : PlainKernel) (queue : ℕ) (k : Kind) → IsEffect (posting queue (phase_given k)) P (posted (housed P queue) ((housed P queue).home (threads P)) (item.Thread (next (housed P queue) (threads P) k)))
new_effect P queue k = record {
  posts = (
    record { queue = at P.home (threads P) queue (threads P); item = item.Thread (next (housed P queue) (threads P) k) },
    refl,
    record {
      queue = λ c e. at_same P.home (threads P) queue ∙ same_Some queue c e;
      thread = λ s e. cc;
      left = λ l e. cc;
      phase = message_phase (housed P queue) (at P.home (threads P) queue (threads P)) (next (housed P queue) (threads P) k);
    },
  );
  on = λ c. refl;
}

-- a thread leaves its CPU
abbrev gone : PlainKernel → ℕ → ℕ
gone P cpu = unwrap_or (P.on cpu) 0

left_effect : (P : PlainKernel) (cpu ran : ℕ) (way : Leaving) (k : Kind) → IsKept P → not (reads.is_cpu (shown P) cpu) ≡ false → is_none (reads.on (shown P) cpu) ≡ false
    → phase_given k ≡ Some (phase_behind way)
    → IsEffect (leaving (Some (leaves cpu way ran))) P (posted (without P cpu) (P.home (gone P cpu)) (item.Thread (next (without P cpu) (gone P cpu) k)))
left_effect P cpu ran way k h there busy given =
    let t : ℕ = gone P cpu in
    let same : reads.on (shown P) cpu ≡ P.on cpu = shown-on P cpu (not_false (reads.is_cpu (shown P) cpu) there) in
    let on : P.on cpu ≡ Some t = none_some (P.on cpu) (ap is_none (sym same) ∙ busy) in
    let m : Message = next (without P cpu) t k in
    record {
      posts = (
        record { queue = P.home t; item = item.Thread m },
        refl,
        record {
          queue = λ c e. (h.placed cpu t).home on ∙ same_Some cpu c e;
          thread = λ s e. cc;
          left = λ l e. (t, ap (λ (l : Left). P.on l.cpu) (sym (same_Some (leaves cpu way ran) l e)) ∙ on, refl);
          phase = λ s. message_phase (without P cpu) (P.home t) m s ∙ ap (λ p. phase_then p (Some t) s (phase_of (kinds P s))) given;
        },
      );
      on = λ c. refl;
    }

tick_effect : (P : PlainKernel) (cpu : ℕ) → IsEffect (posting cpu None) P (posted P cpu (item.Tick cpu))
tick_effect P cpu = record {
  posts = (
    record { queue = cpu; item = item.Tick cpu },
    refl,
    record {
      queue = λ c e. same_Some cpu c e;
      thread = λ s e. cc;
      left = λ l e. cc;
      phase = tick_phase P cpu cpu;
    },
  );
  on = λ c. refl;
}

env_effect : (P : PlainKernel) (call : EnvCall) → IsKept P → NoneHold (refusals (shown P) (Env call)) → IsEffect (effect_of_env call) P (changed P (Env call))
env_effect P (Create queue true mask) h n = new_effect P queue (kind.Created true mask)
env_effect P (Create queue false mask) h n = new_effect P queue (kind.Created false mask)
env_effect P (Wake t) h n = named_effect P t kind.Wakeup
env_effect P (Block cpu ran) h n = left_effect P cpu ran how.Block (kind.Blocked ran) h n.0 n.1.0 refl
env_effect P (YieldNow cpu ran) h n = left_effect P cpu ran how.Yield (kind.Yield ran) h n.0 n.1.0 refl
env_effect P (Preempt cpu ran) h n = left_effect P cpu ran how.Preempt (kind.Preempted ran) h n.0 n.1.0 refl
env_effect P (Die cpu ran) h n = left_effect P cpu ran how.Die (kind.Dead ran) h n.0 n.1.0 refl
env_effect P (SetAffinity t mask) h n = named_effect P t (kind.Affinity mask)
env_effect P (SetPriority t level) h n = named_effect P t (kind.Priority level)
env_effect P (Tick cpu) h n = tick_effect P cpu

agent_effect : (P : PlainKernel) (call : AgentCall) → IsEffect (effect_of_agent call) P (changed P (Agent call))
agent_effect P (Associate t queue number) = record { posts = refl; on = λ c. refl }
agent_effect P (Commit cpu t aseq) = record { posts = refl; on = λ c. refl }
agent_effect P (Sleep cpu aseq) = record { posts = refl; on = λ c. refl }
agent_effect P (Rouse cpu) = record { posts = refl; on = λ c. refl }
agent_effect P (Config queue None) = record { posts = refl; on = λ c. refl }
agent_effect P (Config queue (Some cpu)) = record { posts = refl; on = λ c. refl }

accepted_has : (e : Effect) (P : PlainKernel) (call : Call) → refused (shown P) call ≡ None → IsEffect e P (changed P call) → IsEffect e P (after P call)
accepted_has e P call accepted has = subst (λ o. IsEffect e P (after_of o (changed P call) P)) (sym accepted) has

pub env_has : (P : PlainKernel) (call : EnvCall) → IsKept P → refused (shown P) (Env call) ≡ None → IsEffect (effect_of_env call) P (after P (Env call))
env_has P call h accepted = accepted_has (effect_of_env call) P (Env call) accepted (env_effect P call h (none_hold (refusals (shown P) (Env call)) accepted))

pub agent_has : (P : PlainKernel) (call : AgentCall) → refused (shown P) (Agent call) ≡ None → IsEffect (effect_of_agent call) P (after P (Agent call))
agent_has P call accepted = accepted_has (effect_of_agent call) P (Agent call) accepted (agent_effect P call)
