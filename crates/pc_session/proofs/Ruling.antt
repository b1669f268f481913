-- A policy that a session is given, an event that is taken, and a CPU that is mended.
use Rattle.std.proofs.Common.{◌≡◌, ◌<◌, ◌∙◌, ℕ, zero, suc, true, false, List, [], ◌∷◌, All, get_or, length, refl, sym, ap, subst, arith}
use Rattle.pc_calls.specs.declared.event.Event as event
use Rattle.pc_calls.specs.declared.event.Reply.{Reply}
use Rattle.pc_calls.specs.declared.limits.Limits.{Limits}
use Rattle.pc_kernel.specs.Answers.{Shows}
use Rattle.pc_kernel.specs.Rows.{KernelRows}
use Rattle.pc_policy.specs.Rules.{Rules, rules_of}
use Rattle.pc_policy.specs.declared.agent_policy.AgentPolicy.{AgentPolicy}
use Rattle.pc_script.specs.declared.command.Command.TheVariants as command
use Rattle.pc_policy.specs.declared.named.PolicyName.{PolicyName}
use Rattle.pc_script.specs.declared.response.Response.{Response}
use Rattle.pc_script.specs.declared.response.Response.TheVariants as response
use Rattle.pc_world.specs.Mends.{IsMended}
use Rattle.pc_world.specs.PlainWorld.{PlainWorld, opened_by, rules_at}
use Rattle.pc_world.specs.Shows.{Does, ShowsWorld, World}
use Rattle.pc_world.specs.Steps.{Step}
use Rattle.pc_session.specs.declared.session.Enclave.{Enclave}
use Rattle.pc_policy.specs.Names.{AreAll, rules_named}
use Rattle.pc_session.specs.Session.{IsPolicy, touched, untouched}
use Rattle.pc_session.specs.Inner.Sessions.{Answers, IsReplied}

-- the rules of a CPU are those of the policy at its place
rules_there : (policies : List AgentPolicy) (c : ℕ) (other : AgentPolicy) → c < length policies → rules_at policies c ≡ rules_of (get_or policies c other)
rules_there [] c other low = absurd (omega (arith, low))
rules_there (policy ∷ policies) zero other low = refl
rules_there (policy ∷ policies) (suc c) other low = rules_there policies c other (omega (arith, low))

-- of policies that have the same rules, each has them
each_at : (rules : Rules) (policies : List AgentPolicy) → All (λ policy. rules_of policy ≡ rules) policies → (c : ℕ) → c < length policies → rules_at policies c ≡ rules
each_at rules [] all c low = absurd (omega (arith, low))
each_at rules (policy ∷ policies) all c low = rules_there (policy ∷ policies) c policy low ∙ all c policy low

pub ruled : (k : KernelRows) (old new : Enclave) (policy : PolicyName) (policies : List AgentPolicy)
    → ((w : PlainWorld) → ShowsWorld old.world w → Shows k w.kernel) → old.is_untouched ≡ true → new.is_untouched ≡ true
    → AreAll (rules_named policy) k.limits.cpus policies → ShowsWorld new.world (opened_by (rules_at policies) k.limits)
    → Answers (command.Policy policy) old new (response.Ruled policy)
ruled k old new policy policies kernel was now all shows e h =
    let limits : k.limits ≡ e.world.kernel.limits = ap (λ r. r.limits) (kernel e.world h.world).reads in
    let fresh : true ≡ e.is_untouched = sym was ∙ h.untouched in
    let after = untouched (opened_by (rules_at policies) e.world.kernel.limits) in (
      after,
      subst (λ b. IsPolicy b e policy (response.Ruled policy) after) fresh (
        refl,
        record {
          each = rules_at policies;
          same = λ c low. each_at (rules_named policy) policies all.each c (omega (arith, low, all.many, ap (λ (l : Limits). l.cpus) limits));
          opens = refl;
        },
      ),
      record { world = subst (λ l. ShowsWorld new.world (opened_by (rules_at policies) l)) limits shows; untouched = now },
    )

pub happens : (old : Enclave) (next : World) (event : event.Event) (reply : Reply) → Does (λ w. Step w event) old.world next reply
    → Answers (command.Event event) old (record { world = next; is_untouched = false }) (response.Event reply)
happens old next event reply does e h =
    let after = does e.world h.world in
    (touched after.0, record { reply = reply; after = after.0; step = after.1; tells = refl; leaves = refl }, record { world = after.2; untouched = refl })

pub happens_in : (old : Enclave) (next : World) (event : event.Event) (told : Response) → IsReplied (Does (λ w. Step w event) old.world next) told
    → Answers (command.Event event) old (record { world = next; is_untouched = false }) told
happens_in old next event (response.Event reply) does = happens old next event reply does
happens_in old next event response.Opened does = absurd does
happens_in old next event response.NoEnclave does = absurd does
happens_in old next event response.HaveEnclave does = absurd does
happens_in old next event (response.BadLimits field) does = absurd does
happens_in old next event (response.Status phase thread status) does = absurd does
happens_in old next event (response.Truth holds) does = absurd does
happens_in old next event (response.Sameness same) does = absurd does
happens_in old next event (response.View threads) does = absurd does
happens_in old next event (response.Refused why) does = absurd does
happens_in old next event (response.Ruled policy) does = absurd does

pub mends : (old : Enclave) (next : World) (cpu : ℕ) (reply : Reply) → Does (IsMended cpu) old.world next reply
    → Answers (command.Mend cpu) old (record { world = next; is_untouched = false }) (response.Event reply)
mends old next cpu reply does e h =
    let after = does e.world h.world in
    (touched after.0, record { reply = reply; after = after.0; mended = after.1; tells = refl; leaves = refl }, record { world = after.2; untouched = refl })
