use Rattle.std.proofs.Common.{◌≡◌, List, [], ◌++◌, refl, sym, ap, ◌∙◌, Some, None}
use Rattle.std.specs.List.{cons_option, filter_map}
use Rattle.std.proofs.lemmas.List.{append-nil}
use Rattle.pc_messages.specs.Run.{Extends}
use Rattle.pc_calls.specs.declared.call.Call.{Call}
use Rattle.pc_calls.specs.declared.call.EnvCall.{EnvCall}
use Rattle.pc_calls.specs.declared.call.EnvCall.TheVariants.{Create, Wake, Block, YieldNow, Preempt, Die, SetAffinity, SetPriority, Tick}
use Rattle.pc_calls.specs.declared.call.AgentCall.TheVariants.{Associate, Commit, Sleep, Rouse, Config}
use Rattle.pc_calls.specs.declared.call.Call.TheVariants.{Env, Agent, Consume}
use Rattle.pc_kernel.specs.PlainKernel.{PlainKernel, Post, kinds, kind_in}
use Rattle.pc_kernel.specs.Steps.{changed, posting}
use Rattle.pc_kernel.proofs.Posting.{kinds-posted}
use Rattle.pc_kernel.proofs.Refusals.{after_has}
use Rattle.pc_kernel.proofs.laws.calls_extend_the_run.Goals as goal

extends_itself : (P : PlainKernel) → Extends (kinds P) (kinds P)
extends_itself P t = ([], sym (append-nil (kinds P t)))

posting_posts : (P : PlainKernel) (call : EnvCall) → (posting P call).before.posts ≡ P.posts
posting_posts P (Create queue ready mask) = refl
posting_posts P (Wake t) = refl
posting_posts P (Block cpu ran) = refl
posting_posts P (YieldNow cpu ran) = refl
posting_posts P (Preempt cpu ran) = refl
posting_posts P (Die cpu ran) = refl
posting_posts P (SetAffinity t mask) = refl
posting_posts P (SetPriority t level) = refl
posting_posts P (Tick cpu) = refl

env_extends : (P : PlainKernel) (call : EnvCall) → Extends (kinds (changed P (Env call))) (kinds P)
env_extends P call t =
    let p = posting P call in
    (cons_option (kind_in t p.item) [], kinds-posted p.before p.queue p.item t ∙ ap (λ (posts : List Post). filter_map (λ (post : Post). kind_in t post.item) posts ++ cons_option (kind_in t p.item) []) (posting_posts P call))

extended : (P : PlainKernel) (call : Call) → Extends (kinds (changed P call)) (kinds P)
extended P (Env call) = env_extends P call
extended P (Consume cpu count) = extends_itself P
extended P (Agent (Associate t queue n)) = extends_itself P
extended P (Agent (Commit cpu t n)) = extends_itself P
extended P (Agent (Sleep cpu n)) = extends_itself P
extended P (Agent (Rouse cpu)) = extends_itself P
extended P (Agent (Config queue None)) = extends_itself P
extended P (Agent (Config queue (Some cpu))) = extends_itself P

pub returns : goal.returns
returns c P call = after_has (λ Q. Extends (kinds Q) (kinds P)) P call (extends_itself P) (λ _. extended P call)
