-- Whose queue an accepted steal is replied to be: the thief's.
use Rattle.std.proofs.Common.{◌≡◌, ℕ, Bool, true, false, Option, Some, None, MatchBool, is_some}
use Rattle.pc_calls.specs.declared.event.Event.TheVariants as event
use Rattle.pc_calls.specs.declared.event.Reply.{Reply}
use Rattle.pc_calls.specs.declared.event.Reply.TheVariants as replies
use Rattle.pc_calls.specs.declared.refusal.Refusal.{Refusal}
use Rattle.pc_calls.specs.declared.refusal.Refusal.TheVariants as refusals
use Rattle.pc_kernel.specs.Reads.{shown, is_cpu, on}
use Rattle.pc_kernel.specs.Steps.{refused}
use Rattle.pc_agent.specs.Running.{takes_over}
use Rattle.pc_world.specs.PlainWorld.{PlainWorld}
use Rattle.pc_world.specs.Steps.{IsBadCpu, IsStolen, IsTakenOver, IsTried, Step}

no_refusal : (q t : ℕ) (why : Refusal) → ◌≡◌ {A = Reply} (replies.Associated q t) (replies.Refused why) → ⊥
no_refusal q t why e = cc

same_queue : (q t c u : ℕ) → ◌≡◌ {A = Reply} (replies.Associated q t) (replies.Associated c u) → q ≡ c
same_queue q t c u e = cc

module _ (w new : PlainWorld) (c q t : ℕ) where
  abbrev told : Reply
  told = replies.Associated q t

  taken : (u : ℕ) (o : Option Refusal) → IsTakenOver w c u o told new → q ≡ c
  taken u None said = same_queue q t c u said.0
  taken u (Some why) said = absurd (no_refusal q t why said.refused)

  tried : (o : Option ℕ) → IsTried w c o told new → q ≡ c
  tried None said = absurd (no_refusal q t refusals.NothingToSteal said.refused)
  tried (Some u) said = taken u (refused (shown w.kernel) (takes_over c (w.agents c) u)) said

  stolen : (busy : Bool) → IsStolen w c busy told new → q ≡ c
  stolen true said = absurd (no_refusal q t refusals.Busy said.refused)
  stolen false said = tried said.0 said.2

  if_there : (there : Bool) → MatchBool there (IsStolen w c (is_some (on (shown w.kernel) c)) told new) (IsBadCpu w told new) → q ≡ c
  if_there true said = stolen (is_some (on (shown w.kernel) c)) said
  if_there false said = absurd (no_refusal q t refusals.BadCpu said.refused)

  pub own_queue : Step w (event.Steal c) told new → q ≡ c
  own_queue s = if_there (is_cpu (shown w.kernel) c) s
