use Rattle.std.proofs.Common.{true, [], ◌∷◌, Ok}
use Rattle.pc_calls.specs.AgentCalls.{associates, commits}
use Rattle.pc_calls.specs.declared.call.Call.{Call}
use Rattle.pc_calls.specs.declared.call.Call.TheVariants.{Env}
use Rattle.pc_calls.specs.declared.call.EnvCall.TheVariants.{Create}
use Rattle.pc_calls.specs.declared.call.Posted.{Posted}
use Rattle.pc_calls.specs.declared.call.Answer.TheVariants as answer
use Rattle.pc_kernel.specs.Rows.{KernelRows}
use Rattle.pc_kernel.specs.Answers.{Steps, StepsInMemory, Replays, done}
use Rattle.pc_kernel.proofs.Answered.{accepts, accepts_plainly, refuses_plainly, replays_accepted, replays_refused, replays_then}
use Rattle.pc_tests.proofs.kernel.caller.run_and_move.Goals as goal

-- a call of the environment and one of an agent, both accepted
both : (first second : Call) (posted : Posted) (old middle new : KernelRows) → StepsInMemory answer.Posted first (Ok posted) old middle → Steps done second (Ok tt) middle new → Replays (first ∷ second ∷ []) old new
both first second posted old middle new h g =
    replays_then (first ∷ []) (second ∷ []) old middle new
    (replays_accepted first (answer.Posted posted) old middle (accepts answer.Posted first posted old middle h))
    (replays_accepted second answer.Done middle new (accepts_plainly done second tt middle new g))

pub returns-in-Ok-associate : goal.returns-in-Ok-associate
returns-in-Ok-associate c =
    let create = Env (Create c.args.queue true 3) in
    let commit = commits c.args.queue c.args.runs c.args.aseq in
    let associate = associates c.args.moves c.args.home c.args.number in
    let k = c.args.kernel.now in
    let a = c.create.new.self in
    let b = c.commit.new.self in
    let n = c.associate.new.self in
    replays_then (create ∷ commit ∷ []) (associate ∷ []) k b n
    (both create commit c.in-Ok.field-0 k a b c.in-Ok.ensures.step c.in-Ok-commit.ensures.step)
    (replays_accepted associate answer.Done b n (accepts_plainly done associate tt b n c.in-Ok-associate.ensures.step))

pub returns-in-Err-associate : goal.returns-in-Err-associate
returns-in-Err-associate c =
    let create = Env (Create c.args.queue true 3) in
    let commit = commits c.args.queue c.args.runs c.args.aseq in
    let associate = associates c.args.moves c.args.home c.args.number in
    let refusal = c.in-Err-associate.field-0 in
    let k = c.args.kernel.now in
    let a = c.create.new.self in
    let b = c.commit.new.self in
    let n = c.associate.new.self in
    replays_then (create ∷ commit ∷ []) (associate ∷ []) k b n
    (both create commit c.in-Ok.field-0 k a b c.in-Ok.ensures.step c.in-Ok-commit.ensures.step)
    (replays_refused associate refusal b n (refuses_plainly done associate refusal b n c.in-Err-associate.ensures.step))
