use Rattle.std.proofs.Common.{◌≡◌, ◌+◌, ◌++◌, ◌∷◌, [], arith, Result, length, rules, sym}
use Rattle.std.proofs.lemmas.List.Elements.{All-append, All-cons}
use Rattle.pc_threads.specs.declared.report.LoadReport.{LoadReport}
use Rattle.pc_program.specs.Seeds.{MayEnd}
use Rattle.pc_program.specs.declared.ending.Unsettled.{Unsettled}
use Rattle.pc_program.proofs.Trying.{lacks_memory, may_end}
use Rattle.pc_program.proofs.seeds.try_seeds.Goals as goal

pub loop-place-init : goal.loop-place-init
loop-place-init g c =
    let none = c.new-tally.ensures in
    (([], λ k d small. absurd (omega (arith, small)), none.tallies c.args.seeds.first), none.adds_up, none.runs)

pub loop-place-preserved : goal.loop-place-preserved
loop-place-preserved g c =
    let before = c.loop-place.invariant in
    let endings = before.0.0 in
    let ended = c.in_ok-ended.ended in
    let ran = c.run_by_seed-ran.ensures in
    let more = c.with-tally.ensures in
    let IsEnd : Result LoadReport Unsettled → Type 0 = λ given. MayEnd given c.args.config.now in
    let seed : c.in-Some.seed ≡ c.args.seeds.first + length endings =
    omega (arith, c.in-Some.ensures, before.2, before.0.2.runs) in
    let so = may_end c.args.config.now c.run_by_seed-ran.result ended (sym c.in_ok-ended.ensures) ran.tells ran.adds_up ran.all ran.stalled in (
      (
        endings ++ ended ∷ [],
        All-append IsEnd endings (ended ∷ []) before.0.1 (All-cons IsEnd ended [] so (λ k d small. absurd (omega (arith, small)))),
        more.tallies c.args.seeds.first endings before.0.2 seed,
      ),
      more.adds_up,
      omega (arith, more.runs, before.2),
    )

pub returns-in_err-ended-clause-fault : goal.returns-in_err-ended-clause-fault
returns-in_err-ended-clause-fault g c =
    let lacks = lacks_memory c.run_by_seed-ran.result _ (sym c.in_err-ended.ensures) c.run_by_seed-ran.ensures.starts in
    search (rules, lacks)
