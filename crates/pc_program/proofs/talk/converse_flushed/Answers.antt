use Rattle.std.proofs.Common.{◌≡◌, ◌⊎◌, inl, inr, true, false}
use Rattle.pc_program.specs.Talks.{plain_by}
use Rattle.pc_program.specs.declared.ending.Ending.{Ending}
use Rattle.pc_program.specs.declared.ending.Ending.TheVariants.{CannotRead}
use Rattle.pc_program.specs.declared.ending.Failure.TheVariants as failure
use Rattle.pc_program.proofs.Talking.{talked_kept}
use Rattle.pc_program.proofs.talk.converse_flushed.Goals as goal

-- how a session ends where it is flushed
either : {P : Type 0} (answer ending : Ending) → (answer ≡ CannotRead failure.Write) ⊎ ((answer ≡ ending) × P)
    → (answer ≡ CannotRead failure.Write) ⊎ (answer ≡ ending)
either answer ending (inl failed) = inl failed
either answer ending (inr same) = inr same.0

-- src/talk.rt:97:9
pub returns-then-explains-clause-told : goal.returns-then-explains-clause-told
returns-then-explains-clause-told g c =
    rw (c.if-explains.true)
    (talked_kept (plain_by true) _ _ _ _ _ c.explained_talk-explained.result c.flushed.result c.explained_talk-explained.ensures c.flushed.ensures.kept
    (either c.flushed.result c.explained_talk-explained.result c.flushed.ensures.flushed))

-- src/talk.rt:84:1
pub returns-clause-told : goal.returns-clause-told
returns-clause-told g c =
    rw (c.if-explains.false)
    (talked_kept (plain_by false) _ _ _ _ _ c.plain_talk-plain.result c.flushed-2.result c.plain_talk-plain.ensures c.flushed-2.ensures.kept
    (either c.flushed-2.result c.plain_talk-plain.result c.flushed-2.ensures.flushed))
