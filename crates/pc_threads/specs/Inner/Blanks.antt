-- What the ledgers of a run are opened with.
use Rattle.std.specs.Prelude.{◌≡◌}
use Rattle.std.specs.declared.sync.ledger.Blank.{Blank}
use Rattle.std.specs.declared.sync.ledger.Ledger.{Ghosts}
use Rattle.pc_threads.specs.declared.runner.opening.Blanks.{Blanks}

-- the blank is to become this ledger
abbrev pub IsBlankOf : {L : Type 0} → Ghosts L → Blank → Type 0
IsBlankOf ledger blank = (blank.name ≡ ledger.name) × (blank.parts ≡ ledger.parts)

-- the blanks are to become these ledgers: one part of each for the driver, or as many of each as there are agents
pub record AreBlanksOf {A B C D E F H I J : Type 0}
    (cpus : Ghosts A) (created : Ghosts B) (told : Ghosts C) (ran : Ghosts D) (left : Ghosts E) (died : Ghosts F)
    (committed : Ghosts H) (taken_over : Ghosts I) (consumed : Ghosts J)
    (blanks : Blanks) : Type 0 where
  pub cpus_is : IsBlankOf cpus blanks.cpus
  pub created_is : IsBlankOf created blanks.created
  pub told_is : IsBlankOf told blanks.told
  pub ran_is : IsBlankOf ran blanks.ran
  pub left_is : IsBlankOf left blanks.left
  pub died_is : IsBlankOf died blanks.died
  pub committed_is : IsBlankOf committed blanks.committed
  pub taken_over_is : IsBlankOf taken_over blanks.taken_over
  pub consumed_is : IsBlankOf consumed blanks.consumed
  pub one_cpus : blanks.cpus.parts ≡ 1
  pub one_created : blanks.created.parts ≡ 1
  pub one_told : blanks.told.parts ≡ 1
  pub one_ran : blanks.ran.parts ≡ 1
  pub one_left : blanks.left.parts ≡ 1
  pub one_died : blanks.died.parts ≡ 1
  pub as_many_taken_over : blanks.taken_over.parts ≡ blanks.committed.parts
  pub as_many_consumed : blanks.consumed.parts ≡ blanks.committed.parts
