use Rattle.pc_lab.specs.Stages.{text_in}
use Rattle.pc_lab.proofs.player.play.Given as goal

abbrev pub ghosts-play_as : goal.ghosts-play_as
ghosts-play_as a =
    record { load = a.load.now; policy = a.variant.now.policy; keep = a.variant.now.keep; before = text_in a.chronicle }
