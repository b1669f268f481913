use Rattle.pc_threads.proofs.Sound.{sound_without_fault}
use Rattle.pc_threads.proofs.settings.config.sound_settings_have_no_fault.Goals as goal

pub returns : goal.returns
returns c = sound_without_fault
