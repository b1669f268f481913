-- What a thread's keys told.
use Rattle.std.specs.Prelude.{map}
use Rattle.pc_settings.specs.LoadTexts.{Told}
use Rattle.pc_settings.specs.Inner.Values.{integer_in, text_in}
use Rattle.pc_settings.specs.declared.loads.draft.Draft.{Draft}

abbrev pub told : Draft → Told
told draft = record {
  queue = draft.keys.queue;
  mask = draft.keys.mask;
  texts = map text_in draft.keys.texts.now;
  start = draft.start;
  level = draft.level;
  sleeps = map integer_in draft.sleeps.now;
}
