use Rattle.pc_script.proofs.Spellings.{no_pair-first, no_pair-others}
use Rattle.pc_script.proofs.fields.Tuple2Arguments.read.Goals as goal

pub returns-in-None-read : goal.returns-in-None-read
returns-in-None-read g c = no_pair-others _ _ _ _ _ g.met.First.Argument.is_one_word c.in-Some.ensures.0 c.in-Some.ensures.2 c.in-None-read.ensures

pub returns-in-None : goal.returns-in-None
returns-in-None g c = no_pair-first _ _ _ c.in-None.ensures
