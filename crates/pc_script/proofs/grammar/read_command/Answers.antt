use Rattle.pc_script.proofs.Spellings.{by_verb, no_verb}
use Rattle.pc_script.specs.Inner.Taking.{words_left}
use Rattle.pc_script.proofs.grammar.read_command.Goals as goal

pub returns-in-None : goal.returns-in-None
returns-in-None c = λ command spelled. no_verb _ _ c.in-None.ensures command spelled

pub returns-in-Some : goal.returns-in-Some
returns-in-Some c = by_verb c.read_as.result c.args.name.now c.in-Some.verb (words_left c.args.words.now) c.read_as.new.commands c.in-Some.ensures c.read_as.ensures
