use Rattle.pc_pen.proofs.Marks.{Marks-words_ok}
use Rattle.pc_pen.proofs.mark.write_words.Goals as goal

pub returns : goal.returns
returns g c = Marks-words_ok c.write_element_of_words.result _ _ _ _ c.plain.ensures c.plain-2.ensures c.write_element_of_words.ensures
