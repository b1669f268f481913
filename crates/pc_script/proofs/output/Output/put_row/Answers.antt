use Rattle.std.proofs.Common.{◌∙◌, ◌++◌, ◌∷◌, ◌≡◌, ap, append-nil, sym, subst}
use Rattle.std.proofs.KnownBytes.{Appends-trans}
use Rattle.std.specs.Io.KnownBytes.{Appends}
use Rattle.pc_script.specs.Inner.Outputs.{held, output_held, row_text}
use Rattle.pc_script.specs.Responses.{numbers_text, text_line}
use Rattle.pc_script.proofs.ShownRows.{row_then}
use Rattle.pc_script.proofs.output.Output.put_row.Goals as goal

-- src/output.rt:157:5
pub returns-then-put : goal.returns-then-put
returns-then-put g c = λ ok.
    let before = output_held (g.W.Write.contents c.args.writer.now) c.args.self.now in
    let between = held (g.W.Write.contents c.put-in-Some.new.writer) c.put-in-Some.new.self in
    let after = output_held (g.W.Write.contents c.put_numbers.new.writer) c.put_numbers.new.self in
    let row = row_text c.args.shown.now in
    let numbers = c.in-Some.first.now ∷ c.in-Some.others.now in
    let is_row : c.as_slice-in-Some.result.now ≡ row =
    c.as_slice-in-Some.ensures.value ∙ c.write_row-in-Some.ensures.written ∙ ap (λ rest. row ++ rest) c.clear.ensures.empty ∙ append-nil row in
    subst (Appends before after) (row_then c.args.shown.now numbers (sym c.as_slice.ensures ∙ c.in-Some.ensures.cases.0))
    (Appends-trans before between after row (text_line (numbers_text numbers))
    (subst (Appends before between) is_row (c.put-in-Some.ensures (c.if-put.true))) (c.put_numbers.ensures ok))
