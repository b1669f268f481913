use Rattle.std.proofs.Common.{◌∙◌, ◌++◌, ◌∷◌, ◌≡◌, ap, codes, decimal, subst}
use Rattle.std.specs.Io.KnownBytes.{Appends}
use Rattle.pc_script.specs.Inner.Outputs.{output_held}
use Rattle.pc_script.specs.Scripts.{outcome_text}
use Rattle.pc_script.specs.declared.outcome.Outcome.TheVariants.{FaultLine}
use Rattle.pc_script.proofs.output.Output.put_fault.Goals as goal

pub returns : goal.returns
returns g c ok =
    let told : c.as_slice.result.now ≡ outcome_text (FaultLine c.args.number) =
    c.as_slice.ensures.value ∙ c.text-2.ensures.written
    ∙ ap (λ rest. codes "fault line " ++ rest) (c.number.ensures.written
    ∙ ap (λ rest. decimal c.args.number ++ rest) (c.text.ensures.written ∙ ap (λ rest. 10 ∷ rest) c.clear.ensures.empty)) in
    subst (Appends (output_held (g.W.Write.contents c.args.writer.now) c.args.self.now)
    (output_held (g.W.Write.contents c.put.new.writer) (record { line = c.text-2.new.self; waiting = c.put.new.self }))) told (c.put.ensures ok)
