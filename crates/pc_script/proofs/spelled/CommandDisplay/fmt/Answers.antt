use Rattle.std.proofs.Common.{◌≡◌, ◌++◌, ◌∙◌, ap, sym, subst, codes}
use Rattle.std.specs.Fmt.{HasWritten}
use Rattle.pc_policy.specs.Names.{policy_text}
use Rattle.pc_script.specs.Grammar.{command_text}
use Rattle.pc_script.proofs.Readback.{policy_line}
use Rattle.pc_script.proofs.spelled.CommandDisplay.fmt.Goals as goal

pub returns-in-Policy-clause-writes : goal.returns-in-Policy-clause-writes
returns-in-Policy-clause-writes g c = λ plain ok.
    let policy = c.in-Policy.policy in
    let text : command_text c.args.self.now ≡ codes "policy " ++ policy_text policy =
    ap command_text c.in-Policy.is ∙ policy_line policy c.is_read_again.ensures in
    subst (λ t. HasWritten g.W.Write.write_str_gives c.args.f.now t c.write-in-Policy.new.self) (sym text) (c.write-in-Policy.ensures.writes plain ok)
