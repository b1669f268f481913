use Rattle.std.proofs.Common.{◌≡◌, None, sym, subst, ◌∙◌}
use Rattle.std.specs.Io.KnownBytes.{Appends}
use Rattle.std.proofs.KnownBytes.{Appends-nil}
use Rattle.pc_settings.specs.UnknownKeys.{unknown_at}
use Rattle.pc_settings.specs.UnknownWords.{warning_of}
use Rattle.pc_settings.proofs.unknown.warnings.write_key.Goals as goal

pub returns-in-None : goal.returns-in-None
returns-in-None g c =
    let known = g.W.Write.contents c.args.writer.now in
    let none : unknown_at c.args.kind c.args.place c.args.key.now ≡ None = sym c.unknown_at.ensures ∙ c.in-None.is in
    subst (λ told. Appends known known (warning_of told)) (sym none) (Appends-nil known)
