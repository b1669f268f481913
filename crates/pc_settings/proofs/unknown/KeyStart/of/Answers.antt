use Rattle.std.proofs.Common.{◌≡◌, take, ap, ◌∙◌}
use Rattle.std.proofs.lemmas.List.{take_min}
use Rattle.pc_settings.proofs.UnknownKeys.{start_made}
use Rattle.pc_settings.proofs.unknown.KeyStart.of.Goals as goal

pub returns : goal.returns
returns c =
    let copied : c.copy_from_slice.new.self ≡ take c.min-length.result c.args.key.now = c.copy_from_slice.ensures.after in
    let whole : c.copy_from_slice.new.self ≡ take 41 c.args.key.now =
    copied ∙ ap (λ n. take n c.args.key.now) c.min-length.ensures ∙ take_min 41 c.args.key.now in
    start_made c.args.key.now c.copy_from_slice.new.self c.min-length.result whole c.min-length.ensures
