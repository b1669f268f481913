use Rattle.std.proofs.Common.{rules, ◌≡◌, ◌∙◌, nat_abs, length, ap, sym}
use Rattle.std.proofs.lemmas.List.{length-map}
use Rattle.pc_load.specs.Loads.{need_of}
use Rattle.pc_lab.proofs.player.limits_of.Goals as goal

pub returns : goal.returns
returns c =
    let cpus : c.cpus.result ≡ nat_abs c.args.load.now.cpus = ap nat_abs c.cpus.ensures in
    let threads : length c.threads.result.now ≡ length c.args.load.now.threads =
    sym (length-map c.threads.result.now need_of) ∙ ap length c.threads.ensures in
    search rules
