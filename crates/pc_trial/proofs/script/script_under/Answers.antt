use Rattle.pc_trial.proofs.Played.{all_ok, scripted}
use Rattle.pc_trial.specs.Comparing.{IsScript}
use Rattle.pc_trial.proofs.script.script_under.Goals as goal

pub returns-clause-told : goal.returns-clause-told
returns-clause-told g c =
    let script = scripted c.args.load.now c.args.variant.now c.in_ok-head.head.items c.in_ok-played.played c.in_ok-text.text
    c.in_ok-played.ensures c.in_ok-text.ensures c.in_ok-head.ensures in
    all_ok (λ text. IsScript c.args.load.now c.args.variant.now text.items) c.within_room.result c.in_ok-text.text c.within_room.ensures.same script
