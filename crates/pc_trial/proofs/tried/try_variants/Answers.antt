use Rattle.pc_trial.proofs.Endings.{others_at_variants, tried_other}
use Rattle.pc_trial.proofs.tried.try_variants.Goals as goal

pub returns-in-Ok-variants_in-clause-told : goal.returns-in-Ok-variants_in-clause-told
returns-in-Ok-variants_in-clause-told g c =
    tried_other c.args.wanted.now (g.R.Read.remaining c.args.load.now) (g.V.Read.remaining c.args.variants.now) c.in-Ok.read.0 c.in-Ok.read.1
    c.in-Ok-variants_in.variants _ _ c.tell.result c.in-Ok.ensures.ok c.in-Ok-variants_in.ensures.ok c.tell.ensures.told

pub returns-clause-told : goal.returns-clause-told
returns-clause-told g c =
    others_at_variants c.args.wanted.now (g.R.Read.remaining c.args.load.now) (g.V.Read.remaining c.args.variants.now) c.in-Ok.read.0 c.in-Ok.read.1
    _ _ c.in-Err-variants_in.ending c.in-Ok.ensures.ok c.in-Err-variants_in.ensures.err
