use Rattle.std.proofs.Common.{rules}
use Rattle.pc_delta.proofs.Useful.{folded_of_run}
use Rattle.pc_delta.proofs.answer.folded_part.Goals as goal

pub returns : goal.returns
returns g c =
    let lacking = c.lacks.ensures.one c.if-not-lacks.false in (
      record {
        sound = search rules;
        within = search rules;
        number = lacking.number;
        in_part = search rules;
        unknown = lacking.unknown;
        of_run = folded_of_run c.args.thread c.args.held.now c.upto-upto.result c.in-Some.reported c.upto-upto.ensures.value c.in-Some.ensures.value;
      },
      search rules,
    )
