use Rattle.pc_delta.proofs.Mixes.{delta_taken, mix_union, mix_of_run, mix_equal}
use Rattle.pc_delta.proofs.laws.taking_in_is_union_whatever_the_mix.Goals as goal

pub returns : goal.returns
returns c = record { delta = delta_taken; union = mix_union; of_run = mix_of_run; equal = mix_equal }
