use Rattle.pc_protocol.proofs.Resting.{held_exactly, knows_exactly, queues_are_empty, threads_known}
use Rattle.pc_protocol.proofs.at_rest_all_is_known.Goals as goal

pub returns-clause-held : goal.returns-clause-held
returns-clause-held c rules limits p comes rest cpu t n low = held_exactly c.kernel_laws.ensures rules limits p comes rest cpu t n low

pub returns-clause-threads : goal.returns-clause-threads
returns-clause-threads c rules limits p comes rest cpu t n low may told =
    threads_known c.kernel_laws.ensures rules limits p comes rest c.upto_is_the_greatest.ensures cpu t n low may told

pub returns-clause-queues : goal.returns-clause-queues
returns-clause-queues c rules limits p comes rest = queues_are_empty c.kernel_laws.ensures rules limits p comes rest

pub returns-clause-mail : goal.returns-clause-mail
returns-clause-mail c rules limits p comes rest cpu new low reads = knows_exactly c.kernel_laws.ensures rules limits p comes rest cpu new low reads
