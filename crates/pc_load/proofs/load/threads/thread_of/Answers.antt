use Rattle.std.proofs.Common.{◌≡◌, pos, true, rules}
use Rattle.pc_load.specs.declared.load.TheConstants.{MOST_LEVEL}
use Rattle.pc_load.specs.Loads.{drafted, is_between, is_cpu, is_load, is_mask, is_thread, is_u32}
use Rattle.pc_load.proofs.Parts.{thread_parts, load_parts}
use Rattle.pc_load.proofs.load.threads.thread_of.Goals as goal

pub cpu_of-requires : goal.cpu_of-requires
cpu_of-requires c =
    let there : is_thread c.args.cpus (drafted c.args.draft) ≡ true = search rules in
    let queue : is_cpu c.args.cpus c.args.draft.queue ≡ true = (thread_parts c.args.cpus (drafted c.args.draft) there).queue in
    search rules

pub bits_of-requires : goal.bits_of-requires
bits_of-requires c =
    let there : is_thread c.args.cpus (drafted c.args.draft) ≡ true = search rules in
    let mask : is_mask c.args.cpus c.args.draft.mask ≡ true = (thread_parts c.args.cpus (drafted c.args.draft) there).mask in
    search rules

pub u32_of-requires : goal.u32_of-requires
u32_of-requires c =
    let loaded : is_load (pos c.args.before) (drafted c.args.draft) ≡ true = search rules in
    let start : is_u32 c.args.draft.start ≡ true = (load_parts (pos c.args.before) (drafted c.args.draft) loaded).start in
    search rules

pub level_of-requires : goal.level_of-requires
level_of-requires c =
    let loaded : is_load (pos c.args.before) (drafted c.args.draft) ≡ true = search rules in
    let level : is_between 0 MOST_LEVEL c.args.draft.level ≡ true = (load_parts (pos c.args.before) (drafted c.args.draft) loaded).level in
    search rules
