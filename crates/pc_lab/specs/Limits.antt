-- The kernel on which a load is played.
use Rattle.std.specs.Prelude.{nat_abs, length, max, min, ◌^◌, ◌-◌}
use Rattle.pc_calls.specs.declared.limits.Limits.{Limits}
use Rattle.pc_load.specs.Loads.{Demand}

-- the limits of the kernel on which a load is played: there is a name at least, and as many as a u32 counts at most
abbrev pub limits_for : Demand → Limits
limits_for load =
    record {
      cpus = nat_abs load.cpus;
      threads = max (min (length load.threads) (2 ^ 32 - 1)) 1;
      numbers = 1000000;
      room = 65536;
      posts = 4294967295;
    }
