-- What the tests of a thread are put together of.
use Rattle.std.proofs.Common.{ℕ, ℤ, nat_abs, ◌≡◌, ◌&&◌, true, int_le}
use Rattle.pc_messages.specs.Mask.{allows}
use Rattle.pc_messages.proofs.Bools.{first_true, second_true}
use Rattle.pc_load.specs.declared.load.TheConstants.{MOST_LEVEL}
use Rattle.pc_load.specs.Loads.{Need, is_thread, is_load, is_cpu, is_mask, is_life, is_between, is_u32, are_sleeps}

pub record Thread (cpus : ℕ) (need : Need) : Type 0 where
  pub queue : is_cpu cpus need.queue ≡ true
  pub mask : is_mask cpus need.mask ≡ true
  pub life : is_life need.steps ≡ true

pub thread_parts : (cpus : ℕ) (need : Need) → is_thread cpus need ≡ true → Thread cpus need
thread_parts cpus need h =
    let front = first_true (is_cpu cpus need.queue && is_mask cpus need.mask) (is_life need.steps) h in
    record {
      queue = first_true (is_cpu cpus need.queue) (is_mask cpus need.mask) front;
      mask = second_true (is_cpu cpus need.queue) (is_mask cpus need.mask) front;
      life = second_true (is_cpu cpus need.queue && is_mask cpus need.mask) (is_life need.steps) h;
    }

pub record Loaded (before : ℤ) (need : Need) : Type 0 where
  pub home : allows (nat_abs need.mask) (nat_abs need.queue) ≡ true
  pub behind : int_le before need.start ≡ true
  pub start : is_u32 need.start ≡ true
  pub level : is_between 0 MOST_LEVEL need.level ≡ true
  pub sleeps : are_sleeps need.steps need.sleeps ≡ true

pub load_parts : (before : ℤ) (need : Need) → is_load before need ≡ true → Loaded before need
load_parts before need h =
    let home = allows (nat_abs need.mask) (nat_abs need.queue) in
    let start = int_le before need.start && is_u32 need.start in
    let level = is_between 0 MOST_LEVEL need.level in
    let sleeps = are_sleeps need.steps need.sleeps in
    let third = first_true (home && start && level) sleeps h in
    let second = first_true (home && start) level third in
    let both = second_true home start second in
    record {
      home = first_true home start second;
      behind = first_true (int_le before need.start) (is_u32 need.start) both;
      start = second_true (int_le before need.start) (is_u32 need.start) both;
      level = second_true (home && start) level third;
      sleeps = second_true (home && start && level) sleeps h;
    }
