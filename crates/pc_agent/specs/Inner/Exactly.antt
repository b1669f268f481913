-- The search for the first thread that an exact steal may take over.
use Rattle.std.specs.Prelude.{ℕ, nat_lt, true, Option, Some, None, if◌then◌else◌}
use Rattle.pc_kernel.specs.Reads.{Reads}
use Rattle.pc_policy.specs.Rankings.{Ranking}
use Rattle.pc_policy.specs.Rules.{Rules}
use Rattle.pc_agent.specs.PlainAgent.{Knowledge, is_idle, standing}

-- the rules of exact steals with this ranking
abbrev pub exact_by : Ranking → Rules
exact_by ranks = record { ranks = ranks; exact = true }

-- where a thread stands among those that an exact steal tries; nowhere, where the kernel does not know it or has it on
-- a CPU
abbrev pub place_if_idle : Ranking → Reads → Knowledge → ℕ → ℕ → Option ℕ
place_if_idle ranks r known cpu t = if is_idle r t then standing (exact_by ranks) r known cpu t else None

-- the first so far and its place, once a thread of a greater name was looked at
abbrev pub earlier : Option (ℕ × ℕ) → Option ℕ → ℕ → Option (ℕ × ℕ)
earlier first None t = first
earlier None (Some place) t = Some (place, t)
earlier (Some least) (Some place) t = if nat_lt place least.0 then Some (place, t) else Some least
