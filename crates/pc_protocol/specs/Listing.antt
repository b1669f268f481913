-- Sets of messages that a list tells.
use Rattle.pc_join.specs.Sets.{IsSameSet, Members, as_members}
use Rattle.pc_agent.specs.PlainAgent.{Set}

-- some list tells just these
abbrev pub IsListed : Members → Type 0
IsListed members = (set : Set) × IsSameSet members (as_members set)
