use Rattle.std.proofs.Common.{ℕ, ◌≡◌, true, false, drop}
use Rattle.pc_delta.specs.Parts.{tells_of}
use Rattle.pc_policy.specs.Rankings.{ranks_of}
use Rattle.pc_run_queue.specs.Names.{has_name}
use Rattle.pc_agent.specs.Inner.Settled.{AreNotedAlike, is_noted}
use Rattle.pc_agent.proofs.watch.note_told.Given as goal

-- of a thread of the list that is not noted, the parts tell only where those that are left do
abbrev pub invariant-loop-part : goal.invariant-loop-part
invariant-loop-part l = record {
  others : (t : ℕ) → has_name l.list t ≡ true → is_noted l.noted.items t ≡ false → tells_of l.parts t ≡ tells_of (drop l.part-index l.parts) t;
  alike : AreNotedAlike (ranks_of l.policy) l.view l.cpu l.initial.noted.items l.noted.items;
}
