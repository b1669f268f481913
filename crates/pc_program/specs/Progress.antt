-- The line by which a person at a terminal sees that a run goes on.
use Rattle.std.specs.Prelude.{ℕ, List, ◌++◌, ◌+◌, ◌≤◌, codes, decimal}
use Rattle.pc_threads.specs.declared.runner.gate.Driven.{Driven}
use Rattle.pc_program.specs.declared.progress.TheConstants.{MESSAGES_BETWEEN}

-- how many threads are dead, of all, and how many messages their steps posted
abbrev pub progress_text : ℕ → Driven → List ℕ
progress_text all so_far =
    decimal so_far.threads
    ++ (codes " of " ++ (decimal all
    ++ (codes " threads dead, " ++ (decimal so_far.messages ++ codes " messages"))))

-- the next line is due as many messages after the last one as there are to be between two
abbrev pub IsDue : ℕ → Driven → Type 0
IsDue told so_far = told + MESSAGES_BETWEEN ≤ so_far.messages
