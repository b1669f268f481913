-- What a script has written, and what waits to be written.
use Rattle.std.specs.Prelude.{◌≡◌, ℕ, ◌+◌, ◌++◌, List, Option, codes, decimal, drop, length, take}
use Rattle.std.specs.Io.KnownBytes.{append_known}
use Rattle.pc_script.specs.Grammar.{thread_name}
use Rattle.pc_script.specs.Responses.{reported_text}
use Rattle.pc_script.specs.declared.lists.ShownThread.{ShownThread}
use Rattle.pc_script.specs.declared.output.Output.{Output}
use Rattle.pc_script.specs.declared.output.Waiting.{Waiting}

-- the bytes that wait
abbrev pub waiting : Waiting → List ℕ
waiting replies = take replies.len replies.bytes

-- what a writer holds, and behind it what waits
abbrev pub held : Option (List ℕ) → Waiting → Option (List ℕ)
held known replies = append_known known (waiting replies)

-- the same of an output
abbrev pub output_held : Option (List ℕ) → Output → Option (List ℕ)
output_held known output = held known output.waiting

-- what is written of a thread in a view, but for the numbers of early messages
abbrev pub row_text : ShownThread → List ℕ
row_text shown =
    thread_name shown.thread
    ++ (codes " upto " ++ (decimal shown.upto ++ (codes " " ++ (reported_text shown.reported ++ codes " early "))))

-- a text stands behind the first `at` bytes of the old ones, up to `end`; behind that nothing has changed
pub record IsPlaced (old new : List ℕ) (at : ℕ) (text : List ℕ) (end : ℕ) : Type 0 where
  pub bytes : take end new ≡ take at old ++ text
  pub rest : drop end new ≡ drop end old
  pub moved : end ≡ at + length text
  pub same_length : length new ≡ length old
