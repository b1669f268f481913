-- How far the view of what all know reaches.
use Rattle.std.specs.Prelude.{ℕ, ◌<◌, ◌≤◌}
use Rattle.pc_kernel.specs.Reads.{Reads, number_read}
use Rattle.pc_view.specs.declared.view.View.{View}
use Rattle.pc_view.specs.Prefixes.{upto_of}

-- the thread has a message that the view does not reach, and no lesser thread has
pub record IsFirstShort (reads : Reads) (view : View) (thread : ℕ) : Type 0 where
  pub short : upto_of view thread < number_read reads thread
  pub before : (t : ℕ) → t < thread → number_read reads t ≤ upto_of view t

-- the view reaches each thread's last message
abbrev pub ReachesAll : Reads → View → Type 0
ReachesAll reads view = (t : ℕ) → number_read reads t ≤ upto_of view t
