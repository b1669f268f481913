-- The plain kernel: one list of posts and a few marks, from which all else is derived.
use Rattle.std.specs.Prelude.{ℕ, ◌==◌, nat_lt, not, Bool, false, List, [], ◌∷◌, length, drop, filter, Option, Some}
use Rattle.std.specs.Prelude.{None, find, if◌then◌else◌}
use Rattle.std.specs.List.{filter_map, range_with_len}
use Rattle.pc_messages.specs.Items.{thread_in}
use Rattle.pc_messages.specs.declared.kind.Kind.{Kind}
use Rattle.pc_messages.specs.declared.message.Item.{Item}
use Rattle.pc_messages.specs.declared.message.Item.TheVariants as item
use Rattle.pc_calls.specs.declared.limits.Limits.{Limits}

-- an item, and the queue that it was posted to
pub record Post : Type 0 where
  pub queue : ℕ
  pub item : Item

-- the plain kernel: its limits, all posts in order, and the marks that no post tells
pub record PlainKernel : Type 0 where
  pub limits : Limits
  pub posts : List Post
  pub eaten : ℕ → ℕ  -- of each queue, how many items were consumed
  pub target : ℕ → Option ℕ  -- of each queue, the agent that it wakes
  pub home : ℕ → ℕ  -- of each thread, its queue
  pub on : ℕ → Option ℕ  -- of each CPU, the thread on it
  pub slept : ℕ → Option ℕ  -- of each sleeping agent, the count of posts to its queue when it slept

-- the kernel at the start
abbrev pub start : Limits → PlainKernel
start limits =
    record {
      limits = limits;
      posts = [];
      eaten = λ q. 0;
      target = λ q. Some q;
      home = λ t. 0;
      on = λ c. None;
      slept = λ c. None;
    }

-- what an item says of a thread
abbrev pub kind_in : ℕ → Item → Option Kind
kind_in t (item.Thread message) = if message.thread == t then Some message.kind else None
kind_in t (item.Tick cpu) = None

-- the item, where the post is to the queue
abbrev pub item_to : ℕ → Post → Option Item
item_to q post = if post.queue == q then Some post.item else None

-- each name once, at its first place
abbrev pub firsts : List ℕ → List ℕ
firsts [] = []
firsts (x ∷ xs) = x ∷ filter (λ y. not (y == x)) (firsts xs)

-- the kinds of a thread's messages, in order: the kernel's run
abbrev pub kinds : PlainKernel → ℕ → List Kind
kinds P t = filter_map (λ post. kind_in t post.item) P.posts

-- the number of a thread's last message, 0 where it has none
abbrev pub number : PlainKernel → ℕ → ℕ
number P t = length (kinds P t)

-- some message of the thread was posted
abbrev pub is_known : PlainKernel → ℕ → Bool
is_known P t = nat_lt 0 (number P t)

-- how many threads have a message
abbrev pub threads : PlainKernel → ℕ
threads P = length (firsts (filter_map (λ post. thread_in post.item) P.posts))

-- the items posted to a queue, in order
abbrev pub items_to : PlainKernel → ℕ → List Item
items_to P q = filter_map (item_to q) P.posts

-- how many posts a queue had
abbrev pub aseq : PlainKernel → ℕ → ℕ
aseq P q = length (items_to P q)

-- what a queue holds
abbrev pub content : PlainKernel → ℕ → List Item
content P q = drop (P.eaten q) (items_to P q)

-- the option names this one
abbrev pub is_named : Option ℕ → ℕ → Bool
is_named None n = false
is_named (Some m) n = m == n

-- the CPU that a thread is on
abbrev pub place_of : PlainKernel → ℕ → Option ℕ
place_of P t = find (λ c. is_named (P.on c) t) (range_with_len 0 P.limits.cpus)
