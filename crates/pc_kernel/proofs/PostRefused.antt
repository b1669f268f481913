-- Why nothing is posted, from the rows of the queue and of the thread, in the words of what can be read.
use Rattle.std.proofs.Common.{◌≡◌, ◌∙◌, ℕ, ◌<◌, ◌≤◌, ◌-◌, ◌==◌, nat_lt, Bool, true, false, List, [], ◌∷◌, length, Option, Some, None, get_or, nat_le, if◌then◌else◌, slice_get, refl, sym, ap, subst, arith}
use Rattle.std.specs.List.{list_any}
use Rattle.std.specs.Option.{option_map, option_map_or}
use Rattle.std.proofs.lemmas.Bool.Decides.{nat_tests}
use Rattle.std.proofs.lemmas.Option.{slice_get-map}
use Rattle.pc_messages.specs.Items.{is_of}
use Rattle.pc_queue.specs.Queue.{refusal_of}
use Rattle.pc_queue.specs.declared.fault.QueueFault.{QueueFault}
use Rattle.pc_queue.specs.declared.fault.QueueFault.TheVariants.{QueueFull, PostsSpent, OutOfMemory}
use Rattle.pc_calls.specs.Conditions.{first_of}
use Rattle.pc_calls.specs.declared.limits.Limits.{Limits}
use Rattle.pc_calls.specs.declared.refusal.Refusal.{Refusal}
use Rattle.pc_calls.specs.declared.refusal.Refusal.TheVariants as refusal
use Rattle.pc_kernel.specs.declared.cpus.CpuEntry.{CpuEntry}
use Rattle.pc_kernel.specs.Rows.{ThreadRow, CpuRow, KernelRows}
use Rattle.pc_kernel.specs.Reads.{seen, content_read, aseq_read, home, number_read, is_pending}
use Rattle.pc_kernel.specs.Steps.{queue_refusals, post_refusals}
use Rattle.pc_kernel.specs.Inner.Entries.{row_of, rows, IsKernel}
use Rattle.pc_kernel.specs.Inner.LastPosts.{KeptThread, thread_row_of, thread_rows, last_place, gone, last_post_to, AreTables}
use Rattle.pc_kernel.proofs.LastPosts.{thread_read, row_read, last_post_of, pending_placed}
use Rattle.pc_kernel.proofs.Moves.{cpu_of}
use Rattle.pc_kernel.proofs.Marked.{cpu_read, seen_content}

-- a queue's refusal as the kernel's; want of memory is none
abbrev pub refused_as : QueueFault → Refusal
refused_as QueueFull = refusal.QueueFull
refused_as PostsSpent = refusal.PostsSpent
refused_as OutOfMemory = refusal.QueueFull

same_order : (full spent : Bool) → option_map refused_as (if full then Some QueueFull else if spent then Some PostsSpent else None) ≡ first_of ((full, refusal.QueueFull) ∷ (spent, refusal.PostsSpent) ∷ [])
same_order true spent = refl
same_order false true = refl
same_order false false = refl

pub queue_refused : (limits : Limits) (threads : List ThreadRow) (cpus : List CpuEntry) (i q : ℕ) (e : CpuEntry) (old : KernelRows) (o : Option QueueFault) → IsKernel limits threads cpus → rows limits threads cpus ≡ old → i ≡ q → q < old.limits.cpus
    → e ≡ get_or cpus i e → o ≡ refusal_of e.queue → option_map refused_as o ≡ first_of (queue_refusals (seen old) q)
queue_refused limits threads cpus i q e old o k is index there read why =
    let within : q < limits.cpus = subst (λ (k : KernelRows). q < k.limits.cpus) (sym is) there in
    let at : slice_get cpus q ≡ Some e = cpu_read limits threads cpus i q e k index within read in
    let has = k.queues q e at in
    let held : content_read (seen (rows limits threads cpus)) q ≡ e.queue.items = seen_content limits threads cpus q e at in
    let posts : aseq_read (seen (rows limits threads cpus)) q ≡ e.queue.posts = ap (λ (o : Option CpuRow). option_map_or (λ row. row.posts) o 0) (slice_get-map row_of cpus q ∙ ap (option_map row_of) at) in
    let full = ap (λ room. nat_le room (length e.queue.items)) has.0 ∙ ap (λ items. nat_le limits.room (length items)) (sym held) in
    let spent = ap (λ most. nat_le most e.queue.posts) has.1 ∙ ap (nat_le limits.posts) (sym posts) in
    let F : Bool → Bool → Option Refusal = λ a b. first_of ((a, refusal.QueueFull) ∷ (b, refusal.PostsSpent) ∷ []) in
    subst (λ (k : KernelRows). option_map refused_as o ≡ first_of (queue_refusals (seen k) q)) is (
    ap (option_map refused_as) why
    ∙ same_order (nat_le e.queue.room (length e.queue.items)) (nat_le e.queue.most e.queue.posts)
    ∙ ap (λ a. F a (nat_le e.queue.most e.queue.posts)) full
    ∙ ap (F (nat_le limits.room (length (content_read (seen (rows limits threads cpus)) q)))) spent)

pub post_refused : (limits : Limits) (threads : List KeptThread) (cpus : List CpuEntry) (i t n q : ℕ) (thread : KeptThread) (old : KernelRows) (o : Option Refusal) → rows limits (thread_rows threads) cpus ≡ old → i ≡ t → t < length old.threads → thread ≡ get_or threads i thread
    → n ≡ length thread.kinds → n < limits.numbers → q ≡ thread.home → o ≡ first_of (queue_refusals (seen old) q) → o ≡ first_of (post_refusals (seen old) t)
post_refused limits threads cpus i t n q thread old o is index known read count few homed why =
    let at : slice_get (thread_rows threads) t ≡ Some (thread_row_of thread) = row_read threads t thread (thread_read limits threads cpus i t thread old is index known read) in
    let K = rows limits (thread_rows threads) cpus in
    let told : number_read (seen K) t ≡ n = ap (λ (o : Option ThreadRow). length (option_map_or (λ row. row.kinds) o [])) at ∙ sym count in
    let lives : home (seen K) t ≡ q = ap (λ (o : Option ThreadRow). option_map_or (λ row. row.home) o 0) at ∙ sym homed in
    let spare : nat_le limits.numbers n ≡ false = grind (arith, nat_tests) in
    subst (λ (k : KernelRows). o ≡ first_of (queue_refusals (seen k) q) → o ≡ first_of (post_refusals (seen k) t)) is
    (λ w. w ∙ sym (rw (told, spare, lives) refl)) why

-- a thread's home is there, and a queue holds no more than was posted to it
pub home_there : (limits : Limits) (threads : List KeptThread) (cpus : List CpuEntry) (i t q : ℕ) (thread : KeptThread) (old : KernelRows) → AreTables limits threads cpus → rows limits (thread_rows threads) cpus ≡ old → i ≡ t → t < length old.threads
    → thread ≡ get_or threads i thread → q ≡ thread.home → q < limits.cpus
home_there limits threads cpus i t q thread old k is index known read homed =
    let row = row_read threads t thread (thread_read limits threads cpus i t thread old is index known read) in
    rw homed (k.kernel.sound.thread t (thread_row_of thread) row).home

pub held_in_posts : (limits : Limits) (threads : List KeptThread) (cpus : List CpuEntry) (j q : ℕ) (e : CpuEntry) → AreTables limits threads cpus → j ≡ q → q < limits.cpus → e ≡ get_or cpus j e → length e.queue.items ≤ e.queue.posts
held_in_posts limits threads cpus j q e k index there read =
    (cpu_of limits (thread_rows threads) cpus q e k.kernel (cpu_read limits (thread_rows threads) cpus j q e k.kernel index there read)).held

-- whether a message of the thread is pending, from the last post of one
pub pending_read : (limits : Limits) (threads : List KeptThread) (cpus : List CpuEntry) (i t : ℕ) (thread : KeptThread) (j n : ℕ) (e : CpuEntry) (old : KernelRows) → AreTables limits threads cpus → rows limits (thread_rows threads) cpus ≡ old
    → i ≡ t → t < length old.threads → thread ≡ get_or threads i thread → j ≡ thread.home → e ≡ get_or cpus j e → n ≡ gone e.queue → nat_lt n thread.last_post ≡ is_pending (seen old) t
pending_read limits threads cpus i t thread j n e old k is index known read at_home read_e count =
    let list = thread_rows threads in
    let K = rows limits list cpus in
    let there : slice_get threads t ≡ Some thread = thread_read limits threads cpus i t thread old is index known read in
    let row : slice_get list t ≡ Some (thread_row_of thread) = row_read threads t thread there in
    let cpu : slice_get cpus thread.home ≡ Some e = cpu_read limits list cpus j thread.home e k.kernel at_home (k.kernel.sound.thread t (thread_row_of thread) row).home read_e in
    let lives : home (seen K) t ≡ thread.home = ap (λ (o : Option ThreadRow). option_map_or (λ row. row.home) o 0) row in
    let held : content_read (seen K) (home (seen K) t) ≡ e.queue.items = ap (content_read (seen K)) lives ∙ seen_content limits list cpus thread.home e cpu in
    let self : (thread.home == thread.home) ≡ true = grind (arith, nat_tests) in
    let post : last_post_to threads t thread.home ≡ thread.last_post = last_post_of threads t thread.home thread there ∙ rw self refl in
    let place : last_place t e.queue.items ≡ thread.last_post - n = k.last_posts t thread.home e cpu ∙ (λ i. post i - sym count i) in
    subst (λ (k : KernelRows). nat_lt n thread.last_post ≡ is_pending (seen k) t) is
    (past n thread.last_post ∙ ap (nat_lt 0) (sym place) ∙ sym (pending_placed t e.queue.items) ∙ sym (ap (list_any (is_of t)) held))
  where
    past : (n m : ℕ) → nat_lt n m ≡ nat_lt 0 (m - n)
    past n m = grind (arith, nat_tests)
