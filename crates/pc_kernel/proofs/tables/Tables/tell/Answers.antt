use Rattle.std.proofs.Common.{ℕ, ◌≡◌, subst, slice_set}
use Rattle.pc_kernel.specs.Inner.Entries.{rows}
use Rattle.pc_kernel.specs.Inner.LastPosts.{thread_row_of, thread_rows}
use Rattle.pc_kernel.specs.Reads.{seen, on}
use Rattle.pc_kernel.specs.Rows.{KernelRows}
use Rattle.pc_kernel.proofs.Grows.{are_targets}
use Rattle.pc_kernel.proofs.Told.{tables_tell, sends_tell, extends_tell, on_told}
use Rattle.pc_kernel.proofs.tables.Tables.tell.Goals as goal

pub tell-requires-clause-targets : goal.tell-requires-clause-targets
tell-requires-clause-targets c = are_targets c.self.inside.limits (thread_rows c.self.inside.threads.items) c.self.inside.cpus.items c.self.invariant.kernel

pub invariant_of-self : goal.invariant_of-self
invariant_of-self c =
    let k = c.self.inside in
    tables_tell c.tell.result k.limits k.threads.items k.cpus.items c.tell.new.cpus.items c.index.result c.args.thread c.index_mut.result.now c.tell.new.self c.args.kind c.args.self.now c.self.invariant c.self.view_is
    c.index.ensures c.requires.known c.index_mut.ensures.value c.tell.ensures.row c.tell.ensures.ok c.tell.ensures.err c.tell.ensures.err_cpus c.requires.numbers c.requires.not_first c.requires.ran

pub returns-clause-ok : goal.returns-clause-ok
returns-clause-ok c =
    let k = c.self.inside in
    sends_tell c.tell.result k.limits k.threads.items k.cpus.items c.tell.new.cpus.items c.index.result c.args.thread c.index_mut.result.now c.tell.new.self c.args.kind c.args.self.now c.self.invariant c.self.view_is
    c.index.ensures c.requires.known c.index_mut.ensures.value c.tell.ensures.row c.tell.ensures.ok

pub returns-clause-stay : goal.returns-clause-stay
returns-clause-stay c =
    let k = c.self.inside in
    let threads = thread_rows (slice_set k.threads.items c.index.result c.tell.new.self) in
    subst (λ (old : KernelRows). (cpu : ℕ) → on (seen (rows k.limits threads c.tell.new.cpus.items)) cpu ≡ on (seen old) cpu) c.self.view_is
    (on_told c.tell.result k.limits (thread_rows k.threads.items) threads k.cpus.items c.tell.new.cpus.items (thread_row_of c.index_mut.result.now) c.args.thread c.args.kind c.tell.ensures.ok c.tell.ensures.err_cpus)

pub returns-clause-extends : goal.returns-clause-extends
returns-clause-extends c =
    let k = c.self.inside in
    extends_tell c.tell.result k.limits k.threads.items k.cpus.items c.index.result c.args.thread c.index_mut.result.now c.tell.new.self c.args.kind c.args.self.now c.self.view_is
    c.index.ensures c.requires.known c.index_mut.ensures.value c.tell.ensures.row c.tell.ensures.err
