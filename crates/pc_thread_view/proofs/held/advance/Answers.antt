use Rattle.std.proofs.Common.{subst, sym}
use Rattle.pc_thread_view.specs.Told.{Told}
use Rattle.pc_thread_view.specs.Inner.Prefix.{Folded}
use Rattle.pc_thread_view.specs.Inner.Held.{told}
use Rattle.pc_thread_view.specs.Inner.Taking.{IsLoose, IsSettled}
use Rattle.pc_thread_view.proofs.Settling.{advance_loose, advance_union, advance_source}
use Rattle.pc_thread_view.proofs.held.advance.Goals as goal

-- what is told with another prefix
abbrev with_prefix : Told → Folded → Told
with_prefix v p = record { upto = p.upto; state = p.state; early = v.early }

pub settle-requires : goal.settle-requires
settle-requires c = subst (λ p. IsLoose (with_prefix (told c.args.held.now) p)) (sym c.copy-held.ensures) (advance_loose (told c.args.held.now) (told c.args.other.now) c.requires.sound c.requires.other c.requires.greater)

pub returns-clause-union : goal.returns-clause-union
returns-clause-union c = advance_union (told c.args.held.now) (told c.args.other.now) (told c.settle.new.held) c.requires.greater (subst (λ p. IsSettled (with_prefix (told c.args.held.now) p) (told c.settle.new.held)) c.copy-held.ensures c.settle.ensures)

pub returns-clause-of_source : goal.returns-clause-of_source
returns-clause-of_source c = advance_source (told c.args.held.now) (told c.args.other.now) (told c.settle.new.held) (subst (λ p. IsSettled (with_prefix (told c.args.held.now) p) (told c.settle.new.held)) c.copy-held.ensures c.settle.ensures)
