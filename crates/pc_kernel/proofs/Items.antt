-- Items of a run: that they can be told, and that they stay items of a longer run.
use Rattle.std.proofs.Common.{◌≡◌, ◌∙◌, ℕ, suc, zero, List, [], ◌∷◌, ◌++◌, Some, Contains, sym, ap, subst, arith, inl, inr}
use Rattle.std.proofs.lemmas.List.Elements.{All-contains, All-weaker, All-push, Contains-append_cases}
use Rattle.std.proofs.lemmas.Option.{same_Some}
use Rattle.pc_messages.specs.Items.{IsItemOf, AreItemsOf, AreTellable}
use Rattle.pc_messages.specs.Run.{Run, kind_at, IsWellFormed}
use Rattle.pc_messages.specs.declared.kind.Kind.{Kind}
use Rattle.pc_messages.specs.declared.message.Message.{Message}
use Rattle.pc_messages.specs.declared.message.Item.{Item}
use Rattle.pc_messages.specs.declared.message.Item.TheVariants.{Thread, Tick}

-- a message of a list of items is one of the run
message_of : (run : Run) (items : List Item) (m : Message) → AreItemsOf run items → Contains items (Thread m) → kind_at (run m.thread) m.number ≡ Some m.kind
message_of run items m h there = All-contains (IsItemOf run) items (Thread m) h there

-- well formed messages of a run can be told
pub are_tellable : (run : Run) (items : List Item) → AreItemsOf run items → ((m : Message) → Contains items (Thread m) → IsWellFormed m.number m.kind) → AreTellable items
are_tellable run items h well = record {
  well_formed = well;
  alike = λ one other a b threads numbers.
      same_Some one.kind other.kind (
      sym (message_of run items one h a)
      ∙ ap (λ t. kind_at (run t) one.number) threads
      ∙ ap (kind_at (run other.thread)) numbers
      ∙ message_of run items other h b);
}

-- an item of a run is one of a run that has its messages
pub item_of_longer : (old new : Run) → ((t n : ℕ) (kind : Kind) → kind_at (old t) n ≡ Some kind → kind_at (new t) n ≡ Some kind) → (it : Item) → IsItemOf old it → IsItemOf new it
item_of_longer old new longer (Thread m) h = longer m.thread m.number m.kind h
item_of_longer old new longer (Tick cpu) h = tt

pub items_of_longer : (old new : Run) (items : List Item) → ((t n : ℕ) (kind : Kind) → kind_at (old t) n ≡ Some kind → kind_at (new t) n ≡ Some kind) → AreItemsOf old items → AreItemsOf new items
items_of_longer old new items longer h = All-weaker (IsItemOf old) (IsItemOf new) (item_of_longer old new longer) items h

-- of a run with the same kinds
pub items_of_same : (old new : Run) (items : List Item) → ((t : ℕ) → new t ≡ old t) → AreItemsOf old items → AreItemsOf new items
items_of_same old new items same h = items_of_longer old new items (λ t n kind e. ap (λ ks. kind_at ks n) (same t) ∙ e) h

-- an item that is next in a queue: it is of the run, and well formed
pub record IsNext (run : Run) (it : Item) : Type 0 where
  pub of_run : IsItemOf run it
  pub well_formed : (m : Message) → it ≡ Thread m → IsWellFormed m.number m.kind

-- the items with one more of the run
pub tellable_push : (run : Run) (items : List Item) (it : Item) → AreItemsOf run items → AreTellable items → IsNext run it → AreItemsOf run (items ++ it ∷ []) × AreTellable (items ++ it ∷ [])
tellable_push run items it h told next =
    let all = All-push (IsItemOf run) items it h next.of_run in (
      all,
      are_tellable run (items ++ it ∷ []) all (λ m there. elim (Contains-append_cases items (it ∷ []) (Thread m) there) [
        | inl before ↦ told.well_formed m before
        | inr last ↦ next.well_formed m (only it (Thread m) last)
      ]),
    )
  where
    only : (x y : Item) → Contains (x ∷ []) y → x ≡ y
    only x y (zero, l, e) = e
    only x y (suc i, l, e) = absurd (omega (arith, l))

-- the message that is next
same_message : (m n : Message) → ◌≡◌ {A = Item} (Thread m) (Thread n) → m ≡ n
same_message m n e = cc

pub message_next : (run : Run) (m : Message) → kind_at (run m.thread) m.number ≡ Some m.kind → IsWellFormed m.number m.kind → IsNext run (Thread m)
message_next run m is well = record {
  of_run = is;
  well_formed = λ n e. let F : Message → Type 0 = λ m. IsWellFormed m.number m.kind in subst F (same_message m n e) well;
}

pub tick_next : (run : Run) (cpu : ℕ) → IsNext run (Tick cpu)
tick_next run cpu = record { of_run = tt; well_formed = λ m e. cc }
