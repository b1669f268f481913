-- Items of a run, as the run goes on.
use Rattle.std.proofs.Common.{ℕ, ◌≡◌, List, [], ◌∷◌, get_or, subst}
use Rattle.std.proofs.lemmas.List.Elements.{All-cons, All-head, All-nil}
use Rattle.pc_messages.specs.Items.{AreItemsOf, IsItemOf}
use Rattle.pc_messages.specs.Run.{Extends, Run}
use Rattle.pc_messages.specs.declared.message.Item.{Item}
use Rattle.pc_messages.specs.declared.message.Item.TheVariants.{Thread, Tick}
use Rattle.pc_delta.specs.declared.part.Part.{Part}
use Rattle.pc_delta.specs.declared.part.Part.TheVariants.{One}
use Rattle.pc_delta.specs.Parts.{AreOfRun, IsPartOfRun}

-- parts of a run are parts of each run that goes on from it
abbrev pub PartsStay : Type 0
PartsStay = (longer shorter : Run) (parts : List Part) → Extends longer shorter → AreOfRun shorter parts → AreOfRun longer parts

pub items_stay : PartsStay → (longer shorter : Run) → Extends longer shorter → (items : List Item) → AreItemsOf shorter items → AreItemsOf longer items
items_stay law longer shorter extends items are k d low = stays (get_or items k d) (are k d low)
  where
    stays : (item : Item) → IsItemOf shorter item → IsItemOf longer item
    stays (Thread message) h =
        All-head (IsPartOfRun longer) (One message) [] (law longer shorter (One message ∷ []) extends (All-cons (IsPartOfRun shorter) (One message) [] h (All-nil (IsPartOfRun shorter))))
    stays (Tick cpu) h = h

-- a run that is the same, thread by thread
pub same_run : (run other : Run) (items : List Item) → ((t : ℕ) → run t ≡ other t) → AreItemsOf run items → AreItemsOf other items
same_run run other items same are = subst (λ r. AreItemsOf r items) (λ i t. same t i) are
