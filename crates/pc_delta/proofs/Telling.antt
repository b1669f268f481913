-- Parts that tell items.
use Rattle.std.proofs.Common.{ℕ, zero, suc, ◌+◌, ◌<◌, ◌≤◌, ◌≡◌, List, [], ◌∷◌, ◌++◌, length, take, get_or, None, refl, sym, ap, ◌∙◌, subst, arith, append-nil}
use Rattle.std.specs.List.{Contains}
use Rattle.std.specs.Option.{option_or}
use Rattle.std.proofs.lemmas.List.Elements.{filter_map-append}
use Rattle.pc_messages.specs.Run.{Run, IsWellFormed}
use Rattle.pc_messages.specs.Items.{AreItemsOf, AreTellable, IsItemOf, pairs_in}
use Rattle.pc_messages.specs.declared.message.Item.{Item}
use Rattle.pc_messages.specs.declared.message.Item.TheVariants.{Thread, Tick}
use Rattle.pc_messages.specs.declared.message.Message.{Message}
use Rattle.pc_join.specs.Sets.{IsSameSet, as_members}
use Rattle.pc_delta.specs.declared.part.Part.{Part}
use Rattle.pc_delta.specs.declared.part.Part.TheVariants.{One}
use Rattle.pc_delta.specs.Faults.{HasNoConflict, fault_of, first_fault, place_of}
use Rattle.pc_delta.specs.Parts.{AreOfRun, IsPartOfRun, pairs_of_parts, part_in, parts_in, set_of}
use Rattle.pc_delta.proofs.Faultless.{message_faultless}
use Rattle.pc_delta.proofs.Lists.{all_cons, all_first, all_none, all_rest, all_taken, taken_item}
use Rattle.pc_delta.proofs.Pairs.{parts_pairs}

-- one more item
pub parts_more : (items : List Item) (i : ℕ) (item : Item) → item ≡ get_or items i item → i < length items → parts_in (take (i + 1) items) ≡ parts_in (take i items) ++ parts_in (item ∷ [])
parts_more items i item e lt = ap parts_in (taken_item items i item e lt) ∙ filter_map-append part_in (take i items) (item ∷ [])

-- a message among the items is a part more, and a tick is none
pub told_message : (items : List Item) (i : ℕ) (item : Item) (message : Message) (old new : List Part) → item ≡ get_or items i item → i < length items → item ≡ Thread message → old ≡ parts_in (take i items) → new ≡ old ++ One message ∷ []
    → new ≡ parts_in (take (i + 1) items)
told_message items i item message old new e lt is so push =
    push ∙ ap (λ ps. ps ++ One message ∷ []) so ∙ ap (λ it. parts_in (take i items) ++ parts_in (it ∷ [])) (sym is) ∙ sym (parts_more items i item e lt)

pub told_tick : (items : List Item) (i : ℕ) (item : Item) (cpu : ℕ) (old : List Part) → item ≡ get_or items i item → i < length items → item ≡ Tick cpu → old ≡ parts_in (take i items) → old ≡ parts_in (take (i + 1) items)
told_tick items i item cpu old e lt is so =
    so ∙ sym (append-nil (parts_in (take i items))) ∙ ap (λ it. parts_in (take i items) ++ parts_in (it ∷ [])) (sym is) ∙ sym (parts_more items i item e lt)

pub told_every : (items : List Item) (i : ℕ) (parts : List Part) → length items ≤ i → parts ≡ parts_in (take i items) → parts ≡ parts_in items
told_every items i parts le so = so ∙ ap parts_in (all_taken items i le)

-- no part has a fault
in_first : {X : Type 0} (x : X) (xs : List X) → Contains (x ∷ xs) x
in_first x xs = (0, (let lt : 0 < length (x ∷ xs) = omega arith in lt), refl)

in_later : {X : Type 0} (x y : X) (xs : List X) → Contains xs y → Contains (x ∷ xs) y
in_later x y xs there = (suc there.0, (let lt : suc there.0 < length (x ∷ xs) = omega arith in lt), there.2)

faultless_in : (items : List Item) → ((message : Message) → Contains items (Thread message) → IsWellFormed message.number message.kind) → first_fault (parts_in items) ≡ None
faultless_in [] well = refl
faultless_in (Thread message ∷ items) well =
    let here : fault_of (One message) ≡ None = (message_faultless message).1 (well message (in_first (Thread message) items)) in
    let rest : first_fault (parts_in items) ≡ None = faultless_in items (λ other there. well other (in_later (Thread message) (Thread other) items there)) in
    λ i. option_or (here i) (rest i)
faultless_in (Tick cpu ∷ items) well = faultless_in items (λ other there. well other (in_later (Tick cpu) (Thread other) items there))

pub faultless_parts : (items : List Item) (parts : List Part) → AreTellable items → parts ≡ parts_in items → first_fault parts ≡ None
faultless_parts items parts tellable e = ap first_fault e ∙ faultless_in items tellable.well_formed

-- no two parts contradict each other
record IsToldBy (items : List Item) (part : Part) : Type 0 where
  message : Message
  same : part ≡ One message
  among : Contains items (Thread message)

told_at : (items : List Item) (k : ℕ) (part : Part) → k < length (parts_in items) → get_or (parts_in items) k part ≡ part → IsToldBy items part
told_at [] k part lt e = absurd (omega arith)
told_at (Thread message ∷ items) zero part lt e = record { message = message; same = sym e; among = in_first (Thread message) items }
told_at (Thread message ∷ items) (suc k) part lt e =
    let later : IsToldBy items part = told_at items k part (omega arith) e in
    record { message = later.message; same = later.same; among = in_later (Thread message) (Thread later.message) items later.among }
told_at (Tick cpu ∷ items) k part lt e =
    let later : IsToldBy items part = told_at items k part lt e in
    record { message = later.message; same = later.same; among = in_later (Tick cpu) (Thread later.message) items later.among }

told_by : (items : List Item) (part : Part) → Contains (parts_in items) part → IsToldBy items part
told_by items part there = told_at items there.0 part there.1 there.2

same_message : (one other : Message) → one.thread ≡ other.thread → one.number ≡ other.number → one.kind ≡ other.kind → One one ≡ One other
same_message one other thread number kind = λ i. One (record { thread = thread i; number = number i; kind = kind i })

pub no_conflict_in : (items : List Item) (parts : List Part) → AreTellable items → parts ≡ parts_in items → HasNoConflict parts
no_conflict_in items parts tellable e thread number c =
    let one : IsToldBy items c.one = told_by items c.one (subst (λ ps. Contains ps c.one) e c.has_one) in
    let other : IsToldBy items c.other = told_by items c.other (subst (λ ps. Contains ps c.other) e c.has_other) in
    let same : place_of (One one.message) ≡ place_of (One other.message) = ap place_of (sym one.same) ∙ c.same_place ∙ ap place_of other.same in
    let of_thread : one.message.thread ≡ other.message.thread = ap (λ p. p.0) same in
    let at_number : one.message.number ≡ other.message.number = ap (λ p. p.1) same in
    let of_kind : one.message.kind ≡ other.message.kind = tellable.alike one.message other.message one.among other.among of_thread at_number in
    c.differ (one.same ∙ same_message one.message other.message of_thread at_number of_kind ∙ sym other.same)

-- their set, and the runs that they are of
items_pairs : (items : List Item) → pairs_of_parts (parts_in items) ≡ pairs_in items
items_pairs [] = refl
items_pairs (Thread message ∷ items) = ap (λ l. (message.thread, message.number) ∷ l) (items_pairs items)
items_pairs (Tick cpu ∷ items) = items_pairs items

pub set_in : (items : List Item) (parts : List Part) → parts ≡ parts_in items → IsSameSet (set_of parts) (as_members (pairs_in items))
set_in items parts e m = ap (λ ps. set_of ps m) e ∙ parts_pairs (parts_in items) m ∙ ap (λ l. as_members l m) (items_pairs items)

pub of_run_in : (run : Run) (items : List Item) → AreItemsOf run items → AreOfRun run (parts_in items)
of_run_in run [] h = all_none (IsPartOfRun run)
of_run_in run (Thread message ∷ items) h =
    all_cons (IsPartOfRun run) (One message) (parts_in items) (all_first (IsItemOf run) (Thread message) items h) (of_run_in run items (all_rest (IsItemOf run) (Thread message) items h))
of_run_in run (Tick cpu ∷ items) h = of_run_in run items (all_rest (IsItemOf run) (Tick cpu) items h)

pub are_of_run : (items : List Item) (parts : List Part) → parts ≡ parts_in items → (run : Run) → AreItemsOf run items → AreOfRun run parts
are_of_run items parts e run h = subst (AreOfRun run) (sym e) (of_run_in run items h)
