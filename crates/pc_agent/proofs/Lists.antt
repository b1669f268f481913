-- Lists of items and of pairs.
use Rattle.std.proofs.Common.{ℕ, ◌+◌, ◌<◌, ◌≤◌, ◌≡◌, ◌==◌, ◌||◌, ◌&&◌, List, [], ◌∷◌, ◌++◌, length, take, get_or, refl, sym, ap, ◌∙◌}
use Rattle.std.proofs.lemmas.List.{append-nil, take_all, take_more}
use Rattle.std.proofs.lemmas.List.Elements.{filter_map-append}
use Rattle.std.proofs.lemmas.List.Folds.{list_any-append}
use Rattle.pc_messages.specs.declared.message.Item.{Item}
use Rattle.pc_messages.specs.declared.message.Item.TheVariants.{Thread, Tick}
use Rattle.pc_messages.specs.declared.message.Message.{Message}
use Rattle.pc_join.specs.Sets.{as_members}
use Rattle.pc_agent.specs.PlainAgent.{Set, threads_in}

-- the union of two lists of pairs is one after the other
pub as_members-append : (ps qs : Set) (m : List ℕ) → as_members (ps ++ qs) m ≡ (as_members ps m || as_members qs m)
as_members-append ps qs [] = refl
as_members-append ps qs (t ∷ []) = refl
as_members-append ps qs (t ∷ n ∷ []) = list_any-append (λ (p : ℕ × ℕ). (p.0 == t) && (p.1 == n)) ps qs
as_members-append ps qs (t ∷ n ∷ k ∷ m) = refl

-- the threads of one item more
more_threads : (items : List Item) (i : ℕ) (item : Item) → item ≡ get_or items i item → i < length items → threads_in (take (i + 1) items) ≡ threads_in (take i items) ++ threads_in (item ∷ [])
more_threads items i item e low = ap threads_in (take_more items i item low ∙ ap (λ it. take i items ++ it ∷ []) (sym e)) ∙ filter_map-append _ (take i items) (item ∷ [])

pub message_thread : (items : List Item) (i : ℕ) (item : Item) (message : Message) (old new : List ℕ) → item ≡ get_or items i item → i < length items → item ≡ Thread message
    → old ≡ threads_in (take i items) → new ≡ old ++ message.thread ∷ [] → new ≡ threads_in (take (i + 1) items)
message_thread items i item message old new e low is so push =
    push ∙ ap (λ ts. ts ++ message.thread ∷ []) so ∙ ap (λ it. threads_in (take i items) ++ threads_in (it ∷ [])) (sym is) ∙ sym (more_threads items i item e low)

pub tick_thread : (items : List Item) (i : ℕ) (item : Item) (cpu : ℕ) (old : List ℕ) → item ≡ get_or items i item → i < length items → item ≡ Tick cpu
    → old ≡ threads_in (take i items) → old ≡ threads_in (take (i + 1) items)
tick_thread items i item cpu old e low is so =
    so ∙ sym (append-nil (threads_in (take i items))) ∙ ap (λ it. threads_in (take i items) ++ threads_in (it ∷ [])) (sym is) ∙ sym (more_threads items i item e low)

pub every_thread : (items : List Item) (i : ℕ) (threads : List ℕ) → length items ≤ i → threads ≡ threads_in (take i items) → threads ≡ threads_in items
every_thread items i threads le so = so ∙ ap threads_in (take_all i items le)
