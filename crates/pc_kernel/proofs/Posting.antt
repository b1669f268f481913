-- What one more post does to all that is derived from the list of posts.
use Rattle.std.proofs.Common.{◌≡◌, ◌≢◌, ℕ, suc, ◌+◌, ◌≤◌, ◌==◌, ◌||◌, ◌⊎◌, Bool, true, false, not, nat_lt, List, [], ◌∷◌, ◌++◌, length, drop, filter, Option, Some, None, refl, sym, ◌∙◌, ap, subst, inl, inr, arith, length-append, if◌then◌else◌}
use Rattle.std.specs.List.{filter_map, cons_option, list_any}
use Rattle.std.proofs.lemmas.List.{append-nil, drop-append-le}
use Rattle.std.proofs.lemmas.List.Elements.{filter_map-append, filter-append}
use Rattle.std.proofs.lemmas.Bool.{lt-ltb}
use Rattle.std.proofs.lemmas.Bool.Decides.{eqb_tells}
use Rattle.pc_messages.proofs.Bools.{or_none}
use Rattle.pc_messages.specs.declared.kind.Kind.{Kind}
use Rattle.pc_messages.specs.declared.message.Message.{Message}
use Rattle.pc_messages.specs.declared.message.Item.{Item}
use Rattle.pc_messages.specs.declared.message.Item.TheVariants as item
use Rattle.pc_kernel.specs.PlainKernel.{PlainKernel, Post, kind_in, item_to, firsts, kinds, is_known, threads, items_to, aseq, content}
use Rattle.pc_messages.specs.Items.{is_of, message_in, thread_in}
use Rattle.pc_kernel.specs.Steps.{posted}

-- an item as a post to a queue, of a list of one
abbrev pub one : ℕ → Item → List Post
one q it = record { queue = q; item = it } ∷ []

-- a queue's part of one item
abbrev pub if_to : ℕ → ℕ → Item → List Item
if_to q c it = if q == c then it ∷ [] else []

pub kinds-posted : (P : PlainKernel) (q : ℕ) (it : Item) (t : ℕ) → kinds (posted P q it) t ≡ kinds P t ++ cons_option (kind_in t it) []
kinds-posted P q it t = filter_map-append (λ (post : Post). kind_in t post.item) P.posts (one q it)

one_item : (q c : ℕ) (it : Item) → cons_option (item_to c record { queue = q; item = it }) [] ≡ if_to q c it
one_item q c it = elim (q == c) as (λ b. cons_option (if b then Some it else None) [] ≡ (if b then it ∷ [] else [])) [ true ↦ refl | false ↦ refl ]

pub items_to-posted : (P : PlainKernel) (q : ℕ) (it : Item) (c : ℕ) → items_to (posted P q it) c ≡ items_to P c ++ if_to q c it
items_to-posted P q it c =
    filter_map-append (item_to c) P.posts (one q it) ∙ ap (λ xs. items_to P c ++ xs) (one_item q c it)

pub content-posted : (P : PlainKernel) (q : ℕ) (it : Item) (c : ℕ) → P.eaten c ≤ aseq P c → content (posted P q it) c ≡ content P c ++ if_to q c it
content-posted P q it c h = ap (drop (P.eaten c)) (items_to-posted P q it c) ∙ drop-append-le (P.eaten c) (items_to P c) (if_to q c it) h

pub if_to_same : (q : ℕ) (it : Item) → if_to q q it ≡ it ∷ []
if_to_same q it = elim (eqb_tells q q) [ inl h ↦ rw h.0 refl | inr h ↦ absurd (h.1 refl) ]

pub if_to_other : (q c : ℕ) (it : Item) → q ≢ c → if_to q c it ≡ []
if_to_other q c it n = elim (eqb_tells q c) [ inl h ↦ absurd (n h.1) | inr h ↦ rw h.0 refl ]

pub aseq-posted_same : (P : PlainKernel) (q : ℕ) (it : Item) → aseq (posted P q it) q ≡ aseq P q + 1
aseq-posted_same P q it = ap length (items_to-posted P q it q) ∙ length-append (items_to P q) (if_to q q it) ∙ ap (λ (xs : List Item). aseq P q + length xs) (if_to_same q it)

pub aseq-posted_other : (P : PlainKernel) (q c : ℕ) (it : Item) → q ≢ c → aseq (posted P q it) c ≡ aseq P c
aseq-posted_other P q c it n = ap length (items_to-posted P q it c ∙ ap (λ xs. items_to P c ++ xs) (if_to_other q c it n) ∙ append-nil (items_to P c))

pub aseq-posted_le : (P : PlainKernel) (q c : ℕ) (it : Item) → aseq P c ≤ aseq (posted P q it) c
aseq-posted_le P q c it = elim (eqb_tells q c) [
  | inl h ↦ let e : aseq (posted P q it) c ≡ aseq P c + 1 = subst (λ n. aseq (posted P q it) n ≡ aseq P n + 1) h.1 (aseq-posted_same P q it) in omega arith
  | inr h ↦ let e : aseq (posted P q it) c ≡ aseq P c = aseq-posted_other P q c it h.1 in omega arith
]

-- the item says nothing of the thread
pub record IsQuiet (t : ℕ) (it : Item) : Type 0 where
  pub kind : kind_in t it ≡ None
  pub message : message_in t it ≡ None
  pub not_of : is_of t it ≡ false

-- the item is a message of the thread
pub record IsTelling (t : ℕ) (it : Item) (message : Message) : Type 0 where
  pub is : it ≡ item.Thread message
  pub thread : message.thread ≡ t
  pub kind : kind_in t it ≡ Some message.kind
  pub message_is : message_in t it ≡ Some message

quiet_message : (t : ℕ) (m : Message) → (m.thread == t) ≡ false → IsQuiet t (item.Thread m)
quiet_message t m e = record { kind = rw e refl; message = rw e refl; not_of = e }

telling_message : (t : ℕ) (m : Message) → m.thread ≡ t → (m.thread == t) ≡ true → IsTelling t (item.Thread m) m
telling_message t m s e = record { is = refl; thread = s; kind = rw e refl; message_is = rw e refl }

pub item_cases : (t : ℕ) (it : Item) → IsQuiet t it ⊎ ((m : Message) × IsTelling t it m)
item_cases t (item.Tick cpu) = inl (record { kind = refl; message = refl; not_of = refl })
item_cases t (item.Thread m) = elim (eqb_tells m.thread t) [ inl h ↦ inr (m, telling_message t m h.1 h.0) | inr h ↦ inl (quiet_message t m h.0) ]

pub quiet_other : (t : ℕ) (m : Message) → m.thread ≢ t → IsQuiet t (item.Thread m)
quiet_other t m n = elim (eqb_tells m.thread t) [ inl h ↦ absurd (n h.1) | inr h ↦ quiet_message t m h.0 ]

pub telling_same : (m : Message) → IsTelling m.thread (item.Thread m) m
telling_same m = elim (eqb_tells m.thread m.thread) [ inl h ↦ telling_message m.thread m refl h.0 | inr h ↦ absurd (h.1 refl) ]

pub kinds_quiet : (P : PlainKernel) (q : ℕ) (it : Item) (t : ℕ) → IsQuiet t it → kinds (posted P q it) t ≡ kinds P t
kinds_quiet P q it t h = kinds-posted P q it t ∙ ap (λ o. kinds P t ++ cons_option o []) h.kind ∙ append-nil (kinds P t)

pub kinds_told : (P : PlainKernel) (q : ℕ) (it : Item) (t : ℕ) (m : Message) → IsTelling t it m → kinds (posted P q it) t ≡ kinds P t ++ m.kind ∷ []
kinds_told P q it t m h = kinds-posted P q it t ∙ ap (λ o. kinds P t ++ cons_option o []) h.kind

-- names: each once, and whether one is there
abbrev pub has_name : List ℕ → ℕ → Bool
has_name xs t = list_any (λ x. x == t) xs

abbrev pub names : List Post → List ℕ
names posts = filter_map (λ post. thread_in post.item) posts

or_true : (b : Bool) → (b || true) ≡ true
or_true true = refl
or_true false = refl

filter_one : (p : ℕ → Bool) (y : ℕ) → p y ≡ true → filter p (y ∷ []) ≡ y ∷ []
filter_one p y e = rw e refl

filter_no_one : (p : ℕ → Bool) (y : ℕ) → p y ≡ false → filter p (y ∷ []) ≡ []
filter_no_one p y e = rw e refl

not_eqb : (x y : ℕ) → x ≢ y → not (y == x) ≡ true
not_eqb x y n = elim (eqb_tells y x) [ inl h ↦ absurd (n (sym h.1)) | inr h ↦ rw h.0 refl ]

not_eqb_same : (x y : ℕ) → x ≡ y → not (y == x) ≡ false
not_eqb_same x y e = elim (eqb_tells y x) [ inl h ↦ rw h.0 refl | inr h ↦ absurd (h.1 (sym e)) ]

or_true_left : (a b : Bool) → a ≡ true → (a || b) ≡ true
or_true_left a b e = rw e refl

no_or : (a b : Bool) → (a || b) ≡ false → (a ≡ false) × (b ≡ false)
no_or true b e = cc
no_or false b e = (refl, e)

firsts_new : (xs : List ℕ) (y : ℕ) → has_name xs y ≡ false → firsts (xs ++ y ∷ []) ≡ firsts xs ++ y ∷ []
firsts_new [] y e = refl
firsts_new (x ∷ xs) y e =
    let parts = no_or (x == y) (has_name xs y) e in
    elim (eqb_tells x y) [
      | inl h ↦ let bad : true ≡ false = sym h.0 ∙ parts.0 in cc
      | inr h ↦
          ap (λ l. x ∷ filter (λ z. not (z == x)) l) (firsts_new xs y parts.1)
          ∙ ap (λ l. x ∷ l) (filter-append (λ z. not (z == x)) (firsts xs) (y ∷ []))
          ∙ ap (λ l. x ∷ (filter (λ z. not (z == x)) (firsts xs) ++ l)) (filter_one (λ z. not (z == x)) y (not_eqb x y h.1))
    ]

firsts_again : (xs : List ℕ) (x y : ℕ) → x ≡ y → has_name xs y ≡ false →
    x ∷ filter (λ z. not (z == x)) (firsts (xs ++ y ∷ [])) ≡ x ∷ filter (λ z. not (z == x)) (firsts xs)
firsts_again xs x y same e =
    ap (λ l. x ∷ filter (λ z. not (z == x)) l) (firsts_new xs y e)
    ∙ ap (λ l. x ∷ l) (filter-append (λ z. not (z == x)) (firsts xs) (y ∷ []))
    ∙ ap (λ l. x ∷ (filter (λ z. not (z == x)) (firsts xs) ++ l)) (filter_no_one (λ z. not (z == x)) y (not_eqb_same x y same))
    ∙ ap (λ l. x ∷ l) (append-nil (filter (λ z. not (z == x)) (firsts xs)))

firsts_more : (xs : List ℕ) (y : ℕ) → has_name xs y ≡ true → firsts (xs ++ y ∷ []) ≡ firsts xs
firsts_more [] y e = cc
firsts_more (x ∷ xs) y e =
    elim (has_name xs y) as (λ b. has_name xs y ≡ b → firsts ((x ∷ xs) ++ y ∷ []) ≡ firsts (x ∷ xs)) [
      | true ↦ λ there. ap (λ l. x ∷ filter (λ z. not (z == x)) l) (firsts_more xs y there)
      | false ↦ λ absent. elim (eqb_tells x y) [
        | inl h ↦ firsts_again xs x y h.1 absent
        | inr h ↦ let bad : false ≡ true = sym (ap (λ b. b || has_name xs y) h.0 ∙ absent) ∙ e in cc
      ]
    ] refl

-- a thread is known where a post has its name
some_are : (n : ℕ) → nat_lt 0 (suc n) ≡ true
some_are n = lt-ltb 0 (suc n) (omega arith)

named_item : (it : Item) (t : ℕ) (n : ℕ) (b : Bool) → nat_lt 0 n ≡ b → (ks : List Kind) → length ks ≡ n →
    nat_lt 0 (length (cons_option (kind_in t it) ks)) ≡ list_any (λ x. x == t) (cons_option (thread_in it) []) || b
named_item (item.Tick cpu) t n b e ks l = rw l e
named_item (item.Thread m) t n b e ks l =
    elim (m.thread == t) as (λ c. nat_lt 0 (length (cons_option (if c then Some m.kind else None) ks)) ≡ ((c || false) || b)) [ true ↦ some_are (length ks) | false ↦ rw l e ]

list_any_cons_option : (o : Option ℕ) (xs : List ℕ) (t : ℕ) →
    has_name (cons_option o xs) t ≡ (has_name (cons_option o []) t || has_name xs t)
list_any_cons_option None xs t = refl
list_any_cons_option (Some x) xs t = ap (λ b. b || has_name xs t) (sym (or_none (x == t)))

pub known_by_name : (posts : List Post) (t : ℕ) → nat_lt 0 (length (filter_map (λ (post : Post). kind_in t post.item) posts)) ≡ has_name (names posts) t
known_by_name [] t = refl
known_by_name (p ∷ posts) t =
    named_item p.item t (length (filter_map (λ (post : Post). kind_in t post.item) posts)) (has_name (names posts) t) (known_by_name posts t) _ refl
    ∙ sym (list_any_cons_option (thread_in p.item) (names posts) t)

names-posted : (P : PlainKernel) (q : ℕ) (it : Item) → names (posted P q it).posts ≡ names P.posts ++ cons_option (thread_in it) []
names-posted P q it = filter_map-append (λ (post : Post). thread_in post.item) P.posts (one q it)

pub threads-posted_known : (P : PlainKernel) (q : ℕ) (m : Message) → is_known P m.thread ≡ true → threads (posted P q (item.Thread m)) ≡ threads P
threads-posted_known P q m e =
    ap (λ xs. length (firsts xs)) (names-posted P q (item.Thread m))
    ∙ ap length (firsts_more (names P.posts) m.thread (sym (known_by_name P.posts m.thread) ∙ e))

pub threads-posted_new : (P : PlainKernel) (q : ℕ) (m : Message) → is_known P m.thread ≡ false → threads (posted P q (item.Thread m)) ≡ threads P + 1
threads-posted_new P q m e =
    ap (λ xs. length (firsts xs)) (names-posted P q (item.Thread m))
    ∙ ap length (firsts_new (names P.posts) m.thread (sym (known_by_name P.posts m.thread) ∙ e))
    ∙ length-append (firsts (names P.posts)) (m.thread ∷ [])

pub threads-posted_tick : (P : PlainKernel) (q cpu : ℕ) → threads (posted P q (item.Tick cpu)) ≡ threads P
threads-posted_tick P q cpu = ap (λ xs. length (firsts xs)) (names-posted P q (item.Tick cpu) ∙ append-nil (names P.posts))
