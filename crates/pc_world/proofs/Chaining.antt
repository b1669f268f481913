-- Lists of events that were done, or done in part, one list after another.
use Rattle.std.proofs.Common.{◌≡◌, ℕ, zero, suc, ◌+◌, ◌<◌, false, List, [], ◌∷◌, ◌++◌, refl, sym, ◌∙◌, ap, append_assoc, append-nil, subst, inl, inr, arith}
use Rattle.std.proofs.lemmas.Bool.{cases_lt}
use Rattle.pc_calls.specs.declared.event.Event.{Event}
use Rattle.pc_calls.specs.declared.event.Event.TheVariants as event
use Rattle.pc_calls.specs.declared.event.Reply.{Reply}
use Rattle.pc_world.specs.declared.parts.Parts.{Parts}
use Rattle.pc_world.specs.PlainWorld.{PlainWorld}
use Rattle.pc_world.specs.RanOut.{RanOutAmong}
use Rattle.pc_world.specs.Shows.{Does, LeavesWhenRanOut, RunsOutAmong}
use Rattle.pc_world.specs.Steps.{Runs, Step}
use Rattle.pc_world.specs.Inner.Mends.{DoesAll, PicksOrSteals}
use Rattle.pc_world.specs.Mends.{IsCommit}
use Rattle.pc_world.proofs.Clearing.{runs_append}

-- no event
pub all_none : (world : Parts) → DoesAll [] world world
all_none world w h = (w, [], refl, h)

-- one event
pub all_one : (event : Event) (told : Reply) (old new : Parts) → Does (λ w. Step w event) old new told → DoesAll (event ∷ []) old new
all_one event told old new does w h = let did = does w h in (did.0, told ∷ [], (did.0, did.1, refl), did.2)

pub part_one : (event : Event) (old new : Parts) → LeavesWhenRanOut event old new → RunsOutAmong (event ∷ []) old new
part_one event old new leaves w h =
    let left = leaves w h in (
      left.0,
      record { done = []; next = event; rest = []; replies = []; reached = w; order = refl; ran = refl; found_none = left.1 },
      left.2,
    )

-- one list after another
pub all_then : (a b : List Event) (old mid new : Parts) → DoesAll a old mid → DoesAll b mid new → DoesAll (a ++ b) old new
all_then a b old mid new first then' w h =
    let did = first w h in
    let next = then' did.0 did.3 in
    (next.0, did.1 ++ next.1, runs_append w did.0 next.0 a b did.1 next.1 did.2 next.2, next.3)

-- a list of which a part was done, and what would follow
abbrev pub cut_first : (a b : List Event) (w new : PlainWorld) → RanOutAmong w a new → RanOutAmong w (a ++ b) new
cut_first a b w new cut = record {
  done = cut.done;
  next = cut.next;
  rest = cut.rest ++ b;
  replies = cut.replies;
  reached = cut.reached;
  order = ap (λ l. l ++ b) cut.order ∙ append_assoc cut.done (cut.next ∷ cut.rest) b;
  ran = cut.ran;
  found_none = cut.found_none;
}

pub part_first : (a b : List Event) (old new : Parts) → RunsOutAmong a old new → RunsOutAmong (a ++ b) old new
part_first a b old new part w h = let did = part w h in (did.0, cut_first a b w did.0 did.1, did.2)

-- a list that was done, and one of which a part was
abbrev pub cut_then : (a b : List Event) (w v new : PlainWorld) (told : List Reply) → Runs w a told v → RanOutAmong v b new → RanOutAmong w (a ++ b) new
cut_then a b w v new told ran cut = record {
  done = a ++ cut.done;
  next = cut.next;
  rest = cut.rest;
  replies = told ++ cut.replies;
  reached = cut.reached;
  order = ap (λ l. a ++ l) cut.order ∙ sym (append_assoc a cut.done (cut.next ∷ cut.rest));
  ran = runs_append w v cut.reached a cut.done told cut.replies ran cut.ran;
  found_none = cut.found_none;
}

pub part_then : (a b : List Event) (old mid new : Parts) → DoesAll a old mid → RunsOutAmong b mid new → RunsOutAmong (a ++ b) old new
part_then a b old mid new first part w h =
    let did = first w h in
    let next = part did.0 did.3 in
    (next.0, cut_then a b w did.0 next.0 did.1 did.2 next.1, next.2)

-- lists that grow at their end: each goes on from those before it
pub grows_on : (f g : ℕ → List Event) → ((n : ℕ) → f (suc n) ≡ f n ++ g n) → (i n : ℕ) → i < n → (rest : List Event) × (f n ≡ (f i ++ g i) ++ rest)
grows_on f g grows i zero low = absurd (omega arith)
grows_on f g grows i (suc n) low = elim (cases_lt i n) [
  | inl below ↦ let before = grows_on f g grows i n below in (before.0 ++ g n, grows n ∙ ap (λ l. l ++ g n) before.1 ∙ append_assoc (f i ++ g i) before.0 (g n))
  | inr last ↦ let same : n ≡ i = omega arith in ([], grows n ∙ ap (λ m. f m ++ g m) same ∙ sym (append-nil (f i ++ g i)))
]

-- one more of such lists
pub all_next : (f g : ℕ → List Event) → ((n : ℕ) → f (suc n) ≡ f n ++ g n) → (i : ℕ) (old mid new : Parts) → DoesAll (f i) old mid → DoesAll (g i) mid new → DoesAll (f (i + 1)) old new
all_next f g grows i old mid new first then' =
    let next : i + 1 ≡ suc i = omega arith in
    subst (λ l. DoesAll l old new) (sym (ap f next ∙ grows i)) (all_then (f i) (g i) old mid new first then')

pub part_next : (f g : ℕ → List Event) → ((n : ℕ) → f (suc n) ≡ f n ++ g n) → (i n : ℕ) → i < n → (old mid new : Parts) → DoesAll (f i) old mid → RunsOutAmong (g i) mid new → RunsOutAmong (f n) old new
part_next f g grows i n low old mid new first part =
    let on = grows_on f g grows i n low in
    subst (λ l. RunsOutAmong l old new) (sym on.1) (part_first (f i ++ g i) on.0 old new (part_then (f i) (g i) old mid new first part))

-- the lists of mending
abbrev pub clears_one : ℕ → List Event
clears_one c = event.Publish c false ∷ event.Consume c ∷ []

abbrev pub hears_one : ℕ → ℕ → List Event
hears_one c k = event.Deliver c k ∷ []

-- a list of one event is one step
one_step : (w new : PlainWorld) (e : Event) (r : List Reply) → Runs w (e ∷ []) r new → (told : Reply) × Step w e told new
one_step w new e [] ran = absurd ran
one_step w new e (t ∷ []) ran = (t, subst (λ v. Step w e t v) (sym ran.2) ran.1)
one_step w new e (t ∷ u ∷ r) ran = absurd ran.2

-- a pick that commits nothing, a steal, and a pick
pub picked_late : (c n : ℕ) (first told : Reply) (old mid later new : Parts) → (IsCommit first → ⊥) → Does (λ w. Step w (event.Pick c n)) old mid first
    → DoesAll (event.Steal c ∷ []) mid later → Does (λ w. Step w (event.Pick c n)) later new told → Does (PicksOrSteals c n) old new told
picked_late c n first told old mid later new fails picks steals again w h =
    let a = picks w h in
    let b = steals a.0 a.2 in
    let stolen = one_step a.0 b.0 (event.Steal c) b.1 b.2 in
    let d = again b.0 b.3 in
    (d.0, inr record { first = first; fails = fails; second = stolen.0; between = a.0; stolen = b.0; picks = a.1; steals = stolen.1; again = d.1 }, d.2)
