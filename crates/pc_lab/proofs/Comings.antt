-- Threads that come one by one.
use Rattle.std.proofs.Common.{◌≡◌, ◌<◌, ◌+◌, ◌∙◌, ℕ, List, [], ◌∷◌, ◌++◌, Option, Some, None, option_map, true, is_some, map, if◌then◌else◌, get_or, length, take, slice_get, refl, sym, ap, subst}
use Rattle.std.specs.List.{cons_option}
use Rattle.std.proofs.lemmas.List.{append-nil, length-append, take_more}
use Rattle.std.proofs.lemmas.List.Elements.{filter_map-append}
use Rattle.std.proofs.lemmas.Option.{get_or_from_slice_get, slice_get-map, slice_get_read, slice_get_within}
use Rattle.pc_calls.specs.declared.event.Event.{Event}
use Rattle.pc_load.specs.Loads.{Demand, need_of}
use Rattle.pc_load.specs.declared.load.ThreadLoad.{ThreadLoad}
use Rattle.pc_lab.specs.Creations.{AreFirst, Creation, creation_at, creation_in, creation_of, creations, creations_of}
use Rattle.pc_lab.specs.Moments.{Moment}
use Rattle.pc_lab.specs.Stages.{MayCome, Now}

-- the first ones with the next one are the first ones
first_more : (those all : List Creation) (one : Creation) → AreFirst those all → slice_get all (length those) ≡ Some one → AreFirst (those ++ one ∷ []) all
first_more those all one first there =
    let low : length those < length all = slice_get_within all (length those) one there in
    let last : get_or all (length those) one ≡ one = get_or_from_slice_get all (length those) one one there in
    let more : take (length those + 1) all ≡ take (length those) all ++ one ∷ [] =
    take_more all (length those) one low ∙ ap (λ x. take (length those) all ++ x ∷ []) last in
    ap (λ xs. xs ++ one ∷ []) first ∙ sym more ∙ ap (λ n. take n all) (sym (length-append those (one ∷ [])))

-- one more moment is the creation of one more thread, or of none
pub creations_more : (moments : List Moment) (moment : Moment) → creations (moments ++ moment ∷ []) ≡ creations moments ++ cons_option (creation_in moment) []
creations_more moments moment = filter_map-append creation_in moments (moment ∷ [])

first_by : (came : Option Creation) (those all : List Creation) → AreFirst those all → ((one : Creation) → came ≡ Some one → slice_get all (length those) ≡ Some one)
    → AreFirst (those ++ cons_option came []) all
first_by None those all first next = subst (λ xs. AreFirst xs all) (sym (append-nil those)) first
first_by (Some one) those all first next = first_more those all one first (next one refl)

many_by : (came : Option Creation) (those : List Creation) → length (those ++ cons_option came []) ≡ length those + (if is_some came then 1 else 0)
many_by None those = length-append those []
many_by (Some one) those = length-append those (one ∷ [])

pub first_on : (moments : List Moment) (moment : Moment) (all : List Creation) → AreFirst (creations moments) all
    → ((one : Creation) → creation_in moment ≡ Some one → slice_get all (length (creations moments)) ≡ Some one) → AreFirst (creations (moments ++ moment ∷ [])) all
first_on moments moment all first next =
    subst (λ xs. AreFirst xs all) (sym (creations_more moments moment)) (first_by (creation_in moment) (creations moments) all first next)

pub many_on : (moments : List Moment) (moment : Moment)
    → length (creations (moments ++ moment ∷ [])) ≡ length (creations moments) + (if is_some (creation_in moment) then 1 else 0)
many_on moments moment = ap length (creations_more moments moment) ∙ many_by (creation_in moment) (creations moments)

-- the thread at a place is the load's next one
pub next_is : (load : Demand) (threads : List ThreadLoad) (place : ℕ) (thread : ThreadLoad) → map need_of threads ≡ load.threads
    → place < length threads → thread ≡ get_or threads place thread → slice_get (creations_of load) place ≡ Some (creation_of (need_of thread))
next_is load threads place thread same low there =
    ap (λ needs. slice_get (map creation_of needs) place) (sym same)
    ∙ slice_get-map creation_of (map need_of threads) place
    ∙ ap (option_map creation_of) (slice_get-map need_of threads place)
    ∙ ap (λ o. option_map creation_of (option_map need_of o)) (slice_get_read threads (length threads) place thread refl low there)

-- and where its start is now, it may come
pub may_come : (load : Demand) (now : Now) (threads : List ThreadLoad) (thread : ThreadLoad) (event : Event) → map need_of threads ≡ load.threads
    → now.came < length threads → thread ≡ get_or threads now.came thread → thread.start ≡ now.tick
    → creation_at now.tick event ≡ Some (record { tick = now.tick; queue = thread.queue; mask = thread.mask; is_ready = true })
    → MayCome load now event
may_come load now threads thread event same low there start asked one is =
    next_is load threads now.came thread same low there
    ∙ ap (λ tick. Some (record { tick = tick; queue = thread.queue; mask = thread.mask; is_ready = true })) start
    ∙ sym asked ∙ is
