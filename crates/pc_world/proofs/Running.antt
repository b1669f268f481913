-- Events, one after another.
use Rattle.std.proofs.Common.{◌≡◌, ℕ, zero, suc, ◌+◌, ◌<◌, ◌≤◌, ◌⊎◌, List, [], ◌∷◌, ◌++◌, length, take, drop, get_or, Ok, Err, Result, OnErr, refl, sym, ◌∙◌, ap, append_assoc, subst, inl, inr}
use Rattle.std.proofs.lemmas.List.{append-nil}
use Rattle.pc_calls.specs.declared.event.Event.{Event}
use Rattle.pc_calls.specs.declared.event.Reply.{Reply}
use Rattle.pc_delta.proofs.Lists.{all_taken, left_item, taken_item}
use Rattle.pc_world.specs.declared.parts.Parts.{Parts}
use Rattle.pc_world.specs.PlainWorld.{PlainWorld}
use Rattle.pc_world.specs.Shows.{Does, KeepsSent, RunsInPart, RunsThrough, LeavesWhenRanOut, deltas_of}
use Rattle.pc_world.specs.RanOut.{IsCutShort, RanOutAtFirst, RanOut}
use Rattle.pc_world.specs.Steps.{Runs, Step}
use Rattle.pc_world.specs.Inner.Handling.{StepsInPart}

-- one event more
runs_more : (events : List Event) (replies : List Reply) (w mid new : PlainWorld) (event : Event) (told : Reply) → Runs w events replies mid → Step mid event told new → Runs w (events ++ event ∷ []) (replies ++ told ∷ []) new
runs_more [] [] w mid new event told ran step = (new, subst (λ from. Step from event told new) ran step, refl)
runs_more [] (r ∷ rs) w mid new event told ran step = absurd ran
runs_more (e ∷ es) [] w mid new event told ran step = absurd ran
runs_more (e ∷ es) (r ∷ rs) w mid new event told ran step = (ran.0, ran.1, runs_more es rs ran.0 mid new event told ran.2 step)

pub taken_then_left : (events : List Event) (i : ℕ) → events ≡ take i events ++ drop i events
taken_then_left [] zero = refl
taken_then_left [] (suc i) = refl
taken_then_left (e ∷ es) zero = refl
taken_then_left (e ∷ es) (suc i) = ap (λ l. e ∷ l) (taken_then_left es i)

-- no event yet
pub runs_none : (world : Parts) (events : List Event) → RunsThrough (take 0 events) [] world world
runs_none world [] w h = (w, refl, h)
runs_none world (e ∷ es) w h = (w, refl, h)

module _ (events : List Event) (i : ℕ) (event : Event) (at : event ≡ get_or events i event) (low : i < length events) (replies : List Reply) (old before : Parts) (ran : RunsThrough (take i events) replies old before) where
  pub runs_next : (told : Reply) (after : Parts) → Does (λ w. Step w event) before after told → RunsThrough (take (i + 1) events) (replies ++ told ∷ []) old after
  runs_next told after does w h =
      let reached = ran w h in
      let next = does reached.0 reached.2 in
      (next.0, subst (λ l. Runs w l (replies ++ told ∷ []) next.0) (sym (taken_item events i event at low)) (runs_more (take i events) replies w reached.0 next.0 event told reached.1 next.1), next.2)

  pub stops_in : (after : Parts) → StepsInPart event before after → RunsInPart events old after
  stops_in after part w h =
      let reached = ran w h in
      let next = part reached.0 reached.2 in
      (next.0, cut reached.0 next.0 reached.1 next.1, next.2)
    where
      cut : (mid w' : PlainWorld) → Runs w (take i events) replies mid → (RanOut mid event w' ⊎ ((told : Reply) × Step mid event told w')) → IsCutShort w events w'
      cut mid w' through (inl ran_out) = record {
        done = take i events;
        rest = drop i events;
        replies = replies;
        reached = mid;
        order = taken_then_left events i;
        ran = through;
        next = inr (subst (λ l. RanOutAtFirst mid l w') (sym (left_item events i event at low)) ran_out);
      }
      cut mid w' through (inr stepped) = record {
        done = take (i + 1) events;
        rest = drop (i + 1) events;
        replies = replies ++ stepped.0 ∷ [];
        reached = w';
        order = taken_then_left events (i + 1);
        ran = subst (λ l. Runs w l (replies ++ stepped.0 ∷ []) w') (sym (taken_item events i event at low)) (runs_more (take i events) replies w mid w' event stepped.0 through stepped.1);
        next = inl refl;
      }

pub runs_all : (events : List Event) (i : ℕ) (replies : List Reply) (old before : Parts) → length events ≤ i → RunsThrough (take i events) replies old before → RunsThrough events replies old before
runs_all events i replies old before le ran = subst (λ l. RunsThrough l replies old before) (all_taken events i le) ran

-- what holds holds of an error too
pub on_err : {A E : Type 0} (result : Result A E) (Q : Type 0) → Q → OnErr result Q
on_err (Ok a) Q q = tt
on_err (Err e) Q q = q

-- an event of which the reply had no place was done all the same
pub done_in : (event : Event) (told : Reply) (before after : Parts) → Does (λ w. Step w event) before after told → StepsInPart event before after
done_in event told before after does w h = let next = does w h in (next.0, inr (told, next.1), next.2)

pub ran_out_in : (event : Event) (before after : Parts) → LeavesWhenRanOut event before after → StepsInPart event before after
ran_out_in event before after ran w h = let next = ran w h in (next.0, inl next.1, next.2)

-- what was sent stays sent, over several events
pub keeps_none : (world : Parts) → KeepsSent world world
keeps_none world = ([], sym (append-nil (deltas_of world)))

pub keeps_then : (old mid new : Parts) → KeepsSent old mid → KeepsSent mid new → KeepsSent old new
keeps_then old mid new first then' =
    (first.0 ++ then'.0, then'.1 ∙ ap (λ l. l ++ then'.0) first.1 ∙ append_assoc (deltas_of old) first.0 then'.0)
