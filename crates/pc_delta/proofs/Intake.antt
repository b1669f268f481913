-- How far parts have been taken in.
use Rattle.std.proofs.Common.{ℕ, ◌+◌, ◌<◌, ◌≤◌, ◌≡◌, ◌||◌, List, [], ◌∷◌, ◌++◌, length, drop, get_or, Option, Some, None, refl, sym, ap, ◌∙◌, subst}
use Rattle.std.specs.Option.{option_or}
use Rattle.std.proofs.lemmas.List.Folds.{list_any-append}
use Rattle.pc_messages.specs.Run.{Run}
use Rattle.pc_join.specs.Sets.{IsWithin, IsUnion, IsBetween}
use Rattle.pc_view.specs.declared.view.View.{View}
use Rattle.pc_view.specs.Views.{pairs_of, IsOfRun}
use Rattle.pc_delta.specs.declared.part.Part.{Part}
use Rattle.pc_delta.specs.declared.fault.DeltaFault.{DeltaFault}
use Rattle.pc_delta.specs.Parts.{set_of_part, set_of, AreOfRun, IsPartOfRun, all_parts}
use Rattle.pc_delta.specs.Faults.{first_fault, fault_of}
use Rattle.pc_delta.specs.Exchange.{IsTakenIn, IsPartlyTakenIn}
use Rattle.pc_join.proofs.Joins.{or_assoc}
use Rattle.pc_delta.proofs.Bools.{or_again}
use Rattle.pc_messages.proofs.Bools.{or_left, or_none}
use Rattle.pc_delta.proofs.Lists.{all_left, all_right, all_first, left_item, none_left}

pub set_of-append : (xs ys : List Part) (m : List ℕ) → set_of (xs ++ ys) m ≡ (set_of xs m || set_of ys m)
set_of-append xs ys m = list_any-append (λ part. set_of_part part m) xs ys

-- what is there and what is left are what was there and what was given
pub record IsTaking (parts left : List Part) (old now : View) : Type 0 where
  pub same : (m : List ℕ) → (pairs_of now m || set_of left m) ≡ (pairs_of old m || set_of parts m)
  pub kept : IsWithin (pairs_of old) (pairs_of now)
  pub of_run : (run : Run) → IsOfRun run old → AreOfRun run parts → IsOfRun run now × AreOfRun run left

pub taking_start : (parts : List Part) (view : View) → IsTaking parts parts view view
taking_start parts view = record { same = λ m. refl; kept = λ m h. h; of_run = λ run a b. (a, b) }

pub taking_on : (parts some left : List Part) (old now new : View) → IsTaking parts (some ++ left) old now → IsTakenIn some now new → IsTaking parts left old new
taking_on parts some left old now new taking taken = record {
  same = λ m. ap (λ b. b || set_of left m) (taken.union m) ∙ or_assoc (pairs_of now m) (set_of some m) (set_of left m)
      ∙ ap (λ b. pairs_of now m || b) (sym (set_of-append some left m)) ∙ taking.same m;
  kept = λ m h. taken.union m ∙ or_left (pairs_of now m) (set_of some m) (taking.kept m h);
  of_run = λ run a b.
      let now_of = taking.of_run run a b in
      (taken.of_run run now_of.0 (all_left (IsPartOfRun run) some left now_of.1), all_right (IsPartOfRun run) some left now_of.1);
}

pub taking_stops : (parts some left : List Part) (old now new : View) → IsTaking parts (some ++ left) old now → IsPartlyTakenIn some now new → IsPartlyTakenIn parts old new
taking_stops parts some left old now new taking taken = record {
  between = record {
    at_least = λ m h. taken.between.at_least m (taking.kept m h);
    at_most = λ m h. sym (taking.same m) ∙ ap (λ b. pairs_of now m || b) (set_of-append some left m) ∙ sym (or_assoc (pairs_of now m) (set_of some m) (set_of left m)) ∙ or_left (pairs_of now m || set_of some m) (set_of left m) (taken.between.at_most m h);
  };
  of_run = λ run a b. let now_of = taking.of_run run a b in taken.of_run run now_of.0 (all_left (IsPartOfRun run) some left now_of.1);
}

pub taking_done : (parts : List Part) (old new : View) → IsTaking parts [] old new → IsTakenIn parts old new
taking_done parts old new taking = record {
  union = λ m. sym (or_none (pairs_of new m)) ∙ taking.same m;
  of_run = λ run a b. (taking.of_run run a b).0;
}

pub partly : (parts : List Part) (old new : View) → IsTakenIn parts old new → IsPartlyTakenIn parts old new
partly parts old new taken = record {
  between = record { at_least = λ m h. taken.union m ∙ or_left (pairs_of old m) (set_of parts m) h; at_most = λ m h. sym (taken.union m) ∙ h };
  of_run = taken.of_run;
}

-- one part
pub one_taken : (part : Part) (old new : View) → IsUnion (pairs_of old) (set_of_part part) (pairs_of new)
    → ((run : Run) → IsOfRun run old → IsPartOfRun run part → IsOfRun run new) → IsTakenIn (part ∷ []) old new
one_taken part old new union of_run = record {
  union = λ m. union m ∙ ap (λ b. pairs_of old m || b) (sym (or_none (set_of_part part m)));
  of_run = λ run a b. of_run run a (all_first (IsPartOfRun run) part [] b);
}

pub one_partly : (part : Part) (old new : View) → IsBetween (pairs_of old) (set_of_part part) (pairs_of new)
    → ((run : Run) → IsOfRun run old → IsPartOfRun run part → IsOfRun run new) → IsPartlyTakenIn (part ∷ []) old new
one_partly part old new between of_run = record {
  between = record { at_least = between.at_least; at_most = λ m h. ap (λ b. pairs_of old m || b) (or_none (set_of_part part m)) ∙ between.at_most m h };
  of_run = λ run a b. of_run run a (all_first (IsPartOfRun run) part [] b);
}

-- parts without a fault
or_first : {X : Type 0} (a b : Option X) → option_or a b ≡ None → (a ≡ None) × (b ≡ None)
or_first None b h = (refl, h)
or_first (Some x) b h = cc

pub faultless_first : (part : Part) (parts : List Part) → first_fault (part ∷ parts) ≡ None → fault_of part ≡ None
faultless_first part parts h = (or_first (fault_of part) (first_fault parts) h).0

pub faultless_rest : (part : Part) (parts : List Part) → first_fault (part ∷ parts) ≡ None → first_fault parts ≡ None
faultless_rest part parts h = (or_first (fault_of part) (first_fault parts) h).1

-- taking in again
pub again : (parts : List Part) (old some all : View) → IsPartlyTakenIn parts old some → IsTakenIn parts some all → IsTakenIn parts old all
again parts old some all h taken = record {
  union = λ m. taken.union m ∙ or_again (pairs_of old m) (pairs_of some m) (set_of parts m) (h.between.at_least m) (h.between.at_most m);
  of_run = λ run a b. taken.of_run run (h.of_run run a b) b;
}

-- a loop over parts
abbrev pub IsTakingFrom : List Part → ℕ → View → View → Type 0
IsTakingFrom parts i old now = IsTaking parts (drop i parts) old now

pub next_part : (parts : List Part) (i : ℕ) (part : Part) (old now : View) → part ≡ get_or parts i part → i < length parts → IsTakingFrom parts i old now → IsTaking parts (part ∷ drop (i + 1) parts) old now
next_part parts i part old now e lt taking = subst (λ left. IsTaking parts left old now) (left_item parts i part e lt) taking

pub no_part_left : (parts : List Part) (i : ℕ) (old now : View) → length parts ≤ i → IsTakingFrom parts i old now → IsTakenIn parts old now
no_part_left parts i old now le taking = taking_done parts old now (subst (λ left. IsTaking parts left old now) (none_left parts i le) taking)

pub next_faultless : (parts : List Part) (i : ℕ) (part : Part) → part ≡ get_or parts i part → i < length parts → first_fault (drop i parts) ≡ None → first_fault (part ∷ drop (i + 1) parts) ≡ None
next_faultless parts i part e lt h = sym (ap first_fault (left_item parts i part e lt)) ∙ h

-- a loop over deltas
abbrev pub IsTakingAllFrom : List (List Part) → ℕ → View → View → Type 0
IsTakingAllFrom deltas i old now = IsTaking (all_parts deltas) (all_parts (drop i deltas)) old now

pub next_delta : (deltas : List (List Part)) (i : ℕ) (delta : List Part) (old now : View) → delta ≡ get_or deltas i delta → i < length deltas → IsTakingAllFrom deltas i old now → IsTaking (all_parts deltas) (delta ++ all_parts (drop (i + 1) deltas)) old now
next_delta deltas i delta old now e lt taking = subst (λ left. IsTaking (all_parts deltas) (all_parts left) old now) (left_item deltas i delta e lt) taking

pub no_delta_left : (deltas : List (List Part)) (i : ℕ) (old now : View) → length deltas ≤ i → IsTakingAllFrom deltas i old now → IsTakenIn (all_parts deltas) old now
no_delta_left deltas i old now le taking = taking_done (all_parts deltas) old now (subst (λ left. IsTaking (all_parts deltas) (all_parts left) old now) (none_left deltas i le) taking)

-- the first fault of parts
pub found_fault : (parts : List Part) (i : ℕ) (part : Part) (fault : DeltaFault) → part ≡ get_or parts i part → i < length parts → first_fault parts ≡ first_fault (drop i parts) → fault_of part ≡ Some fault → Some fault ≡ first_fault parts
found_fault parts i part fault e lt h f = sym (h ∙ ap first_fault (left_item parts i part e lt) ∙ ap (λ o. option_or o (first_fault (drop (i + 1) parts))) f)

pub no_fault_yet : (parts : List Part) (i : ℕ) (part : Part) → part ≡ get_or parts i part → i < length parts → first_fault parts ≡ first_fault (drop i parts) → fault_of part ≡ None → first_fault parts ≡ first_fault (drop (i + 1) parts)
no_fault_yet parts i part e lt h f = h ∙ ap first_fault (left_item parts i part e lt) ∙ ap (λ o. option_or o (first_fault (drop (i + 1) parts))) f

pub no_fault : (parts : List Part) (i : ℕ) → length parts ≤ i → first_fault parts ≡ first_fault (drop i parts) → None ≡ first_fault parts
no_fault parts i le h = sym (h ∙ ap first_fault (none_left parts i le))
