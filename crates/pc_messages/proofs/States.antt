-- What one more kind does to the state of a list of kinds.
use Rattle.std.proofs.Common.{◌≡◌, ℕ, ◌+◌, List, [], ◌∷◌, ◌++◌, Option, Some, None, ◌∙◌, ap, refl, unwrap_or}
use Rattle.std.specs.List.{filter_map, last_or}
use Rattle.std.proofs.lemmas.List.{append-nil}
use Rattle.std.proofs.lemmas.List.Elements.{filter_map-append}
use Rattle.std.proofs.lemmas.List.Sums.{sum_by_push}
use Rattle.pc_messages.specs.declared.kind.Kind.{Kind}
use Rattle.pc_messages.specs.declared.reported.Phase.{Phase}
use Rattle.pc_messages.specs.declared.reported.Reported.{Reported}
use Rattle.pc_messages.specs.State.{last_given, phase_given, mask_given, level_given, ran_given, phase_of, mask_of, level_of, ran_of, report, state_of}

-- the other, where there is none
abbrev pub or_else : {A : Type 0} → Option A → Option A → Option A
or_else None other = other
or_else (Some x) other = Some x

pub last_or_push : {A : Type 0} (o : Option A) (xs : List A) (y : A) → last_or o (xs ++ y ∷ []) ≡ Some y
last_or_push o [] y = refl
last_or_push o (x ∷ xs) y = last_or_push (Some x) xs y

pub last_given-push : {A B : Type 0} (f : A → Option B) (xs : List A) (y : A) → last_given f (xs ++ y ∷ []) ≡ or_else (f y) (last_given f xs)
last_given-push f xs y =
    elim (f y) as (λ o. f y ≡ o → last_given f (xs ++ y ∷ []) ≡ or_else o (last_given f xs)) [
      | None ↦ λ e. rw (filter_map-append f xs (y ∷ []), e, append-nil (filter_map f xs)) refl
      | Some b ↦ λ e. rw (filter_map-append f xs (y ∷ []), e) (last_or_push None (filter_map f xs) b)
    ] refl

-- the parts of a state that a list of kinds has
pub record HasParts (kinds : List Kind) (state : Reported) : Type 0 where
  pub phase : phase_of kinds ≡ Some state.phase
  pub mask : mask_of kinds ≡ Some state.mask
  pub ran : ran_of kinds ≡ state.ran
  pub level : level_of kinds ≡ state.level

parts_reported : (p : Option Phase) (m : Option ℕ) (ran level : ℕ) (state : Reported) → report p m ran level ≡ Some state →
    (p ≡ Some state.phase) × (m ≡ Some state.mask) × (ran ≡ state.ran) × (level ≡ state.level)
parts_reported None m ran level state e = cc
parts_reported (Some p) None ran level state e = cc
parts_reported (Some p) (Some m) ran level state e = (cc, cc, cc, cc)

pub parts_of : (kinds : List Kind) (state : Reported) → state_of kinds ≡ Some state → HasParts kinds state
parts_of kinds state e =
    let parts = parts_reported (phase_of kinds) (mask_of kinds) (ran_of kinds) (level_of kinds) state e in
    record { phase = parts.0; mask = parts.1; ran = parts.2; level = parts.3 }

pub with_parts : (kinds : List Kind) (state : Reported) → HasParts kinds state → state_of kinds ≡ Some state
with_parts kinds state h = rw (h.phase, h.mask, h.ran, h.level) refl

or_else_some : {A : Type 0} (o : Option A) (x : A) → or_else o (Some x) ≡ Some (unwrap_or o x)
or_else_some None x = refl
or_else_some (Some y) x = refl

unwrap_or_else : (o other : Option ℕ) (n : ℕ) → unwrap_or (or_else o other) n ≡ unwrap_or o (unwrap_or other n)
unwrap_or_else None other n = refl
unwrap_or_else (Some y) other n = refl

-- the state after one more kind
abbrev pub state_after : Reported → Kind → Reported
state_after state kind =
    record {
      phase = unwrap_or (phase_given kind) state.phase;
      mask = unwrap_or (mask_given kind) state.mask;
      ran = state.ran + ran_given kind;
      level = unwrap_or (level_given kind) state.level;
    }

pub state_of-push : (kinds : List Kind) (state : Reported) (kind : Kind) → state_of kinds ≡ Some state → state_of (kinds ++ kind ∷ []) ≡ Some (state_after state kind)
state_of-push kinds state kind e =
    let h = parts_of kinds state e in
    with_parts (kinds ++ kind ∷ []) (state_after state kind) record {
      phase = last_given-push phase_given kinds kind ∙ ap (or_else (phase_given kind)) h.phase ∙ or_else_some (phase_given kind) state.phase;
      mask = last_given-push mask_given kinds kind ∙ ap (or_else (mask_given kind)) h.mask ∙ or_else_some (mask_given kind) state.mask;
      ran = sum_by_push ran_given kinds kind ∙ ap (λ n. n + ran_given kind) h.ran;
      level = ap (λ o. unwrap_or o 0) (last_given-push level_given kinds kind) ∙ unwrap_or_else (level_given kind) (last_given level_given kinds) 0 ∙ ap (unwrap_or (level_given kind)) h.level;
    }
