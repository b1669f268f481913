-- Steps that are joined one by one.
use Rattle.std.proofs.Common.{ℕ, ◌≡◌, ◌+◌, ◌^◌, ◌<◌, ◌⊎◌, true, false, ltb, List, [], ◌∷◌, length, drop, refl, sym, ap, ◌∙◌, inl, inr, subst, get_or, add-one, drop-cons, take, ◌-◌, rules, tests}
use Rattle.std.proofs.lemmas.List.{length-drop}
use Rattle.std.proofs.Math.Seq.{take-length}
use Rattle.pc_messages.proofs.Bools.{second_true}
use Rattle.pc_load.specs.declared.load.LoadStep.{LoadStep}
use Rattle.pc_load.specs.Joining.{is_joined, joined_with, preempts, with_more}

-- the first of the steps has room for more ticks
abbrev pub HasRoom : ℕ → List LoadStep → Type 0
HasRoom more [] = Unit {0}
HasRoom more (step ∷ steps) = more + step.ticks < 2 ^ 32

-- of the steps from a place on, those from a further place on are left, of which the first gets more ticks
pub record Joined (steps : List LoadStep) (from place more : ℕ) : Type 0 where
  pub whole : joined_with 0 (drop from steps) ≡ joined_with more (drop place steps)
  pub room : (more ≡ 0) ⊎ HasRoom more (drop place steps)

-- the step at a place, and those behind it
pub parted : (steps : List LoadStep) (place : ℕ) (d : LoadStep) → place < length steps → drop place steps ≡ get_or steps place d ∷ drop (place + 1) steps
parted steps place d below = drop-cons steps place d below ∙ ap (λ n. get_or steps place d ∷ drop n steps) (sym (add-one place))

-- the steps behind it, as they are cut
pub cut : (steps : List LoadStep) (place : ℕ) → take (length steps - (place + 1)) (drop (place + 1) steps) ≡ drop (place + 1) steps
cut steps place = ap (λ n. take n (drop (place + 1) steps)) (sym (length-drop (place + 1) steps)) ∙ take-length (drop (place + 1) steps)

joined_room : (more : ℕ) (step : LoadStep) (rest : List LoadStep) → is_joined more step rest ≡ true → HasRoom (more + step.ticks) rest
joined_room more step [] h = cc
joined_room more step (next ∷ rest) h =
    let below : ltb (more + step.ticks + next.ticks) (2 ^ 32) ≡ true = second_true (preempts step.leaving) _ h in search (rules, tests)

joined_on : (more : ℕ) (step : LoadStep) (rest : List LoadStep) → is_joined more step rest ≡ true → joined_with more (step ∷ rest) ≡ joined_with (more + step.ticks) rest
joined_on more step rest h = rw h refl

kept_on : (more : ℕ) (step : LoadStep) (rest : List LoadStep) → is_joined more step rest ≡ false → joined_with more (step ∷ rest) ≡ with_more more step ∷ joined_with 0 rest
kept_on more step rest h = rw h refl

pub joins : (steps : List LoadStep) (from place more : ℕ) (step : LoadStep) → Joined steps from place more
    → drop place steps ≡ step ∷ drop (place + 1) steps → is_joined more step (drop (place + 1) steps) ≡ true
    → Joined steps from (place + 1) (more + step.ticks)
joins steps from place more step h split joined =
    record {
      whole = h.whole ∙ ap (joined_with more) split ∙ joined_on more step (drop (place + 1) steps) joined;
      room = inr (joined_room more step (drop (place + 1) steps) joined);
    }

pub keeps : (steps : List LoadStep) (from place more : ℕ) (step : LoadStep) → Joined steps from place more
    → drop place steps ≡ step ∷ drop (place + 1) steps → is_joined more step (drop (place + 1) steps) ≡ false
    → joined_with 0 (drop from steps) ≡ with_more more step ∷ joined_with 0 (drop (place + 1) steps)
keeps steps from place more step h split kept =
    h.whole ∙ ap (joined_with more) split ∙ kept_on more step (drop (place + 1) steps) kept

room_at : (more : ℕ) (step : LoadStep) (rest those : List LoadStep) → those ≡ step ∷ rest → (more ≡ 0) ⊎ HasRoom more those → (more ≡ 0) ⊎ (more + step.ticks < 2 ^ 32)
room_at more step rest those split (inl none) = inl none
room_at more step rest those split (inr room) = inr (subst (HasRoom more) split room)

pub room_for : (steps : List LoadStep) (from place more : ℕ) (step : LoadStep) → Joined steps from place more
    → drop place steps ≡ step ∷ drop (place + 1) steps → (more ≡ 0) ⊎ (more + step.ticks < 2 ^ 32)
room_for steps from place more step h split = room_at more step (drop (place + 1) steps) (drop place steps) split h.room
