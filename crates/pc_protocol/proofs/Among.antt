-- What stands in a list.
use Rattle.std.proofs.Common.{◌≡◌, ◌⊎◌, ◌<◌, ℕ, zero, suc, List, [], ◌∷◌, ◌++◌, length, Contains, refl, inl, inr, arith}
use Rattle.std.specs.List.{slice_index_or}

-- it is one of these
abbrev pub IsAmong : {X : Type 0} → X → List X → Type 0
IsAmong x [] = ⊥
IsAmong x (first ∷ rest) = (first ≡ x) ⊎ IsAmong x rest

pub among_left : {X : Type 0} (x : X) (xs ys : List X) → IsAmong x xs → IsAmong x (xs ++ ys)
among_left x [] ys h = absurd h
among_left x (first ∷ xs) ys (inl e) = inl e
among_left x (first ∷ xs) ys (inr h) = inr (among_left x xs ys h)

pub among_last : {X : Type 0} (x : X) (xs : List X) → IsAmong x (xs ++ x ∷ [])
among_last x [] = inl refl
among_last x (first ∷ xs) = inr (among_last x xs)

pub was_last : {X : Type 0} (x one : X) (xs : List X) → IsAmong x (xs ++ one ∷ []) → (one ≡ x) ⊎ IsAmong x xs
was_last x one [] (inl e) = inl e
was_last x one [] (inr h) = absurd h
was_last x one (first ∷ xs) (inl e) = inr (inl e)
was_last x one (first ∷ xs) (inr h) = elim (was_last x one xs h) [ inl e ↦ inl e | inr g ↦ inr (inr g) ]

-- of a list of which one is taken, what stood there is that one, or stays
pub among_taken : {X : Type 0} (x one : X) (before behind : List X) → IsAmong x (before ++ one ∷ behind) → (one ≡ x) ⊎ IsAmong x (before ++ behind)
among_taken x one [] behind (inl e) = inl e
among_taken x one [] behind (inr h) = inr h
among_taken x one (first ∷ before) behind (inl e) = inr (inl e)
among_taken x one (first ∷ before) behind (inr h) = elim (among_taken x one before behind h) [ inl e ↦ inl e | inr g ↦ inr (inr g) ]

pub among_rest : {X : Type 0} (x one : X) (before behind : List X) → IsAmong x (before ++ behind) → IsAmong x (before ++ one ∷ behind)
among_rest x one [] behind h = inr h
among_rest x one (first ∷ before) behind (inl e) = inl e
among_rest x one (first ∷ before) behind (inr h) = inr (among_rest x one before behind h)

pub among_middle : {X : Type 0} (one : X) (before behind : List X) → IsAmong one (before ++ one ∷ behind)
among_middle one [] behind = inl refl
among_middle one (first ∷ before) behind = inr (among_middle one before behind)

pub not_empty : {X : Type 0} (x : X) (xs : List X) → IsAmong x xs → xs ≡ [] → ⊥
not_empty x [] h e = h
not_empty x (first ∷ xs) h e = cc

pub empty_at : {X : Type 0} (xs ys : List X) → ((x : X) → IsAmong x xs → IsAmong x ys) → ys ≡ [] → xs ≡ []
empty_at [] ys h e = refl
empty_at (first ∷ xs) ys h e = absurd (not_empty first ys (h first (inl refl)) e)

-- and in std's words
pub among_contains : {X : Type 0} (x : X) (xs : List X) → IsAmong x xs → Contains xs x
among_contains x [] h = absurd h
among_contains x (first ∷ xs) (inl e) = (0, omega arith, e)
among_contains x (first ∷ xs) (inr h) = let r = among_contains x xs h in let low = r.1 in (suc r.0, omega arith, r.2)

among_at : {X : Type 0} (x : X) (xs : List X) (i : ℕ) → i < length xs → slice_index_or xs i x ≡ x → IsAmong x xs
among_at x [] i low e = absurd (omega arith)
among_at x (first ∷ xs) zero low e = inl e
among_at x (first ∷ xs) (suc i) low e = inr (among_at x xs i (omega arith) e)

pub contains_among : {X : Type 0} (x : X) (xs : List X) → Contains xs x → IsAmong x xs
contains_among x xs h = among_at x xs h.0 h.1 h.2
