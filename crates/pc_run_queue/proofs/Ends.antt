-- A list and what is left of it without its first or its last name.
use Rattle.std.proofs.Common.{ℕ, zero, suc, ◌+◌, ◌≡◌, List, [], ◌∷◌, ◌++◌, length, Some, slice_get, sym, ap, ◌∙◌, arith}
use Rattle.std.specs.List.{remove}
use Rattle.pc_run_queue.specs.Names.{AreDistinct, without}
use Rattle.pc_run_queue.proofs.Counts.{without_at}

first_there : (names : List ℕ) (x : ℕ) → slice_get names 0 ≡ Some x → names ≡ x ∷ remove names 0
first_there [] x e = absurd cc
first_there (y ∷ ys) x e = let same : y ≡ x = cc in ap (λ n. n ∷ ys) same

pub without_first : (names : List ℕ) (x : ℕ) → AreDistinct names → slice_get names 0 ≡ Some x → names ≡ x ∷ without x names
without_first names x distinct e = first_there names x e ∙ ap (λ l. x ∷ l) (sym (without_at names 0 x distinct e))

pub last_there : (names : List ℕ) (place x : ℕ) → place + 1 ≡ length names → slice_get names place ≡ Some x → names ≡ remove names place ++ x ∷ []
last_there [] place x n e = absurd (omega arith)
last_there (y ∷ []) zero x n e = let same : y ≡ x = cc in ap (λ m. m ∷ []) same
last_there (y ∷ z ∷ ys) zero x n e = absurd (omega arith)
last_there (y ∷ ys) (suc place) x n e = ap (λ l. y ∷ l) (last_there ys place x (omega arith) e)

pub without_last : (names : List ℕ) (place x : ℕ) → AreDistinct names → place + 1 ≡ length names → slice_get names place ≡ Some x → names ≡ without x names ++ x ∷ []
without_last names place x distinct n e =
    last_there names place x n e ∙ ap (λ l. l ++ x ∷ []) (sym (without_at names place x distinct e))
