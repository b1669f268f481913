-- What is known of a text that was read, where it is known.
use Rattle.std.proofs.Common.{◌≡◌, ℕ, List, Option, Some, None, IfSome, subst, sym}

pub known_has : (P : List ℕ → Type 0) (known : Option (List ℕ)) (text : List ℕ) → IfSome known (λ bytes. bytes ≡ text) → P text → IfSome known P
known_has P None text is holds = tt
known_has P (Some bytes) text is holds = subst P (sym is) holds

pub known_both : (P Q : List ℕ → Type 0) (known : Option (List ℕ)) → IfSome known P → IfSome known Q → IfSome known (λ bytes. P bytes × Q bytes)
known_both P Q None p q = tt
known_both P Q (Some bytes) p q = (p, q)

pub known_all : (P : List ℕ → Type 0) (known : Option (List ℕ)) → ((text : List ℕ) → P text) → IfSome known P
known_all P None each = tt
known_all P (Some bytes) each = each bytes
