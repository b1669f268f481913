-- A text that ends so is what stands before, and that.
use Rattle.std.proofs.Common.{ℕ, ◌≡◌, ◌++◌, ◌∙◌, ap, sym, true, List, take, drop, bytes_eq}
use Rattle.std.proofs.lemmas.List.{take-append-drop}
use Rattle.std.proofs.lemmas.Slice.Eq.{bytes_eq-Decides}

pub ends_so : (text word ending : List ℕ) (n : ℕ) → bytes_eq (drop n text) ending ≡ true → word ≡ take n text
    → text ≡ word ++ ending
ends_so text word ending n same is =
    sym (take-append-drop n text)
    ∙ ap (λ (front : List ℕ). front ++ drop n text) (sym is)
    ∙ ap (λ (back : List ℕ). word ++ back) ((bytes_eq-Decides (drop n text) ending).0 same)
