-- A row of a view, and behind it the numbers of early messages.
use Rattle.std.proofs.Common.{◌≡◌, ℕ, List, [], ◌∷◌, ◌++◌, codes, decimal, sym, ap, ◌∙◌, append_assoc}
use Rattle.pc_script.specs.Grammar.{thread_name}
use Rattle.pc_script.specs.Inner.Outputs.{row_text}
use Rattle.pc_script.specs.Responses.{numbers_text, reported_text, shown_text, text_line}
use Rattle.pc_script.specs.declared.lists.ShownThread.{ShownThread}

-- six texts, and three behind them
-- six texts, and one behind them
six : (a b c d e f w : List ℕ)
    → (a ++ (b ++ (c ++ (d ++ (e ++ f))))) ++ w ≡ a ++ (b ++ (c ++ (d ++ (e ++ (f ++ w)))))
six a b c d e f w =
    append_assoc a (b ++ (c ++ (d ++ (e ++ f)))) w
    ∙ ap (λ t. a ++ t) (append_assoc b (c ++ (d ++ (e ++ f))) w
    ∙ ap (λ t. b ++ t) (append_assoc c (d ++ (e ++ f)) w
    ∙ ap (λ t. c ++ t) (append_assoc d (e ++ f) w ∙ ap (λ t. d ++ t) (append_assoc e f w))))

-- the seventh belongs to the sixth, or to what comes behind
seven : (a b c d e f n z : List ℕ)
    → (a ++ (b ++ (c ++ (d ++ (e ++ f))))) ++ (n ++ z) ≡ (a ++ (b ++ (c ++ (d ++ (e ++ (f ++ n)))))) ++ z
seven a b c d e f n z =
    six a b c d e f (n ++ z)
    ∙ ap (λ t. a ++ (b ++ (c ++ (d ++ (e ++ t))))) (sym (append_assoc f n z)) ∙ sym (six a b c d e (f ++ n) z)

pub row_then : (shown : ShownThread) (numbers : List ℕ) → shown.early ≡ numbers
    → row_text shown ++ text_line (numbers_text numbers) ≡ text_line (shown_text shown)
row_then shown numbers is =
    seven (thread_name shown.thread) (codes " upto ") (decimal shown.upto) (codes " ") (reported_text shown.reported) (codes " early ") (numbers_text numbers) (10 ∷ [])
    ∙ ap (λ them. (thread_name shown.thread ++ (codes " upto " ++ (decimal shown.upto ++ (codes " " ++ (reported_text shown.reported ++ (codes " early " ++ numbers_text them)))))) ++ 10 ∷ []) (sym is)
