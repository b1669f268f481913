-- Texts with comments between their lines.
use Rattle.std.proofs.Common.{◌≡◌, ℕ, subst, append-nil, codes, decimal, Result, Ok, Err, OnOk, List, [], ◌∷◌, ◌++◌, Bool, true, false, not, ◌&&◌, eqb, cond, filter, refl, sym, ap, ◌∙◌, Option, append_assoc}
use Rattle.std.specs.Io.KnownBytes.{Appends}
use Rattle.std.specs.List.{All, list_all, slice_split, join_with_byte}
use Rattle.std.proofs.lemmas.Bool.{ne_eqb, false≢true}
use Rattle.std.proofs.lemmas.List.Elements.{All-cons, All-nil, All-same, All-weaker}
use Rattle.std.proofs.lemmas.List.Folds.{list_all-append}
use Rattle.std.proofs.lemmas.List.Splits.{slice_split_at, join_with_byte-slice_split}
use Rattle.std.proofs.lemmas.List.Sums.{AllPass-from_list_all}
use Rattle.pc_pen.specs.Escapes.{IsPrinted, escaped, is_printed}
use Rattle.pc_pen.proofs.Escapes.{decimal_printed, escaped_printed}
use Rattle.pc_explain.specs.Comments.{HasPrintedComments, is_comment, without_comments}
use Rattle.pc_explain.specs.Inner.Annotated.{HasNoLineFeed, IsAnnotated, at_end, told, comment}
use Rattle.pc_explain.specs.Inner.Told.{Annotates-trans}
use Rattle.pc_explain.specs.Inner.Writing.{Annotates}

-- ---- line feeds

pub without-append : (one other : List ℕ) → HasNoLineFeed one → HasNoLineFeed other → HasNoLineFeed (one ++ other)
without-append one other h k =
    list_all-append (λ b. not (eqb b 10)) one other ∙ ap (λ x. x && list_all (λ b. not (eqb b 10)) other) h ∙ k

-- each byte is another than a line feed
abbrev AreOther : List ℕ → Type 0
AreOther line = All (λ b. eqb b 10 ≡ false) line

passes : (b : Bool) → not b ≡ true → b ≡ false
passes true h = sym h
passes false h = refl

all_other : (line : List ℕ) → HasNoLineFeed line → AreOther line
all_other line h =
    All-weaker (λ b. not (eqb b 10) ≡ true) (λ b. eqb b 10 ≡ false) (λ b k. passes (eqb b 10) k) line (AllPass-from_list_all (λ b. not (eqb b 10)) line h)

printed_other : (line : List ℕ) → IsPrinted line → AreOther line
printed_other line h =
    All-weaker (λ b. is_printed b ≡ true) (λ b. eqb b 10 ≡ false)
    (λ b k. ne_eqb b 10 (λ e. false≢true (subst (λ x. is_printed x ≡ true) e k)))
    line (AllPass-from_list_all is_printed line h)

-- a text whose first line is this one
lines_from : (line rest : List ℕ) → AreOther line → slice_split (λ b. eqb b 10) (line ++ 10 ∷ rest) ≡ line ∷ slice_split (λ b. eqb b 10) rest
lines_from line rest h = slice_split_at (λ b. eqb b 10) line 10 rest h refl

-- a text whose first line is this comment
comment_from : (line rest : List ℕ) → IsPrinted line → slice_split (λ b. eqb b 10) (35 ∷ line ++ 10 ∷ rest) ≡ (35 ∷ line) ∷ slice_split (λ b. eqb b 10) rest
comment_from line rest h = lines_from (35 ∷ line) rest (printed_other (35 ∷ line) h)

-- ---- comments

-- the lines of the text are those with comments between, but for these
told_lines : {plain written : List ℕ} → IsAnnotated plain written
    → filter (λ line. not (is_comment line)) (slice_split (λ b. eqb b 10) written) ≡ slice_split (λ b. eqb b 10) plain
told_lines at_end = refl
told_lines (told {plain} {written} line none other rest) =
    let more = filter (λ l. not (is_comment l)) (slice_split (λ b. eqb b 10) written) in
    ap (filter (λ l. not (is_comment l))) (lines_from line written (all_other line none))
    ∙ ap (λ is. cond (not is) (line ∷ more) more) other
    ∙ ap (λ ls. line ∷ ls) (told_lines rest)
    ∙ sym (lines_from line plain (all_other line none))
told_lines (comment {written} line shown rest) =
    ap (filter (λ l. not (is_comment l))) (comment_from line written shown)
    ∙ told_lines rest

-- a line that is a comment is printed ASCII
abbrev PrintedIfComment : List ℕ → Type 0
PrintedIfComment line = is_comment line ≡ true → IsPrinted line

pub comments_printed : {plain written : List ℕ} → IsAnnotated plain written → HasPrintedComments written
comments_printed at_end = All-cons PrintedIfComment [] [] (λ is. absurd (false≢true is)) (All-nil PrintedIfComment)
comments_printed (told {written} line none other rest) =
    All-same PrintedIfComment _ _ (lines_from line written (all_other line none))
    (All-cons PrintedIfComment line _ (λ is. absurd (false≢true (sym other ∙ is))) (comments_printed rest))
comments_printed (comment {written} line shown rest) =
    All-same PrintedIfComment _ _ (comment_from line written shown)
    (All-cons PrintedIfComment (35 ∷ line) _ (λ is. shown) (comments_printed rest))

pub without_comments_is : {plain written : List ℕ} → IsAnnotated plain written → without_comments written ≡ plain
without_comments_is {plain} h = ap (join_with_byte 10) (told_lines h) ∙ join_with_byte-slice_split 10 plain

-- ---- writing one after another

-- a comment
pub Annotates-comment : (line : List ℕ) (before after : Option (List ℕ)) → IsPrinted line → Appends before after (35 ∷ line ++ 10 ∷ [])
    → Annotates [] before after
Annotates-comment line before after shown h = (35 ∷ line ++ 10 ∷ [], comment line shown at_end, h)

-- a sentence
pub Annotates-sentence : (text : List ℕ) (before after : Option (List ℕ)) → IsPrinted text → Appends before after (codes "#    " ++ (text ++ 10 ∷ []))
    → Annotates [] before after
Annotates-sentence text before after shown h = Annotates-comment (codes "    " ++ text) before after shown h

-- a line of a script with its number
pub Annotates-heading : (number : ℕ) (line : List ℕ) (before after : Option (List ℕ))
    → Appends before after (codes "# " ++ (decimal number ++ (codes ": " ++ (escaped line ++ codes "\n"))))
    → Annotates [] before after
Annotates-heading number line before after h =
    let told = decimal number ++ (codes ": " ++ escaped line) in
    let grouped : codes "# " ++ (decimal number ++ (codes ": " ++ (escaped line ++ codes "\n"))) ≡ 35 ∷ (codes " " ++ told) ++ 10 ∷ [] =
    ap (λ t. codes "# " ++ t) (sym (append_assoc (decimal number) (codes ": " ++ escaped line) (10 ∷ []))) in
    let shown : IsPrinted told = list_all-append is_printed (decimal number) (codes ": " ++ escaped line)
    ∙ ap (λ x. x && list_all is_printed (codes ": " ++ escaped line)) (decimal_printed number) ∙ escaped_printed line in
    Annotates-comment (codes " " ++ told) before after shown (subst (λ t. Appends before after t) grouped h)

-- a text that is written as it stands
pub Annotates-plain : (text : List ℕ) (before after : Option (List ℕ)) → IsAnnotated text text → Appends before after text → Annotates text before after
Annotates-plain text before after h k = (text, h, k)

-- a text between comments
pub Annotates-between : {text : List ℕ} (before one two after : Option (List ℕ))
    → Annotates [] before one → Annotates text one two → Annotates [] two after → Annotates text before after
Annotates-between {text} before one two after h k l =
    let whole : Annotates (text ++ []) before after = Annotates-trans before one after h (Annotates-trans one two after k l) in
    subst (λ t. Annotates t before after) (append-nil text) whole

-- the same of what the call answers that writes the last of them
pub Annotates-between_ok : {A E : Type 0} {text : List ℕ} (answer : Result A E) (before one two after : Option (List ℕ))
    → Annotates [] before one → Annotates text one two → OnOk answer (Annotates [] two after) → OnOk answer (Annotates text before after)
Annotates-between_ok (Ok x) before one two after h k l = Annotates-between before one two after h k l
Annotates-between_ok (Err e) before one two after h k l = tt
