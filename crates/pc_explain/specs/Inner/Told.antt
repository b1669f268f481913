-- That texts are written one after another, with comments between their lines.
use Rattle.std.proofs.Common.{ℕ, List, [], ◌∷◌, ◌++◌, Option, append_assoc, sym, subst}
use Rattle.std.specs.Io.KnownBytes.{Keeps}
use Rattle.std.proofs.KnownBytes.{Appends-kept, Appends-nil, Appends-trans}
use Rattle.std.proofs.lemmas.Grind.{flat_map-append}
use Rattle.pc_script.specs.Scripts.{Notice, notice_text, notices_text}
use Rattle.pc_explain.specs.Inner.Annotated.{IsAnnotated, at_end, told, comment}
use Rattle.pc_explain.specs.Inner.Writing.{Annotates}

pub IsAnnotated-append : {plain written others more : List ℕ} → IsAnnotated plain written → IsAnnotated others more
    → IsAnnotated (plain ++ others) (written ++ more)
IsAnnotated-append at_end after = after
IsAnnotated-append {others} {more} (told {plain} {written} line none other rest) after =
    subst (λ text. IsAnnotated text ((line ++ 10 ∷ written) ++ more)) (sym (append_assoc line (10 ∷ plain) others))
    (subst (λ text. IsAnnotated (line ++ 10 ∷ (plain ++ others)) text) (sym (append_assoc line (10 ∷ written) more))
    (told line none other (IsAnnotated-append rest after)))
IsAnnotated-append {others} {more} (comment {plain} {written} line none rest) after =
    subst (λ text. IsAnnotated (plain ++ others) text) (sym (append_assoc (35 ∷ line) (10 ∷ written) more))
    (comment line none (IsAnnotated-append rest after))

pub Annotates-nothing : (known : Option (List ℕ)) → Annotates [] known known
Annotates-nothing known = ([], at_end, Appends-nil known)

pub Annotates-trans : {one other : List ℕ} (before now after : Option (List ℕ)) → Annotates one before now
    → Annotates other now after
    → Annotates (one ++ other) before after
Annotates-trans before now after h k =
    (h.0 ++ k.0, IsAnnotated-append h.1 k.1, Appends-trans before now after h.0 k.0 h.2 k.2)

-- of notices
pub told_nothing : (known : Option (List ℕ)) → Annotates (notices_text []) known known
told_nothing known = Annotates-nothing known

pub told_more : (before now after : Option (List ℕ)) (notices further : List Notice)
    → Annotates (notices_text notices) before now → Annotates (notices_text further) now after
    → Annotates (notices_text (notices ++ further)) before after
told_more before now after notices further h k =
    subst (λ text. Annotates text before after) (sym (flat_map-append notice_text notices further))
    (Annotates-trans before now after h k)

-- a writer that keeps what it holds keeps what was told
pub told_kept : (before here after : Option (List ℕ)) (notices : List Notice)
    → Annotates (notices_text notices) before here → Keeps here after → Annotates (notices_text notices) before after
told_kept before here after notices h k = (h.0, h.1, Appends-kept before here after h.0 h.2 k)
