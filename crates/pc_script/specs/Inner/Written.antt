-- That the texts of notices are written one after another.
use Rattle.std.proofs.Common.{ℕ, List, [], ◌++◌, Option, sym, subst}
use Rattle.std.specs.Io.KnownBytes.{Appends, Keeps, append_known}
use Rattle.std.proofs.KnownBytes.{Appends-kept, Appends-nil, Appends-trans, append_known-kept}
use Rattle.std.proofs.lemmas.Grind.{flat_map-append}
use Rattle.pc_script.specs.Scripts.{Notice, notice_text, notices_text}

pub written_nothing : (known : Option (List ℕ)) → Appends known known (notices_text [])
written_nothing known = Appends-nil known

pub written_more : (before now after : Option (List ℕ)) (notices further : List Notice)
    → Appends before now (notices_text notices) → Appends now after (notices_text further)
    → Appends before after (notices_text (notices ++ further))
written_more before now after notices further h k =
    subst (Appends before after) (sym (flat_map-append notice_text notices further))
    (Appends-trans before now after (notices_text notices) (notices_text further) h k)

-- what waits behind what a writer holds stays there, where the writer keeps what it holds
pub written_kept : (before here after : Option (List ℕ)) (waits : List ℕ) (notices : List Notice)
    → Appends before (append_known here waits) (notices_text notices) → Keeps here after
    → Appends before (append_known after waits) (notices_text notices)
written_kept before here after waits notices h k =
    Appends-kept before (append_known here waits) (append_known after waits) (notices_text notices) h
    (append_known-kept here after waits k)
