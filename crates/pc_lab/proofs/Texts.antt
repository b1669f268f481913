-- The text of one moment more.
use Rattle.std.proofs.Common.{◌≡◌, ◌++◌, ◌∷◌, [], ℕ, List, Option, Some, refl, sym, ap, ◌∙◌}
use Rattle.pc_lab.specs.Moments.{Moment, last_tick}
use Rattle.pc_lab.specs.Texts.{body_after, moment_text}
use Rattle.std.proofs.lemmas.List.{append_assoc, append-nil}

-- the last tick of moments with one more is that one's
pub last_one : (before : Option ℕ) (moments : List Moment) (moment : Moment) → last_tick before (moments ++ moment ∷ []) ≡ Some moment.tick
last_one before [] moment = refl
last_one before (first ∷ moments) moment = last_one (Some first.tick) moments moment

-- one moment more adds its lines
pub one_more : (told : Option ℕ) (moments : List Moment) (moment : Moment)
    → body_after told (moments ++ moment ∷ []) ≡ body_after told moments ++ moment_text (last_tick told moments) moment
one_more told [] moment = append-nil (moment_text told moment)
one_more told (first ∷ moments) moment =
    ap (λ rest. moment_text told first ++ rest) (one_more (Some first.tick) moments moment)
    ∙ sym (append_assoc (moment_text told first) (body_after (Some first.tick) moments) (moment_text (last_tick (Some first.tick) moments) moment))
