-- Calls that an agent makes under one count of posts, one after another.
use Rattle.std.proofs.Common.{ℕ, ◌≡◌, ◌+◌, List, [], ◌++◌, refl, sym, ap, ◌∙◌, arith}
use Rattle.std.proofs.lemmas.List.{append-nil, append_assoc}
use Rattle.std.proofs.lemmas.List.Elements.{All-append}
use Rattle.std.proofs.lemmas.List.Sums.{sum_by-append}
use Rattle.pc_calls.specs.declared.call.Call.{Call}
use Rattle.pc_calls.specs.declared.call.Answer.{Answer}
use Rattle.pc_threads.specs.Totals.{committed_by, in_all}
use Rattle.pc_threads.specs.Inner.Turns.{IsUnder, ListsUnder, slept_by}

-- nothing was called
pub none_under : (cpu aseq : ℕ) (old new : List (Call × Answer)) → new ≡ old → ListsUnder cpu aseq 0 0 old new
none_under cpu aseq old new same =
    record { more = []; listed = same ∙ sym (append-nil old); under = λ k d low. absurd (omega arith); committed = refl; slept = refl }

-- more calls behind them
pub more_under : (cpu aseq a b m n : ℕ) (old then' new : List (Call × Answer)) → ListsUnder cpu aseq a m old then' → ListsUnder cpu aseq b n then' new
    → ListsUnder cpu aseq (a + b) (m + n) old new
more_under cpu aseq a b m n old then' new first second =
    let committed : in_all committed_by (first.more ++ second.more) ≡ in_all committed_by first.more + in_all committed_by second.more =
    sum_by-append (λ (entry : Call × Answer). committed_by entry.0) first.more second.more in
    let slept : in_all slept_by (first.more ++ second.more) ≡ in_all slept_by first.more + in_all slept_by second.more =
    sum_by-append (λ (entry : Call × Answer). slept_by entry.0) first.more second.more in
    record {
      more = first.more ++ second.more;
      listed = second.listed ∙ ap (λ calls. calls ++ second.more) first.listed ∙ append_assoc old first.more second.more;
      under = All-append (λ (entry : Call × Answer). IsUnder cpu aseq entry.0) first.more second.more first.under second.under;
      committed = omega (arith, committed, first.committed, second.committed);
      slept = omega (arith, slept, first.slept, second.slept);
    }

pub same_under : (cpu aseq a b m n : ℕ) (old new : List (Call × Answer)) → a ≡ b → m ≡ n → ListsUnder cpu aseq a m old new → ListsUnder cpu aseq b n old new
same_under cpu aseq a b m n old new commits sleeps h =
    record { more = h.more; listed = h.listed; under = h.under; committed = h.committed ∙ commits; slept = h.slept ∙ sleeps }
