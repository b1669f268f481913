-- What a recording keeps of a whole script.
use Rattle.std.proofs.Common.{◌≡◌, ℕ, ◌+◌, Bool, true, false, List, [], ◌∷◌, ◌++◌, map, length, cond, if◌then◌else◌, refl, sym, ap, ◌∙◌, subst, Option, Some, None, IfSome, arith, length-append}
use Rattle.std.specs.Io.KnownBytes.{Appends}
use Rattle.std.specs.Prelude.{count_by}
use Rattle.std.proofs.lemmas.List.Sums.{sum_by-append}
use Rattle.pc_calls.specs.declared.limits.Profile.{Profile}
use Rattle.pc_pen.specs.Drawn.{Pictures}
use Rattle.pc_pen.specs.Pictures.{picture_text}
use Rattle.pc_script.specs.Scripts.{IsRunOf, Notice, answered, faulted, version_named, opening_notices, outcome_notices, answer_notices}
use Rattle.pc_script.specs.Text.{lines}
use Rattle.pc_script.specs.declared.command.Command.{Command}
use Rattle.pc_script.specs.declared.outcome.Outcome.{Outcome}
use Rattle.pc_script.specs.declared.outcome.Outcome.TheVariants.{Finished, FaultLine}
use Rattle.pc_script.specs.declared.response.Response.{Response}
use Rattle.pc_policy.specs.declared.named.PolicyName.{PolicyName}
use Rattle.pc_script.specs.declared.version.Version.{Version}
use Rattle.pc_script.specs.declared.version.Version.TheVariants.{One, Two, Three}
use Rattle.pc_session.specs.Session.{Session, IsRun, IsSession, none, one_more}
use Rattle.pc_draw.specs.Inner.Recorded.{Kept, Records, kept, is_answer, is_refusal, end_by, policy_told}
use Rattle.pc_draw.specs.Inner.Told.{count_both, end_both, policy_both}
use Rattle.pc_draw.specs.Pictures.{IsPictureOf, policy_after, policy_among, policy_by, refuses, refused_among, script_title, xml_text}

-- ---- one notice

pub records_version : (version : Version) (so_far : Kept) → Records (version_named version ∷ []) so_far so_far
records_version version so_far = record { kept_is = omega arith; refused_is = omega arith; policy_is = refl; outcome_is = refl }

pub records_fault : (commands refused number : ℕ) (policy : Option PolicyName) (outcome : Outcome)
    → Records (faulted number ∷ []) (kept commands refused policy outcome) (kept commands refused policy (FaultLine number))
records_fault commands refused number policy outcome = record { kept_is = omega arith; refused_is = omega arith; policy_is = refl; outcome_is = refl }

refused_one : (response : Response) → count_by is_refusal (answered response ∷ []) ≡ (if refuses response then 1 else 0)
refused_one response = elim (refuses response) as (λ b. 0 + cond b 1 0 ≡ (if b then 1 else 0)) [ true ↦ refl | false ↦ refl ]

pub records_answer : (response : Response) {before now : Kept}
    → now.commands ≡ before.commands + 1 → now.refused ≡ before.refused + (if refuses response then 1 else 0)
    → now.policy ≡ policy_by before.policy response → now.outcome ≡ before.outcome
    → Records (answered response ∷ []) before now
records_answer response {before} one more given same = record {
  kept_is = one;
  refused_is = more ∙ ap (λ n. before.refused + n) (sym (refused_one response));
  policy_is = given;
  outcome_is = same;
}

-- ---- a whole run

answers_kept : (responses : List Response) → count_by is_answer (map answered responses) ≡ length responses
answers_kept [] = refl
answers_kept (response ∷ responses) = omega (arith, count_both is_answer (answered response ∷ []) (map answered responses), answers_kept responses)

refusals_kept : (responses : List Response) → count_by is_refusal (map answered responses) ≡ refused_among responses
refusals_kept [] = refl
refusals_kept (response ∷ responses) =
    count_both is_refusal (answered response ∷ []) (map answered responses)
    ∙ ap (λ n. count_by refuses (response ∷ []) + n) (refusals_kept responses)
    ∙ sym (sum_by-append (λ r. cond (refuses r) 1 0) (response ∷ []) responses)

-- what names the version, and what tells of a fault, is no answer
no_opening : (test : Notice → Bool) → ((version : Version) → test (version_named version) ≡ false) → (version : Version) → count_by test (opening_notices version) ≡ 0
no_opening test h One = refl
no_opening test h Two = ap (λ b. 0 + cond b 1 0) (h Two)
no_opening test h Three = ap (λ b. 0 + cond b 1 0) (h Three)

no_outcome : (test : Notice → Bool) → ((number : ℕ) → test (faulted number) ≡ false) → (outcome : Outcome) → count_by test (outcome_notices outcome) ≡ 0
no_outcome test h Finished = refl
no_outcome test h (FaultLine number) = ap (λ b. 0 + cond b 1 0) (h number)

-- what is recorded of a run's notices
kept_of : (version : Version) (responses : List Response) (outcome : Outcome) → count_by is_answer (answer_notices version responses ++ outcome_notices outcome) ≡ length responses
kept_of version responses outcome =
    omega (
      arith,
      count_both is_answer (answer_notices version responses) (outcome_notices outcome),
      count_both is_answer (opening_notices version) (map answered responses),
      answers_kept responses,
      no_opening is_answer (λ v. refl) version,
      no_outcome is_answer (λ n. refl) outcome,
    )

refused_of : (version : Version) (responses : List Response) (outcome : Outcome) → count_by is_refusal (answer_notices version responses ++ outcome_notices outcome) ≡ refused_among responses
refused_of version responses outcome =
    omega (
      arith,
      count_both is_refusal (answer_notices version responses) (outcome_notices outcome),
      count_both is_refusal (opening_notices version) (map answered responses),
      refusals_kept responses,
      no_opening is_refusal (λ v. refl) version,
      no_outcome is_refusal (λ n. refl) outcome,
    )

policy_answers : (responses : List Response) (policy : Option PolicyName) → policy_told (map answered responses) policy ≡ policy_after policy responses
policy_answers [] policy = refl
policy_answers (response ∷ responses) policy = policy_answers responses (policy_by policy response)

policy_outcome : (outcome : Outcome) (policy : Option PolicyName) → policy_told (outcome_notices outcome) policy ≡ policy
policy_outcome Finished policy = refl
policy_outcome (FaultLine number) policy = refl

policy_opening : (version : Version) (policy : Option PolicyName) → policy_told (opening_notices version) policy ≡ policy
policy_opening One policy = refl
policy_opening Two policy = refl
policy_opening Three policy = refl

policy_of : (version : Version) (responses : List Response) (outcome : Outcome) → policy_told (answer_notices version responses ++ outcome_notices outcome) None ≡ policy_among responses
policy_of version responses outcome =
    policy_both (answer_notices version responses) (outcome_notices outcome) None
    ∙ policy_outcome outcome (policy_told (answer_notices version responses) None)
    ∙ policy_both (opening_notices version) (map answered responses) None
    ∙ ap (policy_told (map answered responses)) (policy_opening version None)
    ∙ policy_answers responses None

end_answers : (responses : List Response) (outcome : Outcome) → end_by (map answered responses) outcome ≡ outcome
end_answers [] outcome = refl
end_answers (response ∷ responses) outcome = end_answers responses outcome

end_of : (version : Version) (responses : List Response) (outcome : Outcome) → end_by (answer_notices version responses ++ outcome_notices outcome) Finished ≡ outcome
end_of One responses Finished = end_both (map answered responses) [] Finished ∙ end_answers responses Finished
end_of One responses (FaultLine number) = end_both (map answered responses) (faulted number ∷ []) Finished
end_of Two responses Finished = end_both (map answered responses) [] Finished ∙ end_answers responses Finished
end_of Two responses (FaultLine number) = end_both (map answered responses) (faulted number ∷ []) Finished
end_of Three responses Finished = end_both (map answered responses) [] Finished ∙ end_answers responses Finished
end_of Three responses (FaultLine number) = end_both (map answered responses) (faulted number ∷ []) Finished

-- a session gives a response to each command
one_each : {profile : Profile} {s e : Session} {commands : List Command} {responses : List Response} → IsRun profile s commands responses e → length commands ≡ length responses
one_each none = refl
one_each (one_more commands told command response before step) =
    omega (arith, one_each before, length-append commands (command ∷ []), length-append told (response ∷ []))

each_answered : {profile : Profile} {commands : List Command} {responses : List Response} → IsSession profile commands responses → length commands ≡ length responses
each_answered (e, run) = one_each run

-- ---- the picture

-- the title of what was kept
abbrev title_of : Kept → List ℕ
title_of so_far = xml_text (script_title so_far.commands so_far.refused so_far.policy so_far.outcome)

-- nothing was kept
abbrev nothing : Kept
nothing = kept 0 0 None Finished

drawn_of : (text : List ℕ) (outcome : Outcome) (all : Kept) (before after : Option (List ℕ)) (version : Version) (responses : List Response)
    → IsRunOf IsSession (lines text) outcome version responses
    → Records (answer_notices version responses ++ outcome_notices outcome) nothing all
    → Pictures (title_of all) before after
    → (written : List ℕ) × IsPictureOf IsSession text outcome written × Appends before after written
drawn_of text outcome all before after version responses runs recorded drawn =
    let commands : all.commands ≡ length runs.commands = omega (arith, recorded.kept_is, kept_of version responses outcome, each_answered runs.run) in
    let refusals : all.refused ≡ refused_among responses = omega (arith, recorded.refused_is, refused_of version responses outcome) in
    let policy : all.policy ≡ policy_among responses = recorded.policy_is ∙ policy_of version responses outcome in
    let end' : all.outcome ≡ outcome = recorded.outcome_is ∙ end_of version responses outcome in (
      picture_text drawn.width drawn.height (title_of all) drawn.marks,
      record {
        version = version;
        responses = responses;
        runs = runs;
        width = drawn.width;
        height = drawn.height;
        marks = drawn.marks;
        are_marks = drawn.are_marks;
        text = ap (λ n. picture_text drawn.width drawn.height (xml_text (script_title n all.refused all.policy all.outcome)) drawn.marks) commands
            ∙ ap (λ n. picture_text drawn.width drawn.height (xml_text (script_title (length runs.commands) n all.policy all.outcome)) drawn.marks) refusals
            ∙ ap (λ p. picture_text drawn.width drawn.height (xml_text (script_title (length runs.commands) (refused_among responses) p all.outcome)) drawn.marks) policy
            ∙ ap (λ o. picture_text drawn.width drawn.height (xml_text (script_title (length runs.commands) (refused_among responses) (policy_among responses) o)) drawn.marks) end';
      },
      drawn.written,
    )

-- of a text's call, where the text is known
pub whole_drawn : (known : Option (List ℕ)) (text : List ℕ) (outcome : Outcome) (all : Kept) (before after : Option (List ℕ)) (version : Version) (responses : List Response)
    → IfSome known (λ bytes. bytes ≡ text) → IsRunOf IsSession (lines text) outcome version responses
    → Records (answer_notices version responses ++ outcome_notices outcome) nothing all
    → Pictures (title_of all) before after
    → IfSome known (λ bytes. (written : List ℕ) × IsPictureOf IsSession bytes outcome written × Appends before after written)
whole_drawn None text outcome all before after version responses is runs recorded drawn = tt
whole_drawn (Some bytes) text outcome all before after version responses is runs recorded drawn =
    subst (λ t. (written : List ℕ) × IsPictureOf IsSession t outcome written × Appends before after written) (sym is)
    (drawn_of text outcome all before after version responses runs recorded drawn)

-- of a recording that began with nothing
pub drawn_from_nothing : (known : Option (List ℕ)) (text : List ℕ) (outcome : Outcome) (first all : Kept) (before after : Option (List ℕ)) (version : Version) (responses : List Response)
    → (first.commands ≡ 0) × (first.refused ≡ 0) × (first.policy ≡ None) × (first.outcome ≡ Finished)
    → IfSome known (λ bytes. bytes ≡ text) → IsRunOf IsSession (lines text) outcome version responses
    → Records (answer_notices version responses ++ outcome_notices outcome) first all
    → Pictures (title_of all) before after
    → IfSome known (λ bytes. (written : List ℕ) × IsPictureOf IsSession bytes outcome written × Appends before after written)
drawn_from_nothing known text outcome first all before after version responses (a, b, c, d) is runs recorded drawn =
    let from_nothing : Records (answer_notices version responses ++ outcome_notices outcome) nothing all = record {
      kept_is = omega (arith, a, recorded.kept_is);
      refused_is = omega (arith, b, recorded.refused_is);
      policy_is = recorded.policy_is ∙ ap (policy_told (answer_notices version responses ++ outcome_notices outcome)) c;
      outcome_is = recorded.outcome_is ∙ ap (end_by (answer_notices version responses ++ outcome_notices outcome)) d;
    } in
    whole_drawn known text outcome all before after version responses is runs from_nothing drawn
