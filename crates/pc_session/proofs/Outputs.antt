-- The output of a script goes on as its session does.
use Rattle.std.proofs.Common.{◌≡◌, ℕ, suc, ◌+◌, List, ◌++◌, length, refl, sym, ap, ◌∙◌, subst, arith, append_assoc}
use Rattle.std.proofs.lemmas.Grind.{flat_map-append}
use Rattle.pc_script.specs.Scripts.{Script, at_end, no_reply, command, fault, answers_text, outcome_text, responses_text}
use Rattle.pc_script.specs.Responses.{response_text, text_line}
use Rattle.pc_script.specs.Versions.{opening_text, profile_of}
use Rattle.pc_script.specs.declared.command.Command.{Command}
use Rattle.pc_script.specs.declared.outcome.Outcome.{Outcome}
use Rattle.pc_script.specs.declared.outcome.Outcome.TheVariants.{Finished}
use Rattle.pc_script.specs.declared.response.Response.{Response}
use Rattle.pc_script.specs.declared.version.Version.{Version}
use Rattle.pc_session.specs.GoingOn.{OutputsGoOn, SessionsGoOn}

-- lines without a fault, and what comes after them
script_from : {version : Version} {number other : ℕ} {script : List (List ℕ)} {commands : List Command} {outcome : Outcome}
    → Script version number script commands outcome → number ≡ other → Script version other script commands outcome
script_from {version} {script} {commands} {outcome} h e = subst (λ n. Script version n script commands outcome) e h

both_scripts : {version : Version} {number : ℕ} {script : List (List ℕ)} {commands : List Command} {end : Outcome} {others : List (List ℕ)} {further : List Command} {outcome : Outcome}
    → Script version number script commands end → end ≡ Finished → Script version (number + length script) others further outcome
    → Script version number (script ++ others) (commands ++ further) outcome
both_scripts at_end e after = script_from after (omega arith)
both_scripts (no_reply h more) e after = no_reply h (both_scripts more e (script_from after (omega arith)))
both_scripts (command h more) e after = command h (both_scripts more e (script_from after (omega arith)))
both_scripts (fault h) e after = cc

-- what is written of the first responses, and then of the others
both_written : (version : Version) (responses later : List Response) (outcome : Outcome) (output : List ℕ) → output ≡ answers_text version responses
    → output ++ (responses_text later ++ outcome_text outcome) ≡ answers_text version (responses ++ later) ++ outcome_text outcome
both_written version responses later outcome output is =
    ap (λ first. first ++ (responses_text later ++ outcome_text outcome)) is
    ∙ sym (append_assoc (answers_text version responses) (responses_text later) (outcome_text outcome))
    ∙ ap (λ first. first ++ outcome_text outcome) (append_assoc (opening_text version) (responses_text responses) (responses_text later))
    ∙ ap (λ rest. opening_text version ++ rest ++ outcome_text outcome)
    (sym (flat_map-append (λ response. text_line (response_text response)) responses later))

pub outputs_go_on : SessionsGoOn → OutputsGoOn
outputs_go_on sessions text output until further outcome asks =
    let runs = until.runs in
    let next = sessions (profile_of until.version) runs.commands further until.responses runs.run in (
      responses_text next.0 ++ outcome_text outcome,
      record {
        version = until.version;
        responses = until.responses ++ next.0;
        runs = record {
          passed = runs.passed;
          rest = runs.rest;
          commands = runs.commands ++ further;
          opens = runs.opens;
          asks = subst (λ lines. Script until.version (suc runs.passed) lines (runs.commands ++ further) outcome) (sym runs.cut) (both_scripts runs.asks refl asks);
          run = next.1;
        };
        written = both_written until.version until.responses next.0 outcome output until.written;
      },
    )
