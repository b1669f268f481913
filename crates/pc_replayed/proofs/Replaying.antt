-- The script of a run replays as the run went.
use Rattle.std.proofs.Common.{◌≡◌, All, ◌∙◌, ℕ, Bool, true, false, if◌then◌else◌, List, [], ◌∷◌, ◌++◌, append-nil, map, None, refl, sym, ap, subst}
use Rattle.std.specs.Prelude.{codes, flat_map}
use Rattle.pc_calls.specs.declared.limits.Limits.{Limits}
use Rattle.pc_calls.specs.declared.limits.Profile.TheVariants as profile
use Rattle.pc_trial.specs.Comparing.{IsScript}
use Rattle.pc_lab.specs.Heads.{command_line}
use Rattle.pc_policy.specs.Names.{IsReadAgain, is_usual}
use Rattle.pc_lab.specs.Limits.{limits_for}
use Rattle.pc_lab.specs.Moments.{IsWritten, Moment}
use Rattle.pc_lab.specs.Texts.{body_text}
use Rattle.pc_load.specs.Loads.{Demand}
use Rattle.pc_load.specs.Variants.{choice_of, is_variant, variant_text}
use Rattle.pc_load.specs.declared.variant.Variant.{Variant}
use Rattle.pc_script.specs.Grammar.{AreInRange, command_text, row_of}
use Rattle.pc_script.specs.Scripts.{outcome_text, responses_text}
use Rattle.pc_script.specs.Text.{lines}
use Rattle.pc_script.specs.Versions.{Opens}
use Rattle.pc_script.specs.declared.command.Command.TheVariants.{Enclave, Policy}
use Rattle.pc_script.specs.declared.outcome.Outcome.TheVariants.{Finished}
use Rattle.pc_script.specs.declared.response.Response.TheVariants as response
use Rattle.pc_script.specs.declared.version.Version.TheVariants.{One, Three}
use Rattle.pc_world.specs.PlainWorld.{PlainWorld}
use Rattle.pc_replayed.specs.Replays.{IsMade, IsReplay, NamedScriptsReplay, ScriptsReplay, command_of, ok_line, opening_for, reply_line, response_of}
use Rattle.pc_replayed.proofs.Going.{SessionTo, ruled_run, usual_run}
use Rattle.pc_replayed.proofs.Heads.{ruled_asks, ruled_lines, ruled_opens, usual_asks, usual_lines, usual_opens}
use Rattle.pc_replayed.proofs.Lines.{CommandsAreRead, asks_for_moments}
use Rattle.pc_replayed.proofs.Ranges.{limits_written, roomy, variant_good, within_one, within_two, variant_again}

-- a line for each moment
replies_written : (moments : List Moment) → responses_text (map response_of moments) ≡ flat_map reply_line moments
replies_written [] = refl
replies_written (moment ∷ moments) = ap (λ more. reply_line moment ++ more) (replies_written moments)

-- the lines that answer an opening, and what is written behind them
written_behind : (opening : List ℕ) (moments : List Moment)
    → opening ++ flat_map reply_line moments ≡ opening ++ responses_text (map response_of moments) ++ outcome_text Finished
written_behind opening moments =
    ap (λ more. opening ++ more) (sym (replies_written moments)) ∙ sym (append-nil (opening ++ responses_text (map response_of moments)))

module _ (reads : CommandsAreRead) (limits : Limits) (enclave : AreInRange (row_of (Enclave limits)).fields) (variant : Variant)
    (good : is_variant (choice_of variant) ≡ true) (again : IsReadAgain variant.policy.order) (moments : List Moment) (written : All IsWritten moments) (last : PlainWorld) (text : List ℕ) where
  -- behind an enclave alone
  usual_replays : SessionTo profile.One (Enclave limits ∷ map command_of moments) (response.Opened ∷ map response_of moments) last
      → text ≡ variant_text variant ++ codes "\n" ++ command_line (Enclave limits) ++ body_text moments
      → IsReplay (opening_for true limits variant.policy) moments last text
  usual_replays run told =
      let body = lines (body_text moments) in
      let rest = command_text (Enclave limits) ∷ body in
      let cut : lines text ≡ variant_text variant ∷ rest = ap lines told ∙ usual_lines variant limits (body_text moments) good again enclave in
      record {
        output = record {
          version = One;
          responses = response.Opened ∷ map response_of moments;
          runs = record {
            passed = 1;
            rest = rest;
            commands = Enclave limits ∷ map command_of moments;
            opens = subst (λ all. Opens One 1 rest all) (sym cut) (usual_opens reads limits enclave variant body);
            asks = usual_asks reads limits enclave body (map command_of moments) (asks_for_moments reads One None moments written) 2;
            run = run.0;
          };
          written = written_behind ok_line moments;
        };
        version = refl;
        commands = refl;
        responses = refl;
        ends = run.1;
      }

  -- behind a version, an enclave and a policy
  ruled_replays : SessionTo profile.Two (Enclave limits ∷ Policy variant.policy ∷ map command_of moments)
      (response.Opened ∷ response.Ruled variant.policy ∷ map response_of moments) last
      → text ≡ variant_text variant ++ codes "\n" ++ (codes "version 3\n" ++ (command_line (Enclave limits) ++ command_line (Policy variant.policy))) ++ body_text moments
      → IsReplay (opening_for false limits variant.policy) moments last text
  ruled_replays run told =
      let body = lines (body_text moments) in
      let rest = command_text (Enclave limits) ∷ command_text (Policy variant.policy) ∷ body in
      let cut : lines text ≡ variant_text variant ∷ codes "version 3" ∷ rest =
      ap lines told ∙ ruled_lines variant limits variant.policy (body_text moments) good again enclave again in
      record {
        output = record {
          version = Three;
          responses = response.Opened ∷ response.Ruled variant.policy ∷ map response_of moments;
          runs = record {
            passed = 2;
            rest = rest;
            commands = Enclave limits ∷ Policy variant.policy ∷ map command_of moments;
            opens = subst (λ all. Opens Three 2 rest all) (sym cut) (ruled_opens reads limits enclave variant rest);
            asks = ruled_asks reads limits enclave variant.policy again body (map command_of moments) (asks_for_moments reads Three None moments written) 3;
            run = run.0;
          };
          written = written_behind (ok_line ++ ok_line ++ ok_line) moments;
        };
        version = refl;
        commands = refl;
        responses = refl;
        ends = run.1;
      }

-- what the script has in front of its events, by whether the policy is the usual one
by_policy : CommandsAreRead → (load : Demand) (variant : Variant) (text : List ℕ) (script : IsScript load variant text) → IsMade load
    → is_variant (choice_of variant) ≡ true → IsReadAgain variant.policy.order → (usual : Bool) → is_usual variant.policy ≡ usual
    → text ≡ variant_text variant ++ codes "\n"
    ++ (if usual then command_line (Enclave (limits_for load)) else codes "version 3\n" ++ (command_line (Enclave (limits_for load)) ++ command_line (Policy variant.policy)))
    ++ body_text script.is_played.moments
    → IsReplay (opening_for usual (limits_for load) variant.policy) script.is_played.moments script.is_played.plain text
by_policy reads load variant text script made good again true is told =
    let played = script.is_played in
    let limits = limits_for load in
    let room = roomy load made in
    let within = within_one load room in
    usual_replays reads limits (limits_written load room) variant good again played.moments played.written played.plain text
    (usual_run limits variant.policy played.each played.same played.moments played.plain played.leads is within) told
by_policy reads load variant text script made good again false is told =
    let played = script.is_played in
    let limits = limits_for load in
    let room = roomy load made in
    let within = within_two load room in
    ruled_replays reads limits (limits_written load room) variant good again played.moments played.written played.plain text
    (ruled_run limits variant.policy played.each played.same played.moments played.plain played.leads within) told

pub scripts_replay : CommandsAreRead → ScriptsReplay
scripts_replay reads load variant text script made good again =
    by_policy reads load variant text script made good again (is_usual variant.policy) refl script.told

pub named_scripts_replay : ScriptsReplay → NamedScriptsReplay
named_scripts_replay replays load choices name text named made fine =
    replays load named.variant text named.script made (variant_good choices named.variants named.variant named.chosen fine named.there)
    (variant_again choices named.variants named.variant named.chosen fine named.there)
