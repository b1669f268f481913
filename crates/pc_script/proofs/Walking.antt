-- The lines of a script, taken one after another.
use Rattle.std.proofs.Common.{◌≡◌, ℕ, suc, ◌+◌, true, false, List, [], ◌∷◌, ◌++◌, Option, Result, Ok, Err, OnOk, ◌⊎◌, inl, inr, length, map, codes, refl, sym, ap, ◌∙◌, subst, arith, append-nil, append_assoc}
use Rattle.std.proofs.lemmas.Bool.{true≢false}
use Rattle.std.proofs.lemmas.List.{map-append}
use Rattle.std.specs.Str.{bytes_eq}
use Rattle.pc_calls.specs.declared.limits.Profile.{Profile}
use Rattle.pc_script.specs.Grammar.{AsksFor, Spells, HasNoReply, IsFault}
use Rattle.pc_script.specs.Scripts.{Script, at_end, no_reply, command, fault, IsWalked, IsWalkedUntil, Notice, Telling, answered, faulted, version_named, opening_notices, answer_notices}
use Rattle.pc_script.specs.Inner.Walks.{Stand, Standing, Answers, IsTold, Takes, silent, answers, names, Stops, FindsNone}
use Rattle.pc_script.specs.Inner.Verbs.{name_of}
use Rattle.pc_script.specs.Text.{words}
use Rattle.pc_script.specs.Versions.{Names, Opens, profile_of}
use Rattle.pc_script.specs.Versions as opens
use Rattle.pc_script.specs.declared.command.Command.{Command}
use Rattle.pc_script.specs.declared.grammar.Verb.{Verb}
use Rattle.pc_script.specs.declared.grammar.Verb.TheVariants as verb
use Rattle.pc_script.specs.declared.outcome.Outcome.{Outcome}
use Rattle.pc_script.specs.declared.outcome.Outcome.TheVariants.{Finished, FaultLine}
use Rattle.pc_script.specs.declared.outcome.ScriptFault.{ScriptFault}
use Rattle.pc_script.specs.declared.response.Response.{Response}
use Rattle.pc_script.specs.declared.version.Version.{Version}
use Rattle.pc_script.specs.declared.version.Version.TheVariants.{One, Two, Three}
use Rattle.pc_script.proofs.Spellings.{no_verb}

-- ---- lines of a script, and more of them

script_at : {version : Version} {number other : ℕ} {script : List (List ℕ)} {commands : List Command} {outcome : Outcome}
    → Script version number script commands outcome → number ≡ other → Script version other script commands outcome
script_at {version} {script} {commands} {outcome} h e = subst (λ n. Script version n script commands outcome) e h

-- lines without a fault, and what comes after them
pub Script-append : {version : Version} {number : ℕ} {script : List (List ℕ)} {commands : List Command} {end : Outcome} {others : List (List ℕ)} {further : List Command} {outcome : Outcome}
    → Script version number script commands end → end ≡ Finished → Script version (number + length script) others further outcome
    → Script version number (script ++ others) (commands ++ further) outcome
Script-append at_end e after = script_at after (omega arith)
Script-append (no_reply h more) e after = no_reply h (Script-append more e (script_at after (omega arith)))
Script-append (command h more) e after = command h (Script-append more e (script_at after (omega arith)))
Script-append (fault h) e after = cc

-- ---- the version

-- none of the lines has a reply
pub data AreSilent : List (List ℕ) → Type 0 where
  none : AreSilent []
  one_more : {line : List ℕ} {more : List (List ℕ)} → HasNoReply line → AreSilent more → AreSilent (line ∷ more)

silent_more : {lines : List (List ℕ)} (line : List ℕ) → AreSilent lines → HasNoReply line → AreSilent (lines ++ line ∷ [])
silent_more line none h = one_more h none
silent_more line (one_more k more) h = one_more k (silent_more line more h)

all_silent : {lines : List (List ℕ)} → AreSilent lines → Opens One (length lines) [] lines
all_silent none = opens.at_end
all_silent (one_more h more) = opens.no_reply h (all_silent more)

-- the line names no version
abbrev pub NamesNone : List ℕ → Type 0
NamesNone line = (any : Version) → Names any line → ⊥

-- as `Opens`, where a line had a reply
pub data IsOpened : Version → ℕ → List (List ℕ) → List (List ℕ) → Type 0 where
  later : {version : Version} {passed : ℕ} {rest : List (List ℕ)} {line : List ℕ} {more : List (List ℕ)}
      → HasNoReply line → IsOpened version passed rest more → IsOpened version (suc passed) rest (line ∷ more)
  by_name : {version : Version} {line : List ℕ} {more : List (List ℕ)} → Names version line → IsOpened version 1 more (line ∷ more)
  by_none : {line : List ℕ} {more : List (List ℕ)} → (HasNoReply line → ⊥) → NamesNone line → IsOpened One 0 (line ∷ more) (line ∷ more)

opened_opens : {version : Version} {passed : ℕ} {rest lines : List (List ℕ)} → IsOpened version passed rest lines → Opens version passed rest lines
opened_opens (later h more) = opens.no_reply h (opened_opens more)
opened_opens (by_name h) = opens.named h
opened_opens (by_none h k) = opens.unnamed h k

opened_more : {version : Version} {passed : ℕ} {rest lines : List (List ℕ)} (others : List (List ℕ)) → IsOpened version passed rest lines
    → IsOpened version passed (rest ++ others) (lines ++ others)
opened_more others (later h more) = later h (opened_more others more)
opened_more others (by_name h) = by_name h
opened_more others (by_none h k) = by_none h k

opened_length : {version : Version} {passed : ℕ} {rest lines : List (List ℕ)} → IsOpened version passed rest lines → passed + length rest ≡ length lines
opened_length (later h more) = let e = opened_length more in omega (arith, e)
opened_length (by_name h) = omega arith
opened_length (by_none h k) = omega arith

-- lines without a reply, and then one that opens the rest
opened_one : {lines : List (List ℕ)} (line : List ℕ) (others : List (List ℕ)) → AreSilent lines → (HasNoReply line → ⊥) → NamesNone line
    → IsOpened One (length lines) (line ∷ others) (lines ++ line ∷ others)
opened_one line others none h k = by_none h k
opened_one line others (one_more s more) h k = later s (opened_one line others more h k)

opened_named : {version : Version} {lines : List (List ℕ)} (line : List ℕ) (others : List (List ℕ)) → AreSilent lines → Names version line
    → IsOpened version (suc (length lines)) others (lines ++ line ∷ others)
opened_named line others none h = by_name h
opened_named line others (one_more s more) h = later s (opened_named line others more h)

-- `version` is the first word of no command
no_version : (any : Verb) → codes "version" ≡ name_of any → ⊥
no_version any is =
    true≢false (ap (λ word. bytes_eq (codes "version") word) is ∙ elim any as (λ v. bytes_eq (codes "version") (name_of v) ≡ false) [ verb.Enclave ↦ refl | _ ↦ refl ])

pub no_command : (line : List ℕ) (asked : Command) → Spells (words line) asked → NamesNone line
no_command line asked spelled One is = is
no_command line asked spelled Two is = no_verb (codes "version") (codes "2" ∷ []) no_version asked (subst (λ ws. Spells ws asked) is spelled)
no_command line asked spelled Three is = no_verb (codes "version") (codes "3" ∷ []) no_version asked (subst (λ ws. Spells ws asked) is spelled)

pub opening_is : (version : Version) (line : List ℕ) → Names version line → version_named version ∷ [] ≡ opening_notices version
opening_is One line is = absurd is
opening_is Two line is = refl
opening_is Three line is = refl

-- ---- one line

-- the laws of an observer
abbrev pub Nothing : {O : Type 0} → Telling O → Type 0
Nothing {O} Tells = (observer : O) (known : Option (List ℕ)) → Tells observer known [] observer known

abbrev pub More : {O : Type 0} → Telling O → Type 0
More {O} Tells = (old now new : O) (before here after : Option (List ℕ)) (notices further : List Notice)
    → Tells old before notices now here → Tells now here further new after → Tells old before (notices ++ further) new after

-- the observer is told of nothing, and then of an answer
pub takes_answer : {M O E : Type 0} (StandsAfter : Standing M) (Tells : Telling O) (line : List ℕ) (old new : Stand M O) (now : O) (asked : Command) (response : Response) (result : Result (Unit {0}) E)
    → More Tells → (HasNoReply line → ⊥) → AsksFor old.version (words line) asked → Answers StandsAfter old.machine asked response new.machine → new.is_open ≡ true
    → new.version ≡ old.version → Tells old.observer old.held [] now old.held → OnOk result (Tells now old.held (answered response ∷ []) new.observer new.held)
    → OnOk result (Takes StandsAfter Tells line old new)
takes_answer StandsAfter Tells line old new now asked response (Ok done) more replies asks does is_open same expects told =
    answers asked response replies asks does is_open same
    (more old.observer now new.observer old.held old.held new.held [] (answered response ∷ []) expects told)
takes_answer StandsAfter Tells line old new now asked response (Err e) more replies asks does is_open same expects told = tt

-- ---- faults that are passed on

pub passed_fault : {A B : Type 0} (given : Result A ScriptFault) (passed : Result B ScriptFault) (inner outer reason : ScriptFault)
    → given ≡ Err inner → outer ≡ inner → passed ≡ Err outer → passed ≡ Err reason → given ≡ Err reason
passed_fault given passed inner outer reason a b c d = cc

pub or_then : {A B C D : Type 0} → A ⊎ (B × C) → (C → D) → A ⊎ D
or_then (inl a) next = inl a
or_then (inr (b, c)) next = inr (next c)

-- ---- where a walk stands after some lines

-- The lines were taken, none of which is a fault, from the observer and what the writer held at first to where it stands now
pub data HasWalked {M O : Type 0} (StandsAfter : Standing M) (Tells : Telling O) (seen : List (List ℕ)) (first now : Stand M O) : Type 0 where
  quiet : AreSilent seen → now.is_open ≡ false → now.version ≡ One → StandsAfter (profile_of One) now.machine [] [] → IsTold Tells [] first now
      → HasWalked StandsAfter Tells seen first now
  open' : {version : Version} {passed : ℕ} {rest : List (List ℕ)} {commands : List Command} {responses : List Response}
      → now.is_open ≡ true → now.version ≡ version → IsOpened version passed rest seen → Script version (suc passed) rest commands Finished
      → StandsAfter (profile_of version) now.machine commands responses → IsTold Tells (answer_notices version responses) first now
      → HasWalked StandsAfter Tells seen first now

one_response : (version : Version) (responses : List Response) (response : Response)
    → answer_notices version responses ++ answered response ∷ [] ≡ answer_notices version (responses ++ response ∷ [])
one_response version responses response =
    append_assoc (opening_notices version) (map answered responses) (answered response ∷ [])
    ∙ ap (λ rest. opening_notices version ++ rest) (sym (map-append answered responses (response ∷ [])))

named_alone : (version : Version) (line : List ℕ) → Names version line → version_named version ∷ [] ≡ answer_notices version []
named_alone version line is = opening_is version line is ∙ sym (append-nil (opening_notices version))

module _ {M O : Type 0} (StandsAfter : Standing M) (Tells : Telling O) (nothing : Nothing Tells) (more : More Tells) where
  pub walked_none : (at : Stand M O) → at.is_open ≡ false → at.version ≡ One → StandsAfter (profile_of One) at.machine [] [] → HasWalked StandsAfter Tells [] at at
  walked_none at closed first fresh = quiet none closed first fresh (nothing at.observer at.held)

  then_told : (first now new : Stand M O) (notices further : List Notice) → IsTold Tells notices first now → IsTold Tells further now new
      → IsTold Tells (notices ++ further) first new
  then_told first now new notices further h k =
      more first.observer now.observer new.observer first.held now.held new.held notices further h k

  answers_more : {first now new : Stand M O} (line : List ℕ) {seen : List (List ℕ)} (asked : Command) (response : Response)
      → (HasNoReply line → ⊥) → AsksFor now.version (words line) asked → Answers StandsAfter now.machine asked response new.machine → new.is_open ≡ true
      → new.version ≡ now.version → IsTold Tells (answered response ∷ []) now new
      → HasWalked StandsAfter Tells seen first now → HasWalked StandsAfter Tells (seen ++ line ∷ []) first new
  answers_more {first} {now} {new} line asked response replies asks does is_open same told (quiet silents closed is_one fresh so_far) =
      open' {version = One} is_open (same ∙ is_one) (opened_one line [] silents replies (no_command line asked asks.1))
      (command (subst (λ v. AsksFor v (words line) asked) is_one asks) at_end)
      (does (profile_of One) [] [] fresh) (then_told first now new [] (answered response ∷ []) so_far told)
  answers_more {first} {now} {new} line {seen} asked response replies wants does is_open same told (open' {version} {passed} {rest} {commands} {responses} was is_version opened asks stands so_far) =
      open' {version = version} {passed = passed} {rest = rest ++ line ∷ []} {commands = commands ++ asked ∷ []} {responses = responses ++ response ∷ []} is_open
      (same ∙ is_version) (opened_more (line ∷ []) opened)
      (Script-append asks refl (command (subst (λ v. AsksFor v (words line) asked) is_version wants) at_end)) (does (profile_of version) commands responses stands)
      (subst (λ notices. IsTold Tells notices first new) (one_response version responses response)
      (then_told first now new (answer_notices version responses) (answered response ∷ []) so_far told))

  pub walked_more : {first now new : Stand M O} {line : List ℕ} {seen : List (List ℕ)} → HasWalked StandsAfter Tells seen first now
      → Takes StandsAfter Tells line now new → HasWalked StandsAfter Tells (seen ++ line ∷ []) first new
  walked_more {line} (quiet silents closed is_one fresh so_far) (silent h) = quiet (silent_more line silents h) closed is_one fresh so_far
  walked_more {first} {now} {line} (open' {version} {passed} {rest} {commands} {responses} was is_version opened asks stands so_far) (silent h) =
      open' {version = version} {passed = passed} {rest = rest ++ line ∷ []} {commands = commands} {responses = responses} was is_version (opened_more (line ∷ []) opened)
      (subst (λ cs. Script version (suc passed) (rest ++ line ∷ []) cs Finished) (append-nil commands) (Script-append asks refl (no_reply h at_end))) stands so_far
  walked_more {line} walked (answers asked response replies asks does is_open same told) = answers_more line asked response replies asks does is_open same told walked
  walked_more {first} {now} {new} {line} (quiet silents closed is_one fresh so_far) (names replies is was_closed fresh_named is_open told) =
      open' {version = new.version} is_open refl (opened_named line [] silents is) at_end fresh_named
      (subst (λ notices. IsTold Tells notices first new) (named_alone new.version line is) (then_told first now new [] (version_named new.version ∷ []) so_far told))
  walked_more (open' was is_version opened asks stands so_far) (names replies is was_closed fresh_named is_open told) =
      absurd (true≢false (sym was ∙ was_closed))

  -- ---- how it ends
  module _ (IsRun : Profile → List Command → List Response → Type 0)
      (law : (profile : Profile) (m : M) (commands : List Command) (responses : List Response) → StandsAfter profile m commands responses → IsRun profile commands responses) where
    pub walked_all : {first now : Stand M O} {seen : List (List ℕ)} (all : List (List ℕ)) → seen ≡ all → HasWalked StandsAfter Tells seen first now
        → IsWalked Tells IsRun all Finished first.observer first.held now.observer now.held
    walked_all {first} {now} all is (quiet silents closed is_one fresh so_far) =
        subst (λ script. IsWalked Tells IsRun script Finished first.observer first.held now.observer now.held) is
        (record {
          version = One;
          responses = [];
          runs = record { passed = _; rest = []; commands = []; opens = all_silent silents; asks = at_end; run = law (profile_of One) now.machine [] [] fresh };
          told = so_far;
        })
    walked_all {first} {now} all is (open' {version} {passed} {rest} {commands} {responses} was is_version opened asks stands so_far) =
        subst (λ script. IsWalked Tells IsRun script Finished first.observer first.held now.observer now.held) is
        (record {
          version = version;
          responses = responses;
          runs = record { passed = passed; rest = rest; commands = commands; opens = opened_opens opened; asks = asks; run = law (profile_of version) now.machine commands responses stands };
          told = subst (λ notices. IsTold Tells notices first now) (sym (append-nil (answer_notices version responses))) so_far;
        })

    pub walked_to_fault : {first now new : Stand M O} {line : List ℕ} {seen : List (List ℕ)} (number : ℕ) (others all : List (List ℕ))
        → number ≡ suc (length seen) → seen ++ line ∷ others ≡ all → HasWalked StandsAfter Tells seen first now → Stops Tells line number now new
        → IsWalked Tells IsRun all (FaultLine number) first.observer first.held new.observer new.held
    walked_to_fault {first} {now} {new} {line} {seen} number others all numbered is (quiet silents closed is_one fresh so_far) stops =
        let stop : Script One (suc (length seen)) (line ∷ others) [] (FaultLine (suc (length seen))) = fault (subst (λ v. IsFault v line) is_one stops.bad) in
        subst (λ script. IsWalked Tells IsRun script (FaultLine number) first.observer first.held new.observer new.held) is
        (record {
          version = One;
          responses = [];
          runs = record {
            passed = length seen;
            rest = line ∷ others;
            commands = [];
            opens = opened_opens (opened_one line others silents stops.bad.0 (stops.no_version closed));
            asks = subst (λ n. Script One (suc (length seen)) (line ∷ others) [] (FaultLine n)) (sym numbered) stop;
            run = law (profile_of One) now.machine [] [] fresh;
          };
          told = then_told first now new [] (faulted number ∷ []) so_far stops.told;
        })
    walked_to_fault {first} {now} {new} {line} {seen} number others all numbered is (open' {version} {passed} {rest} {commands} {responses} was is_version opened asks stands so_far) stops =
        let here : number ≡ suc passed + length rest = omega (arith, numbered, opened_length opened) in
        let stop : Script version (suc passed + length rest) (line ∷ others) [] (FaultLine number) =
        subst (λ n. Script version n (line ∷ others) [] (FaultLine number)) here (fault (subst (λ v. IsFault v line) is_version stops.bad)) in
        subst (λ script. IsWalked Tells IsRun script (FaultLine number) first.observer first.held new.observer new.held) is
        (record {
          version = version;
          responses = responses;
          runs = record {
            passed = passed;
            rest = rest ++ line ∷ others;
            commands = commands;
            opens = opened_opens (opened_more (line ∷ others) opened);
            asks = subst (λ cs. Script version (suc passed) (rest ++ line ∷ others) cs (FaultLine number)) (append-nil commands) (Script-append asks refl stop);
            run = law (profile_of version) now.machine commands responses stands;
          };
          told = then_told first now new (answer_notices version responses) (faulted number ∷ []) so_far stops.told;
        })

    pub walked_until : {first now new : Stand M O} {line : List ℕ} {seen : List (List ℕ)} (RanOut : Profile → List Command → List Response → Command → Type 0)
        (others all : List (List ℕ)) → seen ++ line ∷ others ≡ all → HasWalked StandsAfter Tells seen first now
        → FindsNone StandsAfter RanOut Tells line now new
        → IsWalkedUntil Tells IsRun RanOut all first.observer first.held new.observer new.held
    walked_until {first} {now} {new} {line} {seen} RanOut others all is (quiet silents closed is_one fresh so_far) finds =
        subst (λ script. IsWalkedUntil Tells IsRun RanOut script first.observer first.held new.observer new.held) is
        (record {
          version = One;
          responses = [];
          runs = record {
            passed = length seen;
            rest = line ∷ others;
            opens = opened_opens (opened_one line others silents finds.replies (no_command line finds.command finds.asks.1));
            before = [];
            line = line;
            after = others;
            cut = refl;
            commands = [];
            asks = at_end;
            run = law (profile_of One) now.machine [] [] fresh;
            command = finds.command;
            wants = subst (λ v. AsksFor v (words line) finds.command) is_one finds.asks;
            ran_out = finds.ran_out (profile_of One) [] [] fresh;
          };
          told = then_told first now new [] [] so_far finds.told;
        })
    walked_until {first} {now} {new} {line} {seen} RanOut others all is (open' {version} {passed} {rest} {commands} {responses} was is_version opened asks stands so_far) finds =
        subst (λ script. IsWalkedUntil Tells IsRun RanOut script first.observer first.held new.observer new.held) is
        (record {
          version = version;
          responses = responses;
          runs = record {
            passed = passed;
            rest = rest ++ line ∷ others;
            opens = opened_opens (opened_more (line ∷ others) opened);
            before = rest;
            line = line;
            after = others;
            cut = refl;
            commands = commands;
            asks = asks;
            run = law (profile_of version) now.machine commands responses stands;
            command = finds.command;
            wants = subst (λ v. AsksFor v (words line) finds.command) is_version finds.asks;
            ran_out = finds.ran_out (profile_of version) commands responses stands;
          };
          told = subst (λ notices. IsTold Tells notices first new) (append-nil (answer_notices version responses))
              (then_told first now new (answer_notices version responses) [] so_far finds.told);
        })
