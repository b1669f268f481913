-- The lines of a session, heard one after another, are a conversation.
use Rattle.std.proofs.Common.{◌≡◌, ◌∙◌, ◌+◌, ◌<◌, ◌≤◌, ◌^◌, ◌⊎◌, inl, inr, ℕ, suc, Bool, true, false, cond, List, [], ◌∷◌, ◌++◌, Option, Result, Ok, Err, IfOk, length, refl, sym, ap, subst, arith, append_assoc, append-nil, eqb, length-append}
use Rattle.std.proofs.lemmas.Bool.{true≢false}
use Rattle.pc_calls.specs.declared.limits.Profile.{Profile}
use Rattle.pc_script.specs.Grammar.{AsksFor, HasNoReply}
use Rattle.pc_script.specs.Inner.Talks.{CountsBytes, CountsOut, Talking, Hears, HearsAll, HearsUntil, Keeps, Lacks, LacksAtEnd, Leaves, talking}
use Rattle.pc_script.specs.Inner.Talks as talk
use Rattle.pc_script.specs.Inner.Walks.{Stand, Standing, IsTold, Takes, FindsNone}
use Rattle.pc_script.specs.Inner.Walks as walk
use Rattle.pc_script.specs.Scripts.{Notice, Telling, answered, faulted, version_named, opening_notices}
use Rattle.pc_script.specs.Sessions.{AsksForHelp, Begins, ConsumesMost, Conversation, IsBad, IsConversation, IsConversationUntil, IsConversed, IsConversedUntil, IsShort, IsSilent, has_fault}
use Rattle.pc_script.specs.Sessions as session
use Rattle.pc_script.specs.Inner.Pieces.{IsCut, IsFirstLine, IsPassed, IsUnbroken}
use Rattle.pc_script.specs.Text.{lines, words}
use Rattle.pc_script.specs.Versions.{Names, profile_of}
use Rattle.pc_script.specs.declared.command.Command.{Command}
use Rattle.pc_script.specs.declared.outcome.ScriptFault.TheVariants.{OutOfMemory, TooLong}
use Rattle.pc_script.specs.declared.response.Response.{Response}
use Rattle.pc_script.specs.declared.session.TheConstants.{MOST_LINE}
use Rattle.pc_script.specs.declared.version.Version.{Version}
use Rattle.pc_script.specs.declared.version.Version.TheVariants.{One, Two, Three}
use Rattle.std.specs.Str.Lines.{strip_carriage_return}
use Rattle.std.specs.Io.KnownBytes.{Consumes}
use Rattle.std.proofs.KnownBytes.{Consumes-nil, Consumes-trans}
use Rattle.std.proofs.lemmas.List.Elements.{All-append}
use Rattle.pc_script.proofs.Pieces.{cut_more, cut_none, cut_nothing, cut_piece, cut_to_nothing, first_cut, first_passed, lines_one, passed_none, stripped_length, unbroken_passed}
use Rattle.pc_script.proofs.Walking.{Nothing, More, no_command, opening_is}

-- a line that is bad is not silent
bad_speaks : (version : Version) (line : List ℕ) → IsBad version line → IsSilent line → ⊥
bad_speaks version line (inl long) quiet = omega (arith, long, quiet.0)
bad_speaks version line (inr (no_help, fault)) (short, inl none) = fault.0 none
bad_speaks version line (inr (no_help, fault)) (short, inr help) = no_help help

speaks : (line : List ℕ) → (HasNoReply line → ⊥) → (AsksForHelp line → ⊥) → IsSilent line → ⊥
speaks line replies no_help (short, inl none) = replies none
speaks line replies no_help (short, inr help) = no_help help

either_true : (b : Bool) → cond b true true ≡ true
either_true true = refl
either_true false = refl

opening_fault : (version : Version) (told : List Notice) → has_fault (opening_notices version ++ told) ≡ has_fault told
opening_fault One told = refl
opening_fault Two told = refl
opening_fault Three told = refl

fault_or_not : (b : Bool) → cond b true false ≡ b
fault_or_not true = refl
fault_or_not false = refl

-- ---- an error that is passed on

pub if_ok : {A E : Type 0} {P Q : A → Type 0} (r : Result A E) → IfOk r P → ((x : A) → P x → Q x) → IfOk r Q
if_ok (Ok x) h next = next x h
if_ok (Err e) h next = tt

pub or_until : {A B C D E F G : Type 0} → A ⊎ ((F × B) ⊎ (C × D)) → (B → G) → (D → E) → A ⊎ ((F × G) ⊎ (C × E))
or_until (inl a) counts next = inl a
or_until (inr (inl (f, b))) counts next = inr (inl (f, counts b))
or_until (inr (inr (c, d))) counts next = inr (inr (c, next d))

pub at_memory : {A B C D E : Type 0} → A ⊎ (((OutOfMemory ≡ TooLong) × C) ⊎ (B × D)) → (D → E) → A ⊎ E
at_memory (inl a) next = inl a
at_memory (inr (inl (b, c))) next = cc
at_memory (inr (inr (c, d))) next = inr (next d)

pub at_most : {A B C D E : Type 0} → A ⊎ ((B × C) ⊎ ((TooLong ≡ OutOfMemory) × D)) → (C → E) → A ⊎ E
at_most (inl a) next = inl a
at_most (inr (inl (b, c))) next = inr (next c)
at_most (inr (inr (d, e))) next = cc

-- ---- bytes that are counted

pub bytes_none : (at : Option (List ℕ)) (number kept : ℕ) → number ≡ 0 → kept ≡ 0 → CountsBytes at at number kept 0
bytes_none at number kept none empty = record { text = []; read = Consumes-nil at; for_lines = omega (arith, none, empty); for_turns = omega arith }

pub bytes_more : {first before after : Option (List ℕ)} {number kept turns : ℕ} (bytes : List ℕ) (next left : ℕ) → CountsBytes first before number kept turns → Consumes before after bytes
    → 0 < length bytes → next + left ≤ number + (kept + length bytes) → CountsBytes first after next left (turns + 1)
bytes_more bytes next left so_far read some counts = record {
  text = so_far.text ++ bytes;
  read = Consumes-trans _ _ _ so_far.text bytes so_far.read read;
  for_lines = omega (arith, length-append so_far.text bytes, so_far.for_lines, counts);
  for_turns = omega (arith, length-append so_far.text bytes, so_far.for_turns, some);
}

pub most_heard : {first before : Option (List ℕ)} {number kept turns : ℕ} (after : Option (List ℕ)) (bytes : List ℕ) (left : ℕ) → CountsBytes first before number kept turns
    → Consumes before after bytes → left ≤ kept + length bytes → CountsOut number left → ConsumesMost first after
most_heard after bytes left so_far read within most = (
  so_far.text ++ bytes,
  Consumes-trans _ _ _ so_far.text bytes so_far.read read,
  omega (arith, length-append so_far.text bytes, so_far.for_lines, within, most),
)

pub most_turns : {first after : Option (List ℕ)} {number kept turns : ℕ} → CountsBytes first after number kept turns → 2 ^ 64 ≤ turns + 1 → ConsumesMost first after
most_turns so_far most = (so_far.text, so_far.read, omega (arith, so_far.for_turns, most))

module _ {M O : Type 0} (StandsAfter : Standing M) (Tells : Telling O) where
  -- ---- one after another

  pub heard_more : {old now new : Talking M O} {taken further : List (List ℕ)} → HearsAll StandsAfter Tells old taken now → HearsAll StandsAfter Tells now further new
      → HearsAll StandsAfter Tells old (taken ++ further) new
  heard_more talk.none rest = rest
  heard_more (talk.one_more h more) rest = talk.one_more h (heard_more more rest)
  heard_more (talk.settles a b c d e f more) rest = talk.settles a b c d e f (heard_more more rest)

  pub heard_until : {old now : Talking M O} {new : Stand M O} {taken : List (List ℕ)} (RanOut : Profile → List Command → List Response → Command → Type 0)
      (text rest line next : List ℕ) → HearsAll StandsAfter Tells old taken now → IsCut text taken rest → IsFirstLine rest line next
      → Lacks StandsAfter RanOut Tells line now.stand new → HearsUntil StandsAfter RanOut Tells text old new
  heard_until {now = now} {taken = taken} RanOut text rest line next heard cut first lacks = record {
    taken = taken;
    now = now;
    line = line;
    heard = heard;
    lacks = lacks;
    cut = λ m. (lines (next ++ m), cut m ∙ ap (λ ls. taken ++ ls) (first_cut rest line next first m));
  }

  -- ---- what is left of a text

  pub leaves_none : {s : Talking M O} (passed text rest : List ℕ) (passes : Bool) → passes ≡ true → rest ≡ [] → IsPassed passes passed → IsUnbroken text
      → Leaves StandsAfter Tells (passed ++ text) s s passes rest
  leaves_none passed text rest false is none over unbroken = absurd (true≢false (sym is))
  leaves_none passed text [] true is none over unbroken = record {
    taken = [];
    passed = passed ++ text;
    heard = talk.none;
    over = (All-append (λ b. eqb b 10 ≡ false) passed text over.0 unbroken, omega (arith, over.1, length-append passed text));
    cut = cut_nothing (passed ++ text);
    unbroken = λ k d h. absurd (omega (arith, h));
    none_kept = λ _. refl;
  }
  leaves_none passed text (x ∷ rest) true is none over unbroken = absurd (omega (arith, ap length none))

  pub leaves_long : {s t : Talking M O} {taken : List (List ℕ)} (text rest left : List ℕ) → left ≡ [] → HearsAll StandsAfter Tells s taken t → IsCut text taken rest → IsUnbroken rest
      → MOST_LINE + 1 < length rest → Leaves StandsAfter Tells text s t true left
  leaves_long {taken = taken} text rest [] none heard cut unbroken long = record {
    taken = taken;
    passed = rest;
    heard = heard;
    over = (unbroken, long);
    cut = cut_to_nothing text rest taken cut;
    unbroken = λ k d h. absurd (omega (arith, h));
    none_kept = λ _. refl;
  }
  leaves_long text rest (x ∷ left) none heard cut unbroken long = absurd (omega (arith, ap length none))

  pub leaves_kept : {s t : Talking M O} {taken : List (List ℕ)} (text rest : List ℕ) (passes : Bool) → passes ≡ false → HearsAll StandsAfter Tells s taken t → IsCut text taken rest → IsUnbroken rest
      → Leaves StandsAfter Tells text s t passes rest
  leaves_kept text rest true is heard cut unbroken = absurd (true≢false is)
  leaves_kept {taken = taken} text rest false is heard cut unbroken = record {
    taken = taken;
    passed = [];
    heard = heard;
    over = refl;
    cut = cut;
    unbroken = unbroken;
    none_kept = λ no_pass. absurd (true≢false (sym no_pass));
  }

  -- nothing was passed over in front
  pub leaves_at_once : {s t : Talking M O} (text rest passed : List ℕ) (before after : Bool) → before ≡ false → IsPassed before passed → Leaves StandsAfter Tells text s t after rest
      → Leaves StandsAfter Tells (passed ++ text) s t after rest
  leaves_at_once {s} {t} text rest passed true after is over leaves = absurd (true≢false is)
  leaves_at_once {s} {t} text rest passed false after is over leaves = subst (λ p. Leaves StandsAfter Tells (p ++ text) s t after rest) (sym over) leaves

  pub until_at_once : {s : Talking M O} {u : Stand M O} (RanOut : Profile → List Command → List Response → Command → Type 0) (text passed : List ℕ) (before : Bool) → before ≡ false
      → IsPassed before passed → HearsUntil StandsAfter RanOut Tells text s u → HearsUntil StandsAfter RanOut Tells (passed ++ text) s u
  until_at_once {s} {u} RanOut text passed true is over finds = absurd (true≢false is)
  until_at_once {s} {u} RanOut text passed false is over finds = subst (λ p. HearsUntil StandsAfter RanOut Tells (p ++ text) s u) (sym over) finds

  -- what was passed over ends with the first line of the text
  pub leaves_behind : {s t u : Talking M O} (text line more rest passed : List ℕ) (before after : Bool) → before ≡ true → IsPassed before passed → IsFirstLine text line more
      → ((long : List ℕ) → MOST_LINE < length long → Hears StandsAfter Tells s long t) → Leaves StandsAfter Tells more t u after rest
      → Leaves StandsAfter Tells (passed ++ text) s u after rest
  leaves_behind text line more rest passed false after is over first hears leaves = absurd (true≢false (sym is))
  leaves_behind text line more rest passed true after is over first hears leaves =
      let whole = first_passed passed text line more over.0 first in
      let long = strip_carriage_return whole.0 in
      record {
        taken = long ∷ leaves.taken;
        passed = leaves.passed;
        heard = talk.one_more (hears long (omega (arith, stripped_length (MOST_LINE + 1) whole.0 (omega (arith, over.1, whole.1))))) leaves.heard;
        over = leaves.over;
        cut = λ m. first_cut (passed ++ text) long more whole.2 m ∙ ap (λ ls. long ∷ ls) (leaves.cut m);
        unbroken = leaves.unbroken;
        none_kept = leaves.none_kept;
      }

  pub until_behind : {s t : Talking M O} {u : Stand M O} (RanOut : Profile → List Command → List Response → Command → Type 0) (text line more passed : List ℕ) (before : Bool) → before ≡ true
      → IsPassed before passed → IsFirstLine text line more → ((long : List ℕ) → MOST_LINE < length long → Hears StandsAfter Tells s long t)
      → HearsUntil StandsAfter RanOut Tells more t u → HearsUntil StandsAfter RanOut Tells (passed ++ text) s u
  until_behind RanOut text line more passed false is over first hears finds = absurd (true≢false (sym is))
  until_behind RanOut text line more passed true is over first hears finds =
      let whole = first_passed passed text line more over.0 first in
      let long = strip_carriage_return whole.0 in
      record {
        taken = long ∷ finds.taken;
        now = finds.now;
        line = finds.line;
        heard = talk.one_more (hears long (omega (arith, stripped_length (MOST_LINE + 1) whole.0 (omega (arith, over.1, whole.1))))) finds.heard;
        lacks = finds.lacks;
        cut = λ m. ((finds.cut m).0, first_cut (passed ++ text) long more whole.2 m ∙ ap (λ ls. long ∷ ls) (finds.cut m).1);
      }

  -- ---- a text that is read in pieces

  pub keeps_none : {s : Talking M O} (before : Option (List ℕ)) (kept : List ℕ) (passes : Bool) → passes ≡ false → kept ≡ [] → Keeps StandsAfter Tells before before s s passes kept
  keeps_none before kept true is none = absurd (true≢false is)
  keeps_none before (x ∷ kept) false is none = absurd (omega (arith, ap length none))
  keeps_none before [] false is none = record {
    text = [];
    read = Consumes-nil before;
    leaves = leaves_kept [] [] false refl talk.none (cut_none []) (λ k d h. absurd (omega (arith, h)));
  }

  settled_last : {s t u : Talking M O} {taken : List (List ℕ)} → HearsAll StandsAfter Tells s taken t → u.stand.machine ≡ t.stand.machine → u.stand.is_open ≡ t.stand.is_open
      → u.stand.version ≡ t.stand.version → u.number ≡ t.number → u.had_fault ≡ t.had_fault → IsTold Tells [] t.stand u.stand → HearsAll StandsAfter Tells s taken u
  settled_last {s} {t} {u} {taken} heard a b c d e f = subst (λ ls. HearsAll StandsAfter Tells s ls u) (append-nil taken) (heard_more heard (talk.settles a b c d e f talk.none))

  pub heard_settled : {s t : Talking M O} {taken : List (List ℕ)} (observer : O) (held : Option (List ℕ)) → HearsAll StandsAfter Tells s taken t
      → Tells t.stand.observer t.stand.held [] observer held
      → HearsAll StandsAfter Tells s taken (talking t.stand.machine t.stand.is_open t.stand.version t.number t.had_fault observer held)
  heard_settled observer held heard told = settled_last heard refl refl refl refl refl told

  pub keeps_settled : {s t : Talking M O} {before after : Option (List ℕ)} {passes : Bool} {kept : List ℕ} (observer : O) (held : Option (List ℕ))
      → Keeps StandsAfter Tells before after s t passes kept → Tells t.stand.observer t.stand.held [] observer held
      → Keeps StandsAfter Tells before after s (talking t.stand.machine t.stand.is_open t.stand.version t.number t.had_fault observer held) passes kept
  keeps_settled observer held keeps told = record {
    text = keeps.text;
    read = keeps.read;
    leaves = record {
      taken = keeps.leaves.taken;
      passed = keeps.leaves.passed;
      heard = heard_settled observer held keeps.leaves.heard told;
      over = keeps.leaves.over;
      cut = keeps.leaves.cut;
      unbroken = keeps.leaves.unbroken;
      none_kept = keeps.leaves.none_kept;
    };
  }

  -- a piece was read, and its lines were heard
  pub keeps_more : {s t u : Talking M O} {first before after : Option (List ℕ)} {passes : Bool} {kept : List ℕ} (bytes piece rest : List ℕ) (next : Bool)
      → Keeps StandsAfter Tells first before s t passes kept → Consumes before after bytes → piece ≡ kept ++ bytes
      → ((passed : List ℕ) → IsPassed passes passed → Leaves StandsAfter Tells (passed ++ piece) t u next rest)
      → Keeps StandsAfter Tells first after s u next rest
  keeps_more {kept = kept} bytes piece rest next keeps read is hears =
      let so_far = keeps.leaves in
      let now = hears so_far.passed so_far.over in
      let longer = cut_piece keeps.text so_far.passed kept bytes piece so_far.taken so_far.cut is in
      record {
        text = keeps.text ++ bytes;
        read = Consumes-trans _ _ _ keeps.text bytes keeps.read read;
        leaves = record {
          taken = so_far.taken ++ now.taken;
          passed = now.passed;
          heard = heard_more so_far.heard now.heard;
          over = now.over;
          cut = cut_more (keeps.text ++ bytes) (so_far.passed ++ piece) (now.passed ++ rest) so_far.taken now.taken longer now.cut;
          unbroken = now.unbroken;
          none_kept = now.none_kept;
        };
      }

module _ {M O : Type 0} (StandsAfter : Standing M) (Tells : Telling O) (nothing : Nothing Tells) (more : More Tells) where
  -- what one line of a script does, without its places in the type
  data Taken (line : List ℕ) (s t : Stand M O) : Type 0 where
    silent' : HasNoReply line → t ≡ s → Taken line s t
    answers' : (command : Command) (response : Response) → (HasNoReply line → ⊥) → AsksFor s.version (words line) command
        → walk.Answers StandsAfter s.machine command response t.machine → t.is_open ≡ true → t.version ≡ s.version
        → IsTold Tells (answered response ∷ []) s t → Taken line s t
    names' : Names t.version line → (HasNoReply line → ⊥) → s.is_open ≡ false → StandsAfter (profile_of t.version) t.machine [] [] → t.is_open ≡ true
        → IsTold Tells (version_named t.version ∷ []) s t → Taken line s t

  taken : {line : List ℕ} {s t : Stand M O} → Takes StandsAfter Tells line s t → Taken line s t
  taken (walk.silent h) = silent' h refl
  taken (walk.answers command response replies asks does is_open same told) = answers' command response replies asks does is_open same told
  taken (walk.names replies is closed fresh is_open told) = names' is replies closed fresh is_open told

  then_told : (s t u : Stand M O) (notices further : List Notice) → IsTold Tells notices s t → IsTold Tells further t u → IsTold Tells (notices ++ further) s u
  then_told s t u notices further h k = more s.observer t.observer u.observer s.held t.held u.held notices further h k

  -- ---- behind a line that was answered

  record Goes (version : Version) (old new : Talking M O) (script : List (List ℕ)) (before : List Command) (given : List Response) : Type 0 where
    commands : List Command
    responses : List Response
    notices : List Notice
    asks : Conversation version (suc old.number) script commands responses notices
    stands : StandsAfter (profile_of version) new.stand.machine (before ++ commands) (given ++ responses)
    told : IsTold Tells notices old.stand new.stand
    fault : new.had_fault ≡ cond (has_fault notices) true old.had_fault
    same_version : new.stand.version ≡ version

  numbered : {version : Version} {number other : ℕ} {script : List (List ℕ)} {commands : List Command} {responses : List Response} {notices : List Notice}
      → number ≡ other → Conversation version number script commands responses notices → Conversation version other script commands responses notices
  numbered {version} {script = script} {commands = commands} {responses = responses} {notices = notices} e h =
      subst (λ n. Conversation version n script commands responses notices) e h

  goes : (version : Version) {old new : Talking M O} {script : List (List ℕ)} → HearsAll StandsAfter Tells old script new → old.stand.is_open ≡ true → old.stand.version ≡ version
      → (before : List Command) (given : List Response) → StandsAfter (profile_of version) old.stand.machine before given → Goes version old new script before given
  goes version {old} talk.none was is before given stands = record {
    commands = [];
    responses = [];
    notices = [];
    asks = session.Conversation.at_end;
    stands = rw (append-nil before, append-nil given) stands;
    told = nothing old.stand.observer old.stand.held;
    fault = refl;
    same_version = is;
  }
  goes version {old} {new} {script} (talk.settles {now = now} same_machine same_open same_version same_number same_fault told rest) was is before given stands =
      let r = goes version rest (same_open ∙ was) (same_version ∙ is) before given (subst (λ m. StandsAfter (profile_of version) m before given) (sym same_machine) stands) in
      record {
        commands = r.commands;
        responses = r.responses;
        notices = r.notices;
        asks = numbered (ap suc same_number) r.asks;
        stands = r.stands;
        told = then_told old.stand now.stand new.stand [] r.notices told r.told;
        fault = r.fault ∙ ap (λ b. cond (has_fault r.notices) true b) same_fault;
        same_version = r.same_version;
      }
  goes version {old} {new} (talk.one_more {now = now} {line = line} {more = others} (talk.quiet silent number same_fault same) rest) was is before given stands =
      let r = goes version rest (ap (λ (s : Stand M O). s.is_open) same ∙ was) (ap (λ (s : Stand M O). s.version) same ∙ is) before given
      (subst (λ (s : Stand M O). StandsAfter (profile_of version) s.machine before given) (sym same) stands) in
      record {
        commands = r.commands;
        responses = r.responses;
        notices = r.notices;
        asks = session.Conversation.silent silent (numbered (ap suc number) r.asks);
        stands = r.stands;
        told = subst (λ (s : Stand M O). IsTold Tells r.notices s new.stand) same r.told;
        fault = r.fault ∙ ap (λ b. cond (has_fault r.notices) true b) same_fault;
        same_version = r.same_version;
      }
  goes version {old} {new} (talk.one_more {now = now} {line = line} {more = others} (talk.takes short no_help number same_fault takes) rest) was is before given stands =
      elim (taken takes) [
        | silent' none same ↦
            let r = goes version rest (ap (λ (s : Stand M O). s.is_open) same ∙ was) (ap (λ (s : Stand M O). s.version) same ∙ is) before given
            (subst (λ (s : Stand M O). StandsAfter (profile_of version) s.machine before given) (sym same) stands) in
            record {
              commands = r.commands;
              responses = r.responses;
              notices = r.notices;
              asks = session.Conversation.silent (short, inl none) (numbered (ap suc number) r.asks);
              stands = r.stands;
              told = subst (λ (s : Stand M O). IsTold Tells r.notices s new.stand) same r.told;
              fault = r.fault ∙ ap (λ b. cond (has_fault r.notices) true b) same_fault;
              same_version = r.same_version;
            }
        | answers' command response replies asks does is_open same told ↦
            let r = goes version rest is_open (same ∙ is) (before ++ command ∷ []) (given ++ response ∷ []) (does (profile_of version) before given stands) in
            record {
              commands = command ∷ r.commands;
              responses = response ∷ r.responses;
              notices = answered response ∷ r.notices;
              asks = session.Conversation.command short (subst (λ v. AsksFor v (words line) command) is asks) (numbered (ap suc number) r.asks);
              stands = rw (sym (append_assoc before (command ∷ []) r.commands), sym (append_assoc given (response ∷ []) r.responses)) r.stands;
              told = then_told old.stand now.stand new.stand (answered response ∷ []) r.notices told r.told;
              fault = r.fault ∙ ap (λ b. cond (has_fault r.notices) true b) same_fault;
              same_version = r.same_version;
            }
        | names' names replies closed fresh is_open told ↦ absurd (true≢false (sym was ∙ closed))
      ]
  goes version {old} {new} (talk.one_more {now = now} {line = line} {more = others} (talk.faults bad no_name number faulty same_machine is_open same told) rest) was is before given stands =
      let r = goes version rest is_open (same ∙ is) before given (subst (λ m. StandsAfter (profile_of version) m before given) (sym same_machine) stands) in
      record {
        commands = r.commands;
        responses = r.responses;
        notices = faulted (suc old.number) ∷ r.notices;
        asks = session.Conversation.fault (subst (λ v. IsBad v line) is bad) (numbered (ap suc number) r.asks);
        stands = r.stands;
        told = then_told old.stand now.stand new.stand (faulted (suc old.number) ∷ []) r.notices told r.told;
        fault = r.fault ∙ ap (λ b. cond (has_fault r.notices) true b) faulty ∙ either_true (has_fault r.notices);
        same_version = r.same_version;
      }

  -- ---- from the first line on

  record Begun (old new : Talking M O) (script : List (List ℕ)) : Type 0 where
    version : Version
    passed : ℕ
    rest : List (List ℕ)
    commands : List Command
    responses : List Response
    notices : List Notice
    begins : Begins version passed rest script
    asks : Conversation version (suc (old.number + passed)) rest commands responses notices
    stands : StandsAfter (profile_of version) new.stand.machine commands responses
    told : IsTold Tells (opening_notices version ++ notices) old.stand new.stand
    fault : new.had_fault ≡ cond (has_fault notices) true old.had_fault
    same_version : new.stand.version ≡ version

  begun_silent : {old now new : Talking M O} {line : List ℕ} {others : List (List ℕ)} → IsSilent line → now.number ≡ suc old.number → now.had_fault ≡ old.had_fault
      → now.stand ≡ old.stand → Begun now new others → Begun old new (line ∷ others)
  begun_silent {old} {now} {new} {line} {others} silent number same_fault same r = record {
    version = r.version;
    passed = suc r.passed;
    rest = r.rest;
    commands = r.commands;
    responses = r.responses;
    notices = r.notices;
    begins = session.Begins.silent silent r.begins;
    asks = numbered (omega (arith, number)) r.asks;
    stands = r.stands;
    told = subst (λ (s : Stand M O). IsTold Tells (opening_notices r.version ++ r.notices) s new.stand) same r.told;
    fault = r.fault ∙ ap (λ b. cond (has_fault r.notices) true b) same_fault;
    same_version = r.same_version;
  }

  begun : {old new : Talking M O} {script : List (List ℕ)} → HearsAll StandsAfter Tells old script new → old.stand.is_open ≡ false → old.stand.version ≡ One
      → StandsAfter (profile_of One) old.stand.machine [] [] → Begun old new script
  begun {old} talk.none was is fresh = record {
    version = One;
    passed = 0;
    rest = [];
    commands = [];
    responses = [];
    notices = [];
    begins = session.Begins.at_end;
    asks = session.Conversation.at_end;
    stands = fresh;
    told = nothing old.stand.observer old.stand.held;
    fault = refl;
    same_version = is;
  }
  begun {old} {new} (talk.settles {now = now} same_machine same_open same_version same_number same_fault told rest) was is fresh =
      let r = begun rest (same_open ∙ was) (same_version ∙ is) (subst (λ m. StandsAfter (profile_of One) m [] []) (sym same_machine) fresh) in
      record {
        version = r.version;
        passed = r.passed;
        rest = r.rest;
        commands = r.commands;
        responses = r.responses;
        notices = r.notices;
        begins = r.begins;
        asks = numbered (ap (λ n. suc (n + r.passed)) same_number) r.asks;
        stands = r.stands;
        told = then_told old.stand now.stand new.stand [] (opening_notices r.version ++ r.notices) told r.told;
        fault = r.fault ∙ ap (λ b. cond (has_fault r.notices) true b) same_fault;
        same_version = r.same_version;
      }
  begun {old} {new} (talk.one_more {now = now} {line = line} {more = others} (talk.quiet silent number same_fault same) rest) was is fresh =
      begun_silent {old = old} {now = now} {new = new} {line = line} {others = others} silent number same_fault same
      (begun rest (ap (λ (s : Stand M O). s.is_open) same ∙ was) (ap (λ (s : Stand M O). s.version) same ∙ is)
      (subst (λ (s : Stand M O). StandsAfter (profile_of One) s.machine [] []) (sym same) fresh))
  begun {old} {new} (talk.one_more {now = now} {line = line} {more = others} (talk.takes short no_help number same_fault takes) rest) was is fresh =
      elim (taken takes) [
        | silent' none same ↦
            begun_silent {old = old} {now = now} {new = new} {line = line} {others = others} (short, inl none) number same_fault same
            (begun rest (ap (λ (s : Stand M O). s.is_open) same ∙ was) (ap (λ (s : Stand M O). s.version) same ∙ is)
            (subst (λ (s : Stand M O). StandsAfter (profile_of One) s.machine [] []) (sym same) fresh))
        | answers' command response replies asks does is_open same told ↦
            let r = goes One rest is_open (same ∙ is) (command ∷ []) (response ∷ []) (does (profile_of One) [] [] fresh) in
            record {
              version = One;
              passed = 0;
              rest = line ∷ others;
              commands = command ∷ r.commands;
              responses = response ∷ r.responses;
              notices = answered response ∷ r.notices;
              begins = session.Begins.unnamed (speaks line replies no_help) (λ s. no_command line command asks.1);
              asks = numbered (omega arith) (session.Conversation.command {number = suc old.number} short (subst (λ v. AsksFor v (words line) command) is asks) (numbered (ap suc number) r.asks));
              stands = r.stands;
              told = then_told old.stand now.stand new.stand (answered response ∷ []) r.notices told r.told;
              fault = r.fault ∙ ap (λ b. cond (has_fault r.notices) true b) same_fault;
              same_version = r.same_version;
            }
        | names' names replies closed named_fresh is_open told ↦
            let r = goes now.stand.version rest is_open refl [] [] named_fresh in
            record {
              version = now.stand.version;
              passed = 1;
              rest = others;
              commands = r.commands;
              responses = r.responses;
              notices = r.notices;
              begins = session.Begins.named short names;
              asks = numbered (omega (arith, number)) r.asks;
              stands = r.stands;
              told = subst (λ (ns : List Notice). IsTold Tells (ns ++ r.notices) old.stand new.stand) (opening_is now.stand.version line names)
                  (then_told old.stand now.stand new.stand (version_named now.stand.version ∷ []) r.notices told r.told);
              fault = r.fault ∙ ap (λ b. cond (has_fault r.notices) true b) same_fault;
              same_version = r.same_version;
            }
      ]
  begun {old} {new} (talk.one_more {now = now} {line = line} {more = others} (talk.faults bad no_name number faulty same_machine is_open same told) rest) was is fresh =
      let r = goes One rest is_open (same ∙ is) [] [] (subst (λ m. StandsAfter (profile_of One) m [] []) (sym same_machine) fresh) in
      record {
        version = One;
        passed = 0;
        rest = line ∷ others;
        commands = r.commands;
        responses = r.responses;
        notices = faulted (suc old.number) ∷ r.notices;
        begins = session.Begins.unnamed (bad_speaks old.stand.version line bad) (no_name was);
        asks = numbered (omega arith) (session.Conversation.fault {number = suc old.number} (subst (λ v. IsBad v line) is bad) (numbered (ap suc number) r.asks));
        stands = r.stands;
        told = then_told old.stand now.stand new.stand (faulted (suc old.number) ∷ []) r.notices told r.told;
        fault = r.fault ∙ ap (λ b. cond (has_fault r.notices) true b) faulty ∙ either_true (has_fault r.notices);
        same_version = r.same_version;
      }

  -- ---- the last line

  ended_lines : {s t : Talking M O} {passes : Bool} {kept : List ℕ} (text bytes piece : List ℕ) (leaves : Leaves StandsAfter Tells text s t passes kept) → piece ≡ kept ++ bytes → bytes ≡ []
      → lines (text ++ bytes) ≡ leaves.taken ++ strip_carriage_return (leaves.passed ++ piece) ∷ []
  ended_lines {passes = passes} {kept = kept} text bytes piece leaves is none =
      let same : kept ≡ piece = sym (is ∙ ap (λ b. kept ++ b) none ∙ append-nil kept) in
      let unbroken = subst (λ p. IsUnbroken (leaves.passed ++ p)) same (unbroken_passed passes leaves.passed kept leaves.over leaves.unbroken) in
      leaves.cut bytes
      ∙ ap (λ t. leaves.taken ++ lines t) (append_assoc leaves.passed kept bytes ∙ ap (λ p. leaves.passed ++ p) (sym is))
      ∙ ap (λ ls. leaves.taken ++ ls) (lines_one (leaves.passed ++ piece) unbroken)

  none_left : {passes : Bool} {kept piece bytes : List ℕ} → (passes ≡ true → kept ≡ []) → piece ≡ kept ++ bytes → bytes ≡ [] → passes ≡ true → piece ≡ []
  none_left {kept = kept} none_kept is none passes = is ∙ ap (λ b. kept ++ b) none ∙ append-nil kept ∙ none_kept passes

  -- ---- how it ends

  module _ (IsRun : Profile → List Command → List Response → Type 0)
      (law : (profile : Profile) (m : M) (commands : List Command) (responses : List Response) → StandsAfter profile m commands responses → IsRun profile commands responses) where
    conversed_of : {old new : Talking M O} {script : List (List ℕ)} → old.number ≡ 0 → Begun old new script
        → (notices : List Notice) × IsConversation IsRun script notices
    conversed_of {old} {new} {script} first r = (
      opening_notices r.version ++ r.notices,
      record {
        version = r.version;
        passed = r.passed;
        rest = r.rest;
        commands = r.commands;
        responses = r.responses;
        told = r.notices;
        begins = r.begins;
        asks = numbered (omega (arith, first)) r.asks;
        run = law (profile_of r.version) new.stand.machine r.commands r.responses r.stands;
        whole = refl;
      },
    )

    pub conversed : {old new : Talking M O} (all script : List (List ℕ)) → HearsAll StandsAfter Tells old script new → script ≡ all → old.stand.is_open ≡ false → old.stand.version ≡ One
        → StandsAfter (profile_of One) old.stand.machine [] [] → old.number ≡ 0 → old.had_fault ≡ false
        → IsConversed Tells IsRun all new.had_fault old.stand.observer old.stand.held new.stand.observer new.stand.held
    unfolding conversed_of
    conversed {old} {new} all script heard is closed one fresh first fine =
        let r = begun heard closed one fresh in
        record {
          notices = opening_notices r.version ++ r.notices;
          conversation = subst (λ s. IsConversation IsRun s (opening_notices r.version ++ r.notices)) is (conversed_of first r).1;
          fault = r.fault ∙ ap (λ b. cond (has_fault r.notices) true b) fine ∙ fault_or_not (has_fault r.notices) ∙ sym (opening_fault r.version r.notices);
          told = r.told;
        }

    pub conversed_until : {old now : Talking M O} {new : Stand M O} {line : List ℕ} {script : List (List ℕ)} (RanOut : Profile → List Command → List Response → Command → Type 0)
        (all after : List (List ℕ)) → HearsAll StandsAfter Tells old script now → FindsNone StandsAfter RanOut Tells line now.stand new → all ≡ script ++ line ∷ after
        → old.stand.is_open ≡ false → old.stand.version ≡ One → StandsAfter (profile_of One) old.stand.machine [] [] → old.number ≡ 0
        → IsConversedUntil Tells IsRun RanOut all old.stand.observer old.stand.held new.observer new.held
    unfolding conversed_of
    conversed_until {old} {now} {new} {line} {script} RanOut all after heard finds is closed one fresh first =
        let r = begun heard closed one fresh in
        record {
          notices = opening_notices r.version ++ r.notices;
          conversation = record {
            before = script;
            line = line;
            after = after;
            cut = is;
            conversation = (conversed_of first r).1;
            command = finds.command;
            wants = subst (λ v. AsksFor v (words line) finds.command) r.same_version finds.asks;
            ran_out = finds.ran_out (profile_of r.version) r.commands r.responses r.stands;
          };
          told = subst (λ notices. IsTold Tells notices old.stand new) (append-nil (opening_notices r.version ++ r.notices))
              (then_told old.stand now.stand new (opening_notices r.version ++ r.notices) [] r.told finds.told);
        }

    pub ended : {s t u : Talking M O} {first before : Option (List ℕ)} {passes : Bool} {kept : List ℕ} (after : Option (List ℕ)) (bytes piece : List ℕ) (observer : O) (held : Option (List ℕ))
        → Keeps StandsAfter Tells first before s t passes kept → Consumes before after bytes → piece ≡ kept ++ bytes → bytes ≡ []
        → ((passed : List ℕ) → IsPassed passes passed → (passes ≡ true → piece ≡ []) → Hears StandsAfter Tells t (strip_carriage_return (passed ++ piece)) u)
        → Tells u.stand.observer u.stand.held [] observer held
        → s.stand.is_open ≡ false → s.stand.version ≡ One → StandsAfter (profile_of One) s.stand.machine [] [] → s.number ≡ 0 → s.had_fault ≡ false
        → (text : List ℕ) × Consumes first after text × IsConversed Tells IsRun (lines text) u.had_fault s.stand.observer s.stand.held observer held
    ended {s} {t} {u} {kept = kept} after bytes piece observer held keeps read is none hears told closed one fresh at_first fine =
        let so_far = keeps.leaves in
        let heard = heard_settled StandsAfter Tells observer held
        (heard_more StandsAfter Tells so_far.heard (talk.one_more (hears so_far.passed so_far.over (none_left so_far.none_kept is none)) talk.none)) told in (
          keeps.text ++ bytes,
          Consumes-trans _ _ _ keeps.text bytes keeps.read read,
          conversed (lines (keeps.text ++ bytes)) _ heard (sym (ended_lines keeps.text bytes piece so_far is none)) closed one fresh at_first fine,
        )

    pub ended_until : {s t : Talking M O} {u : Stand M O} {first before : Option (List ℕ)} {passes : Bool} {kept : List ℕ}
        (RanOut : Profile → List Command → List Response → Command → Type 0) (after : Option (List ℕ)) (bytes piece : List ℕ)
        → Keeps StandsAfter Tells first before s t passes kept → Consumes before after bytes → piece ≡ kept ++ bytes → bytes ≡ []
        → LacksAtEnd StandsAfter RanOut Tells passes piece t.stand u
        → s.stand.is_open ≡ false → s.stand.version ≡ One → StandsAfter (profile_of One) s.stand.machine [] [] → s.number ≡ 0
        → (text : List ℕ) × Consumes first after text × IsConversedUntil Tells IsRun RanOut (lines text) s.stand.observer s.stand.held u.observer u.held
    ended_until {passes = passes} {kept = kept} RanOut after bytes piece keeps read is none lacks closed one fresh at_first =
        let so_far = keeps.leaves in
        let alone : strip_carriage_return (so_far.passed ++ piece) ≡ strip_carriage_return piece =
        ap (λ p. strip_carriage_return (p ++ piece)) (passed_none passes so_far.passed lacks.0 so_far.over) in (
          keeps.text ++ bytes,
          Consumes-trans _ _ _ keeps.text bytes keeps.read read,
          conversed_until RanOut (lines (keeps.text ++ bytes)) [] so_far.heard lacks.1.finds
              (ended_lines keeps.text bytes piece so_far is none ∙ ap (λ l. so_far.taken ++ l ∷ []) alone) closed one fresh at_first,
        )

    pub heard_to_end : {s t : Talking M O} {u : Stand M O} {first before : Option (List ℕ)} {passes : Bool} {kept : List ℕ}
        (RanOut : Profile → List Command → List Response → Command → Type 0) (after : Option (List ℕ)) (bytes piece : List ℕ)
        → Keeps StandsAfter Tells first before s t passes kept → Consumes before after bytes → piece ≡ kept ++ bytes
        → ((passed : List ℕ) → IsPassed passes passed → HearsUntil StandsAfter RanOut Tells (passed ++ piece) t u)
        → s.stand.is_open ≡ false → s.stand.version ≡ One → StandsAfter (profile_of One) s.stand.machine [] [] → s.number ≡ 0
        → (text : List ℕ) × Consumes first after text × IsConversedUntil Tells IsRun RanOut (lines text) s.stand.observer s.stand.held u.observer u.held
    heard_to_end {kept = kept} RanOut after bytes piece keeps read is until closed one fresh at_first =
        let so_far = keeps.leaves in
        let finds = until so_far.passed so_far.over in
        let rest = finds.cut [] in
        let longer = cut_piece keeps.text so_far.passed kept bytes piece so_far.taken so_far.cut is in
        let whole = ap lines (sym (append-nil (keeps.text ++ bytes))) ∙ longer [] ∙ ap (λ ls. so_far.taken ++ ls) rest.1
        ∙ sym (append_assoc so_far.taken finds.taken (finds.line ∷ rest.0)) in (
          keeps.text ++ bytes,
          Consumes-trans _ _ _ keeps.text bytes keeps.read read,
          conversed_until RanOut (lines (keeps.text ++ bytes)) rest.0 (heard_more StandsAfter Tells so_far.heard finds.heard) finds.lacks.finds whole closed one fresh at_first,
        )
