-- The fields that words spell, and the command that they make.
use Rattle.std.proofs.Common.{◌≡◌, ℕ, zero, suc, ◌<◌, ◌≤◌, ◌^◌, Bool, true, false, List, [], ◌∷◌, ◌++◌, Option, Some, None, ◌&&◌, get_or, codes, decimal, refl, sym, subst, ap, ◌∙◌, arith, append-nil}
use Rattle.std.specs.Option.{IfSome, MatchOption}
use Rattle.std.specs.Str.{bytes_eq}
use Rattle.std.proofs.lemmas.Bool.{true≢false}
use Rattle.std.proofs.lemmas.Fmt.{decimal_injective, decimal_digit, first_decimal}
use Rattle.pc_calls.specs.declared.call.AgentCall.TheVariants as agent_call
use Rattle.pc_calls.specs.declared.call.EnvCall.TheVariants as env
use Rattle.pc_calls.specs.declared.event.Event.TheVariants as event
use Rattle.pc_script.specs.Grammar.{Field, Processors, Processor, Queue, Level, Count, Mask, Index, Thread, State, Target, Failure, Policy, field_words, state_word, target_word, thread_name, IsInRange, words_of, AreInRange, row_of, spaced, Spells, IsOf, AsksFor}
use Rattle.pc_policy.proofs.Policies.{one_policy, policy_neat, written_policy}
use Rattle.pc_policy.specs.Names.{IsPolicy, IsReadAgain, policy_text}
use Rattle.pc_policy.specs.declared.named.PolicyName.{PolicyName}
use Rattle.pc_script.specs.Inner.Readings.{Kind, command_at, failure, kind_of, kinds_of, is_word}
use Rattle.pc_script.specs.Inner.Verbs.{SpellsNone, back, name_of, kinds}
use Rattle.pc_script.specs.declared.command.Command.{Command}
use Rattle.pc_script.specs.declared.command.Command.TheVariants as command
use Rattle.pc_script.specs.declared.command.Read.TheVariants as read
use Rattle.pc_script.specs.declared.grammar.Verb.{Verb}
use Rattle.pc_script.specs.declared.grammar.Verb.TheVariants as verb
use Rattle.pc_script.specs.declared.places.Commands.{Commands}
use Rattle.pc_script.specs.declared.places.Sort.{Sort}
use Rattle.pc_script.specs.Text.{words}
use Rattle.pc_script.specs.declared.version.Version.{Version}
use Rattle.pc_script.proofs.Spaces.{neat_text}

-- ---- one field

-- the word of a field that is one word
one_word : (any : Field) → is_word (kind_of any) ≡ true → (word : List ℕ) × (field_words any ≡ word ∷ [])
one_word (Processors number) h = (decimal number, refl)
one_word (Processor cpu) h = (decimal cpu, refl)
one_word (Queue queue) h = (decimal queue, refl)
one_word (Level level) h = (decimal level, refl)
one_word (Count number) h = (decimal number, refl)
one_word (Mask mask) h = (decimal mask, refl)
one_word (Index index) h = (decimal index, refl)
one_word (Thread thread) h = (thread_name thread, refl)
one_word (State is_ready) h = (state_word is_ready, refl)
one_word (Target cpu) h = (target_word cpu, refl)
one_word (Failure fails) h = cc
one_word (Policy named) h = cc

-- such a field takes the first word
pub parts : (field : Field) (fields : List Field) (word : List ℕ) (rest : List (List ℕ)) → is_word (kind_of field) ≡ true
    → word ∷ rest ≡ words_of (field ∷ fields) → (field_words field ≡ word ∷ []) × (rest ≡ words_of fields)
parts field fields word rest alone is =
    let one = one_word field alone in
    let all : word ∷ rest ≡ one.0 ∷ words_of fields = is ∙ ap (λ words. words ++ words_of fields) one.1 in
    let same : word ≡ one.0 = cc in
    (one.1 ∙ ap (λ w. w ∷ []) (sym same), (cc))

first_digit : (n : ℕ) → n < 2 ^ 64 → 48 ≤ get_or (decimal n) 0 0
first_digit zero h =
    let e : decimal 0 ≡ 48 ∷ [] = decimal_digit 0 (omega arith) in
    subst (λ word. 48 ≤ get_or word 0 0) (sym e) (omega arith)
first_digit (suc n) h = omega (arith, first_decimal (suc n) (omega arith) h)

no_dash : (n : ℕ) → n < 2 ^ 8 → decimal n ≡ codes "-" → ⊥
no_dash n h dash = omega (arith, first_digit n (omega (arith, h)), ap (λ word. get_or word 0 0) dash)

-- words that are one word each
alone : {one other : List ℕ} → one ∷ [] ≡ other ∷ [] → one ≡ other
alone is = cc

same_number : (bound one other : ℕ) → bound ≤ 2 ^ 64 → one < bound → other < bound → decimal one ∷ [] ≡ decimal other ∷ [] → one ≡ other
same_number bound one other wide low high is = decimal_injective one other (omega (arith, wide, low)) (omega (arith, wide, high)) (alone is)

same_target : (one other : Option ℕ) → IfSome one (λ c. c < 2 ^ 8) → IfSome other (λ c. c < 2 ^ 8) → target_word one ≡ target_word other → one ≡ other
same_target None None h k is = refl
same_target None (Some cpu) h k is = absurd (no_dash cpu k (sym is))
same_target (Some cpu) None h k is = absurd (no_dash cpu h is)
same_target (Some cpu) (Some other) h k is = ap Some (decimal_injective cpu other (omega (arith, h)) (omega (arith, k)) is)

-- policies that are written alike
same_policy : (one other : PolicyName) → IsReadAgain one.order → IsReadAgain other.order → words (policy_text one) ≡ words (policy_text other) → one ≡ other
same_policy one other h k is =
    let texts : policy_text one ≡ policy_text other =
    sym (neat_text (policy_text one) (policy_neat one h)) ∙ ap spaced is ∙ neat_text (policy_text other) (policy_neat other k) in
    one_policy (policy_text one) one other (written_policy one h) (subst (λ text. IsPolicy text other) (sym texts) (written_policy other k))

-- fields of one kind that have the same words are equal
same_field : (one other : Field) → kind_of one ≡ kind_of other → IsInRange one → IsInRange other → field_words one ≡ field_words other → one ≡ other
same_field (Processors a) (Processors b) e h k is = ap Processors (same_number (2 ^ 8) a b (omega arith) h k is)
same_field (Processor a) (Processor b) e h k is = ap Processor (same_number (2 ^ 8) a b (omega arith) h k is)
same_field (Queue a) (Queue b) e h k is = ap Queue (same_number (2 ^ 8) a b (omega arith) h k is)
same_field (Level a) (Level b) e h k is = ap Level (same_number (2 ^ 8) a b (omega arith) h k is)
same_field (Count a) (Count b) e h k is = ap Count (same_number (2 ^ 32) a b (omega arith) h k is)
same_field (Mask a) (Mask b) e h k is = ap Mask (same_number (2 ^ 64) a b (omega arith) h k is)
same_field (Index a) (Index b) e h k is = ap Index (same_number (2 ^ 64) a b (omega arith) h k is)
same_field (Thread a) (Thread b) e h k is =
    let named : thread_name a ≡ thread_name b = alone is in
    ap Thread (decimal_injective a b (omega (arith, h)) (omega (arith, k)) (cc))
same_field (State true) (State true) e h k is = refl
same_field (State false) (State false) e h k is = refl
same_field (State true) (State false) e h k is = absurd (true≢false (ap (λ word. bytes_eq (codes "ready") word) (alone is)))
same_field (State false) (State true) e h k is = absurd (true≢false (ap (λ word. bytes_eq (codes "blocked") word) (alone is)))
same_field (Target a) (Target b) e h k is = ap Target (same_target a b h k (alone is))
same_field (Failure true) (Failure true) e h k is = refl
same_field (Failure false) (Failure false) e h k is = refl
same_field (Failure true) (Failure false) e h k is = cc
same_field (Failure false) (Failure true) e h k is = cc
same_field (Policy a) (Policy b) e h k is = ap Policy (same_policy a b h k is)
same_field one other e h k is = cc

-- ---- fields that cannot be read

pub no_fields : (before : List (List ℕ)) → (before ≡ [] → ⊥) → (any : List Field) → kinds_of any ≡ [] → before ≡ words_of any → ⊥
no_fields before some [] e is = some is
no_fields before some (field ∷ fields) e is = cc

-- a failure is the word `fail` alone
pub fail_alone : (word : List ℕ) (rest : List (List ℕ)) (any : List Field) → kinds_of any ≡ failure ∷ [] → word ∷ rest ≡ words_of any
    → (word ≡ codes "fail") × (rest ≡ [])
fail_alone word rest [] e is = cc
fail_alone word rest (Failure true ∷ []) e is = ((cc), (cc))
fail_alone word rest (Failure false ∷ []) e is = cc
fail_alone word rest (field ∷ second ∷ fields) e is = cc
fail_alone word rest (field ∷ []) e is = cc

pub no_pair-first : (kind : Kind) (kinds : List Kind) (before : List (List ℕ))
    → ((any : Field) → kind_of any ≡ kind → IsInRange any → (others : List (List ℕ)) → before ≡ field_words any ++ others → ⊥)
    → (any : List Field) → kinds_of any ≡ kind ∷ kinds → AreInRange any → before ≡ words_of any → ⊥
no_pair-first kind kinds before none [] e h is = cc
no_pair-first kind kinds before none (field ∷ fields) e h is = none field (cc) h.0 (words_of fields) is

pub no_pair-others : (kind : Kind) (kinds : List Kind) (first : Field) (before after : List (List ℕ)) → is_word kind ≡ true
    → kind_of first ≡ kind → before ≡ field_words first ++ after
    → ((any : List Field) → kinds_of any ≡ kinds → AreInRange any → after ≡ words_of any → ⊥)
    → (any : List Field) → kinds_of any ≡ kind ∷ kinds → AreInRange any → before ≡ words_of any → ⊥
no_pair-others kind kinds first before after alone same begins none [] e h is = cc
no_pair-others kind kinds first before after alone same begins none (field ∷ fields) e h is =
    let one = one_word first (ap is_word same ∙ alone) in
    let kinded : kind_of field ≡ kind = cc in
    let front : one.0 ∷ after ≡ words_of (field ∷ fields) = sym (ap (λ words. words ++ after) one.1) ∙ sym begins ∙ is in
    none fields (cc) h.1 (parts field fields one.0 after (ap is_word kinded ∙ alone) front).1

-- ---- many fields

-- a field that has no word at times stands last
abbrev is_split : List Kind → Bool
is_split [] = true
is_split (kind ∷ []) = true
is_split (kind ∷ next ∷ others) = is_word kind && is_split (next ∷ others)

both : (one other : Bool) → (one && other) ≡ true → (one ≡ true) × (other ≡ true)
both true other h = (refl, h)
both false other h = cc

-- fields of the same kinds that have the same words are equal
same_fields : (all : List Kind) → is_split all ≡ true → (one other : List Field) → kinds_of one ≡ all → kinds_of other ≡ all
    → AreInRange one → AreInRange other → words_of one ≡ words_of other → one ≡ other
same_fields [] split [] [] d e h k is = refl
same_fields [] split [] (g ∷ gs) d e h k is = cc
same_fields [] split (f ∷ fs) other d e h k is = cc
same_fields (kind ∷ all) split [] other d e h k is = cc
same_fields (kind ∷ all) split (f ∷ fs) [] d e h k is = cc
same_fields (kind ∷ []) split (f ∷ []) (g ∷ []) d e h k is =
    let words : field_words f ≡ field_words g = sym (append-nil (field_words f)) ∙ is ∙ append-nil (field_words g) in
    ap (λ field. field ∷ []) (same_field f g (cc) h.0 k.0 words)
same_fields (kind ∷ []) split (f ∷ second ∷ fs) (g ∷ gs) d e h k is = cc
same_fields (kind ∷ []) split (f ∷ []) (g ∷ second ∷ gs) d e h k is = cc
same_fields (kind ∷ next ∷ others) split (f ∷ fs) (g ∷ gs) d e h k is =
    let tests = both (is_word kind) (is_split (next ∷ others)) split in
    let first : kind_of f ≡ kind = cc in
    let second : kind_of g ≡ kind = cc in
    let word = one_word f (ap is_word first ∙ tests.0) in
    let front : word.0 ∷ words_of fs ≡ words_of (g ∷ gs) = sym (ap (λ words. words ++ words_of fs) word.1) ∙ is in
    let rest = parts g gs word.0 (words_of fs) (ap is_word second ∙ tests.0) front in
    let head : f ≡ g = same_field f g (first ∙ sym second) h.0 k.0 (word.1 ∙ sym rest.0) in
    let tail : fs ≡ gs = same_fields (next ∷ others) tests.1 fs gs (cc) (cc) h.1 k.1 rest.1 in
    cc

-- ---- verbs

-- The first word of a command, and what the table says of it
record HasVerb (command : Command) : Type 0 where
  word : Verb
  named : name_of word ≡ (row_of command).name
  kinded : kinds word ≡ kinds_of (row_of command).fields
  same : back word (row_of command).fields ≡ command

verb_for : (command : Command) → HasVerb command
verb_for (command.Enclave limits) = record { word = verb.Enclave; named = refl; kinded = refl; same = refl }
verb_for (command.Event (event.Env (env.Create a b c))) = record { word = verb.Create; named = refl; kinded = refl; same = refl }
verb_for (command.Event (event.Env (env.Wake a))) = record { word = verb.Wake; named = refl; kinded = refl; same = refl }
verb_for (command.Event (event.Env (env.Block a b))) = record { word = verb.Block; named = refl; kinded = refl; same = refl }
verb_for (command.Event (event.Env (env.YieldNow a b))) = record { word = verb.Yield; named = refl; kinded = refl; same = refl }
verb_for (command.Event (event.Env (env.Preempt a b))) = record { word = verb.Preempt; named = refl; kinded = refl; same = refl }
verb_for (command.Event (event.Env (env.Die a b))) = record { word = verb.Die; named = refl; kinded = refl; same = refl }
verb_for (command.Event (event.Env (env.SetAffinity a b))) = record { word = verb.Affinity; named = refl; kinded = refl; same = refl }
verb_for (command.Event (event.Env (env.SetPriority a b))) = record { word = verb.Priority; named = refl; kinded = refl; same = refl }
verb_for (command.Event (event.Env (env.Tick a))) = record { word = verb.Tick; named = refl; kinded = refl; same = refl }
verb_for (command.Event (event.Agent (agent_call.Associate a b c))) = record { word = verb.Associate; named = refl; kinded = refl; same = refl }
verb_for (command.Event (event.Agent (agent_call.Commit a b c))) = record { word = verb.Commit; named = refl; kinded = refl; same = refl }
verb_for (command.Event (event.Agent (agent_call.Sleep a b))) = record { word = verb.Sleep; named = refl; kinded = refl; same = refl }
verb_for (command.Event (event.Agent (agent_call.Rouse a))) = record { word = verb.Rouse; named = refl; kinded = refl; same = refl }
verb_for (command.Event (event.Agent (agent_call.Config a b))) = record { word = verb.Config; named = refl; kinded = refl; same = refl }
verb_for (command.Event (event.Publish a b)) = record { word = verb.Publish; named = refl; kinded = refl; same = refl }
verb_for (command.Event (event.Consume a)) = record { word = verb.Consume; named = refl; kinded = refl; same = refl }
verb_for (command.Event (event.Deliver a b)) = record { word = verb.Deliver; named = refl; kinded = refl; same = refl }
verb_for (command.Event (event.Answer a b)) = record { word = verb.Answer; named = refl; kinded = refl; same = refl }
verb_for (command.Event (event.Pick a b)) = record { word = verb.Pick; named = refl; kinded = refl; same = refl }
verb_for (command.Event (event.Steal a)) = record { word = verb.Steal; named = refl; kinded = refl; same = refl }
verb_for (command.Event (event.Crash a)) = record { word = verb.Crash; named = refl; kinded = refl; same = refl }
verb_for (command.Read (read.Status a)) = record { word = verb.Status; named = refl; kinded = refl; same = refl }
verb_for (command.Read (read.Asleep a)) = record { word = verb.Asleep; named = refl; kinded = refl; same = refl }
verb_for (command.Read (read.Show a)) = record { word = verb.Show; named = refl; kinded = refl; same = refl }
verb_for (command.Read (read.Same a b)) = record { word = verb.Same; named = refl; kinded = refl; same = refl }
verb_for (command.Read (read.Complete a b)) = record { word = verb.Complete; named = refl; kinded = refl; same = refl }
verb_for (command.Policy a) = record { word = verb.Policy; named = refl; kinded = refl; same = refl }
verb_for (command.Mend a) = record { word = verb.Mend; named = refl; kinded = refl; same = refl }

-- no two verbs have one word
one_verb : (one other : Verb) → name_of one ≡ name_of other → one ≡ other
one_verb verb.Enclave verb.Enclave is = refl
one_verb verb.Create verb.Create is = refl
one_verb verb.Wake verb.Wake is = refl
one_verb verb.Block verb.Block is = refl
one_verb verb.Yield verb.Yield is = refl
one_verb verb.Preempt verb.Preempt is = refl
one_verb verb.Die verb.Die is = refl
one_verb verb.Affinity verb.Affinity is = refl
one_verb verb.Priority verb.Priority is = refl
one_verb verb.Tick verb.Tick is = refl
one_verb verb.Associate verb.Associate is = refl
one_verb verb.Commit verb.Commit is = refl
one_verb verb.Sleep verb.Sleep is = refl
one_verb verb.Rouse verb.Rouse is = refl
one_verb verb.Config verb.Config is = refl
one_verb verb.Publish verb.Publish is = refl
one_verb verb.Consume verb.Consume is = refl
one_verb verb.Deliver verb.Deliver is = refl
one_verb verb.Answer verb.Answer is = refl
one_verb verb.Pick verb.Pick is = refl
one_verb verb.Steal verb.Steal is = refl
one_verb verb.Crash verb.Crash is = refl
one_verb verb.Status verb.Status is = refl
one_verb verb.Asleep verb.Asleep is = refl
one_verb verb.Show verb.Show is = refl
one_verb verb.Same verb.Same is = refl
one_verb verb.Complete verb.Complete is = refl
one_verb verb.Policy verb.Policy is = refl
one_verb verb.Mend verb.Mend is = refl
one_verb one other is = absurd (true≢false (ap (λ word. bytes_eq (name_of one) word) is))

-- the fields after a verb can be told apart
is_split-kinds : (any : Verb) → is_split (kinds any) ≡ true
is_split-kinds any = elim any as (λ word. is_split (kinds word) ≡ true) [ verb.Enclave ↦ refl | _ ↦ refl ]

-- ---- commands that cannot be read

-- the words of a command begin with its name
pub record Begun (spelled : List (List ℕ)) (command : Command) : Type 0 where
  pub behind : List (List ℕ)
  pub is : spelled ≡ (row_of command).name ∷ behind

pub begun : (spelled : List (List ℕ)) (command : Command) → Spells spelled command → Begun spelled command
begun spelled (command.Policy named) h = record { behind = h.0; is = h.1 }
begun spelled (command.Enclave limits) h = record { behind = words_of (row_of (command.Enclave limits)).fields; is = h.1 }
begun spelled (command.Event e) h = record { behind = words_of (row_of (command.Event e)).fields; is = h.1 }
begun spelled (command.Read question) h = record { behind = words_of (row_of (command.Read question)).fields; is = h.1 }
begun spelled (command.Mend cpu) h = record { behind = words_of (row_of (command.Mend cpu)).fields; is = h.1 }

pub no_words : (command : Command) → Spells [] command → ⊥
no_words command h = let is = (begun [] command h).is in cc

pub no_verb : (word : List ℕ) (rest : List (List ℕ)) → ((any : Verb) → word ≡ name_of any → ⊥) → (command : Command) → Spells (word ∷ rest) command → ⊥
no_verb word rest none command h =
    let has = verb_for command in
    let is = (begun (word ∷ rest) command h).is in
    let first : word ≡ (row_of command).name = cc in
    none has.word (first ∙ sym has.named)

-- the verb of a command whose words begin with a verb's
begins : (verb : Verb) (rest : List (List ℕ)) (command : Command) → Spells (name_of verb ∷ rest) command → (verb_for command).word ≡ verb
begins verb rest command h =
    let has = verb_for command in
    let is = (begun (name_of verb ∷ rest) command h).is in
    let first : name_of verb ≡ (row_of command).name = cc in
    one_verb has.word verb (has.named ∙ sym first)

-- a command that has only the words of its row
abbrev SpellsRow : List (List ℕ) → Command → Type 0
SpellsRow spelled command = AreInRange (row_of command).fields × (spelled ≡ (row_of command).name ∷ words_of (row_of command).fields)

-- words that are those of no row
abbrev HasNoRow : Verb → List (List ℕ) → Type 0
HasNoRow verb rest = (any : List Field) → kinds_of any ≡ kinds verb → AreInRange any → rest ≡ words_of any → ⊥

row_none : (rest : List (List ℕ)) (word : Verb) → (word ≡ verb.Policy → ⊥) → SpellsNone word rest → HasNoRow word rest
row_none rest word = elim word as (λ word. (word ≡ verb.Policy → ⊥) → SpellsNone word rest → HasNoRow word rest) [
  | verb.Policy ↦ λ other none. absurd (other refl)
  | _ ↦ λ other none. none
]

-- a command of the verb `policy` is a policy
is_policy : (command : Command) → (verb_for command).word ≡ verb.Policy → back verb.Policy (row_of command).fields ≡ command
is_policy command is = sym (ap (λ word. back word (row_of command).fields) is) ∙ (verb_for command).same

no_row_of : (word : Verb) (rest : List (List ℕ)) (command : Command) → (verb_for command).word ≡ word → SpellsNone word rest
    → (back verb.Policy (row_of command).fields ≡ command → ⊥) → SpellsRow (name_of word ∷ rest) command → ⊥
no_row_of word rest command same none other h =
    let behind : rest ≡ words_of (row_of command).fields = let is = h.1 in cc in
    row_none rest word (λ is. other (is_policy command (same ∙ is))) none (row_of command).fields (sym (verb_for command).kinded ∙ ap kinds same) h.0 behind

pub no_row : (word : Verb) (rest : List (List ℕ)) → SpellsNone word rest → (command : Command) → Spells (name_of word ∷ rest) command → ⊥
unfolding verb_for
no_row word rest none (command.Policy named) h =
    let same : verb.Policy ≡ word = begins word rest (command.Policy named) h in
    let is = h.1 in
    let behind : rest ≡ h.0 = cc in
    subst (λ v. SpellsNone v rest) (sym same) none named (subst (λ text. IsPolicy (spaced text) named) (sym behind) h.2)
no_row word rest none (command.Enclave limits) h =
    no_row_of word rest (command.Enclave limits) (begins word rest (command.Enclave limits) h) none (λ is. cc) h
no_row word rest none (command.Event e) h = no_row_of word rest (command.Event e) (begins word rest (command.Event e) h) none (λ is. cc) h
no_row word rest none (command.Read question) h =
    no_row_of word rest (command.Read question) (begins word rest (command.Read question) h) none (λ is. cc) h
no_row word rest none (command.Mend cpu) h = no_row_of word rest (command.Mend cpu) (begins word rest (command.Mend cpu) h) none (λ is. cc) h

-- what was read behind a verb, or was not, is so of the verb's word
pub by_verb : (taken : Option Sort) (name : List ℕ) (word : Verb) (rest : List (List ℕ)) (commands : Commands) → name ≡ name_of word
    → MatchOption taken (SpellsNone word rest) (λ sort. Spells (name_of word ∷ rest) (command_at sort commands))
    → MatchOption taken ((any : Command) → Spells (name ∷ rest) any → ⊥) (λ sort. Spells (name ∷ rest) (command_at sort commands))
by_verb (Some sort) name word rest commands is h = subst (λ first. Spells (first ∷ rest) (command_at sort commands)) (sym is) h
by_verb None name word rest commands is h = λ any spelled. no_row word rest h any (subst (λ first. Spells (first ∷ rest) any) is spelled)

-- words are those of one row at most
one_row : (spelled : List (List ℕ)) (one other : Command) → SpellsRow spelled one → SpellsRow spelled other → one ≡ other
one_row spelled one other h k =
    let first = verb_for one in
    let second = verb_for other in
    let rows : (row_of one).name ∷ words_of (row_of one).fields ≡ (row_of other).name ∷ words_of (row_of other).fields = sym h.1 ∙ k.1 in
    let names : (row_of one).name ≡ (row_of other).name = cc (rows) in
    let verbs : first.word ≡ second.word = one_verb first.word second.word (first.named ∙ names ∙ sym second.named) in
    let kinded : kinds_of (row_of other).fields ≡ kinds first.word = sym second.kinded ∙ ap kinds (sym verbs) in
    let fields : (row_of one).fields ≡ (row_of other).fields =
    same_fields (kinds first.word) (is_split-kinds first.word) (row_of one).fields (row_of other).fields (sym first.kinded) kinded h.0 k.0 (cc (rows)) in
    sym first.same ∙ ap (λ word. back word (row_of one).fields) verbs ∙ ap (back second.word) fields ∙ second.same

-- and a policy's words are those of no other command
no_other : (spelled : List (List ℕ)) (named : PolicyName) (other : Command) → Spells spelled (command.Policy named) → Spells spelled other
    → back verb.Policy (row_of other).fields ≡ other
no_other spelled named other h k =
    let one = h.1 in
    let two = (begun spelled other k).is in
    let names : (row_of other).name ≡ codes "policy" = cc in
    is_policy other (one_verb (verb_for other).word verb.Policy ((verb_for other).named ∙ names))

-- words are those of one command at most
pub one_spelled : (spelled : List (List ℕ)) (one other : Command) → Spells spelled one → Spells spelled other → one ≡ other
one_spelled spelled (command.Policy a) (command.Policy b) h k =
    let one = h.1 in
    let two = k.1 in
    let same : k.0 ≡ h.0 = cc in
    ap command.Policy (one_policy (spaced h.0) a b h.2 (subst (λ text. IsPolicy (spaced text) b) same k.2))
one_spelled spelled (command.Policy a) (command.Enclave l) h k = let is = no_other spelled a (command.Enclave l) h k in cc
one_spelled spelled (command.Enclave l) (command.Policy b) h k = let is = no_other spelled b (command.Enclave l) k h in cc
one_spelled spelled (command.Policy a) (command.Event e) h k = let is = no_other spelled a (command.Event e) h k in cc
one_spelled spelled (command.Event e) (command.Policy b) h k = let is = no_other spelled b (command.Event e) k h in cc
one_spelled spelled (command.Policy a) (command.Read q) h k = let is = no_other spelled a (command.Read q) h k in cc
one_spelled spelled (command.Read q) (command.Policy b) h k = let is = no_other spelled b (command.Read q) k h in cc
one_spelled spelled (command.Policy a) (command.Mend c) h k = let is = no_other spelled a (command.Mend c) h k in cc
one_spelled spelled (command.Mend c) (command.Policy b) h k = let is = no_other spelled b (command.Mend c) k h in cc
one_spelled spelled (command.Enclave l) (command.Enclave m) h k = one_row spelled (command.Enclave l) (command.Enclave m) h k
one_spelled spelled (command.Enclave l) (command.Event f) h k = one_row spelled (command.Enclave l) (command.Event f) h k
one_spelled spelled (command.Enclave l) (command.Read r) h k = one_row spelled (command.Enclave l) (command.Read r) h k
one_spelled spelled (command.Enclave l) (command.Mend d) h k = one_row spelled (command.Enclave l) (command.Mend d) h k
one_spelled spelled (command.Event e) (command.Enclave m) h k = one_row spelled (command.Event e) (command.Enclave m) h k
one_spelled spelled (command.Event e) (command.Event f) h k = one_row spelled (command.Event e) (command.Event f) h k
one_spelled spelled (command.Event e) (command.Read r) h k = one_row spelled (command.Event e) (command.Read r) h k
one_spelled spelled (command.Event e) (command.Mend d) h k = one_row spelled (command.Event e) (command.Mend d) h k
one_spelled spelled (command.Read q) (command.Enclave m) h k = one_row spelled (command.Read q) (command.Enclave m) h k
one_spelled spelled (command.Read q) (command.Event f) h k = one_row spelled (command.Read q) (command.Event f) h k
one_spelled spelled (command.Read q) (command.Read r) h k = one_row spelled (command.Read q) (command.Read r) h k
one_spelled spelled (command.Read q) (command.Mend d) h k = one_row spelled (command.Read q) (command.Mend d) h k
one_spelled spelled (command.Mend c) (command.Enclave m) h k = one_row spelled (command.Mend c) (command.Enclave m) h k
one_spelled spelled (command.Mend c) (command.Event f) h k = one_row spelled (command.Mend c) (command.Event f) h k
one_spelled spelled (command.Mend c) (command.Read r) h k = one_row spelled (command.Mend c) (command.Read r) h k
one_spelled spelled (command.Mend c) (command.Mend d) h k = one_row spelled (command.Mend c) (command.Mend d) h k

-- words that spell a command which is not of the version ask for none
pub asks_for_none : (version : Version) (spelled : List (List ℕ)) (command : Command) → Spells spelled command → (IsOf version command → ⊥)
    → (any : Command) → AsksFor version spelled any → ⊥
asks_for_none version spelled command h not_of any asks = not_of (subst (IsOf version) (one_spelled spelled any command asks.1 h) asks.0)
