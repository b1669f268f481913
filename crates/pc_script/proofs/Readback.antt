-- The line that a command is written as asks for that command.
use Rattle.std.proofs.Common.{◌≡◌, ℕ, zero, suc, ◌<◌, ◌≤◌, ◌^◌, Bool, true, false, not, ◌&&◌, List, [], ◌∷◌, ◌++◌, length, get_or, cond, eqb, filter, Some, None, codes, decimal, refl, sym, ap, subst, ◌∙◌, arith, append-nil}
use Rattle.std.specs.List.{slice_split}
use Rattle.std.specs.Str.Parse.{AllDigits}
use Rattle.std.proofs.lemmas.Bool.{ne_eqb}
use Rattle.std.proofs.lemmas.Fmt.{decimal_nonempty, digits_decimal}
use Rattle.std.proofs.lemmas.List.Splits.{slice_split_at, slice_split_none}
use Rattle.std.proofs.lemmas.Str.Parse.{digit_from_value}
use Rattle.pc_calls.specs.declared.call.AgentCall.TheVariants as agent_call
use Rattle.pc_calls.specs.declared.call.EnvCall.TheVariants as env
use Rattle.pc_calls.specs.declared.event.Event.TheVariants as event
use Rattle.pc_script.specs.Grammar.{Field, Processors, Processor, Queue, Level, Count, Mask, Index, Thread, State, Target, Failure, Policy, field_words, IsInRange, words_of, AreInRange, row_of, command_text, Spells}
use Rattle.pc_script.specs.Text.{words}
use Rattle.pc_script.specs.declared.command.Command.{Command}
use Rattle.pc_script.specs.declared.command.Command.TheVariants as command
use Rattle.pc_policy.proofs.Policies.{policy_neat, written_policy}
use Rattle.pc_policy.specs.Names.{IsPolicy, IsReadAgain, policy_text}
use Rattle.pc_policy.specs.declared.named.PolicyName.{PolicyName}
use Rattle.pc_script.specs.declared.command.Read.TheVariants as read
use Rattle.pc_script.proofs.Numerals.{own}
use Rattle.pc_script.proofs.Spaces.{Each, IsNoSpace, IsWord, has_words, neat_behind, neat_text, neat_words, words_spaced}

-- the same by evaluation
abbrev has_none : List ℕ → Bool
has_none [] = true
has_none (b ∷ bs) = not (eqb b 32) && has_none bs

abbrev is_word : List ℕ → Bool
is_word [] = false
is_word (b ∷ bs) = has_none (b ∷ bs)

unequal : (x y : Bool) → (not x && y) ≡ true → (x ≡ false) × (y ≡ true)
unequal false y h = (refl, h)
unequal true y h = cc

all_none : (bytes : List ℕ) → has_none bytes ≡ true → Each IsNoSpace bytes
all_none [] h = tt
all_none (b ∷ bs) h = let both = unequal (eqb b 32) (has_none bs) h in (both.0, all_none bs both.1)

word_is : (word : List ℕ) → is_word word ≡ true → IsWord word
word_is [] h = cc
word_is (b ∷ bs) h = (omega arith, all_none (b ∷ bs) h)

all_both : (P : List ℕ → Type 0) (xs ys : List (List ℕ)) → Each P xs → Each P ys → Each P (xs ++ ys)
all_both P [] ys none all = all
all_both P (x ∷ xs) ys all more = (all.0, all_both P xs ys all.1 more)

-- ---- the words of a command

digits_are : (digits : List ℕ) → AllDigits 10 digits → Each IsNoSpace digits
digits_are [] are = tt
digits_are (d ∷ ds) are =
    let digit = digit_from_value d are.0 in
    (ne_eqb d 32 (λ space. omega (arith, digit.0, space)), digits_are ds are.1)

number_is : (n : ℕ) → n < 2 ^ 64 → IsWord (decimal n)
number_is n small = (decimal_nonempty n small, digits_are (decimal n) (digits_decimal own n small))

wide : (bound n : ℕ) → bound ≤ 2 ^ 64 → n < bound → IsWord (decimal n)
wide bound n few below = number_is n (omega (arith, few, below))

fields_are : (field : Field) → IsInRange field → Each IsWord (field_words field)
fields_are (Processors number) h = (wide (2 ^ 8) number (omega arith) h, tt)
fields_are (Processor cpu) h = (wide (2 ^ 8) cpu (omega arith) h, tt)
fields_are (Queue queue) h = (wide (2 ^ 8) queue (omega arith) h, tt)
fields_are (Level level) h = (wide (2 ^ 8) level (omega arith) h, tt)
fields_are (Count number) h = (wide (2 ^ 32) number (omega arith) h, tt)
fields_are (Mask mask) h = (number_is mask h, tt)
fields_are (Index index) h = (number_is index h, tt)
fields_are (Thread thread) h = ((omega arith, (refl, (wide (2 ^ 32) thread (omega arith) h).1)), tt)
fields_are (State true) h = (word_is (codes "ready") refl, tt)
fields_are (State false) h = (word_is (codes "blocked") refl, tt)
fields_are (Target None) h = (word_is (codes "-") refl, tt)
fields_are (Target (Some cpu)) h = (wide (2 ^ 8) cpu (omega arith) h, tt)
fields_are (Failure true) h = (word_is (codes "fail") refl, tt)
fields_are (Failure false) h = tt
fields_are (Policy named) h =
    let n = policy_neat named h in
    subst (Each IsWord) (sym (neat_words (policy_text named) n)) (has_words (policy_text named) n).each

all_are : (fields : List Field) → AreInRange fields → Each IsWord (words_of fields)
all_are [] h = tt
all_are (field ∷ fields) h = all_both IsWord (field_words field) (words_of fields) (fields_are field h.0) (all_are fields h.1)

name_is : (given : Command) → is_word (row_of given).name ≡ true
name_is (command.Enclave limits) = refl
name_is (command.Event (event.Env (env.Create queue ready mask))) = refl
name_is (command.Event (event.Env (env.Wake thread))) = refl
name_is (command.Event (event.Env (env.Block cpu ran))) = refl
name_is (command.Event (event.Env (env.YieldNow cpu ran))) = refl
name_is (command.Event (event.Env (env.Preempt cpu ran))) = refl
name_is (command.Event (event.Env (env.Die cpu ran))) = refl
name_is (command.Event (event.Env (env.SetAffinity thread mask))) = refl
name_is (command.Event (event.Env (env.SetPriority thread level))) = refl
name_is (command.Event (event.Env (env.Tick cpu))) = refl
name_is (command.Event (event.Agent (agent_call.Associate thread queue number))) = refl
name_is (command.Event (event.Agent (agent_call.Commit cpu thread aseq))) = refl
name_is (command.Event (event.Agent (agent_call.Sleep cpu aseq))) = refl
name_is (command.Event (event.Agent (agent_call.Rouse cpu))) = refl
name_is (command.Event (event.Agent (agent_call.Config queue target))) = refl
name_is (command.Event (event.Publish cpu fails)) = refl
name_is (command.Event (event.Consume cpu)) = refl
name_is (command.Event (event.Deliver cpu delta)) = refl
name_is (command.Event (event.Answer cpu asker)) = refl
name_is (command.Event (event.Pick cpu aseq)) = refl
name_is (command.Event (event.Steal cpu)) = refl
name_is (command.Event (event.Crash cpu)) = refl
name_is (command.Read (read.Status thread)) = refl
name_is (command.Read (read.Asleep cpu)) = refl
name_is (command.Read (read.Show cpu)) = refl
name_is (command.Read (read.Same cpu other)) = refl
name_is (command.Read (read.Complete cpu thread)) = refl
name_is (command.Policy named) = refl
name_is (command.Mend cpu) = refl

-- the words of the line that a command is written as are its row's
spelled_back : (given : Command) → AreInRange (row_of given).fields → words (command_text given) ≡ (row_of given).name ∷ words_of (row_of given).fields
spelled_back given h =
    words_spaced ((row_of given).name ∷ words_of (row_of given).fields) (word_is (row_of given).name (name_is given), all_are (row_of given).fields h)

-- its words behind `policy` are those of a text of the policy
policy_back : (named : PolicyName) → AreInRange (row_of (command.Policy named)).fields → Spells (words (command_text (command.Policy named))) (command.Policy named)
policy_back named h =
    let text = policy_text named in
    let back = spelled_back (command.Policy named) h ∙ ap (λ rest. codes "policy" ∷ rest) (append-nil (words text)) in
    (words text, back, subst (λ t. IsPolicy t named) (sym (neat_text text (policy_neat named h.0))) (written_policy named h.0))

-- the line of a policy is its text behind `policy`
pub policy_line : (named : PolicyName) → IsReadAgain named.order → command_text (command.Policy named) ≡ codes "policy " ++ policy_text named
policy_line named h = neat_behind (codes "policy") (policy_text named) (policy_neat named h)

pub reads_back : (given : Command) → AreInRange (row_of given).fields → Spells (words (command_text given)) given
reads_back (command.Policy named) h = policy_back named h
reads_back (command.Enclave limits) h = (h, spelled_back (command.Enclave limits) h)
reads_back (command.Event e) h = (h, spelled_back (command.Event e) h)
reads_back (command.Read question) h = (h, spelled_back (command.Read question) h)
reads_back (command.Mend cpu) h = (h, spelled_back (command.Mend cpu) h)
