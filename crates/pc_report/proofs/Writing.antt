-- What is written one after another.
use Rattle.std.proofs.Common.{◌≡◌, ◌∙◌, ◌+◌, ◌<◌, ℕ, not, List, [], ◌∷◌, ◌++◌, Option, Result, Ok, Err, OnOk, ap, ap₂, get_or, length, map, refl, sym, subst, take}
use Rattle.std.specs.Io.KnownBytes.{Appends}
use Rattle.std.proofs.KnownBytes.{Appends-nil, Appends-trans}
use Rattle.std.proofs.lemmas.Grind.{flat_map-append}
use Rattle.std.proofs.lemmas.List.{append-nil, map-append, take_more}
use Rattle.std.proofs.lemmas.List.Elements.{filter-append}
use Rattle.pc_calls.specs.declared.call.Answer.{Answer}
use Rattle.pc_calls.specs.declared.call.Call.{Call}
use Rattle.pc_calls.specs.declared.call.Call.TheVariants.{Env, Agent, Consume}
use Rattle.pc_script.specs.Grammar.{command_text}
use Rattle.pc_script.specs.declared.command.Command.{Command}
use Rattle.pc_threads.specs.Pages.{calls_of}
use Rattle.pc_report.specs.Transcripts.{WritesCalls, calls_in, command_of, is_publish, lines_text}

pub none : (a : Option (List ℕ)) → WritesCalls [] a a
none a = ([], refl, Appends-nil a)

pub both : (xs ys : List Command) (a b c : Option (List ℕ)) → WritesCalls xs a b → WritesCalls ys b c → WritesCalls (xs ++ ys) a c
both xs ys a b c w v = (
  w.0 ++ v.0,
  filter-append (λ given. not (is_publish given)) w.0 v.0 ∙ ap₂ (λ us vs. us ++ vs) w.1 v.1,
  subst (Appends a c) (sym (flat_map-append (λ given. command_text given ++ 10 ∷ []) w.0 v.0)) (Appends-trans a b c (lines_text w.0) (lines_text v.0) w.2 v.2),
)

pub on_both : {T E : Type 0} (xs ys : List Command) (a b c : Option (List ℕ)) (result : Result T E) → WritesCalls xs a b → OnOk result (WritesCalls ys b c)
    → OnOk result (WritesCalls (xs ++ ys) a c)
on_both xs ys a b c (Ok value) w v = both xs ys a b c w v
on_both xs ys a b c (Err fault) w v = tt

-- a command was written, which is a call or not
pub on_one : {T E : Type 0} (command : Command) (given : List Command) (a b : Option (List ℕ)) (result : Result T E) → calls_in (command ∷ []) ≡ given
    → OnOk result (Appends a b (lines_text (command ∷ []))) → OnOk result (WritesCalls given a b)
on_one command given a b (Ok value) is written = (command ∷ [], is, written)
on_one command given a b (Err fault) is written = tt

pub no_publish : (call : Call) → calls_in (command_of call ∷ []) ≡ command_of call ∷ []
no_publish (Env call) = refl
no_publish (Agent call) = refl
no_publish (Consume cpu count) = refl

-- one call more
more_calls : (calls : List (Call × Answer)) (i : ℕ) (entry : Call × Answer) → entry ≡ get_or calls i entry → i < length calls
    → map command_of (calls_of (take (i + 1) calls)) ≡ map command_of (calls_of (take i calls)) ++ command_of entry.0 ∷ []
more_calls calls i entry is low =
    ap (λ es. map command_of (calls_of es)) (take_more calls i entry low ∙ ap (λ e. take i calls ++ e ∷ []) (sym is))
    ∙ ap (map command_of) (map-append (λ (e : Call × Answer). e.0) (take i calls) (entry ∷ []))
    ∙ map-append command_of (calls_of (take i calls)) (entry.0 ∷ [])

pub step : (calls : List (Call × Answer)) (i : ℕ) (entry : Call × Answer) (a b c e : Option (List ℕ)) → entry ≡ get_or calls i entry → i < length calls
    → WritesCalls (map command_of (calls_of (take i calls))) a b → WritesCalls (command_of entry.0 ∷ []) b c → WritesCalls [] c e
    → WritesCalls (map command_of (calls_of (take (i + 1) calls))) a e
step calls i entry a b c e is low before called looked =
    let so_far = map command_of (calls_of (take i calls)) in
    let all = both (so_far ++ command_of entry.0 ∷ []) [] a c e (both so_far (command_of entry.0 ∷ []) a b c before called) looked in
    subst (λ given. WritesCalls given a e) (append-nil (so_far ++ command_of entry.0 ∷ []) ∙ sym (more_calls calls i entry is low)) all
