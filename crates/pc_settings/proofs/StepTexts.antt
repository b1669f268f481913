-- Texts of steps.
use Rattle.std.proofs.Common.{ℕ, ◌≡◌, ◌≢◌, ◌^◌, ◌<◌, Bool, true, false, cond, not, eqb, List, [], ◌∷◌, ◌++◌, length, take, drop, get_or, append_assoc, option_map, Option, Some, None, MatchOption, Bor, codes, decimal, refl, sym, ap, ◌∙◌, subst, arith}
use Rattle.std.specs.Prelude.{bytes_eq}
use Rattle.std.proofs.lemmas.List.{take-append-drop}
use Rattle.std.proofs.Math.Seq.{take-append_seam, drop-append_seam}
use Rattle.std.specs.List.{list_all}
use Rattle.std.proofs.lemmas.Bool.{false≢true}
use Rattle.std.proofs.lemmas.List.Folds.{list_all_at}
use Rattle.std.proofs.lemmas.Slice.Eq.{bytes_eq-Decides}
use Rattle.std.proofs.lemmas.Str.Pattern.{IsSplitOnceResult, split_after, split_parts}
use Rattle.pc_calls.specs.declared.leaving.Leaving.{Leaving}
use Rattle.pc_calls.specs.declared.leaving.Leaving.TheVariants.{Yield, Block, Preempt, Die}
use Rattle.pc_calls.specs.Leavings as leavings
use Rattle.pc_load.specs.declared.load.LoadStep.{LoadStep}
use Rattle.pc_threads.specs.Settings.{ticks}
use Rattle.pc_threads.specs.declared.settings.plans.Step as run
use Rattle.pc_threads.specs.declared.settings.plans.Step.TheVariants as run_step
use Rattle.pc_settings.specs.Keys.{first_some}
use Rattle.pc_settings.specs.Steps.{leaving_word, of_run, read_after, read_leaving, read_number, read_run_step, read_step, run_leaving, step_text, RunStepsAreReadAsWritten, StepsAreReadAsWritten}
use Rattle.pc_settings.proofs.Numerals.{number_means, number_read}

after_test : (name text : List ℕ) (n : ℕ) (test : Bool) → bytes_eq (take (length name) text) name ≡ test → cond test (read_number (drop (length name) text)) None ≡ Some n
    → (text ≡ name ++ decimal n) × (n < 2 ^ 32)
after_test name text n true e h =
    let means = number_means (drop (length name) text) n h in
    let front : take (length name) text ≡ name = (bytes_eq-Decides (take (length name) text) name).0 e in
    (sym (take-append-drop (length name) text) ∙ ap (λ xs. xs ++ drop (length name) text) front ∙ ap (λ xs. name ++ xs) means.0, means.1)
after_test name text n false e h = cc

after_means : (name text : List ℕ) (n : ℕ) → read_after name text ≡ Some n → (text ≡ name ++ decimal n) × (n < 2 ^ 32)
after_means name text n h = after_test name text n _ refl h

after_written : (name : List ℕ) (n : ℕ) → n < 2 ^ 32 → read_after name (name ++ decimal n) ≡ Some n
after_written name n small =
    let front : take (length name) (name ++ decimal n) ≡ name = take-append_seam name (decimal n) in
    let rest : drop (length name) (name ++ decimal n) ≡ decimal n = drop-append_seam name (decimal n) in
    let same : bytes_eq (take (length name) (name ++ decimal n)) name ≡ true = (bytes_eq-Decides (take (length name) (name ++ decimal n)) name).1 front in
    ap (λ b. cond b (read_number (drop (length name) (name ++ decimal n))) None) same ∙ number_read (drop (length name) (name ++ decimal n)) n small rest

abbrev so : Leaving → ℕ → LoadStep
so leaving ticks = record { leaving = leaving; ticks = ticks }

abbrev IsText : List ℕ → LoadStep → Type 0
IsText text step = (text ≡ step_text step) × (step.ticks < 2 ^ 32)

leaving_test : (text : List ℕ) (leaving : Leaving) (step : LoadStep) (number : Option ℕ) → read_after (leaving_word leaving) text ≡ number → option_map (so leaving) number ≡ Some step → IsText text step
leaving_test text leaving step (Some n) e h = let is : so leaving n ≡ step = cc in subst (IsText text) is (after_means (leaving_word leaving) text n e)
leaving_test text leaving step None e h = cc

leaving_means : (text : List ℕ) (leaving : Leaving) (step : LoadStep) → read_leaving text leaving ≡ Some step → IsText text step
leaving_means text leaving step h = leaving_test text leaving step (read_after (leaving_word leaving) text) refl h

one_of : (a b c d : Option LoadStep) (P : LoadStep → Type 0) (step : LoadStep) → first_some (a ∷ b ∷ c ∷ d ∷ []) ≡ Some step
    → ((s : LoadStep) → a ≡ Some s → P s) → ((s : LoadStep) → b ≡ Some s → P s) → ((s : LoadStep) → c ≡ Some s → P s) → ((s : LoadStep) → d ≡ Some s → P s) → P step
one_of (Some s) b c d P step e f g h k = let is : s ≡ step = cc in subst P is (f s refl)
one_of None (Some s) c d P step e f g h k = let is : s ≡ step = cc in subst P is (g s refl)
one_of None None (Some s) d P step e f g h k = let is : s ≡ step = cc in subst P is (h s refl)
one_of None None None (Some s) P step e f g h k = let is : s ≡ step = cc in subst P is (k s refl)
one_of None None None None P step e f g h k = cc

written : (leaving : Leaving) (n : ℕ) → n < 2 ^ 32 → read_leaving (step_text (so leaving n)) leaving ≡ Some (so leaving n)
written leaving n small = ap (option_map (so leaving)) (after_written (leaving_word leaving) n small)

step_written : (leaving : Leaving) (n : ℕ) → n < 2 ^ 32 → read_step (step_text (so leaving n)) ≡ Some (so leaving n)
step_written Yield n small =
    let text = step_text (so Yield n) in
    ap (λ r. first_some (r ∷ read_leaving text Block ∷ read_leaving text Preempt ∷ read_leaving text Die ∷ [])) (written Yield n small)
step_written Block n small =
    let text = step_text (so Block n) in ap (λ r. first_some (r ∷ read_leaving text Preempt ∷ read_leaving text Die ∷ [])) (written Block n small)
step_written Preempt n small =
    let text = step_text (so Preempt n) in ap (λ r. first_some (r ∷ read_leaving text Die ∷ [])) (written Preempt n small)
step_written Die n small = ap (λ r. first_some (r ∷ [])) (written Die n small)

pub as_written : StepsAreReadAsWritten
as_written text step = (
  (λ h. one_of (read_leaving text Yield) (read_leaving text Block) (read_leaving text Preempt) (read_leaving text Die) (IsText text) step h
      (leaving_means text Yield) (leaving_means text Block) (leaving_means text Preempt) (leaving_means text Die)),
  (λ h. ap read_step h.0 ∙ step_written step.leaving step.ticks h.1),
)

-- A text is split where its first space stands, which is behind the word for how a thread leaves.

abbrev Parts : Type 0
Parts = Option (Bor (List ℕ) × Bor (List ℕ))

not_in : (xs : List ℕ) → list_all (λ b. not (eqb b 32)) xs ≡ true → (i : ℕ) → i < length xs → get_or xs i 0 ≢ 32
not_in xs h i below is = false≢true (sym (list_all_at (λ b. not (eqb b 32)) xs i 0 below (ap (λ b. not (eqb b 32)) is)) ∙ h)

no_space : (leaving : Leaving) (i : ℕ) → i < length (leavings.leaving_word leaving) → get_or (leavings.leaving_word leaving) i 0 ≢ 32
no_space Yield = not_in (codes "yield") refl
no_space Block = not_in (codes "block") refl
no_space Preempt = not_in (codes "preempt") refl
no_space Die = not_in (codes "die") refl

abbrev ArePartsOf : LoadStep → Parts → Type 0
ArePartsOf step split = MatchOption split ⊥ (λ parts. (parts.0.now ≡ leavings.leaving_word step.leaving) × (parts.1.now ≡ decimal step.ticks))

parts_of : (text : List ℕ) (split : Parts) (step : LoadStep) → IsSplitOnceResult 32 text split → IsText text step → ArePartsOf step split
parts_of text split step h is =
    let word = leavings.leaving_word step.leaving in
    split_after 32 text word (decimal step.ticks) split h (omega arith) (is.0 ∙ append_assoc word (32 ∷ []) (decimal step.ticks)) (no_space step.leaving)

none_read : (text : List ℕ) (read : Option LoadStep) → read_step text ≡ read → ((step : LoadStep) → IsText text step → ⊥) → None ≡ read
none_read text None e none = refl
none_read text (Some step) e none = absurd (none step ((as_written text step).0 e))

-- a text that is not split is no step
pub not_split : (text : List ℕ) (split : Parts) → IsSplitOnceResult 32 text split → split ≡ None → None ≡ read_step text
not_split text None h e = none_read text (read_step text) refl (λ step is. parts_of text None step h is)
not_split text (Some parts) h e = cc

-- nor is one whose word is none of these
pub not_named : (text : List ℕ) (split : Parts) (word number : Bor (List ℕ)) → IsSplitOnceResult 32 text split → split ≡ Some (word, number)
    → ((any : Leaving) → word.now ≡ leavings.leaving_word any → ⊥) → None ≡ read_step text
not_named text split word number h e none =
    none_read text (read_step text) refl (λ step is. none step.leaving (subst (ArePartsOf step) e (parts_of text split step h is)).0)

-- nor is one with no number behind it
pub not_counted : (text : List ℕ) (split : Parts) (word number : Bor (List ℕ)) → IsSplitOnceResult 32 text split → split ≡ Some (word, number)
    → ((n : ℕ) → n < 2 ^ 32 → number.now ≡ decimal n → ⊥) → None ≡ read_step text
not_counted text split word number h e none =
    none_read text (read_step text) refl (λ step is. none step.ticks is.1 (subst (ArePartsOf step) e (parts_of text split step h is)).1)

-- a word and a number are a step
pub step_is : (text : List ℕ) (split : Parts) (word number : Bor (List ℕ)) (leaving : Leaving) (ticks : ℕ) → IsSplitOnceResult 32 text split
    → split ≡ Some (word, number) → word.now ≡ leavings.leaving_word leaving → number.now ≡ decimal ticks → ticks < 2 ^ 32 → Some (so leaving ticks) ≡ read_step text
step_is text split word number leaving ticks h e named counted small =
    let whole = (subst (λ s. MatchOption s ((i : ℕ) → i < length text → get_or text i 0 ≢ 32) (λ parts. (text ≡ parts.0.now ++ 32 ∷ parts.1.now) × ((i : ℕ) → i < length parts.0.now → get_or parts.0.now i 0 ≢ 32)))
    e (split_parts 32 text split h (omega arith))).0 in
    let written = whole ∙ ap (λ xs. xs ++ 32 ∷ number.now) named ∙ ap (λ xs. leavings.leaving_word leaving ++ 32 ∷ xs) counted
    ∙ sym (append_assoc (leavings.leaving_word leaving) (32 ∷ []) (decimal ticks)) in
    sym ((as_written text (so leaving ticks)).1 (written, small))

-- the steps of a run
abbrev run_of : LoadStep → run.Step
run_of step = run_leaving step.leaving step.ticks

abbrev IsRunText : List ℕ → run.Step → Type 0
IsRunText text step = (text ≡ step_text (of_run step)) × (ticks step < 2 ^ 32)

run_text : (text : List ℕ) (leaving : Leaving) (n : ℕ) → IsText text (so leaving n) → IsRunText text (run_leaving leaving n)
run_text text Yield n h = h
run_text text Block n h = h
run_text text Preempt n h = h
run_text text Die n h = h

run_test : (text : List ℕ) (step : run.Step) (read : Option LoadStep) → read_step text ≡ read → option_map run_of read ≡ Some step → IsRunText text step
run_test text step (Some s) e h =
    let is : run_of s ≡ step = cc in
    subst (IsRunText text) is (run_text text s.leaving s.ticks ((as_written text s).0 e))
run_test text step None e h = cc

run_written : (step : run.Step) → ticks step < 2 ^ 32 → read_run_step (step_text (of_run step)) ≡ Some step
run_written (run_step.Yield n) small = ap (option_map run_of) (step_written Yield n small)
run_written (run_step.Block n) small = ap (option_map run_of) (step_written Block n small)
run_written (run_step.Preempt n) small = ap (option_map run_of) (step_written Preempt n small)
run_written (run_step.Die n) small = ap (option_map run_of) (step_written Die n small)

pub run_as_written : RunStepsAreReadAsWritten
run_as_written text step = ((λ h. run_test text step (read_step text) refl h), (λ h. ap read_run_step h.0 ∙ run_written step h.1))
