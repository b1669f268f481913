-- Parts that an asker lacks.
use Rattle.std.proofs.Common.{ℕ, ◌+◌, ◌<◌, ◌≤◌, ◌≡◌, ◌==◌, ◌||◌, nat_lt, true, false, List, [], ◌∷◌, ◌++◌, length, drop, get_or, Option, Some, None, refl, sym, ap, ◌∙◌, subst, arith, inl, inr, append-nil}
use Rattle.std.specs.List.{All}
use Rattle.std.specs.Option.{is_some, option_or, MatchOption}
use Rattle.std.specs.FinMap as map
use Rattle.std.proofs.lemmas.Bool.{false≢true}
use Rattle.std.proofs.lemmas.Bool.Decides.{nat_tests}
use Rattle.std.proofs.lemmas.List.{append_assoc}
use Rattle.std.proofs.lemmas.List.Elements.{All-push, All-weaker}
use Rattle.pc_messages.specs.declared.message.TheConstants.{GREATEST_NUMBER}
use Rattle.pc_messages.specs.declared.kind.Kind.{Kind}
use Rattle.pc_messages.specs.declared.reported.Reported.{Reported}
use Rattle.pc_messages.specs.Run.{Run, is_created}
use Rattle.pc_join.specs.Sets.{Members, IsWithin, members_at, source_at, Source}
use Rattle.pc_join.specs.Ranges.{in_ranges, numbers_in, IsFirstMissing, one_to}
use Rattle.pc_join.specs.ByName.{known_in}
use Rattle.pc_join.proofs.Entries.{IsWalked, walked_start, walked_found, walked_on, walked_all, walked_weaker}
use Rattle.pc_thread_view.specs.Told.{Told, IsSound, IsOfThread, RiseAbove, HasEach, numbers_of, only, is_early, tells}
use Rattle.pc_thread_view.specs.Inner.Taking.{AreTold}
use Rattle.pc_thread_view.specs.Inner.ToldLaws.{lacks_next, prefix_yes}
use Rattle.pc_thread_view.proofs.Histories.{prefix_to}
use Rattle.pc_view.specs.declared.view.View.{View}
use Rattle.pc_view.specs.Views.{IsPrefixOfRun, pairs_of, thread_of, pair, source_of}
use Rattle.pc_delta.specs.declared.part.Part.{Part}
use Rattle.pc_delta.specs.declared.part.Part.TheVariants.{Folded, One}
use Rattle.pc_delta.specs.declared.fault.DeltaFault.TheVariants as fault
use Rattle.pc_delta.specs.Faults.{first_fault, first_of, fault_of, is_misplaced}
use Rattle.pc_delta.specs.Parts.{set_of_part, set_of, IsPartOfRun}
use Rattle.pc_delta.specs.Exchange.{IsAnswerTo}
use Rattle.pc_delta.specs.Inner.Answering.{IsLacking, IsUseful, IsUsefulOf, IsToldAt, IsOneOf, KnowsPrefix, TellsAll, TellsPrefix, listed}
use Rattle.std.proofs.lemmas.Bool.{and_parts}
use Rattle.pc_messages.proofs.Bools.{both, or_cases, or_left, or_right}
use Rattle.pc_delta.proofs.Lists.{all_none, all_first, all_rest, all_cons, left_item, none_left}
use Rattle.pc_delta.proofs.Intake.{set_of-append}

prefix_in : (upto more n : ℕ) → upto ≤ more → one_to upto n ≡ true → one_to more n ≡ true
prefix_in upto more n h e = grind (arith, nat_tests)

-- what is lacking of ranges, and of a thread view
pub lacking_of : (ranges : List (ℕ × ℕ)) (upto : ℕ) (o : Option ℕ) → MatchOption o ((n : ℕ) → 1 ≤ n → n ≤ upto → in_ranges ranges n ≡ true) (IsFirstMissing (in_ranges ranges) upto) → is_some o ≡ true → IsLacking (numbers_in ranges) upto
lacking_of ranges upto None h e = absurd (false≢true e)
lacking_of ranges upto (Some n) h e = record { number = n; in_prefix = prefix_yes upto n h.positive h.reached; unknown = h.missing }

pub lacking_told : (told : Told) (upto : ℕ) → IsSound told → told.upto < upto → IsLacking (numbers_of told) upto
lacking_told told upto sound lt = record { number = told.upto + 1; in_prefix = prefix_yes upto (told.upto + 1) (omega arith) (omega arith); unknown = lacks_next told sound.gap }

pub known_told : (told : Told) (upto : ℕ) → upto ≤ told.upto → KnowsPrefix (numbers_of told) upto
known_told told upto le n h = or_left (one_to told.upto n) (is_early told.early n) (prefix_in upto told.upto n le h)

equal : (a b : ℕ) → (a == b) ≡ true → a ≡ b
equal a b e = grind (arith, nat_tests)

itself : (a : ℕ) → (a == a) ≡ true
itself a = grind (arith, nat_tests)

at_name : (name : ℕ) (s : Members) (t : ℕ) (m : List ℕ) → members_at name s (t ∷ m) ≡ true → (t ≡ name) × (s m ≡ true)
at_name name s t m h = let parts = and_parts (t == name) (s m) h in (equal t name parts.0, parts.1)

-- the parts of a list with one more item, where there is one
all_listed : (P : Part → Type 0) (old new : List Part) (o : Option Part) → new ≡ old ++ listed o → All P old → ((part : Part) → o ≡ Some part → P part) → All P new
all_listed P old new None e all here = subst (λ xs. All P xs) (sym (e ∙ append-nil old)) all
all_listed P old new (Some part) e all here = subst (λ xs. All P xs) (sym e) (All-push P old part all (here part refl))

kept_listed : (old new : List Part) (o : Option Part) → new ≡ old ++ listed o → IsWithin (set_of old) (set_of new)
kept_listed old new o e m h = ap (λ xs. set_of xs m) e ∙ set_of-append old (listed o) m ∙ or_left (set_of old m) (set_of (listed o) m) h

told_listed : (old new : List Part) (part : Part) → new ≡ old ++ listed (Some part) → IsWithin (set_of_part part) (set_of new)
told_listed old new part e m h = ap (λ xs. set_of xs m) e ∙ set_of-append old (part ∷ []) m ∙ or_right (set_of old m) (set_of_part part m || false) (or_left (set_of_part part m) false h)

-- one early message
one_sound : (thread number : ℕ) (kind : Kind) → 1 < number → number ≤ GREATEST_NUMBER → is_created kind ≡ false → fault_of (One (record { thread = thread; number = number; kind = kind })) ≡ None
one_sound thread number kind h g created = λ i. first_of ((not_zero number h i, fault.ZeroNumber) ∷ (fits number g i, fault.NumberTooLarge) ∷ (placed i, fault.CreatedMisplaced) ∷ [])
  where
    not_zero : (n : ℕ) → 1 < n → (n == 0) ≡ false
    not_zero n h = grind (arith, nat_tests)

    fits : (n : ℕ) → n ≤ GREATEST_NUMBER → nat_lt GREATEST_NUMBER n ≡ false
    fits n g = grind (arith, nat_tests)

    not_one : (n : ℕ) → 1 < n → (n == 1) ≡ false
    not_one n h = grind (arith, nat_tests)

    placed : is_misplaced (is_created kind) number ≡ false
    placed = ap (λ b. is_misplaced b number) created ∙ not_one number h

-- a prefix that is told of a run's thread is one of the run
pub folded_of_run : (thread : ℕ) (told : Told) (upto : ℕ) (reported : Reported) → upto ≡ told.upto → ◌≡◌ {A = Option Reported} (Some reported) told.state
    → (run : Run) → IsOfThread told (source_at (source_of run) thread) → IsPartOfRun run (Folded thread upto reported)
folded_of_run thread told upto reported u r run h =
    let prefix = prefix_to (run thread) told.upto told.state h.prefix in
    subst (λ n. IsPrefixOfRun run thread n (Some reported)) (sym u) (subst (λ o. IsPrefixOfRun run thread told.upto o) (sym r) prefix)

-- of a thread: what is told so far, and what is left of the early messages
pub record IsTelling (thread : ℕ) (told : Told) (known : Members) (left : List (ℕ × Kind)) (parts : List Part) : Type 0 where
  pub useful : All (IsUsefulOf thread told known) parts
  pub telling : (n : ℕ) → tells told n ≡ true → known (n ∷ []) ≡ false → (is_early left n || set_of parts (thread ∷ n ∷ [])) ≡ true
  pub left_known : (n : ℕ) → is_early left n ≡ true → tells told n ≡ true
  pub left_told : AreTold left
  pub of_source : (s : Source) → IsOfThread told s → HasEach s left

module _ (thread : ℕ) (told : Told) (known : Members) where
  within_one : (number : ℕ) → tells told number ≡ true → IsWithin (pair thread number) (members_at thread (numbers_of told))
  within_one number there [] h = h
  within_one number there (t ∷ []) h = absurd (false≢true (at_name thread (only number) t [] h).1)
  within_one number there (t ∷ n ∷ []) h =
      let parts = at_name thread (only number) t (n ∷ []) h in
      both (t == thread) (tells told n) (ap (λ q. q == thread) parts.0 ∙ itself thread) (ap (tells told) (equal n number parts.1) ∙ there)
  within_one number there (t ∷ n ∷ k ∷ m) h = absurd (false≢true (at_name thread (only number) t (n ∷ k ∷ m) h).1)

  useful_one : (entry : ℕ × Kind) (left : List (ℕ × Kind)) (parts : List Part) (part : Part) → IsTelling thread told known (entry ∷ left) parts → IsOneOf thread entry known part → IsUsefulOf thread told known part
  useful_one entry left parts part telling one = subst (IsUsefulOf thread told known) (sym one.message) (record {
    sound = one_sound thread entry.0 entry.1 telling.left_told.rise.0 telling.left_told.later.0 telling.left_told.later.1;
    within = within_one entry.0 (telling.left_known entry.0 (or_left (entry.0 == entry.0) (is_early left entry.0) (itself entry.0)));
    number = entry.0;
    in_part = both (thread == thread) (entry.0 == entry.0) (itself thread) (itself entry.0);
    unknown = one.unknown;
    of_run = λ run of_thread. (telling.of_source (source_at (source_of run) thread) of_thread).0;
  })

  prefix_told : (o : Option Part) (parts : List Part) → MatchOption o (KnowsPrefix known told.upto) (λ part. IsUsefulOf thread told known part × TellsPrefix thread told.upto part) → parts ≡ [] ++ listed o
      → (n : ℕ) → one_to told.upto n ≡ true → known (n ∷ []) ≡ false → set_of parts (thread ∷ n ∷ []) ≡ true
  prefix_told None parts fact e n h lacking = absurd (false≢true (sym lacking ∙ fact n h))
  prefix_told (Some part) parts fact e n h lacking = told_listed [] parts part e (thread ∷ n ∷ []) (fact.1 n h)

  rise_one : (upto : ℕ) (early : List (ℕ × Kind)) → RiseAbove (upto + 1) early → RiseAbove 1 early
  rise_one upto [] h = tt
  rise_one upto (e ∷ es) h = (omega arith, h.1)

  useful_folded : (o : Option Part) → MatchOption o (KnowsPrefix known told.upto) (λ part. IsUsefulOf thread told known part × TellsPrefix thread told.upto part) → (part : Part) → o ≡ Some part → IsUsefulOf thread told known part
  useful_folded None fact part e = cc
  useful_folded (Some folded) fact part e = subst (IsUsefulOf thread told known) (inside e) fact.0
    where
      inside : {a b : Part} → ◌≡◌ {A = Option Part} (Some a) (Some b) → a ≡ b
      inside e = cc

  telling_start : (o : Option Part) (early : List (ℕ × Kind)) → IsSound told → early ≡ told.early → MatchOption o (KnowsPrefix known told.upto) (λ part. IsUsefulOf thread told known part × TellsPrefix thread told.upto part)
      → IsTelling thread told known early (listed o)
  telling_start o early sound same_early fact = subst (λ left. IsTelling thread told known left (listed o)) (sym same_early) (record {
    useful = all_listed (IsUsefulOf thread told known) [] (listed o) o refl (all_none (IsUsefulOf thread told known)) (useful_folded o fact);
    telling = λ n h lacking. elim (or_cases (one_to told.upto n) (is_early told.early n) h) [
      | inl in_it ↦ or_right (is_early told.early n) (set_of (listed o) (thread ∷ n ∷ [])) (prefix_told o (listed o) fact refl n in_it lacking)
      | inr in_early ↦ or_left (is_early told.early n) (set_of (listed o) (thread ∷ n ∷ [])) in_early
    ];
    left_known = λ n h. or_right (one_to told.upto n) (is_early told.early n) h;
    left_told = record { rise = rise_one told.upto told.early sound.gap; later = sound.early };
    of_source = λ s of_thread. of_thread.early;
  })

  useful_early : (entry : ℕ × Kind) (left : List (ℕ × Kind)) (parts : List Part) (o : Option Part) → IsTelling thread told known (entry ∷ left) parts → MatchOption o (known (entry.0 ∷ []) ≡ true) (IsOneOf thread entry known) → (part : Part) → o ≡ Some part → IsUsefulOf thread told known part
  useful_early entry left parts None telling fact part e = cc
  useful_early entry left parts (Some one) telling fact part e = subst (IsUsefulOf thread told known) (inside e) (useful_one entry left parts one telling fact)
    where
      inside : {a b : Part} → ◌≡◌ {A = Option Part} (Some a) (Some b) → a ≡ b
      inside e = cc

  early_told : (entry : ℕ × Kind) (parts new : List Part) (o : Option Part) → MatchOption o (known (entry.0 ∷ []) ≡ true) (IsOneOf thread entry known) → new ≡ parts ++ listed o → (n : ℕ) → entry.0 ≡ n → known (n ∷ []) ≡ false → set_of new (thread ∷ n ∷ []) ≡ true
  early_told entry parts new None fact e n at lacking = absurd (false≢true (sym lacking ∙ ap (λ k. known (k ∷ [])) (sym at) ∙ fact))
  early_told entry parts new (Some part) fact e n at lacking =
      told_listed parts new part e (thread ∷ n ∷ []) (ap (λ p. set_of_part p (thread ∷ n ∷ [])) fact.message ∙ both (thread == thread) (n == entry.0) (itself thread) (ap (λ k. k == entry.0) (sym at) ∙ itself entry.0))

  rise_after : (n : ℕ) (left : List (ℕ × Kind)) → 1 < n → RiseAbove n left → RiseAbove 1 left
  rise_after n [] lt h = tt
  rise_after n (e ∷ es) lt h = (omega arith, h.1)

  telling_on : (entry : ℕ × Kind) (left : List (ℕ × Kind)) (parts new : List Part) (o : Option Part) → IsTelling thread told known (entry ∷ left) parts → MatchOption o (known (entry.0 ∷ []) ≡ true) (IsOneOf thread entry known) → new ≡ parts ++ listed o → IsTelling thread told known left new
  telling_on entry left parts new o telling fact e = record {
    useful = all_listed (IsUsefulOf thread told known) parts new o e telling.useful (useful_early entry left parts o telling fact);
    telling = λ n h lacking. elim (or_cases ((entry.0 == n) || is_early left n) (set_of parts (thread ∷ n ∷ [])) (telling.telling n h lacking)) [
      | inl before ↦ elim (or_cases (entry.0 == n) (is_early left n) before) [
        | inl here ↦ or_right (is_early left n) (set_of new (thread ∷ n ∷ [])) (early_told entry parts new o fact e n (equal entry.0 n here) lacking)
        | inr later ↦ or_left (is_early left n) (set_of new (thread ∷ n ∷ [])) later
      ]
      | inr told ↦ or_right (is_early left n) (set_of new (thread ∷ n ∷ [])) (kept_listed parts new o e (thread ∷ n ∷ []) told)
    ];
    left_known = λ n h. telling.left_known n (or_right (entry.0 == n) (is_early left n) h);
    left_told = record { rise = rise_after entry.0 left telling.left_told.rise.0 telling.left_told.rise.1; later = telling.left_told.later.2 };
    of_source = λ s of_thread. (telling.of_source s of_thread).1;
  }

-- parts that were there, and those that tell of a thread
pub record IsTellingFrom (thread : ℕ) (told : Told) (known : Members) (old : List Part) (early : List (ℕ × Kind)) (i : ℕ) (parts : List Part) : Type 0 where
  pub more : List Part
  pub split : parts ≡ old ++ more
  pub telling : IsTelling thread told known (drop i early) more

module _ (thread : ℕ) (told : Told) (known : Members) (old : List Part) (early : List (ℕ × Kind)) where
  pub tell_start : (o : Option Part) (parts : List Part) → IsSound told → early ≡ told.early → MatchOption o (KnowsPrefix known told.upto) (λ part. IsUsefulOf thread told known part × TellsPrefix thread told.upto part)
      → parts ≡ old ++ listed o → IsTellingFrom thread told known old early 0 parts
  tell_start o parts sound same fact e = record { more = listed o; split = e; telling = telling_start thread told known o early sound same fact }

  pub tell_on : (i : ℕ) (entry : ℕ × Kind) (parts new : List Part) (o : Option Part) → entry ≡ get_or early i entry → i < length early → IsTellingFrom thread told known old early i parts
      → MatchOption o (known (entry.0 ∷ []) ≡ true) (IsOneOf thread entry known) → new ≡ parts ++ listed o → IsTellingFrom thread told known old early (i + 1) new
  tell_on i entry parts new o is lt from fact e = record {
    more = from.more ++ listed o;
    split = e ∙ ap (λ ps. ps ++ listed o) from.split ∙ append_assoc old from.more (listed o);
    telling = telling_on thread told known entry (drop (i + 1) early) from.more (from.more ++ listed o) o (subst (λ left. IsTelling thread told known left from.more) (left_item early i entry is lt) from.telling) fact refl;
  }

  pub tell_done : (i : ℕ) (parts : List Part) → length early ≤ i → IsTellingFrom thread told known old early i parts → (more : List Part) × (parts ≡ old ++ more) × TellsAll thread told known more
  tell_done i parts le from =
      let done : IsTelling thread told known [] from.more = subst (λ left. IsTelling thread told known left from.more) (none_left early i le) from.telling in
      (from.more, from.split, record { useful = done.useful; all = done.telling })

-- of a thread of which all is known nothing has to be told
pub tells_none : (thread : ℕ) (told : Told) (known : Members) → ((n : ℕ) → tells told n ≡ true → known (n ∷ []) ≡ true) → TellsAll thread told known []
tells_none thread told known all_known = record {
  useful = all_none (IsUsefulOf thread told known);
  all = λ n there lacking. absurd (false≢true (sym lacking ∙ all_known n there));
}

-- how far an answer has come: the threads that were passed are told
pub record IsAnswering (view : View) (asked : Members) (left : List (ℕ × Told)) (parts : List Part) : Type 0 where
  pub useful : All (IsUseful view asked) parts
  pub walked : IsWalked (λ thread told. IsToldAt view asked thread parts) view.threads left

-- what holds of a thread of the view holds of the view
module _ (view : View) (asked : Members) (thread : ℕ) (told : Told) (there : thread_of view thread ≡ Some told) (known : Members) (same : (m : List ℕ) → asked (thread ∷ m) ≡ known m) where
  told_members : (m : List ℕ) → pairs_of view (thread ∷ m) ≡ numbers_of told m
  told_members m = ap (λ o. known_in numbers_of o m) there

  within_thread : (s : Members) → IsWithin s (members_at thread (numbers_of told)) → IsWithin s (pairs_of view)
  within_thread s within [] h = absurd (false≢true (within [] h))
  within_thread s within (t ∷ m) h =
      let parts = at_name thread (numbers_of told) t m (within (t ∷ m) h) in
      ap (λ q. pairs_of view (q ∷ m)) parts.0 ∙ told_members m ∙ parts.1

  useful_in : (part : Part) → IsUsefulOf thread told known part → IsUseful view asked part
  useful_in part u = record {
    sound = u.sound;
    within = within_thread (set_of_part part) u.within;
    news = record { thread = thread; number = u.number; told = u.in_part; lacking = same (u.number ∷ []) ∙ u.unknown };
    of_run = λ run of_run. u.of_run run (of_run.each thread told there);
  }

  told_in : (old more parts : List Part) → parts ≡ old ++ more → TellsAll thread told known more → IsToldAt view asked thread parts
  told_in old more parts e all [] h lacking = absurd (false≢true (sym (told_members []) ∙ h))
  told_in old more parts e all (n ∷ []) h lacking =
      ap (λ ps. set_of ps (thread ∷ n ∷ [])) e ∙ set_of-append old more (thread ∷ n ∷ [])
      ∙ or_right (set_of old (thread ∷ n ∷ [])) (set_of more (thread ∷ n ∷ [])) (all.all n (sym (told_members (n ∷ [])) ∙ h) (sym (same (n ∷ [])) ∙ lacking))
  told_in old more parts e all (n ∷ k ∷ m) h lacking = absurd (false≢true (sym (told_members (n ∷ k ∷ m)) ∙ h))

all_append : (P : Part → Type 0) (xs ys : List Part) → All P xs → All P ys → All P (xs ++ ys)
all_append P [] ys a b = b
all_append P (x ∷ xs) ys a b = all_cons P x (xs ++ ys) (all_first P x xs a) (all_append P xs ys (all_rest P x xs a) b)

kept_append : (old more parts : List Part) → parts ≡ old ++ more → IsWithin (set_of old) (set_of parts)
kept_append old more parts e m h = ap (λ ps. set_of ps m) e ∙ set_of-append old more m ∙ or_left (set_of old m) (set_of more m) h

module _ (view : View) (asked : Members) where
  pub answering_start : (left : List (ℕ × Told)) (parts : List Part) → left ≡ map.entries view.threads → parts ≡ [] → IsAnswering view asked left parts
  answering_start left parts e none = record {
    useful = subst (λ ps. All (IsUseful view asked) ps) (sym none) (all_none (IsUseful view asked));
    walked = walked_start (λ thread told. IsToldAt view asked thread parts) view.threads left e;
  }

  module _ (left after : List (ℕ × Told)) (old new : List Part) (k : ℕ) (told : Told) (known : Members) (is : left ≡ (k, told) ∷ after) (answering : IsAnswering view asked left old)
      (same : (m : List ℕ) → asked (k ∷ m) ≡ known m) (told_more : (more : List Part) × (new ≡ old ++ more) × TellsAll k told known more) where
    there : thread_of view k ≡ Some told
    there = walked_found (λ thread told. IsToldAt view asked thread old) view.threads left after k told is answering.walked

    pub answering_on : IsAnswering view asked after new
    answering_on = record {
      useful = subst (λ ps. All (IsUseful view asked) ps) (sym told_more.1)
          (all_append (IsUseful view asked) old told_more.0 answering.useful
          (All-weaker (IsUsefulOf k told known) (IsUseful view asked) (useful_in view asked k told there known same) told_more.0 told_more.2.useful));
      walked = walked_on (λ thread told. IsToldAt view asked thread new) view.threads left after k told is
          (walked_weaker (λ thread told. IsToldAt view asked thread old) (λ thread told. IsToldAt view asked thread new) view.threads left (λ t w h m a b. kept_append old told_more.0 new told_more.1 (t ∷ m) (h m a b)) answering.walked)
          (told_in view asked k told there known same old told_more.0 new told_more.1 told_more.2);
    }

pub faultless : (view : View) (asked : Members) (parts : List Part) → All (IsUseful view asked) parts → first_fault parts ≡ None
faultless view asked [] all = refl
faultless view asked (p ∷ ps) all =
    let here = (all_first (IsUseful view asked) p ps all).sound in
    let rest = faultless view asked ps (all_rest (IsUseful view asked) p ps all) in
    λ i. option_or (here i) (rest i)

all_within : (view : View) (asked : Members) (parts : List Part) → All (IsUseful view asked) parts → IsWithin (set_of parts) (pairs_of view)
all_within view asked [] all m h = absurd (false≢true h)
all_within view asked (p ∷ ps) all m h = elim (or_cases (set_of_part p m) (set_of ps m) h) [
  | inl here ↦ (all_first (IsUseful view asked) p ps all).within m here
  | inr later ↦ all_within view asked ps (all_rest (IsUseful view asked) p ps all) m later
]

pub answered : (view : View) (asked : Members) (left : List (ℕ × Told)) (parts : List Part) → left ≡ [] → IsAnswering view asked left parts → IsAnswerTo view asked parts
answered view asked left parts none answering = record {
  lacking = lacking;
  within = all_within view asked parts answering.useful;
  none_spare = All-weaker (IsUseful view asked) _ (λ part u. u.news) parts answering.useful;
  of_run = λ run of_run. All-weaker (IsUseful view asked) (IsPartOfRun run) (λ part u. u.of_run run of_run) parts answering.useful;
}
  where
    by_value : (t : ℕ) (m : List ℕ) (o : Option Told) → thread_of view t ≡ o → pairs_of view (t ∷ m) ≡ true → asked (t ∷ m) ≡ false → set_of parts (t ∷ m) ≡ true
    by_value t m None e h g = absurd (false≢true (sym (ap (λ o. known_in numbers_of o m) e) ∙ h))
    by_value t m (Some told) e h g = walked_all (λ thread told. IsToldAt view asked thread parts) view.threads left none answering.walked t told e m h g

    lacking : (m : List ℕ) → pairs_of view m ≡ true → asked m ≡ false → set_of parts m ≡ true
    lacking [] h g = absurd (false≢true h)
    lacking (t ∷ m) h g = by_value t m (thread_of view t) refl h g
