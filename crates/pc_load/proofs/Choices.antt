-- Variants that were tested one by one.
use Rattle.std.proofs.Common.{ℕ, ◌≡◌, ◌+◌, Bool, true, false, ◌&&◌, not, List, [], ◌∷◌, ◌++◌, length, length-append, map, take, drop, get_or, Some, None, refl, sym, ap, ◌∙◌, subst, append_assoc, ◌<◌, ◌⊎◌, inl, inr, ◌≤◌, add-one}
use Rattle.std.specs.Prelude.{bytes_eq}
use Rattle.std.specs.List.{list_all}
use Rattle.std.proofs.lemmas.List.{append-nil, map-append, take_more, take_all}
use Rattle.std.proofs.lemmas.List.Folds.{list_all-map}
use Rattle.std.proofs.Math.Seq.{split_at}
use Rattle.pc_calls.specs.Conditions.{first_of}
use Rattle.pc_load.specs.declared.variant.Variant.{Variant}
use Rattle.pc_load.specs.declared.variant.VariantDraft.{VariantDraft}
use Rattle.pc_load.specs.declared.variant.VariantFault.{VariantFault}
use Rattle.pc_load.specs.declared.variant.VariantFault.TheVariants.{Bad, OutOfMemory}
use Rattle.pc_load.specs.Variants.{Choice, bad_variants, choice_in, choice_of, is_new, is_variant}

-- the choices so far are without a fault, whatever comes behind them, and these are their variants
pub record SoFar (choices : List Choice) (variants : List Variant) : Type 0 where
  pub kept : map choice_of variants ≡ choices
  pub none : (rest : List Choice) → first_of (bad_variants [] 0 (choices ++ rest)) ≡ first_of (bad_variants choices (length variants) rest)

pub begun : SoFar [] []
begun = record { kept = refl; none = λ rest. refl }

-- the test of a choice behind these variants
abbrev pub passes : Choice → List Variant → Bool
passes choice variants = is_variant choice && list_all (λ other. not (bytes_eq other.name.items choice.name)) variants

passes_is : (choice : Choice) (choices : List Choice) (variants : List Variant) → map choice_of variants ≡ choices
    → passes choice variants ≡ (is_variant choice && is_new choice.name choices)
passes_is choice choices variants kept =
    ap (λ b. is_variant choice && b) (sym (list_all-map (λ other. not (bytes_eq other.name choice.name)) choice_of variants))
    ∙ ap (λ those. is_variant choice && is_new choice.name those) kept

passed : (choices : List Choice) (place : ℕ) (choice : Choice) (rest : List Choice) → (is_variant choice && is_new choice.name choices) ≡ true
    → first_of (bad_variants choices place (choice ∷ rest)) ≡ first_of (bad_variants (choices ++ choice ∷ []) (place + 1) rest)
passed choices place choice rest h = rw h refl

failed : (choices : List Choice) (place : ℕ) (choice : Choice) (rest : List Choice) → (is_variant choice && is_new choice.name choices) ≡ false
    → first_of (bad_variants choices place (choice ∷ rest)) ≡ Some (Bad place)
failed choices place choice rest h = rw h refl

pub turn : (choices : List Choice) (variants : List Variant) (choice : Choice) (variant : Variant) → SoFar choices variants
    → passes choice variants ≡ true → choice_of variant ≡ choice → SoFar (choices ++ choice ∷ []) (variants ++ variant ∷ [])
turn choices variants choice variant h good is =
    let count : length (variants ++ variant ∷ []) ≡ length variants + 1 = length-append variants (variant ∷ []) in
    record {
      kept = map-append choice_of variants (variant ∷ []) ∙ ap (λ xs. xs ++ choice_of variant ∷ []) h.kept ∙ ap (λ x. choices ++ x ∷ []) is;
      none = λ rest. ap (λ xs. first_of (bad_variants [] 0 xs)) (append_assoc choices (choice ∷ []) rest) ∙ h.none (choice ∷ rest)
          ∙ passed choices (length variants) choice rest (sym (passes_is choice choices variants h.kept) ∙ good)
          ∙ ap (λ n. first_of (bad_variants (choices ++ choice ∷ []) n rest)) (sym count);
    }

pub stopped : (choices rest all : List Choice) (variants : List Variant) (choice : Choice) (place : ℕ) (fault : VariantFault) → SoFar choices variants
    → choices ++ choice ∷ rest ≡ all → place ≡ length variants → ((passes choice variants ≡ false) × (fault ≡ Bad place)) ⊎ (fault ≡ OutOfMemory)
    → (first_of (bad_variants [] 0 all) ≡ Some fault) ⊎ (fault ≡ OutOfMemory)
stopped choices rest all variants choice place fault h split at (inl (bad, is)) =
    inl (ap (λ xs. first_of (bad_variants [] 0 xs)) (sym split) ∙ h.none (choice ∷ rest)
    ∙ failed choices (length variants) choice rest (sym (passes_is choice choices variants h.kept) ∙ bad)
    ∙ ap (λ n. Some (Bad n)) (sym at) ∙ ap (λ f. Some f) (sym is))
stopped choices rest all variants choice place fault h split at (inr is) = inr is

pub finished : (choices : List Choice) (variants : List Variant) → SoFar choices variants → first_of (bad_variants [] 0 choices) ≡ None
finished choices variants h = ap (λ xs. first_of (bad_variants [] 0 xs)) (sym (append-nil choices)) ∙ h.none []

pub none_of_both : (a b : Bool) → b ≡ false → (a && b) ≡ false
none_of_both true b e = e
none_of_both false b e = refl

-- one more of the drafts, and those behind it
pub seen_more : (drafts : List VariantDraft) (k : ℕ) (d : VariantDraft) → k < length drafts
    → map choice_in (take (k + 1) drafts) ≡ map choice_in (take k drafts) ++ choice_in (get_or drafts k d) ∷ []
seen_more drafts k d below = ap (map choice_in) (take_more drafts k d below) ∙ map-append choice_in (take k drafts) (get_or drafts k d ∷ [])

pub all_split : (drafts : List VariantDraft) (k : ℕ) (d : VariantDraft) → k < length drafts
    → map choice_in (take k drafts) ++ choice_in (get_or drafts k d) ∷ map choice_in (drop (k + 1) drafts) ≡ map choice_in drafts
all_split drafts k d below =
    sym (ap (map choice_in) (split_at drafts k d below ∙ ap (λ n. take k drafts ++ get_or drafts k d ∷ drop n drafts) (sym (add-one k)))
    ∙ map-append choice_in (take k drafts) (get_or drafts k d ∷ drop (k + 1) drafts))

pub turn_at : (drafts : List VariantDraft) (k : ℕ) (d : VariantDraft) (variants those : List Variant) (variant : Variant) → k < length drafts → those ≡ variants
    → SoFar (map choice_in (take k drafts)) variants → passes (choice_in (get_or drafts k d)) those ≡ true → choice_of variant ≡ choice_in (get_or drafts k d)
    → SoFar (map choice_in (take (k + 1) drafts)) (variants ++ variant ∷ [])
turn_at drafts k d variants those variant below same h good is =
    subst (λ choices. SoFar choices (variants ++ variant ∷ [])) (sym (seen_more drafts k d below))
    (turn (map choice_in (take k drafts)) variants (choice_in (get_or drafts k d)) variant h
    (ap (passes (choice_in (get_or drafts k d))) (sym same) ∙ good) is)

told_of : (choice : Choice) (variants those : List Variant) (fault : VariantFault) → those ≡ variants
    → ((passes choice those ≡ false) × (fault ≡ Bad (length those))) ⊎ (fault ≡ OutOfMemory)
    → ((passes choice variants ≡ false) × (fault ≡ Bad (length variants))) ⊎ (fault ≡ OutOfMemory)
told_of choice variants those fault same told =
    subst (λ xs. ((passes choice xs ≡ false) × (fault ≡ Bad (length xs))) ⊎ (fault ≡ OutOfMemory)) same told

pub stopped_at : (drafts : List VariantDraft) (k : ℕ) (d : VariantDraft) (variants those : List Variant) (fault : VariantFault) → k < length drafts → those ≡ variants
    → SoFar (map choice_in (take k drafts)) variants → ((passes (choice_in (get_or drafts k d)) those ≡ false) × (fault ≡ Bad (length those))) ⊎ (fault ≡ OutOfMemory)
    → (first_of (bad_variants [] 0 (map choice_in drafts)) ≡ Some fault) ⊎ (fault ≡ OutOfMemory)
stopped_at drafts k d variants those fault below same h told =
    stopped (map choice_in (take k drafts)) (map choice_in (drop (k + 1) drafts)) (map choice_in drafts) variants (choice_in (get_or drafts k d)) (length variants) fault h
    (all_split drafts k d below) refl (told_of (choice_in (get_or drafts k d)) variants those fault same told)

pub finished_at : (drafts : List VariantDraft) (k : ℕ) (variants : List Variant) → length drafts ≤ k → SoFar (map choice_in (take k drafts)) variants
    → first_of (bad_variants [] 0 (map choice_in drafts)) ≡ None
finished_at drafts k variants all h =
    ap (λ xs. first_of (bad_variants [] 0 (map choice_in xs))) (sym (take_all k drafts all)) ∙ finished (map choice_in (take k drafts)) variants h
