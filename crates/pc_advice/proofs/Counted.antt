-- What one step more does to the items that a queue holds.
use Rattle.std.proofs.Common.{◌≡◌, ℕ, ◌+◌, ◌-◌, ◌≤◌, ◌==◌, min, Bool, true, false, not, cond, List, [], ◌∷◌, ◌++◌, take, length, reverse, ◌∙◌, ap, refl, sym, arith, if◌then◌else◌, sum_by, length-append}
use Rattle.std.specs.List.{prefix_len, suffix_len}
use Rattle.std.proofs.lemmas.Bool.{true≢false}
use Rattle.std.proofs.lemmas.List.{append-nil, reverse-append, take_all, take-append-le}
use Rattle.std.proofs.lemmas.List.Sums.{sum_by_push}
use Rattle.pc_advice.specs.Behind.{IsHeld, consumes, count_else, ever_held, ever_sent, posted_in, publishes, removed, upto_last}
use Rattle.pc_advice.specs.declared.behind.Items.{Items}
use Rattle.pc_advice.specs.declared.behind.TheConstants.{MOST_HELD}
use Rattle.pc_advice.specs.declared.deed.Deed.{Deed}
use Rattle.pc_advice.specs.declared.deed.Deed.TheVariants as deed
use Rattle.pc_advice.specs.declared.plan.PlannedStep.{PlannedStep}

-- what a queue holds, where no more is removed than was sent, and no more was sent than there is
pub record Holds (first : Items) (queue : ℕ) (steps : List PlannedStep) (items : Items) : Type 0 where
  pub held : IsHeld first queue steps items
  pub sent : removed first queue steps ≤ ever_sent first queue steps
  pub within : ever_sent first queue steps ≤ ever_held first queue steps

-- what a step leaves of the items
pub record Leaves (queue : ℕ) (step : PlannedStep) (old new : Items) : Type 0 where
  pub all : new.all ≡ (let all = min (old.all + posted_in queue step) MOST_HELD in if consumes queue step.deed then all - old.sent else all)
  pub sent : new.sent ≡ if publishes queue step.deed then new.all else (if consumes queue step.deed then 0 else old.sent)

pub holds-first : (first : Items) (queue : ℕ) → first.sent ≤ first.all → Holds first queue [] first
holds-first first queue low = record { held = record { all = omega arith; sent = omega arith }; sent = omega arith; within = omega arith }

suffix_len-push : {A : Type 0} (p : A → Bool) (xs : List A) (y : A) → suffix_len p (xs ++ y ∷ []) ≡ cond (p y) (1 + suffix_len p xs) 0
suffix_len-push p xs y = ap (prefix_len p) (reverse-append xs (y ∷ []))

upto_last-yes : (test : Deed → Bool) (xs : List PlannedStep) (y : PlannedStep) → test y.deed ≡ true → upto_last test (xs ++ y ∷ []) ≡ xs ++ y ∷ []
upto_last-yes test xs y e =
    let none : suffix_len (λ step. not (test step.deed)) (xs ++ y ∷ []) ≡ 0 =
    suffix_len-push (λ step. not (test step.deed)) xs y ∙ ap (λ b. cond (not b) (1 + suffix_len (λ (step : PlannedStep). not (test step.deed)) xs) 0) e in
    ap (λ n. take (length (xs ++ y ∷ []) - n) (xs ++ y ∷ [])) none ∙ take_all (length (xs ++ y ∷ []) - 0) (xs ++ y ∷ []) (omega arith)

upto_last-no : (test : Deed → Bool) (xs : List PlannedStep) (y : PlannedStep) → test y.deed ≡ false → upto_last test (xs ++ y ∷ []) ≡ upto_last test xs
upto_last-no test xs y e =
    let rest = suffix_len (λ (step : PlannedStep). not (test step.deed)) xs in
    let one : suffix_len (λ step. not (test step.deed)) (xs ++ y ∷ []) ≡ 1 + rest =
    suffix_len-push (λ step. not (test step.deed)) xs y ∙ ap (λ b. cond (not b) (1 + rest) 0) e in
    let count : length (xs ++ y ∷ []) - (1 + rest) ≡ length xs - rest = omega (arith, length-append xs (y ∷ [])) in
    let low : length xs - rest ≤ length xs = omega arith in
    ap (λ n. take (length (xs ++ y ∷ []) - n) (xs ++ y ∷ [])) one
    ∙ ap (λ n. take n (xs ++ y ∷ [])) count
    ∙ take-append-le (length xs - rest) xs (y ∷ []) low

count_some : (count : List PlannedStep → ℕ) (xs : List PlannedStep) (y : PlannedStep) (first : ℕ) → count_else count (xs ++ y ∷ []) first ≡ count (xs ++ y ∷ [])
count_some count [] y first = refl
count_some count (x ∷ xs) y first = refl

publish_alone : (queue : ℕ) (d : Deed) → publishes queue d ≡ true → consumes queue d ≡ false
publish_alone queue (deed.Consume cpu) e = absurd (true≢false (sym e))
publish_alone queue (deed.Env call) e = refl
publish_alone queue (deed.Associate t q) e = refl
publish_alone queue (deed.Commit cpu t) e = refl
publish_alone queue (deed.Sleep cpu) e = refl
publish_alone queue (deed.Rouse cpu) e = refl
publish_alone queue (deed.Config q target) e = refl
publish_alone queue (deed.Publish cpu fails) e = refl
publish_alone queue (deed.Deliver cpu delta) e = refl
publish_alone queue (deed.Answer cpu asker) e = refl
publish_alone queue (deed.Pick cpu) e = refl
publish_alone queue (deed.Steal cpu) e = refl
publish_alone queue (deed.Crash cpu) e = refl
publish_alone queue (deed.Ask question) e = refl

ever_held-push : (first : Items) (queue : ℕ) (steps : List PlannedStep) (step : PlannedStep) →
    ever_held first queue (steps ++ step ∷ []) ≡ ever_held first queue steps + posted_in queue step
ever_held-push first queue steps step = omega (arith, sum_by_push (posted_in queue) steps step)

ever_sent-yes : (first : Items) (queue : ℕ) (steps : List PlannedStep) (step : PlannedStep) → publishes queue step.deed ≡ true →
    ever_sent first queue (steps ++ step ∷ []) ≡ ever_held first queue (steps ++ step ∷ [])
ever_sent-yes first queue steps step e =
    ap (λ some. count_else (ever_held first queue) some first.sent) (upto_last-yes (publishes queue) steps step e)
    ∙ count_some (ever_held first queue) steps step first.sent

ever_sent-no : (first : Items) (queue : ℕ) (steps : List PlannedStep) (step : PlannedStep) → publishes queue step.deed ≡ false →
    ever_sent first queue (steps ++ step ∷ []) ≡ ever_sent first queue steps
ever_sent-no first queue steps step e = ap (λ some. count_else (ever_held first queue) some first.sent) (upto_last-no (publishes queue) steps step e)

removed-yes : (first : Items) (queue : ℕ) (steps : List PlannedStep) (step : PlannedStep) → consumes queue step.deed ≡ true →
    removed first queue (steps ++ step ∷ []) ≡ ever_sent first queue (steps ++ step ∷ [])
removed-yes first queue steps step e =
    ap (λ some. count_else (ever_sent first queue) some 0) (upto_last-yes (consumes queue) steps step e)
    ∙ count_some (ever_sent first queue) steps step 0

removed-no : (first : Items) (queue : ℕ) (steps : List PlannedStep) (step : PlannedStep) → consumes queue step.deed ≡ false →
    removed first queue (steps ++ step ∷ []) ≡ removed first queue steps
removed-no first queue steps step e = ap (λ some. count_else (ever_sent first queue) some 0) (upto_last-no (consumes queue) steps step e)

-- the counts before and behind one step more
counts-more : (E S R E' S' R' p old_all old_sent new_all new_sent : ℕ) (publish consume : Bool) →
    old_all ≡ E - R → old_sent ≡ S - R → R ≤ S → S ≤ E → E' ≡ E + p → E' ≤ MOST_HELD →
    S' ≡ cond publish E' S → R' ≡ cond consume S' R →
    new_all ≡ (let all = min (old_all + p) MOST_HELD in cond consume (all - old_sent) all) →
    new_sent ≡ cond publish new_all (cond consume 0 old_sent) → (publish ≡ true → consume ≡ false) →
    (new_all ≡ E' - R') × (new_sent ≡ S' - R') × (R' ≤ S') × (S' ≤ E')
counts-more E S R E' S' R' p old_all old_sent new_all new_sent true true a b c d e f g h j k alone = absurd (true≢false (alone refl))
counts-more E S R E' S' R' p old_all old_sent new_all new_sent true false a b c d e f g h j k alone = (omega arith, omega arith, omega arith, omega arith)
counts-more E S R E' S' R' p old_all old_sent new_all new_sent false true a b c d e f g h j k alone = (omega arith, omega arith, omega arith, omega arith)
counts-more E S R E' S' R' p old_all old_sent new_all new_sent false false a b c d e f g h j k alone = (omega arith, omega arith, omega arith, omega arith)

by_publish : (first : Items) (queue : ℕ) (steps : List PlannedStep) (step : PlannedStep) (b : Bool) → publishes queue step.deed ≡ b →
    ever_sent first queue (steps ++ step ∷ []) ≡ cond b (ever_held first queue (steps ++ step ∷ [])) (ever_sent first queue steps)
by_publish first queue steps step true e = ever_sent-yes first queue steps step e
by_publish first queue steps step false e = ever_sent-no first queue steps step e

by_consume : (first : Items) (queue : ℕ) (steps : List PlannedStep) (step : PlannedStep) (b : Bool) → consumes queue step.deed ≡ b →
    removed first queue (steps ++ step ∷ []) ≡ cond b (ever_sent first queue (steps ++ step ∷ [])) (removed first queue steps)
by_consume first queue steps step true e = removed-yes first queue steps step e
by_consume first queue steps step false e = removed-no first queue steps step e

pub holds-more : (first : Items) (queue : ℕ) (steps : List PlannedStep) (step : PlannedStep) (old new : Items) →
    Holds first queue steps old → Leaves queue step old new → ever_held first queue (steps ++ step ∷ []) ≤ MOST_HELD →
    Holds first queue (steps ++ step ∷ []) new
holds-more first queue steps step old new h leaves low =
    let facts = counts-more (ever_held first queue steps) (ever_sent first queue steps) (removed first queue steps)
    (ever_held first queue (steps ++ step ∷ [])) (ever_sent first queue (steps ++ step ∷ [])) (removed first queue (steps ++ step ∷ []))
    (posted_in queue step) old.all old.sent new.all new.sent (publishes queue step.deed) (consumes queue step.deed)
    h.held.all h.held.sent h.sent h.within (ever_held-push first queue steps step) low
    (by_publish first queue steps step (publishes queue step.deed) refl) (by_consume first queue steps step (consumes queue step.deed) refl)
    leaves.all leaves.sent (publish_alone queue step.deed) in
    record { held = record { all = facts.0; sent = facts.1 }; sent = facts.2; within = facts.3 }
