-- The ranges that limits without a bad field keep.
use Rattle.std.proofs.Common.{◌≡◌, ℕ, ◌≤◌, Bool, true, false, List, [], ◌∷◌, None, refl, arith}
use Rattle.std.proofs.lemmas.Bool.Decides.{nat_tests}
use Rattle.pc_messages.specs.declared.message.TheConstants.{GREATEST_NUMBER}
use Rattle.pc_calls.specs.Conditions.{first_of}
use Rattle.pc_calls.specs.Limits.{is_outside, bad_field, most_threads, most_numbers}
use Rattle.pc_calls.specs.declared.limits.TheConstants.{MOST_CPUS, MOST_THREADS_TWO, MOST_ROOM, MOST_POSTS}
use Rattle.pc_calls.specs.declared.limits.Limits.{Limits}
use Rattle.pc_calls.specs.declared.limits.Profile.{Profile}
use Rattle.pc_calls.specs.declared.limits.Profile.TheVariants.{One, Two}
use Rattle.pc_calls.specs.declared.limits.LimitField.TheVariants as field

-- the ranges of profile Two
pub record AreRanges (limits : Limits) : Type 0 where
  pub some_cpus : 1 ≤ limits.cpus
  pub few_cpus : limits.cpus ≤ MOST_CPUS
  pub some_threads : 1 ≤ limits.threads
  pub few_threads : limits.threads ≤ MOST_THREADS_TWO
  pub some_numbers : 1 ≤ limits.numbers
  pub few_numbers : limits.numbers ≤ GREATEST_NUMBER
  pub some_room : 1 ≤ limits.room
  pub little_room : limits.room ≤ MOST_ROOM
  pub some_posts : 1 ≤ limits.posts
  pub few_posts : limits.posts ≤ MOST_POSTS

-- none of the conditions holds
abbrev NoneOf : {X : Type 0} → List (Bool × X) → Type 0
NoneOf [] = Unit {0}
NoneOf (c ∷ cs) = (c.0 ≡ false) × NoneOf cs

none_of : {X : Type 0} (cs : List (Bool × X)) → first_of cs ≡ None → NoneOf cs
none_of [] e = tt
none_of ((true, x) ∷ cs) e = cc
none_of ((false, x) ∷ cs) e = (refl, none_of cs e)

inside : (n g : ℕ) → is_outside n g ≡ false → (1 ≤ n) × (n ≤ g)
inside n g e = (grind (arith, nat_tests), grind (arith, nat_tests))

within : (n g : ℕ) → 1 ≤ n → n ≤ g → is_outside n g ≡ false
within n g l m = grind (arith, nat_tests)

threads_le : (profile : Profile) → most_threads profile ≤ MOST_THREADS_TWO
threads_le One = omega arith
threads_le Two = omega arith

numbers_le : (profile : Profile) → most_numbers profile ≤ GREATEST_NUMBER
numbers_le One = omega arith
numbers_le Two = omega arith

-- the ranges of every profile are within those of profile Two
ranges_of : (profile : Profile) (limits : Limits) → bad_field profile limits ≡ None → AreRanges limits
ranges_of profile limits e =
    let p =
    none_of (
    (is_outside limits.cpus MOST_CPUS, field.Cpus)
    ∷ (is_outside limits.threads (most_threads profile), field.Threads)
    ∷ (is_outside limits.numbers (most_numbers profile), field.Numbers)
    ∷ (is_outside limits.room MOST_ROOM, field.Room)
    ∷ (is_outside limits.posts MOST_POSTS, field.Posts)
    ∷ []) e in
    let cpus = inside limits.cpus MOST_CPUS p.0 in
    let threads = inside limits.threads (most_threads profile) p.1.0 in
    let numbers = inside limits.numbers (most_numbers profile) p.1.1.0 in
    let room = inside limits.room MOST_ROOM p.1.1.1.0 in
    let posts = inside limits.posts MOST_POSTS p.1.1.1.1.0 in
    let t = threads_le profile in
    let n = numbers_le profile in
    record {
      some_cpus = cpus.0;
      few_cpus = cpus.1;
      some_threads = threads.0;
      few_threads = omega arith;
      some_numbers = numbers.0;
      few_numbers = omega arith;
      some_room = room.0;
      little_room = room.1;
      some_posts = posts.0;
      few_posts = posts.1;
    }

pub ranges : (limits : Limits) → bad_field Two limits ≡ None → AreRanges limits
ranges limits e = ranges_of Two limits e

-- limits of some profile are limits of profile Two
pub widest : (profile : Profile) (limits : Limits) → bad_field profile limits ≡ None → bad_field Two limits ≡ None
widest profile limits e =
    let r = ranges_of profile limits e in
    rw (
      within limits.cpus MOST_CPUS r.some_cpus r.few_cpus,
      within limits.threads MOST_THREADS_TWO r.some_threads r.few_threads,
      within limits.numbers GREATEST_NUMBER r.some_numbers r.few_numbers,
      within limits.room MOST_ROOM r.some_room r.little_room,
      within limits.posts MOST_POSTS r.some_posts r.few_posts,
    ) refl
