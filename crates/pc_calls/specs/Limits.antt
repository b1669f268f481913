-- The ranges that limits keep, and the first limit that is out of its range.
use Rattle.std.specs.Prelude.{ℕ, Bool, ◌&&◌, not, nat_le, [], ◌∷◌, Option}
use Rattle.pc_messages.specs.declared.message.TheConstants.{GREATEST_NUMBER}
use Rattle.pc_calls.specs.Conditions.{first_of}
use Rattle.pc_calls.specs.declared.limits.TheConstants.{MOST_CPUS, MOST_THREADS, MOST_THREADS_TWO, MOST_NUMBERS}
use Rattle.pc_calls.specs.declared.limits.TheConstants.{MOST_ROOM, MOST_POSTS}
use Rattle.pc_calls.specs.declared.limits.Limits.{Limits}
use Rattle.pc_calls.specs.declared.limits.Profile.{Profile}
use Rattle.pc_calls.specs.declared.limits.Profile.TheVariants.{One, Two}
use Rattle.pc_calls.specs.declared.limits.LimitField.{LimitField}
use Rattle.pc_calls.specs.declared.limits.LimitField.TheVariants as field

-- the greatest counts of threads and of a thread's numbers
abbrev pub most_threads : Profile → ℕ
most_threads One = MOST_THREADS
most_threads Two = MOST_THREADS_TWO

-- the most messages of a thread: 1,000,000 in profile One, 16,000,000 in profile Two
abbrev pub most_numbers : Profile → ℕ
most_numbers One = MOST_NUMBERS
most_numbers Two = GREATEST_NUMBER

-- n is not 1 to the greatest
abbrev pub is_outside : ℕ → ℕ → Bool
is_outside n greatest = not (nat_le 1 n && nat_le n greatest)

-- the first limit that is out of its range
abbrev pub bad_field : Profile → Limits → Option LimitField
bad_field profile limits =
    first_of (
    (is_outside limits.cpus MOST_CPUS, field.Cpus)
    ∷ (is_outside limits.threads (most_threads profile), field.Threads)
    ∷ (is_outside limits.numbers (most_numbers profile), field.Numbers)
    ∷ (is_outside limits.room MOST_ROOM, field.Room)
    ∷ (is_outside limits.posts MOST_POSTS, field.Posts)
    ∷ [])
