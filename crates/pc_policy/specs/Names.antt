-- Policies by their texts.
use Rattle.std.specs.Prelude.{◌≡◌, ◌≤◌, ℕ, Bool, true, false, not, ◌&&◌, ◌||◌, bytes_eq, if◌then◌else◌, List, [], ◌++◌}
use Rattle.std.specs.Prelude.{codes, drop, length, take, All, Option, Some, None, option_map}
use Rattle.pc_policy.specs.declared.agent_policy.AgentPolicy.{AgentPolicy}
use Rattle.pc_policy.specs.declared.agent_policy.Stealing.{Stealing}
use Rattle.pc_policy.specs.declared.agent_policy.Stealing.TheVariants.{Exact, Least}
use Rattle.pc_policy.specs.declared.named.OrderFault.{OrderFault}
use Rattle.pc_policy.specs.declared.named.OrderFault.TheVariants as fault
use Rattle.pc_policy.specs.declared.named.OrderName.{OrderName}
use Rattle.pc_policy.specs.declared.named.OrderName.TheVariants.{Levels, Fifo, LeastRan, LevelsThenLeastRan, Rank}
use Rattle.pc_policy.specs.declared.named.PolicyName.{PolicyName}
use Rattle.pc_policy.specs.Rankings.{ranks_named}
use Rattle.pc_policy.specs.Rules.{Rules, rules_of}
use Rattle.pc_rank.specs.Expressions.{Tree}
use Rattle.pc_rank.specs.Reading.{IsReadable, IsText, Refuses, expression_of}
use Rattle.pc_rank.specs.Texts.{text_of}

-- how orders are written: by a word, or as `rank` and an expression
abbrev pub order_text : OrderName → List ℕ
order_text Levels = codes "levels"
order_text Fifo = codes "fifo"
order_text LeastRan = codes "least-ran"
order_text LevelsThenLeastRan = codes "levels-then-least-ran"
order_text (Rank expression) = codes "rank " ++ text_of expression

-- the order has a word
abbrev pub is_built_in : OrderName → Bool
is_built_in (Rank expression) = false
is_built_in other = true

-- Behind `rank` and a space the text has this expression, in 512 bytes at most
pub record IsRank (text : List ℕ) (expression : Tree) : Type 0 where
  pub rest : List ℕ
  pub is : text ≡ codes "rank " ++ rest
  pub short : length rest ≤ 512
  pub spelled : IsText rest expression
  pub readable : IsReadable expression

-- the text is one of the order's: its word, or one of its expression behind `rank`
abbrev pub IsOrder : List ℕ → OrderName → Type 0
IsOrder text (Rank expression) = IsRank text expression
IsOrder text other = text ≡ order_text other

-- the word is that of an order
abbrev pub is_order : List ℕ → Bool
is_order word =
    bytes_eq word (order_text Levels) || bytes_eq word (order_text Fifo) || bytes_eq word (order_text LeastRan)
    || bytes_eq word (order_text LevelsThenLeastRan)

-- Why a text names no order: it is no order's word and has no `rank` and space in front, or what stands behind these is
-- refused as an expression
abbrev pub NamesNoOrder : List ℕ → OrderFault → Type 0
NamesNoOrder text fault.NoOrder = (is_order text ≡ false) × ((rest : List ℕ) → text ≡ codes "rank " ++ rest → ⊥)
NamesNoOrder text (fault.Rank why) = (rest : List ℕ) × (text ≡ codes "rank " ++ rest) × Refuses rest why

-- the word for what a steal takes: the least name, or of the threads that are known entirely the best
abbrev pub stealing_word : Stealing → List ℕ
stealing_word Least = codes "least"
stealing_word Exact = codes "exact"

-- the word is that of what a steal takes
abbrev pub is_stealing : List ℕ → Bool
is_stealing word = bytes_eq word (stealing_word Least) || bytes_eq word (stealing_word Exact)

-- the further word of a policy whose steals are exact
abbrev pub exact_ending : Bool → List ℕ
exact_ending exact = if exact then codes " exact" else []

-- the order that a text names, by its word or by an expression behind `rank `; none, where it names none
abbrev pub order_of : List ℕ → Option OrderName
order_of text =
    if bytes_eq text (order_text Levels) then Some Levels
    else if bytes_eq text (order_text Fifo) then Some Fifo
    else if bytes_eq text (order_text LeastRan) then Some LeastRan
    else if bytes_eq text (order_text LevelsThenLeastRan) then Some LevelsThenLeastRan
    else if bytes_eq (take 5 text) (codes "rank ") then option_map Rank (expression_of (drop 5 text))
    else None

-- how a policy is written: its order, and a further word where steals are exact
abbrev pub policy_text : PolicyName → List ℕ
policy_text policy = order_text policy.order ++ exact_ending policy.exact

-- the text ends so
abbrev pub Ends : List ℕ → List ℕ → Type 0
Ends ending text = (front : List ℕ) × (text ≡ front ++ ending)

-- What stands in front of ` exact` at the end of a text is of the order, and where it does not end so, the text is
abbrev pub IsOrderBefore : Bool → List ℕ → OrderName → Type 0
IsOrderBefore true text order = (front : List ℕ) × IsOrder front order × (text ≡ front ++ codes " exact")
IsOrderBefore false text order = IsOrder text order × (Ends (codes " exact") text → ⊥)

-- The text is one of the policy's: one of its order, and a further word where steals are exact
abbrev pub IsPolicy : List ℕ → PolicyName → Type 0
IsPolicy text policy = IsOrderBefore policy.exact text policy.order

-- Why a text names no policy: its order, which stands in front of ` exact` where it ends so, is named by none
pub record NamesNoPolicy (text : List ℕ) (fault : OrderFault) : Type 0 where
  pub front : List ℕ
  pub exact : Bool
  pub is : text ≡ front ++ exact_ending exact
  pub whole : exact ≡ false → Ends (codes " exact") text → ⊥
  pub order : NamesNoOrder front fault

-- what is written of the order is read again: of an expression, where it is within the limits
abbrev pub IsReadAgain : OrderName → Type 0
IsReadAgain (Rank expression) = IsReadable expression
IsReadAgain other = Unit {0}

-- what a steal takes
abbrev pub stealing_of : Bool → Stealing
stealing_of true = Exact
stealing_of false = Least

-- it is the order of levels
abbrev pub is_levels : OrderName → Bool
is_levels Levels = true
is_levels other = false

-- agents go by it where no policy is given
abbrev pub is_usual : PolicyName → Bool
is_usual policy = is_levels policy.order && not policy.exact

-- the rules of a policy
abbrev pub rules_named : PolicyName → Rules
rules_named policy = record { ranks = ranks_named policy.order; exact = policy.exact }

-- so many policies, each with these rules
pub record AreAll (rules : Rules) (count : ℕ) (policies : List AgentPolicy) : Type 0 where
  pub many : length policies ≡ count
  pub each : All (λ policy. rules_of policy ≡ rules) policies
