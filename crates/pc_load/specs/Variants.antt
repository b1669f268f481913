-- What variants are asked for, what is wrong with them, and how one is written.
use Rattle.std.specs.Prelude.{ℕ, ℤ, pos, ◌+◌, ◌==◌, Bool, false, not, ◌&&◌, ◌||◌, nat_le, nat_lt, List}
use Rattle.std.specs.Prelude.{if◌then◌else◌, [], ◌∷◌, ◌++◌, length, flat_map, Option, Some, is_some, bytes_eq}
use Rattle.std.specs.Prelude.{codes, decimal}
use Rattle.std.specs.Prelude.{encode_utf8}
use Rattle.std.specs.List.{list_all}
use Rattle.pc_calls.specs.Conditions.{first_of}
use Rattle.pc_policy.specs.Names.{is_stealing, order_of, order_text, stealing_of, stealing_word}
use Rattle.pc_policy.specs.declared.agent_policy.Stealing.TheVariants.{Least}
use Rattle.pc_policy.specs.declared.named.OrderName.{OrderName}
use Rattle.pc_policy.specs.declared.named.OrderName.TheVariants.{Levels}
use Rattle.pc_load.specs.Loads.{is_between, is_u32}
use Rattle.pc_load.specs.declared.variant.TheConstants.{MOST_VARIANTS, MOST_NAME, MOST_GROUP}
use Rattle.pc_load.specs.declared.variant.Variant.{Variant}
use Rattle.pc_load.specs.declared.variant.VariantDraft.{VariantDraft}
use Rattle.pc_load.specs.declared.variant.VariantFault.{VariantFault}
use Rattle.pc_load.specs.declared.variant.VariantFault.TheVariants.{TooMany, Bad}

-- what is chosen for a variant, in the words and numbers of a text; no order, where the text of it names none
pub record Choice : Type 0 where
  pub name : List ℕ
  pub order : Option OrderName
  pub steals : List ℕ
  pub quantum : ℤ
  pub group : ℤ
  pub delay : ℤ
  pub cost : ℤ
  pub urgent : Bool
  pub keep : Bool

-- what a draft tells
abbrev pub choice_in : VariantDraft → Choice
choice_in draft = record {
  name = draft.name.now;
  order = order_of draft.order.now;
  steals = draft.steals.now;
  quantum = draft.quantum;
  group = draft.group;
  delay = draft.delay;
  cost = draft.cost;
  urgent = draft.urgent;
  keep = draft.keep;
}

-- what was chosen for a variant
abbrev pub choice_of : Variant → Choice
choice_of variant = record {
  name = variant.name.items;
  order = Some variant.policy.order;
  steals = stealing_word (stealing_of variant.policy.exact);
  quantum = pos variant.quantum;
  group = pos variant.group;
  delay = pos variant.delay;
  cost = pos variant.cost;
  urgent = variant.urgent;
  keep = variant.keep;
}

-- the text of its order, where none is given
abbrev pub plain_order : List ℕ
plain_order = order_text Levels

-- the variant of all defaults
abbrev pub plain : Choice
plain = record {
  name = codes "plain";
  order = order_of plain_order;
  steals = stealing_word Least;
  quantum = pos 0;
  group = pos MOST_GROUP;
  delay = pos 0;
  cost = pos 0;
  urgent = false;
  keep = false;
}

-- the plain one, where none is given
abbrev pub or_plain : List Choice → List Choice
or_plain [] = plain ∷ []
or_plain (choice ∷ choices) = choice ∷ choices

-- The faults of variants, in the order in which they are told.

-- a small letter, a digit, a dash or a point
abbrev pub is_letter : ℕ → Bool
is_letter b = (nat_le 97 b && nat_le b 122) || (nat_le 48 b && nat_le b 57) || b == 45 || b == 46

-- 1 to MOST_NAME letters
abbrev pub is_name : List ℕ → Bool
is_name name = nat_le 1 (length name) && nat_le (length name) MOST_NAME && list_all is_letter name

-- the numbers are in their ranges
abbrev pub are_numbers : Choice → Bool
are_numbers choice =
    is_u32 choice.quantum && is_between 1 MOST_GROUP choice.group && is_u32 choice.delay && is_u32 choice.cost

-- each value is in its range
abbrev pub is_variant : Choice → Bool
is_variant choice = is_name choice.name && is_some choice.order && is_stealing choice.steals && are_numbers choice

-- no variant before has the name
abbrev pub is_new : List ℕ → List Choice → Bool
is_new name before = list_all (λ other. not (bytes_eq other.name name)) before

-- what may be wrong with the variants from one place on, behind these
abbrev pub bad_variants : List Choice → ℕ → List Choice → List (Bool × VariantFault)
bad_variants before place [] = []
bad_variants before place (choice ∷ choices) =
    (not (is_variant choice && is_new choice.name before), Bad place)
    ∷ bad_variants (before ++ choice ∷ []) (place + 1) choices

-- the first fault of variants
abbrev pub variant_fault : List Choice → Option VariantFault
variant_fault choices = first_of ((nat_lt MOST_VARIANTS (length choices), TooMany) ∷ bad_variants [] 0 choices)

-- How a variant is written.

-- the word for a setting that is on, or off
abbrev pub switch_word : Bool → List ℕ
switch_word on = if on then codes "true" else codes "false"

-- a name as a text, a character for each byte
abbrev pub name_text : List ℕ → List ℕ
name_text name = flat_map encode_utf8 name

-- the comment that stands in front of the script of a variant
abbrev pub variant_text : Variant → List ℕ
variant_text variant =
    codes "# lab, variant " ++ (name_text variant.name.items
    ++ (codes ": order " ++ (order_text variant.policy.order
    ++ (codes ", steals " ++ (stealing_word (stealing_of variant.policy.exact)
    ++ (codes ", quantum " ++ (decimal variant.quantum
    ++ (codes ", group " ++ (decimal variant.group
    ++ (codes ", delay " ++ (decimal variant.delay
    ++ (codes ", cost " ++ (decimal variant.cost
    ++ (codes ", urgent " ++ (switch_word variant.urgent
    ++ (codes ", keep " ++ switch_word variant.keep))))))))))))))))
