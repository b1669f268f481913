-- What stands in front of a run's events asks for the commands that open its world.
use Rattle.std.proofs.Common.{◌≡◌, ◌&&◌, ℕ, suc, Bool, true, false, is_some, List, ◌∷◌, ◌++◌, append_assoc, length, refl, subst, sym, ap, ◌∙◌, inr}
use Rattle.std.specs.List.{list_all}
use Rattle.std.proofs.lemmas.List.{append-nil}
use Rattle.std.specs.Prelude.{codes, decimal, nat_le}
use Rattle.pc_calls.specs.declared.limits.Limits.{Limits}
use Rattle.pc_lab.specs.Heads.{command_line}
use Rattle.pc_load.specs.Variants.{are_numbers, choice_of, is_letter, is_name, is_variant, name_text, switch_word, variant_text}
use Rattle.pc_load.specs.declared.variant.TheConstants.{MOST_NAME}
use Rattle.pc_load.specs.declared.variant.Variant.{Variant}
use Rattle.pc_messages.proofs.Bools.{first_true, second_true}
use Rattle.pc_script.specs.Grammar.{AreInRange, HasNoReply, command_text, row_of, words_of}
use Rattle.pc_policy.proofs.Policies.{policy_neat}
use Rattle.pc_rank.proofs.Neat.{Neat}
use Rattle.pc_policy.specs.Names.{IsReadAgain, is_stealing, order_text, stealing_of, stealing_word}
use Rattle.pc_script.specs.Scripts as script
use Rattle.pc_script.specs.Scripts.{Script}
use Rattle.pc_script.specs.Text.{lines, words}
use Rattle.pc_script.specs.Versions as versions
use Rattle.pc_script.specs.Versions.{Names, Opens}
use Rattle.pc_script.specs.declared.command.Command.{Command}
use Rattle.pc_script.specs.declared.command.Command.TheVariants.{Enclave, Policy}
use Rattle.pc_policy.specs.declared.named.OrderName.{OrderName}
use Rattle.pc_policy.specs.declared.named.PolicyName.{PolicyName}
use Rattle.pc_script.specs.declared.outcome.Outcome.TheVariants.{Finished}
use Rattle.pc_script.specs.declared.version.Version.{Version}
use Rattle.pc_script.specs.declared.version.Version.TheVariants.{One, Two, Three}
use Rattle.pc_replayed.proofs.Lines.{CommandsAreRead, command_ended, neat_printed}
use Rattle.pc_replayed.proofs.OneScript.{apart, command_speaks, first_byte}
use Rattle.pc_replayed.proofs.Printed.{is_printed, line_ended, line_then, printed_both, printed_decimal, printed_name}

-- ---- the comment that tells the variant

letters_of : (variant : Variant) → is_variant (choice_of variant) ≡ true → list_all is_letter variant.name.items ≡ true
letters_of variant good =
    let choice = choice_of variant in
    let name = is_name choice.name in
    let order = is_some choice.order in
    let steals = is_stealing choice.steals in
    let named = first_true name order (first_true (name && order) steals (first_true (name && order && steals) (are_numbers choice) good)) in
    second_true (nat_le 1 (length choice.name) && nat_le (length choice.name) MOST_NAME) (list_all is_letter choice.name) named

steals_printed : (exact : Bool) → is_printed (stealing_word (stealing_of exact)) ≡ true
steals_printed true = refl
steals_printed false = refl

switch_printed : (on : Bool) → is_printed (switch_word on) ≡ true
switch_printed true = refl
switch_printed false = refl

-- a text behind one that is written out
behind : (front text rest : List ℕ) → is_printed front ≡ true → is_printed text ≡ true → is_printed rest ≡ true → is_printed (front ++ (text ++ rest)) ≡ true
behind front text rest before own after = printed_both front (text ++ rest) before (printed_both text rest own after)

-- the words of an order have one space between each two
order_neat : (order : OrderName) → IsReadAgain order → Neat (order_text order)
order_neat order again = subst Neat (append-nil (order_text order)) (policy_neat (record { order = order; exact = false }) again)

variant_printed : (variant : Variant) → is_variant (choice_of variant) ≡ true → IsReadAgain variant.policy.order
    → is_printed (variant_text variant) ≡ true
variant_printed variant good again =
    let name = name_text variant.name.items in
    let order = order_text variant.policy.order in
    let steals = stealing_word (stealing_of variant.policy.exact) in
    let keep = codes ", keep " ++ switch_word variant.keep in
    let urgent = codes ", urgent " ++ (switch_word variant.urgent ++ keep) in
    let cost = codes ", cost " ++ (decimal variant.cost ++ urgent) in
    let delay = codes ", delay " ++ (decimal variant.delay ++ cost) in
    let group = codes ", group " ++ (decimal variant.group ++ delay) in
    let quantum = codes ", quantum " ++ (decimal variant.quantum ++ group) in
    let of_keep : is_printed keep ≡ true = printed_both (codes ", keep ") (switch_word variant.keep) refl (switch_printed variant.keep) in
    let of_urgent : is_printed urgent ≡ true = behind (codes ", urgent ") (switch_word variant.urgent) keep refl (switch_printed variant.urgent) of_keep in
    let of_cost : is_printed cost ≡ true = behind (codes ", cost ") (decimal variant.cost) urgent refl (printed_decimal variant.cost) of_urgent in
    let of_delay : is_printed delay ≡ true = behind (codes ", delay ") (decimal variant.delay) cost refl (printed_decimal variant.delay) of_cost in
    let of_group : is_printed group ≡ true = behind (codes ", group ") (decimal variant.group) delay refl (printed_decimal variant.group) of_delay in
    let of_quantum : is_printed quantum ≡ true = behind (codes ", quantum ") (decimal variant.quantum) group refl (printed_decimal variant.quantum) of_group in
    let of_steals = behind (codes ", steals ") steals quantum refl (steals_printed variant.policy.exact) of_quantum in
    let of_order = behind (codes ": order ") order (codes ", steals " ++ (steals ++ quantum)) refl (neat_printed order (order_neat variant.policy.order again)) of_steals in
    behind (codes "# lab, variant ") name (codes ": order " ++ (order ++ (codes ", steals " ++ (steals ++ quantum)))) refl (printed_name variant.name.items (letters_of variant good)) of_order

-- ---- the lines

-- the text of a head and a body begins with the comment
comment_first : (variant : Variant) (opening body : List ℕ) → is_variant (choice_of variant) ≡ true → IsReadAgain variant.policy.order
    → lines (variant_text variant ++ codes "\n" ++ opening ++ body) ≡ variant_text variant ∷ lines (opening ++ body)
comment_first variant opening body good again =
    ap lines (append_assoc (variant_text variant ++ codes "\n") opening body) ∙ line_ended (variant_text variant) (opening ++ body) (variant_printed variant good again)

pub usual_lines : (variant : Variant) (limits : Limits) (body : List ℕ) → is_variant (choice_of variant) ≡ true → IsReadAgain variant.policy.order
    → AreInRange (row_of (Enclave limits)).fields
    → lines (variant_text variant ++ codes "\n" ++ command_line (Enclave limits) ++ body)
    ≡ variant_text variant ∷ command_text (Enclave limits) ∷ lines body
usual_lines variant limits body good own enclave =
    comment_first variant (command_line (Enclave limits)) body good own ∙ ap (λ more. variant_text variant ∷ more) (command_ended (Enclave limits) body enclave)

pub ruled_lines : (variant : Variant) (limits : Limits) (policy : PolicyName) (body : List ℕ) → is_variant (choice_of variant) ≡ true → IsReadAgain variant.policy.order
    → AreInRange (row_of (Enclave limits)).fields → IsReadAgain policy.order
    → lines (variant_text variant ++ codes "\n" ++ (codes "version 3\n" ++ (command_line (Enclave limits) ++ command_line (Policy policy))) ++ body)
    ≡ variant_text variant ∷ codes "version 3" ∷ command_text (Enclave limits) ∷ command_text (Policy policy) ∷ lines body
ruled_lines variant limits policy body good own written again =
    let enclave = command_line (Enclave limits) in
    let ruling = command_line (Policy policy) in
    let behind_version : lines (enclave ++ ruling ++ body) ≡ command_text (Enclave limits) ∷ command_text (Policy policy) ∷ lines body =
    ap lines (append_assoc enclave ruling body) ∙ command_ended (Enclave limits) (ruling ++ body) written
    ∙ ap (λ more. command_text (Enclave limits) ∷ more) (command_ended (Policy policy) body (again, tt)) in
    let behind_comment : lines (codes "version 3\n" ++ (enclave ++ ruling) ++ body) ≡ codes "version 3" ∷ lines (enclave ++ ruling ++ body) =
    line_then (codes "version 3") (enclave ++ ruling ++ body) refl in
    comment_first variant (codes "version 3\n" ++ (enclave ++ ruling)) body good own
    ∙ ap (λ more. variant_text variant ∷ more) (behind_comment ∙ ap (λ more. codes "version 3" ∷ more) behind_version)

-- ---- the version

version_words : Names Three (codes "version 3")
unfolding words
version_words = refl

module _ (reads : CommandsAreRead) (limits : Limits) (written : AreInRange (row_of (Enclave limits)).fields) where
  spelled : words (command_text (Enclave limits)) ≡ codes "enclave" ∷ words_of (row_of (Enclave limits)).fields
  spelled = (reads (Enclave limits) written).1

  has_reply : HasNoReply (command_text (Enclave limits)) → ⊥
  has_reply = command_speaks One (command_text (Enclave limits)) (Enclave limits) (tt, reads (Enclave limits) written)

  names_none : (version : Version) → Names version (command_text (Enclave limits)) → ⊥
  names_none One names = names
  names_none Two names = apart 101 118 refl (ap first_byte (sym spelled ∙ names))
  names_none Three names = apart 101 118 refl (ap first_byte (sym spelled ∙ names))

  pub usual_opens : (variant : Variant) (more : List (List ℕ))
      → Opens One 1 (command_text (Enclave limits) ∷ more) (variant_text variant ∷ command_text (Enclave limits) ∷ more)
  usual_opens variant more = versions.no_reply (inr refl) (versions.unnamed has_reply names_none)

  pub usual_asks : (more : List (List ℕ)) (commands : List Command) → ((number : ℕ) → Script One number more commands Finished)
      → (number : ℕ) → Script One number (command_text (Enclave limits) ∷ more) (Enclave limits ∷ commands) Finished
  usual_asks more commands later number = script.command (tt, reads (Enclave limits) written) (later (suc number))

  pub ruled_opens : (variant : Variant) (more : List (List ℕ)) → Opens Three 2 more (variant_text variant ∷ codes "version 3" ∷ more)
  ruled_opens variant more = versions.no_reply (inr refl) (versions.named version_words)

  pub ruled_asks : (policy : PolicyName) → IsReadAgain policy.order → (more : List (List ℕ)) (commands : List Command) → ((number : ℕ) → Script Three number more commands Finished)
      → (number : ℕ) → Script Three number (command_text (Enclave limits) ∷ command_text (Policy policy) ∷ more) (Enclave limits ∷ Policy policy ∷ commands) Finished
  ruled_asks policy again more commands later number =
      script.command (tt, reads (Enclave limits) written) (script.command (tt, reads (Policy policy) (again, tt)) (later (suc (suc number))))
