use Rattle.std.proofs.Common.{◌≡◌, ◌+◌, ◌-◌, ◌++◌, ◌∙◌, ap, arith, length, take}
use Rattle.std.proofs.lemmas.Slice.{take-put_mid, drop-put_mid}
use Rattle.std.proofs.lemmas.Grind.{common_steps}
use Rattle.pc_script.proofs.text.put_any.Goals as goal

pub returns : goal.returns
returns c =
    let at = c.args.at in
    let text = c.args.text.now in
    let long = length text in
    let old = c.args.bytes.now in
    let copied : c.copy_from_slice.new.self ≡ text = c.copy_from_slice.ensures.after in
    let as_long : length c.copy_from_slice.new.self ≡ long = ap length copied in
    let part = at + long - at in
    record {
      bytes = take-put_mid at part old c.copy_from_slice.new.self (at + long) (omega (arith, as_long)) (omega (arith, c.requires))
          ∙ ap (λ l. take at old ++ l) copied;
      rest = drop-put_mid at part old c.copy_from_slice.new.self (at + long) (omega arith) (omega (arith, c.requires)) (omega (arith, as_long));
      moved = omega arith;
      same_length = grind (arith, common_steps);
    }
