use Rattle.std.proofs.Common.{◌≡◌, ◌∙◌, ◌<◌, ◌+◌, ◌-◌, ◌*◌, ◌^◌, ◌∷◌, ap, arith, drop, get_or, length, length-drop}
use Rattle.std.proofs.lemmas.List.{drop_more, take_all}
use Rattle.pc_script.proofs.Numerals.{read_more, room_for_digit}
use Rattle.pc_script.proofs.words.short_number.Goals as goal

pub overflow_mul-value : goal.overflow_mul-value
overflow_mul-value c =
    let so_far = c.loop-rest.invariant in
    let within : c.loop-rest.count < length c.args.text.now = omega (arith, length-drop c.loop-rest.count c.args.text.now, ap length so_far.rest, c.in-len1-up.len_at_least) in
    let short : c.loop-rest.count < 19 = omega (arith, so_far.short, c.if-count-eq-SHORT.false) in
    omega (arith, room_for_digit c.args.text.now c.loop-rest.count c.loop-rest.value so_far.read within short)

pub overflow_add-value : goal.overflow_add-value
overflow_add-value c =
    let so_far = c.loop-rest.invariant in
    let within : c.loop-rest.count < length c.args.text.now = omega (arith, length-drop c.loop-rest.count c.args.text.now, ap length so_far.rest, c.in-len1-up.len_at_least) in
    let short : c.loop-rest.count < 19 = omega (arith, so_far.short, c.if-count-eq-SHORT.false) in
    omega (arith, room_for_digit c.args.text.now c.loop-rest.count c.loop-rest.value so_far.read within short, c.from.ensures, c.if-not-is_ascii_digit.ensures.cases)

pub loop-rest-preserved : goal.loop-rest-preserved
loop-rest-preserved c =
    let so_far = c.loop-rest.invariant in
    let text = c.args.text.now in
    let count = c.loop-rest.count in
    let value = c.loop-rest.value in
    let within : count < length text = omega (arith, length-drop count text, ap length so_far.rest, c.in-len1-up.len_at_least) in
    let short : count < 19 = omega (arith, so_far.short, c.if-count-eq-SHORT.false) in
    let front : c.loop-rest.rest.now ≡ get_or text count 0 ∷ drop (count + 1) text = so_far.rest ∙ drop_more text count 0 within in
    let digit = rw front at c.if-not-is_ascii_digit.ensures.cases in
    let room = room_for_digit text count value so_far.read within short in
    let small : value * 10 + (get_or text count 0 - 48) < 2 ^ 64 = omega (arith, room, digit) in
    let read = read_more text count value so_far.read within digit small in
    rw c.from.ensures (rw front (record { read = read; short = omega (arith, short); rest = take_all _ _ (omega arith); within = omega (arith, within) }))
