use Rattle.std.proofs.Common.{◌≡◌, [], set, sym, subst}
use Rattle.pc_protocol.specs.Seats.{EmptiesMail}
use Rattle.pc_protocol.proofs.Seated.{mail_is_emptied, seat_at}
use Rattle.pc_protocol.proofs.seats.take_mail.Goals as goal

pub returns-clause-empties : goal.returns-clause-empties
returns-clause-empties c =
    let seats = c.args.seats.now.items in
    let seat = c.index_mut.result.now in
    subst (λ m. EmptiesMail c.args.place m.items seats (set seats c.args.place (record seat { mail = c.replace.new.dest }))) (sym c.replace.ensures.value)
    (mail_is_emptied seats c.args.place seat c.requires (seat_at seats c.args.place seat seat c.requires c.index_mut.ensures.value) c.replace.new.dest
    (subst (λ m. m.items ≡ []) (sym c.replace.ensures.after) c.new.ensures.items))
