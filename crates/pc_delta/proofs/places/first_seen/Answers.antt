use Rattle.std.proofs.Common.{refl, sym, ap, ◌∙◌, inr}
use Rattle.std.specs.Option.{option_copied}
use Rattle.std.specs.BTreeMap.{get}
use Rattle.pc_delta.specs.Inner.Places.{place_cmp}
use Rattle.pc_delta.proofs.Conflicts.{put_there, put_elsewhere}
use Rattle.pc_delta.proofs.places.first_seen.Goals as goal

pub returns : goal.returns
returns g c = record {
  there = put_there c.args.here c.args.here c.args.value (get place_cmp c.args.seen.now c.args.here) (get place_cmp c.insert.new.self c.args.here) (c.in_ok-insert.ensures.updates.0 c.args.here) refl;
  elsewhere = λ q ne. put_elsewhere c.args.here q c.args.value (get place_cmp c.args.seen.now q) (get place_cmp c.insert.new.self q) (c.in_ok-insert.ensures.updates.0 q) ne;
  before = inr (sym c.get.ensures.value ∙ ap option_copied c.in_default.is, refl);
}
