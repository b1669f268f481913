use Rattle.std.proofs.Common.{◌≡◌, ◌∙◌, Some, None, sym}
use Rattle.pc_lab.proofs.stage.Stage.do_event.Goals as goal

pub take_event-requires : goal.take_event-requires
take_event-requires g c = (
  λ one is.
      let none : None ≡ Some one = sym (c.requires.0 c.args.self.now.tick) ∙ is in cc,
  c.requires.1,
)
