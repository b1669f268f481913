use Rattle.std.proofs.Common.{inr}
use Rattle.pc_session.specs.Session.{IsSession, RanOut}
use Rattle.pc_explain.proofs.Tellings.{whole_explained, whole_printed, until_explained}
use Rattle.pc_explain.proofs.explain.explain_script.Goals as goal

pub returns-clause-ok : goal.returns-clause-ok
returns-clause-ok g c =
    let whole = c.as_slice.ensures.value in
    let walked = rw whole at c.walk.ensures.ok in
    whole_explained IsSession _ c.in_ok-text.text.items _ _ _ _ c.walk.result c.in_ok-text.ensures.ok walked

pub returns-clause-printed : goal.returns-clause-printed
returns-clause-printed g c = whole_printed IsSession _ _ _ _ _ c.walk.result c.walk.ensures.ok

pub returns-clause-no_memory : goal.returns-clause-no_memory
returns-clause-no_memory g c = λ is.
    let whole = c.as_slice.ensures.value in
    let walked = rw whole at (c.walk.ensures.no_memory is) in
    inr (until_explained IsSession RanOut _ c.in_ok-text.text.items _ _ _ _ c.in_ok-text.ensures.ok walked)
