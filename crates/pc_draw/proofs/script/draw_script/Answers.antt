use Rattle.std.proofs.Common.{ℕ, List}
use Rattle.std.specs.Io.KnownBytes.{Appends, Keeps}
use Rattle.std.proofs.KnownBytes.{Keeps-refl}
use Rattle.pc_session.specs.Session.{IsSession}
use Rattle.pc_draw.specs.Parts.{HasLine, IsMissing}
use Rattle.pc_draw.specs.Pictures.{IsPictureOf}
use Rattle.pc_draw.proofs.Drawings.{known_all, known_both, known_has}
use Rattle.pc_draw.proofs.Recordings.{drawn_from_nothing}
use Rattle.pc_draw.proofs.script.draw_script.Goals as goal

pub returns-in-Some-missing_cpus-clause-ok : goal.returns-in-Some-missing_cpus-clause-ok
returns-in-Some-missing_cpus-clause-ok g c =
    let held = g.W.Write.contents c.args.writer.now in
    known_all (λ text. IsMissing c.args.part text c.in-Some-missing_cpus.missing × Keeps held held) _
    (λ text. (c.in-Some-missing_cpus.ensures text, Keeps-refl held))

pub returns-clause-ok : goal.returns-clause-ok
returns-clause-ok g c =
    let old = g.W.Write.contents c.args.writer.now in
    let new = g.W.Write.contents c.draw_recorded.new.writer in
    let known = c.in_ok-text.ensures.ok in
    let walked = rw c.as_slice-2.ensures.value at c.in_ok-outcome.ensures.ok in
    let has = rw c.as_slice.ensures.value at c.in_default.ensures in
    known_both (HasLine c.args.part) (λ text. (written : List ℕ) × IsPictureOf IsSession text c.in_ok-outcome.outcome written × Appends old new written) _
    (known_has (HasLine c.args.part) _ c.in_ok-text.text.items known has)
    (drawn_from_nothing _ c.in_ok-text.text.items _ _ _ _ _ walked.version walked.responses c.new-recorder.ensures known walked.runs walked.told.1 c.in_ok-draw_recorded.ensures.ok)
