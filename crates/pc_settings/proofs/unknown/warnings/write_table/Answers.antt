use Rattle.std.proofs.Common.{ℕ, [], ◌∷◌, ◌++◌, List, String, Global, string_bytes, flat_map, append-nil, append_assoc, sym, ap, subst, ◌∙◌}
use Rattle.std.specs.Io.KnownBytes.{Appends}
use Rattle.pc_settings.specs.UnknownKeys.{unknown_at}
use Rattle.pc_settings.specs.UnknownWords.{warning_of}
use Rattle.pc_settings.proofs.UnknownKeys.{key_lines, lines_more}
use Rattle.pc_settings.proofs.unknown.warnings.write_table.Goals as goal

pub loop-key-preserved : goal.loop-key-preserved
loop-key-preserved g c =
    let at = unknown_at c.args.kind c.args.place in
    let done = c.loop-key.invariant.2 in
    let known = g.W.Write.contents c.loop-key.writer in
    let after = g.W.Write.contents c.write_key.new.writer in
    let wrote : Appends known after (warning_of (at (string_bytes c.in-Some.key.now))) =
    subst (λ key. Appends known after (warning_of (at key))) c.as_bytes.ensures.value c.in_ok-write_key.ensures in (
      tt,
      tt,
      done ++ c.in-Some.key.now ∷ [],
      c.loop-key.invariant.3 ∙ ap (λ left. done ++ left) c.in-Some.ensures.steps ∙ sym (append_assoc done (c.in-Some.key.now ∷ []) c.next.new.self),
      lines_more (λ key. warning_of (at (string_bytes key))) (g.W.Write.contents c.args.writer.now) known after done c.in-Some.key.now c.loop-key.invariant.4 wrote,
    )

pub returns : goal.returns
returns g c =
    let at = unknown_at c.args.kind c.args.place in
    let line : String Global → List ℕ = λ key. warning_of (at (string_bytes key)) in
    let before = g.W.Write.contents c.args.writer.now in
    let after = g.W.Write.contents c.loop-key.writer in
    let all = sym (c.loop-key.invariant.3 ∙ ap (λ left. c.loop-key.invariant.2 ++ left) c.in-None.ensures.steps.0 ∙ append-nil c.loop-key.invariant.2) in
    subst (Appends before after) (ap (flat_map line) all ∙ key_lines warning_of at c.args.table.now.entries) c.loop-key.invariant.4
