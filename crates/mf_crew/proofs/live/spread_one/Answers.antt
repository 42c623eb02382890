use Rattle.std.proofs.Common.{length, drop, sym, ap, ◌∙◌, ◌++◌}
use Rattle.std.proofs.lemmas.List.{take-append-drop}
use Rattle.mf_crew.proofs.live.spread_one.Goals as goal

pub of_plain-requires-clause-lines : goal.of_plain-requires-clause-lines
of_plain-requires-clause-lines c =
    let n = length c.args.plain.losses in (
      drop n c.args.losses.now,
      sym (take-append-drop n c.args.losses.now) ∙ ap (λ l. l ++ drop n c.args.losses.now) c.requires.lines,
    )
