use Rattle.std.proofs.Output.{has_written_of_eq}
use Rattle.std.proofs.lemmas.Bool.{both_ways}
use Rattle.mf_places.specs.Servers.{servers_of}
use Rattle.mf_lines.proofs.ActLemmas.{servers_joined}
use Rattle.mf_lines.proofs.texts.ReachDisplay.fmt.Goals as goal

pub returns-else-is_empty-clause-writes : goal.returns-else-is_empty-clause-writes
returns-else-is_empty-clause-writes g c = λ plain ok.
    let reach = c.args.self.now in
    has_written_of_eq _ _ _ _ _
    (servers_joined reach.name.now (servers_of reach.away)
    (λ none. both_ways c.is_empty.result c.if-is_empty.false (c.is_empty.ensures.1 none)))
    (c.write-else-is_empty.ensures.writes plain ok)
