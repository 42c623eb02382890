use Rattle.std.proofs.Common.{ap, ◌∙◌, fold, arith}
use Rattle.std.proofs.lemmas.List.{take_all}
use Rattle.mf_places.specs.Servers.{no_servers, with_server, set_of}
use Rattle.mf_places.proofs.Sets.{in-set_of}
use Rattle.mf_places.proofs.servers.Servers.of.Goals as goal

pub returns-clause-value : goal.returns-clause-value
unfolding set_of
returns-clause-value c = c.loop-server.invariant
    ∙ ap (fold with_server no_servers) (take_all c.loop-server.server-index c.args.servers.now (omega arith))

pub returns-clause-members : goal.returns-clause-members
returns-clause-members c = λ server. rw (returns-clause-value c) (in-set_of c.args.servers.now server)
