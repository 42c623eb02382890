use Rattle.std.proofs.Common.{arith}
use Rattle.std.proofs.lemmas.Bool.{eqb-true, eq-eqb}
use Rattle.mf_places.proofs.Sets.{none_listed, none_in}
use Rattle.mf_places.proofs.servers.Servers.is_empty.Goals as goal

pub returns : goal.returns
returns c =
    let set = c.args.self in
    (λ test. none_listed set (eqb-true _ _ test), λ none. eq-eqb _ _ (none_in set (omega arith) none))
