use Rattle.std.proofs.Common.{sym, ap, ◌∙◌, subst, List, map}
use Rattle.mf_places.specs.declared.Name.{Name}
use Rattle.mf_vault.specs.Actor.{Actor}
use Rattle.mf_client.specs.Steps.{AllLosable, rows}
use Rattle.mf_client.proofs.Losses.{losable_all}
use Rattle.mf_client.proofs.Numbered.{all_kept}
use Rattle.mf_client.proofs.losing.lose_server.Goals as goal

pub lose_all-requires-clause-may : goal.lose_all-requires-clause-may
lose_all-requires-clause-may g c =
    let old = map g.A.Access.actor c.args.accesses.now in
    let lists = ap rows c.as_slice.ensures.value ∙ c.in-Ok.ensures.lists in
    subst (λ (l : List (List Name)). AllLosable c.args.line l (map g.A.Access.actor c.prepared.new.accesses)) (sym
    lists)
    (subst (λ (l : List Actor). AllLosable c.args.line (Rattle.mf_client.specs.Acts.lists_on c.args.server old) l)
    (sym c.prepared.ensures.stays)
    (losable_all c.args.line c.args.server old (all_kept g.A.Access.actor c.args.accesses.now (λ x.
    g.met.A.Access.kept x))
    c.requires.line))
