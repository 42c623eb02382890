use Rattle.std.proofs.Common.{sym, ap, ◌∙◌, ◌≡◌, refl, subst, map, List, All}
use Rattle.mf_places.specs.declared.servers.Servers.{Servers}
use Rattle.mf_script.specs.Families.{file_policies}
use Rattle.mf_vault.specs.Actor.{Actor}
use Rattle.mf_client.specs.declared.done.Part.{Part}
use Rattle.mf_client.specs.Acts.{Acts, away_of, cut_all}
use Rattle.mf_client.specs.Runs.{io_gained}
use Rattle.mf_client.specs.Steps.{Finds}
use Rattle.mf_client.proofs.Numbered.{cut_finds, all_cut, io_cut}
use Rattle.mf_client.proofs.running.run_command.Goals as goal

pub act-came-requires-clause-finds : goal.act-came-requires-clause-finds
act-came-requires-clause-finds g c =
    subst (Finds c.args.script.now c.args.command) (sym c.cut_all.ensures)
    (cut_finds c.args.script.now c.args.command c.away_of.result (map g.A.Access.actor c.args.accesses.now) c.requires)

pub act-came-requires-clause-reached : goal.act-came-requires-clause-reached
act-came-requires-clause-reached g c =
    subst (All (λ (a : Actor). a.cut ≡ away_of c.args.command.act)) (sym c.cut_all.ensures)
    (subst (λ (s : Servers). All (λ (a : Actor). a.cut ≡ s)
    (cut_all c.away_of.result (map g.A.Access.actor c.args.accesses.now))) c.away_of.ensures
    (all_cut c.away_of.result (map g.A.Access.actor c.args.accesses.now)))

pub returns : goal.returns
returns g c =
    let old = map g.A.Access.actor c.args.accesses.now in
    let now = map g.A.Access.actor c.act-came.new.accesses in
    let cut = c.cut_all.ensures ∙ ap (λ (s : Servers). cut_all s old) c.away_of.ensures in
    let parts = c.new.ensures in
    let o = c.act-came.result.outcome in
    record {
      place = refl;
      act = refl;
      acts = subst (λ (l : List Part). Acts (file_policies c.args.script.now) c.args.command.line c.args.command.act o l
          (cut_all (away_of c.args.command.act) old) now) (sym parts)
          (subst (λ (l : List Actor). Acts (file_policies c.args.script.now) c.args.command.line c.args.command.act o
          c.act-came.result.parts.items l now) cut
          c.act-came.ensures.acts);
      io = c.act-came.ensures.io ∙ ap (λ l. io_gained l now) cut
          ∙ io_cut (away_of c.args.command.act) old now;
    }
