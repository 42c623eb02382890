use Rattle.std.proofs.Common.{◌≡◌, ◌≤◌, List, length, map, take, ap, ◌∙◌, sym, subst, All}
use Rattle.mf_places.specs.declared.losses.LoseLine.{LoseLine}
use Rattle.mf_vault.specs.Actor.{Actor}
use Rattle.mf_vault.specs.Conditions.{IsIdle}
use Rattle.mf_plain.specs.Alone.{first_actor}
use Rattle.mf_plain.specs.Resting.{Resting, AtRest}
use Rattle.mf_plain.specs.Whole.{actor_of}
use Rattle.mf_client.specs.Clients.{AreFiles, facts_in}
use Rattle.mf_crew.specs.Alone.{first_actors}
use Rattle.mf_crew.proofs.Phased.{all_of, finds_files, all_idle, only_client, left_all, lent, phase_ran}
use Rattle.mf_crew.proofs.alone.run_alone.Goals as goal

pub accesses_of-requires-clause-since : goal.accesses_of-requires-clause-since
accesses_of-requires-clause-since g c =
    all_of c.args.script.now c.args.phase c.args.now c.args.files.items (λ (r : Resting). r.born ≤ c.args.now)
    c.requires.rest (λ n line r is. is.born)

pub accesses_of-requires-clause-lines : goal.accesses_of-requires-clause-lines
accesses_of-requires-clause-lines g c =
    let P : List LoseLine → Resting → Type 0 = λ l r. take (length r.losses) l ≡ r.losses in
    subst (λ l. All (P l) c.args.files.items) (sym c.in_ok-losses.ensures)
    (all_of c.args.script.now c.args.phase c.args.now c.args.files.items _ c.requires.rest (λ n line r is. is.losses))

pub run_client-requires-clause-client : goal.run_client-requires-clause-client
run_client-requires-clause-client g c κs within =
    only_client c.args.script.now c.args.phase c.requires.phase c.requires.one

pub run_client-requires-clause-files : goal.run_client-requires-clause-files
run_client-requires-clause-files g c κs within =
    let s = c.args.script.now in
    let files = c.args.files.items in
    let first : map actor_of c.deref_mut.result.now ≡ first_actors s c.args.phase c.args.now files =
    ap (map actor_of) c.deref_mut.ensures.value ∙ c.in_ok-accesses.ensures
    ∙ ap (λ (l : List LoseLine). map (λ r. first_actor r c.args.now l) files) c.in_ok-losses.ensures in
    subst (λ (actors : List Actor). AreFiles s c.args.phase (facts_in actors)) (sym first)
    (finds_files s c.args.phase c.args.now files c.requires.rest)

pub run_client-requires-clause-idle : goal.run_client-requires-clause-idle
run_client-requires-clause-idle g c κs within =
    let s = c.args.script.now in
    let files = c.args.files.items in
    let first : map actor_of c.deref_mut.result.now ≡ first_actors s c.args.phase c.args.now files =
    ap (map actor_of) c.deref_mut.ensures.value ∙ c.in_ok-accesses.ensures
    ∙ ap (λ (l : List LoseLine). map (λ r. first_actor r c.args.now l) files) c.in_ok-losses.ensures in
    subst (All IsIdle) (sym first) (all_idle s c.args.phase c.args.now files)

pub returns-clause-runs : goal.returns-clause-runs
returns-clause-runs g c =
    let s = c.args.script.now in
    let files = c.args.files.items in
    let first : map actor_of c.deref_mut.result.now ≡ first_actors s c.args.phase c.args.now files =
    ap (map actor_of) c.deref_mut.ensures.value ∙ c.in_ok-accesses.ensures
    ∙ ap (λ (l : List LoseLine). map (λ r. first_actor r c.args.now l) files) c.in_ok-losses.ensures in
    let rest = left_all c.run_client.new.accesses _ c.in_ok-files.files.items
    (lent c.in_ok-accesses.accesses.len c.deref_mut.result.now c.run_client.new.accesses _ c.deref_mut.ensures.len
    c.in_ok-done.ensures.facts) c.in_ok-files.ensures in
    (phase_ran s c.args.phase c.args.now files c.in_ok-files.files.items c.in_ok-done.done.items
    (map actor_of c.deref_mut.result.now) (map actor_of c.run_client.new.accesses) c.requires.one c.requires.rest first
    c.in_ok-done.ensures.runs c.in_ok-done.ensures.facts rest
    (subst (All AtRest) c.deref.ensures.value c.are_at_rest.ensures)).0

pub returns-clause-rest : goal.returns-clause-rest
returns-clause-rest g c =
    let s = c.args.script.now in
    let files = c.args.files.items in
    let first : map actor_of c.deref_mut.result.now ≡ first_actors s c.args.phase c.args.now files =
    ap (map actor_of) c.deref_mut.ensures.value ∙ c.in_ok-accesses.ensures
    ∙ ap (λ (l : List LoseLine). map (λ r. first_actor r c.args.now l) files) c.in_ok-losses.ensures in
    let rest = left_all c.run_client.new.accesses _ c.in_ok-files.files.items
    (lent c.in_ok-accesses.accesses.len c.deref_mut.result.now c.run_client.new.accesses _ c.deref_mut.ensures.len
    c.in_ok-done.ensures.facts) c.in_ok-files.ensures in
    (phase_ran s c.args.phase c.args.now files c.in_ok-files.files.items c.in_ok-done.done.items
    (map actor_of c.deref_mut.result.now) (map actor_of c.run_client.new.accesses) c.requires.one c.requires.rest first
    c.in_ok-done.ensures.runs c.in_ok-done.ensures.facts rest
    (subst (All AtRest) c.deref.ensures.value c.are_at_rest.ensures)).1
