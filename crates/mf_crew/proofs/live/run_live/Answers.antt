use Rattle.std.proofs.Common.{◌≡◌, ◌<◌, ◌≤◌, List, length, map, take, All, ap, ◌∙◌, sym, subst, arith}
use Rattle.mf_places.specs.declared.losses.LoseLine.{LoseLine}
use Rattle.mf_plain.specs.Resting.{Resting, facts_of}
use Rattle.mf_shared.specs.declared.shared.Shared.{Shared}
use Rattle.mf_shared.specs.Shared.{facts_in as facts_at}
use Rattle.mf_crew.specs.Live.{new_view, share_of, untabled}
use Rattle.mf_crew.specs.Parts.{AreAllOf, AreJobs, AreNew, facts_of_all, take_in, views_in}
use Rattle.mf_crew.proofs.Phased.{all_of}
use Rattle.mf_crew.proofs.Gathering.{Finds, AreReports, map_twice, runnable, reports_are, all_of_files, last_whole}
use Rattle.mf_crew.proofs.Gathering.{live_ran, live_rest}
use Rattle.mf_crew.proofs.live.run_live.Goals as goal

pub spread-requires-clause-since : goal.spread-requires-clause-since
spread-requires-clause-since g c =
    all_of c.args.script.now c.args.phase c.args.now c.args.files.items (λ (r : Resting). r.born ≤ c.args.now)
    c.requires.rest (λ n line r is. is.born)

pub spread-requires-clause-lines : goal.spread-requires-clause-lines
spread-requires-clause-lines g c =
    let P : List LoseLine → Resting → Type 0 = λ l r. take (length r.losses) l ≡ r.losses in
    subst (λ l. All (P l) c.args.files.items) (sym c.in_ok-losses.ensures)
    (all_of c.args.script.now c.args.phase c.args.now c.args.files.items _ c.requires.rest (λ n line r is. is.losses))

pub run_jobs-requires-after_bounds : goal.run_jobs-requires-after_bounds
run_jobs-requires-after_bounds g c κs within =
    let s = c.args.script.now in
    let p = c.args.phase in
    let before = c.args.files.items in
    let shareds = c.in_ok-shareds.shareds.items in
    let files = facts_of_all shareds in
    let finds : Finds s p c.args.now before files =
    map_twice facts_at untabled shareds ∙ c.in_ok-shareds.ensures.found
    ∙ ap (λ (l : List LoseLine). map (λ r. facts_of r c.args.now l) before) c.in_ok-losses.ensures in
    let jobs : AreJobs files c.in_ok-jobs.jobs.items =
    subst (λ (l : List Shared). AreJobs (facts_of_all l) c.in_ok-jobs.jobs.items) c.deref.ensures.value
    c.in_ok-jobs.ensures.jobs in
    runnable s p c.args.now c.count_clients-clients.result before files c.in_ok-jobs.jobs.items c.requires.phase
    c.count_clients-clients.ensures.count c.requires.rest finds c.in_ok-jobs.ensures.count jobs

pub gather-requires-clause-all : goal.gather-requires-clause-all
gather-requires-clause-all g c =
    let s = c.args.script.now in
    let p = c.args.phase in
    let shareds = c.in_ok-shareds.shareds.items in
    let files = facts_of_all shareds in
    let rs = c.in_ok-reports.reports.items in
    let jobs : AreJobs files c.in_ok-jobs.jobs.items =
    subst (λ (l : List Shared). AreJobs (facts_of_all l) c.in_ok-jobs.jobs.items) c.deref.ensures.value
    c.in_ok-jobs.ensures.jobs in
    let long : length rs ≡ length c.in_ok-jobs.jobs.items =
    omega (arith, c.in_ok-reports.ensures.len, c.in_ok-reports.reports.ok.0, c.in_ok-jobs.jobs.ok.0) in
    let are : AreReports s p 0 files rs =
    reports_are s p files c.in_ok-jobs.jobs.items rs long jobs c.in_ok-reports.ensures.each in
    subst (λ (l : List Shared). AreAllOf l rs) (sym c.deref-2.ensures.value) (all_of_files s p 0 shareds rs are)

pub rest_of-requires-clause-last : goal.rest_of-requires-clause-last
rest_of-requires-clause-last g c =
    let s = c.args.script.now in
    let p = c.args.phase in
    let shareds = c.in_ok-shareds.shareds.items in
    let files = facts_of_all shareds in
    let rs = c.in_ok-reports.reports.items in
    let jobs : AreJobs files c.in_ok-jobs.jobs.items =
    subst (λ (l : List Shared). AreJobs (facts_of_all l) c.in_ok-jobs.jobs.items) c.deref.ensures.value
    c.in_ok-jobs.ensures.jobs in
    let long : length rs ≡ length c.in_ok-jobs.jobs.items =
    omega (arith, c.in_ok-reports.ensures.len, c.in_ok-reports.reports.ok.0, c.in_ok-jobs.jobs.ok.0) in
    let are : AreReports s p 0 files rs =
    reports_are s p files c.in_ok-jobs.jobs.items rs long jobs c.in_ok-reports.ensures.each in
    let n = c.count_clients-clients.result in
    let count : length rs ≡ n = long ∙ c.in_ok-jobs.ensures.count in
    let new : views_in c.deal.new.seats.items ≡ map (new_view (share_of n)) files =
    subst (λ (l : List Shared). AreNew n (facts_of_all l) c.deal.new.seats.items) c.deref.ensures.value
    c.in_ok-jobs.ensures.new in
    last_whole s p n files (views_in c.deal.new.seats.items) c.gather.new.seats.items rs
    c.count_clients-clients.ensures.few.1 count c.in_ok-done.ensures.held are new c.in_ok-done.ensures.views

pub returns-clause-runs : goal.returns-clause-runs
returns-clause-runs g c =
    let s = c.args.script.now in
    let p = c.args.phase in
    let before = c.args.files.items in
    let shareds = c.in_ok-shareds.shareds.items in
    let files = facts_of_all shareds in
    let rs = c.in_ok-reports.reports.items in
    let finds : Finds s p c.args.now before files =
    map_twice facts_at untabled shareds ∙ c.in_ok-shareds.ensures.found
    ∙ ap (λ (l : List LoseLine). map (λ r. facts_of r c.args.now l) before) c.in_ok-losses.ensures in
    let jobs : AreJobs files c.in_ok-jobs.jobs.items =
    subst (λ (l : List Shared). AreJobs (facts_of_all l) c.in_ok-jobs.jobs.items) c.deref.ensures.value
    c.in_ok-jobs.ensures.jobs in
    let long : length rs ≡ length c.in_ok-jobs.jobs.items =
    omega (arith, c.in_ok-reports.ensures.len, c.in_ok-reports.reports.ok.0, c.in_ok-jobs.jobs.ok.0) in
    let are : AreReports s p 0 files rs =
    reports_are s p files c.in_ok-jobs.jobs.items rs long jobs c.in_ok-reports.ensures.each in
    let n = c.count_clients-clients.result in
    let count : length rs ≡ n = long ∙ c.in_ok-jobs.ensures.count in
    let new : views_in c.deal.new.seats.items ≡ map (new_view (share_of n)) files =
    subst (λ (l : List Shared). AreNew n (facts_of_all l) c.deal.new.seats.items) c.deref.ensures.value
    c.in_ok-jobs.ensures.new in
    let many : 1 < n = omega (arith, c.requires.many, c.count_clients-clients.ensures.count) in
    (live_ran s p c.args.now before c.in_ok-files.files.items files n (views_in c.gather.new.seats.items) rs
    c.in_ok-done.done.items c.count_clients-clients.ensures.count many finds count c.in_ok-done.ensures.held are
    (c.in_ok-done.ensures.views ∙ ap (λ l. take_in l rs) new) c.in_ok-done.ensures.done c.in_ok-files.ensures).0

pub returns-clause-rest : goal.returns-clause-rest
returns-clause-rest g c =
    let s = c.args.script.now in
    let p = c.args.phase in
    let before = c.args.files.items in
    let shareds = c.in_ok-shareds.shareds.items in
    let files = facts_of_all shareds in
    let finds : Finds s p c.args.now before files =
    map_twice facts_at untabled shareds ∙ c.in_ok-shareds.ensures.found
    ∙ ap (λ (l : List LoseLine). map (λ r. facts_of r c.args.now l) before) c.in_ok-losses.ensures in
    live_rest s p c.args.now before files (views_in c.gather.new.seats.items) c.in_ok-files.files.items c.requires.rest
    finds c.in_ok-files.ensures

pub returns-clause-small : goal.returns-clause-small
returns-clause-small g c =
    let s = c.args.script.now in
    let p = c.args.phase in
    let before = c.args.files.items in
    let shareds = c.in_ok-shareds.shareds.items in
    let files = facts_of_all shareds in
    let rs = c.in_ok-reports.reports.items in
    let finds : Finds s p c.args.now before files =
    map_twice facts_at untabled shareds ∙ c.in_ok-shareds.ensures.found
    ∙ ap (λ (l : List LoseLine). map (λ r. facts_of r c.args.now l) before) c.in_ok-losses.ensures in
    let jobs : AreJobs files c.in_ok-jobs.jobs.items =
    subst (λ (l : List Shared). AreJobs (facts_of_all l) c.in_ok-jobs.jobs.items) c.deref.ensures.value
    c.in_ok-jobs.ensures.jobs in
    let long : length rs ≡ length c.in_ok-jobs.jobs.items =
    omega (arith, c.in_ok-reports.ensures.len, c.in_ok-reports.reports.ok.0, c.in_ok-jobs.jobs.ok.0) in
    let are : AreReports s p 0 files rs =
    reports_are s p files c.in_ok-jobs.jobs.items rs long jobs c.in_ok-reports.ensures.each in
    let n = c.count_clients-clients.result in
    let count : length rs ≡ n = long ∙ c.in_ok-jobs.ensures.count in
    let new : views_in c.deal.new.seats.items ≡ map (new_view (share_of n)) files =
    subst (λ (l : List Shared). AreNew n (facts_of_all l) c.deal.new.seats.items) c.deref.ensures.value
    c.in_ok-jobs.ensures.new in
    let many : 1 < n = omega (arith, c.requires.many, c.count_clients-clients.ensures.count) in
    (live_ran s p c.args.now before c.in_ok-files.files.items files n (views_in c.gather.new.seats.items) rs
    c.in_ok-done.done.items c.count_clients-clients.ensures.count many finds count c.in_ok-done.ensures.held are
    (c.in_ok-done.ensures.views ∙ ap (λ l. take_in l rs) new) c.in_ok-done.ensures.done c.in_ok-files.ensures).1
