-- No call of an access changes its actor's share.
use Rattle.std.proofs.Common.{◌≡◌, ℕ, ◌+◌, true, false, List, [], ◌∷◌, map, Option, Some, None, refl, sym, ap}
use Rattle.std.proofs.Common.{◌∙◌}
use Rattle.std.proofs.lemmas.Option.{get_or_from_slice_get}
use Rattle.std.proofs.Math.Seq.{map-set_same}
use Rattle.mf_machine.specs.declared.answer.Closed.TheVariants as closing
use Rattle.mf_machine.specs.declared.answer.Slot.{Slot}
use Rattle.mf_machine.specs.declared.answer.Slot.TheVariants.{Hold, Work}
use Rattle.mf_machine.specs.declared.answer.State.TheVariants as state
use Rattle.mf_machine.specs.declared.view.View.{View}
use Rattle.mf_machine.specs.Steps as row
use Rattle.mf_machine.specs.Words.{number_of}
use Rattle.mf_places.specs.declared.Name.{Name}
use Rattle.mf_places.specs.declared.servers.Servers.{Servers}
use Rattle.mf_lines.specs.declared.parts.Act.{Act}
use Rattle.mf_lines.specs.declared.parts.Act.TheVariants as act
use Rattle.mf_lines.specs.declared.parts.Command.{Command}
use Rattle.mf_lines.specs.Meaning.{Script, file_in}
use Rattle.mf_script.specs.Families.{file_policies}
use Rattle.mf_vault.specs.declared.answers.Got.TheVariants as got
use Rattle.mf_vault.specs.declared.answers.Pinned.{Pinned}
use Rattle.mf_vault.specs.declared.answers.Pinned.TheVariants as pinned
use Rattle.mf_vault.specs.Facts.{Facts}
use Rattle.mf_vault.specs.Actor as call
use Rattle.mf_vault.specs.Actor.{Actor, Call, did, tried, seen}
use Rattle.mf_vault.specs.Licence.{Does, did_all}
use Rattle.mf_convert.specs.declared.change.Change.{Change}
use Rattle.mf_client.specs.declared.done.Done.{Done}
use Rattle.mf_client.specs.declared.done.Outcome.{Outcome}
use Rattle.mf_client.specs.declared.done.Outcome.TheVariants as outcome
use Rattle.mf_client.specs.declared.done.Part.{Part}
use Rattle.mf_client.specs.Acts.{Acts, LosesAll, IsLost, lists_on, cut_all, away_of}
use Rattle.mf_client.specs.OnFile.{OnFile}
use Rattle.mf_client.specs.Sweeps.{ConvertsInTurn, Visit, Visits, VisitsInTurn, IsSwept}
use Rattle.mf_client.specs.Runs.{Runs, RunsFrom}
use Rattle.mf_client.specs.Clients.{commands_of}
use Rattle.mf_client.specs.Acts.{Comes, ActsBy}
use Rattle.mf_client.proofs.Went.{comes_does}

tried_share : (f : Facts) (slot : Slot) (gs : List ℕ) (p : Pinned) (v : View) → (tried f slot gs p v).share ≡ v.share
tried_share f Hold [] (pinned.At g) v = refl
tried_share f Work [] (pinned.At g) v = refl
tried_share f slot [] pinned.Absent v = refl
tried_share f slot [] pinned.Removed v = refl
tried_share f slot (g ∷ gs) p v = tried_share f slot gs p (row.missed g (row.looked (number_of g) v))

seen_share : (f : Facts) (c : Call) (v : View) → (seen f c v).share ≡ v.share
seen_share f (call.cut_off s) v = refl
seen_share f (call.pin slot gs p) v = tried_share f slot gs p v
seen_share f (call.unpin Hold) v = refl
seen_share f (call.unpin Work) v = refl
seen_share f (call.begin true) v = refl
seen_share f (call.begin false) v = refl
seen_share f call.end v = refl
seen_share f (call.publish next) v = refl
seen_share f (call.probe x state.Unborn) v = refl
seen_share f (call.probe x state.Here) v = refl
seen_share f (call.probe x (state.Lost l)) v = refl
seen_share f (call.probe x (state.Away s)) v = refl
seen_share f (call.put x) v = refl
seen_share f (call.restore x) v = refl
seen_share f (call.close g closing.Done) v = refl
seen_share f (call.close g (closing.Pins n)) v = refl
seen_share f (call.close g closing.Already) v = refl
seen_share f (call.discard x true) v = refl
seen_share f (call.discard x false) v = refl
seen_share f (call.get x (got.Here c)) v = refl
seen_share f (call.get x (got.Lost l)) v = refl
seen_share f (call.get x (got.Away s)) v = refl
seen_share f (call.get x got.Memory) v = refl
seen_share f (call.lose x l true) v = refl
seen_share f (call.lose x l false) v = refl

all_share : (cs : List Call) (a : Actor) → (did_all cs a).view.share ≡ a.view.share
all_share [] a = refl
all_share (c ∷ cs) a = all_share cs (did c a) ∙ seen_share a.facts c a.view

pub does_share : {cs : List Call} {a b : Actor} → Does cs a b → b.view.share ≡ a.view.share
does_share {cs = cs} {a = a} x = ap (λ (z : Actor). z.view.share) x.becomes ∙ all_share cs a

-- the shares of these actors
abbrev pub shares : List Actor → List ℕ
shares actors = map (λ (a : Actor). a.view.share) actors

file_shares : (Goes : Actor → Actor → Type 0) (file : ℕ) (before after : List Actor)
    → ((a b : Actor) → Goes a b → b.view.share ≡ a.view.share) → OnFile file Goes before after
    → shares after ≡ shares before
file_shares Goes file before after keeps on =
    let at = get_or_from_slice_get before file on.old on.old on.was in
    ap (map (λ (a : Actor). a.view.share)) on.is
    ∙ map-set_same (λ (a : Actor). a.view.share) before file on.new on.old
    (keeps on.old on.new on.goes ∙ ap (λ (a : Actor). a.view.share) (sym at))

on_shares : (x : Act) (o : Outcome) (file : ℕ) (before after : List Actor) → OnFile file (Comes x o) before after
    → shares after ≡ shares before
on_shares x o file before after on =
    file_shares (Comes x o) file before after (λ a b goes. does_share (comes_does x o goes).1) on

lost_all_shares : (line : ℕ) (lists : List (List Name)) (n : ℕ) (before after : List Actor)
    → LosesAll line lists n before after → shares after ≡ shares before
lost_all_shares line [] n [] [] x = refl
lost_all_shares line [] n [] (b ∷ after) x = absurd x
lost_all_shares line [] n (a ∷ before) after x = absurd x
lost_all_shares line (names ∷ lists) n [] after x = absurd x
lost_all_shares line (names ∷ lists) n (a ∷ before) [] x = absurd x
lost_all_shares line (names ∷ lists) n (a ∷ before) (b ∷ after) (k, r, e, one, others) =
    let here = does_share one.does in
    let rest = lost_all_shares line lists r before after others in λ i. here i ∷ rest i

lost_shares : (server line : ℕ) (o : Outcome) (before after : List Actor) → IsLost server line o before after
    → shares after ≡ shares before
lost_shares server line (outcome.Lost n) before after x =
    lost_all_shares line (lists_on server before) n before after x
lost_shares server line outcome.Memory before after x = ap shares x
lost_shares server line other before after x = absurd x

-- a sweep
turn_share : (upto : ℕ) (cs : List Change) (a b : Actor) → ConvertsInTurn upto cs a b → b.view.share ≡ a.view.share
turn_share upto [] a b x = ap (λ (z : Actor). z.view.share) x
turn_share upto (c ∷ cs) a b (mid, one, rest) = turn_share upto cs mid b rest ∙ does_share one.does

visits_shares : (vs : List Visit) (before after : List Actor) → VisitsInTurn vs before after
    → shares after ≡ shares before
visits_shares [] before after x = ap shares x
visits_shares (v ∷ vs) before after (mid, one, rest) =
    visits_shares vs mid after rest
    ∙ file_shares (Visits v) v.file before mid (λ a b x. turn_share v.due v.changes a b x.converts) one

swept_shares : (policies : List (Option (List ℕ))) (o : Outcome) (parts : List Part) (before after : List Actor)
    → IsSwept policies o parts before after → shares after ≡ shares before
swept_shares policies (outcome.Swept n) parts before after x = visits_shares x.visits before after x.turn
swept_shares policies outcome.Memory parts before after x = ap shares x.1
swept_shares policies other parts before after x = absurd x

shares_by : (f : Option ℕ) (policies : List (Option (List ℕ))) (line : ℕ) (x : Act) (o : Outcome) (parts : List Part)
    (before after : List Actor) → ActsBy f policies line x o parts before after → shares after ≡ shares before
shares_by (Some file) policies line x o parts before after h = on_shares x o file before after h.1
shares_by None policies line (act.Lose server) o parts before after h = lost_shares server line o before after h.1
shares_by None policies line act.Sweep o parts before after h = swept_shares policies o parts before after h
shares_by None policies line other o parts before after h = absurd h

pub acts_shares : (policies : List (Option (List ℕ))) (line : ℕ) (x : Act) (o : Outcome) (parts : List Part)
    (before after : List Actor) → Acts policies line x o parts before after → shares after ≡ shares before
acts_shares policies line x o parts before after h = shares_by (file_in x) policies line x o parts before after h

pub cut_shares : (away : Servers) (before : List Actor) → shares (cut_all away before) ≡ shares before
cut_shares away [] = refl
cut_shares away (a ∷ before) = ap (λ l. a.view.share ∷ l) (cut_shares away before)

from_shares : (s : Script) (phase client n : ℕ) (commands : List Command) (before : List Actor) (done : List Done)
    (after : List Actor) → RunsFrom s phase client n commands before done after → shares after ≡ shares before
from_shares s phase client n [] before done after x = ap shares x.1
from_shares s phase client n (c ∷ commands) before [] after x = absurd x
from_shares s phase client n (c ∷ commands) before (d ∷ done) after (mid, one, rest) =
    from_shares s phase client (n + 1) commands mid done after rest
    ∙ acts_shares (file_policies s) c.line c.act d.outcome d.parts (cut_all (away_of c.act) before) mid one.acts
    ∙ cut_shares (away_of c.act) before

-- neither does a client's run
pub runs_shares : (s : Script) (phase client : ℕ) (before : List Actor) (done : List Done) (after : List Actor)
    → Runs s phase client before done after → shares after ≡ shares before
runs_shares s phase client before done after x =
    from_shares s phase client 1 (commands_of s phase client) before done after x
