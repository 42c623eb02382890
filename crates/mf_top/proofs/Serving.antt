-- A read that names no server meets none that can't be reached.
use Rattle.std.proofs.Common.{◌≡◌, ℕ, ◌<◌, ◌≤◌, ◌⊎◌, inl, inr, List, [], ◌∷◌, ◌++◌, length, map, refl, sym, ap, ◌∙◌}
use Rattle.std.proofs.Common.{subst, arith}
use Rattle.std.proofs.Common.{Option, Some, None}
use Rattle.std.specs.Prelude.{slice_get}
use Rattle.std.proofs.lemmas.Nat.Bits.{bit_at-zero}
use Rattle.std.proofs.lemmas.List.{append-nil, append_assoc}
use Rattle.mf_machine.specs.declared.answer.Slot.TheVariants.{Work}
use Rattle.mf_places.specs.declared.Name.{Name}
use Rattle.mf_places.specs.declared.servers.Servers.{Servers}
use Rattle.mf_places.specs.Servers.{IsIn, no_servers}
use Rattle.mf_vault.specs.Facts.{Facts, cell_of, server}
use Rattle.mf_vault.specs.Actor.{Actor, Call, did, cut_off, pin, unpin, get}
use Rattle.mf_vault.specs.Licence.{AreFair}
use Rattle.mf_vault.specs.declared.answers.Got.TheVariants as got
use Rattle.mf_vault.specs.declared.answers.Pinned.TheVariants as pinned
use Rattle.mf_read.specs.declared.outcome.ReadOutcome.TheVariants as read
use Rattle.mf_read.specs.Asking as Asking
use Rattle.mf_read.specs.Asking.{Found, Ask, here, away_in, gets}
use Rattle.mf_read.specs.Reading.{IsThrough, bears}
use Rattle.mf_read.proofs.Shortage.{short_has_lost}
use Rattle.mf_client.specs.declared.done.Outcome.{Outcome}
use Rattle.mf_client.specs.declared.done.Outcome.TheVariants as outcome
use Rattle.mf_client.specs.Acts.{IsReadOut}
use Rattle.mf_top.specs.Laws.{IsServed, ReadsAreServed}
use Rattle.mf_crew.proofs.Phased.{mapped}

-- nothing is cut off, and the calls are promised what is promised of their answers
record Fair (cs : List Call) (a : Actor) : Type 0 where
  whole : a.cut ≡ no_servers
  fair : AreFair cs a

in_none : (n : ℕ) → IsIn no_servers n → ⊥
in_none n h = let bit = h.1 in absurd (omega (arith, bit_at-zero n))

-- so are the calls behind gets, and behind the calls of an asking there was no Away
record Behind (asks : List Ask) (rest : List Call) : Type 0 where
  none : away_in asks ≡ []
  actor : Actor
  fair : Fair rest actor

behind_get : (f : Facts) (name : Name) (found : Found) (asks : List Ask) (rest : List Call) (a : Actor)
    → ((b : Actor) → Fair (gets f asks ++ rest) b → Behind asks rest)
    → Fair (gets f (record { name = name; found = found } ∷ asks) ++ rest) a
    → Behind (record { name = name; found = found } ∷ asks) rest
behind_get f name here asks rest a next h =
    let more = next (did (get name (got.Here (cell_of f name))) a) (record { whole = h.whole; fair = h.fair.1 }) in
    record { none = more.none; actor = more.actor; fair = more.fair }
behind_get f name (Asking.lost l) asks rest a next h =
    let more = next (did (get name (got.Lost l)) a) (record { whole = h.whole; fair = h.fair.1 }) in
    record { none = more.none; actor = more.actor; fair = more.fair }
behind_get f name (Asking.away t) asks rest a next h =
    absurd (in_none (server a.facts name)
    (subst (λ (set : Servers). IsIn set (server a.facts name)) h.whole h.fair.0.0))

behind : (f : Facts) (asks : List Ask) (rest : List Call) (a : Actor) → Fair (gets f asks ++ rest) a → Behind asks rest
behind f [] rest a h = record { none = refl; actor = a; fair = h }
behind f (x ∷ asks) rest a h = behind_get f x.name x.found asks rest a (λ b fair. behind f asks rest b fair) h

-- the calls of a read of a generation, by its way through a slot
record Inside (inside : List Call) : Type 0 where
  rest : List Call
  actor : Actor
  fair : Fair (inside ++ rest) actor

inner : (hold g : ℕ) (inside cs : List Call) (a : Actor) → IsThrough hold g inside cs → Fair cs a → Inside inside
inner hold g inside cs a (inl h) fair = record {
  rest = [];
  actor = a;
  fair = record { whole = fair.whole; fair = subst (λ l. AreFair l a) (h.1 ∙ sym (append-nil inside)) fair.fair };
}
inner hold g inside cs a (inr h) fair =
    let c : Call = pin Work h.1.0 (pinned.At g) in
    let all : AreFair (c ∷ inside ++ unpin Work ∷ []) a = subst (λ l. AreFair l a) h.1.1 fair.fair in
    record { rest = unpin Work ∷ []; actor = did c a; fair = record { whole = fair.whole; fair = all.1 } }

reached : (f : Facts) (front asks : List Ask) (cs rest : List Call) (b : Actor) → cs ≡ gets f front ++ gets f asks
    → Fair (cs ++ rest) b → away_in asks ≡ []
reached f front asks cs rest b e h =
    let split : cs ++ rest ≡ gets f front ++ (gets f asks ++ rest) =
    ap (λ l. l ++ rest) e ∙ append_assoc (gets f front) (gets f asks) rest in
    let first = behind f front (gets f asks ++ rest) b
    (record { whole = h.whole; fair = subst (λ l. AreFair l b) split h.fair }) in
    (behind f asks rest first.actor first.fair).none

-- what came of a read, where nothing was cut off
served : (o : Outcome) (a b : Actor) → a.cut ≡ no_servers → IsReadOut o a b → IsServed a.facts.book o
served (outcome.Bytes g count from digest) a b cut h = tt
served (outcome.Refused read.Absent) a b cut h = tt
served (outcome.Refused read.Removed) a b cut h = tt
served (outcome.Refused read.Memory) a b cut h = tt
served (outcome.Refused (read.DataLost g stripe names)) a b cut h =
    let (cs, (g0, inside, of, way), does) = h in
    let (j, front, rest, ok, (asks, same, at, short, calls, is, many), e) = of in
    subst (λ k. bears a.facts.book k < length names) (sym same) many
served (outcome.Refused (read.Unreachable g stripe x server)) a b cut h =
    let (cs, (g0, inside, of, way), does) = h in
    let (j, front, rest, ok, (asks, same, at, short, calls, few, others), e) = of in
    let within = inner a.view.hold g0 inside cs a way (record { whole = cut; fair = does.fair }) in
    let none = reached a.facts front asks inside within.rest within.actor
    (e ∙ ap (λ l. gets a.facts front ++ l) calls) within.fair in
    absurd (omega (arith, short_has_lost a.facts.book g0 j asks short none, few))
served other a b cut h = absurd h

pub reads_served : ReadsAreServed
reads_served s at line file done before after h =
    let on = h.acts.1 in
    let of = mapped (did (cut_off no_servers)) before file on.old on.was in
    let cut : on.old.cut ≡ no_servers = ap (λ (a : Actor). a.cut) (sym of.is) in
    let is = served done.outcome on.old on.new cut on.goes in
    (of.before, of.at, subst (λ (f : Facts). IsServed f.book done.outcome) (ap (λ (a : Actor). a.facts) (sym of.is)) is)
