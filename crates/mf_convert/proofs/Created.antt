-- A create from its calls.
use Rattle.std.proofs.Common.{◌≡◌, true, List, [], ◌∷◌, ◌++◌, length, get_or, refl, sym, ap, ◌∙◌, subst, arith}
use Rattle.mf_machine.specs.declared.answer.Slot.TheVariants.{Work}
use Rattle.mf_machine.specs.declared.answer.State.{State}
use Rattle.mf_machine.specs.Actors.{Among}
use Rattle.mf_places.specs.declared.Name.{Name}
use Rattle.mf_places.specs.declared.Name.TheVariants.{Data}
use Rattle.mf_places.specs.Generations.{holds}
use Rattle.mf_places.specs.Names.{HasName}
use Rattle.mf_places.specs.Servers.{no_servers}
use Rattle.mf_vault.specs.declared.answers.Pinned.TheVariants.{Absent}
use Rattle.mf_vault.specs.Facts.{Facts, number}
use Rattle.mf_vault.specs.Actor.{Actor, begin, end, pin, publish}
use Rattle.mf_vault.specs.Answers.{Goes}
use Rattle.mf_vault.specs.Licence.{Does, Entered, IsFile}
use Rattle.mf_vault.specs.May.{MayPublish}
use Rattle.mf_vault.proofs.Doing.{one, then, after}
use Rattle.mf_vault.proofs.Held.{may_publish_next}
use Rattle.mf_convert.specs.declared.change.Change.TheVariants as change
use Rattle.mf_convert.specs.Create as create
use Rattle.mf_convert.specs.Create.{Creates, probes, brings, first_names}
use Rattle.mf_convert.specs.Building.{IsFirstBuilder, AreSettled, Builds}
use Rattle.mf_convert.proofs.Building.{some_stage}
use Rattle.mf_convert.proofs.Listed.{first_of, first_found}

-- each name of the generation is settled, so it may be published
pub may_publish_first : {f : Facts} (names : List Name) {q : Actor} → IsFirstBuilder f q → IsFile q.facts
    → names ≡ first_names f
    → AreSettled q (length names) names → MayPublish 1 q
may_publish_first {f = f} names {q = q} k file is settled = may_publish_next q 0 k.building (some_stage q.facts file)
    each where
      all : names ≡ first_of q.facts.book
      all = is ∙ ap (λ g. first_of g.book) (sym k.facts)

      each : (x : Name) → HasName q.facts.book x → holds q.facts.book 0 x ≡ true
          → Among (number q.facts x) q.view.build.settled
      each x had h =
          let stands = first_found q.facts.book x had h in
          subst (λ y. Among (number q.facts y) q.view.build.settled)
          (ap (λ (l : List Name). get_or l stands.place (Data 0)) all ∙ stands.is)
          (settled stands.place (Data 0) (let low = stands.below in let long = ap length all in omega arith))

pub built : (names : List Name) (states : List State) {a p q r z : Actor} → names ≡ first_names a.facts
    → length states ≡ length names
    → Does (probes names states) a p → Does (brings names states) p q → Goes (publish 1) q r → Goes end r z → Builds a z
built names states {a = a} {z = z} is long probed brought x y = record {
  states = states;
  long = long ∙ ap length is;
  does = subst (λ (l : List Name). Does (probes l states ++ (brings l states ++ (publish 1 ∷ end ∷ []))) a z) is
      (then probed (then brought (after x (one y))));
}

-- with the begin and the pin before it
pub created : {a c z : Actor} → Entered Absent a c → Builds c z → Creates change.Created a z
created {a = a} {c = c} {z = z} e b = record {
  calls = _;
  licence = create.created e.missed b.states (b.long ∙ ap (λ g. length (first_names g)) e.facts);
  does = subst (λ g. Does ((begin true ∷ pin Work e.missed Absent ∷ []) ++ (probes (first_names g) b.states
      ++ (brings (first_names g) b.states ++ (publish 1 ∷ end ∷ [])))) a z) e.facts (then e.does b.does);
}

-- after a pin that found the file not created
pub first_builder : {a c d : Actor} → Entered Absent a c → d ≡ c → a.cut ≡ no_servers → IsFirstBuilder d.facts d
first_builder {c = c} e same none = subst (λ (z : Actor). IsFirstBuilder z.facts z) (sym same) record {
  facts = refl;
  building = e.building;
  cut = e.cut ∙ none;
}

pub no_memory : {a c d z : Actor} → Entered Absent a c → d ≡ c → Goes end d z → Creates change.Memory a z
no_memory {z = z} e same x = record {
  calls = _;
  licence = create.no_memory e.missed;
  does = then e.does (one (subst (λ (y : Actor). Goes end y z) same x));
}
