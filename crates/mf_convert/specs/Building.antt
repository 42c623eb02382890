-- What a builder of the first generation knows on its way.
use Rattle.std.specs.Prelude.{◌≡◌, ℕ, ◌<◌, ◌≤◌, List, [], ◌∷◌, ◌++◌, length, slice_index_or}
use Rattle.mf_machine.specs.declared.answer.State.{State}
use Rattle.mf_machine.specs.declared.answer.State.TheVariants.{Unborn, Here, Lost, Away}
use Rattle.mf_machine.specs.declared.view.Build.{Build}
use Rattle.mf_machine.specs.Actors.{Among}
use Rattle.mf_places.specs.declared.Name.{Name}
use Rattle.mf_places.specs.Servers.{no_servers}
use Rattle.mf_vault.specs.Facts.{Facts, number}
use Rattle.mf_vault.specs.Actor.{Actor, publish, end}
use Rattle.mf_vault.specs.Licence.{Does, IsBuilding}
use Rattle.mf_convert.specs.Create.{probes, brings, first_names}

-- The actor has the right and has found the file not created, and it reaches every server.
pub record IsFirstBuilder (f : Facts) (a : Actor) : Type 0 where
  pub facts : a.facts ≡ f
  pub building : IsBuilding a 0
  pub cut : a.cut ≡ no_servers

-- What the answer of a probe left in the actor's view: every server is reached, so none is Away.
abbrev pub IsMarked : Build → ℕ → State → Type 0
IsMarked b n Unborn = Among n b.unborn
IsMarked b n Here = Among n b.settled
IsMarked b n (Lost line) = Among n b.lost × Among n b.settled
IsMarked b n (Away server) = ⊥

-- So for each name from place k on.
abbrev pub AreMarked : Actor → ℕ → List Name → List State → Type 0
AreMarked a k names states = (i : ℕ) (x : Name) (s : State) → k ≤ i → i < length states
    → IsMarked a.view.build (number a.facts (slice_index_or names i x)) (slice_index_or states i s)

-- Each name below place k is put, restored, or was answered Here or Lost.
abbrev pub AreSettled : Actor → ℕ → List Name → Type 0
AreSettled a k names = (i : ℕ) (x : Name) → i < k
    → Among (number a.facts (slice_index_or names i x)) a.view.build.settled

-- What stands behind the pin: all names of the generation are there, and it is published.
pub record Builds (a b : Actor) : Type 0 where
  pub states : List State
  pub long : length states ≡ length (first_names a.facts)
  pub does : Does (probes (first_names a.facts) states
      ++ (brings (first_names a.facts) states ++ (publish 1 ∷ end ∷ []))) a b
