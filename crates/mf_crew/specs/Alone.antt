-- A phase of one client.
use Rattle.std.specs.Prelude.{◌≡◌, ℕ, List, length, map, All, Some}
use Rattle.mf_lines.specs.Meaning.{Script}
use Rattle.mf_script.specs.Losses.{losses_of}
use Rattle.mf_vault.specs.Actor.{Actor}
use Rattle.mf_plain.specs.Resting.{Resting, AtRest}
use Rattle.mf_plain.specs.Alone.{first_actor}
use Rattle.mf_client.specs.declared.done.Done.{Done}
use Rattle.mf_script.specs.Phases.{clients_of}
use Rattle.mf_client.specs.Runs.{Runs}
use Rattle.mf_crew.specs.Files.{left_by}

-- the only actor of each file at rest, as the phase begins behind `now` ticks
abbrev pub first_actors : Script → (phase now : ℕ) → List Resting → List Actor
first_actors s phase now files = map (λ r. first_actor r now (losses_of s phase)) files

-- The phase has one client. Its commands, done so, led from the first actor of each file to these actors, which leave
-- the files at rest again.
pub record RunsPhase (s : Script) (phase now : ℕ) (before : List Resting) (done : List Done) (after : List Resting)
    : Type 0 where
  pub one : length (clients_of s phase) ≡ 1
  pub actors : List Actor
  pub runs : Runs s phase 1 (first_actors s phase now before) done actors
  pub rest : map left_by actors ≡ map Some after
  pub at_rest : All AtRest after
