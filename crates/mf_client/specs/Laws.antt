-- What follows of a client's commands where the files' actors are alone.
use Rattle.std.specs.Prelude.{◌≡◌, ℕ, false, List, Some, All}
use Rattle.mf_machine.specs.Worlds.{World}
use Rattle.mf_lines.specs.Meaning.{Script}
use Rattle.mf_vault.specs.Actor.{Actor}
use Rattle.mf_client.specs.declared.done.Done.{Done}
use Rattle.mf_client.specs.Lacks.{lacks_memory}
use Rattle.mf_client.specs.Runs.{Runs}

-- the whole state is told
abbrev pub IsWhole : Actor → Type 0
IsWhole a = (w : World) × (a.whole ≡ Some w)

-- memory didn't run out in the command
abbrev pub HadMemory : Done → Type 0
HadMemory done = lacks_memory done ≡ false

-- where each file's whole state is told, the commands of a client that had their memory have one outcome each, and
-- leave the same actors
abbrev pub RunsOnce : Type 0
RunsOnce = (s : Script) (phase client : ℕ) (before after others : List Actor) (ds es : List Done) → All IsWhole before
    → Runs s phase client before ds after → Runs s phase client before es others → All HadMemory ds → All HadMemory es
    → (ds ≡ es) × (after ≡ others)
