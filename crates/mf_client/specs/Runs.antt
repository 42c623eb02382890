-- What the commands of a client do, in turn.
use Rattle.std.specs.Prelude.{◌≡◌, ℕ, ◌+◌, ◌^◌, ◌<◌, List, [], ◌∷◌, length, drop}
use Rattle.mf_lines.specs.declared.parts.Command.{Command}
use Rattle.mf_lines.specs.Meaning.{Script}
use Rattle.mf_script.specs.Families.{file_policies}
use Rattle.mf_vault.specs.declared.answers.Entry.{Entry}
use Rattle.mf_vault.specs.declared.io.Io.{Io}
use Rattle.mf_vault.specs.Actor.{Actor}
use Rattle.mf_vault.specs.Counting.{no_io, add_io, io_of}
use Rattle.mf_client.specs.declared.done.Place.{Place}
use Rattle.mf_client.specs.declared.done.Done.{Done}
use Rattle.mf_client.specs.Clients.{commands_of}
use Rattle.mf_client.specs.Acts.{Acts, away_of, cut_all}

-- the entries that a ledger gained
abbrev pub gained : Actor → Actor → List Entry
gained a b = drop (length a.entries) b.entries

-- the operations that all ledgers gained
abbrev pub io_gained : List Actor → List Actor → Io
io_gained [] after = no_io
io_gained (a ∷ before) [] = no_io
io_gained (a ∷ before) (b ∷ after) = add_io (io_of (gained a b)) (io_gained before after)

-- each number is below 2 ^ 32
pub record IsSmall (io : Io) : Type 0 where
  pub pieces : io.pieces < 2 ^ 32
  pub copies : io.copies < 2 ^ 32
  pub parities : io.parities < 2 ^ 32
  pub misses : io.misses < 2 ^ 32
  pub writes : io.writes < 2 ^ 32
  pub probes : io.probes < 2 ^ 32
  pub drops : io.drops < 2 ^ 32

-- the command at this place was done so, and led from these actors of the files to those
pub record IsDone (s : Script) (at : Place) (command : Command) (done : Done) (before after : List Actor) : Type 0 where
  pub place : done.place ≡ at
  pub act : done.act ≡ command.act
  pub acts : Acts (file_policies s) command.line command.act done.outcome done.parts
      (cut_all (away_of command.act) before) after
  pub io : done.io ≡ io_gained before after

-- commands in turn, of which the first has this number
abbrev pub RunsFrom : Script → (phase client number : ℕ) → List Command → List Actor → List Done → List Actor → Type 0
RunsFrom s phase client number [] before done after = (done ≡ []) × (after ≡ before)
RunsFrom s phase client number (c ∷ commands) before [] after = ⊥
RunsFrom s phase client number (c ∷ commands) before (d ∷ done) after =
    (mid : List Actor) × IsDone s (record { phase = phase; client = client; command = number }) c d before mid
    × RunsFrom s phase client (number + 1) commands mid done after

-- all commands of the client led from these actors of the files to those, and were done so
abbrev pub Runs : Script → (phase client : ℕ) → List Actor → List Done → List Actor → Type 0
Runs s phase client before done after = RunsFrom s phase client 1 (commands_of s phase client) before done after
