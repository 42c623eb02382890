-- What is known of the commands of a client: how many they are, and what they are on.
use Rattle.std.proofs.Common.{◌≡◌, ℕ, ◌-◌, ◌<◌, ◌≤◌, List, length, arith, get_or}
use Rattle.std.proofs.lemmas.List.Elements.{All-get_or}
use Rattle.mf_lines.specs.declared.parts.Command.{Command}
use Rattle.mf_lines.specs.Meaning.{Script}
use Rattle.mf_script.specs.Sound.{IsKnown, IsSound}
use Rattle.mf_script.proofs.Known.{client_of_phase}
use Rattle.mf_client.specs.Clients.{commands_of}

pub commands_few : (s : Script) (phase client : ℕ) → IsSound s → length (commands_of s phase client) ≤ 1024
commands_few s phase client is =
    let few = (client_of_phase (IsKnown (length s.files) s.policy) s.items (phase - 1) (client - 1) is.known).1 in
    let all = is.commands in omega arith

pub command_knows : (s : Script) (phase client i : ℕ) (d : Command) → IsSound s
    → i < length (commands_of s phase client)
    → IsKnown (length s.files) s.policy (get_or (commands_of s phase client) i d)
command_knows s phase client i d is low =
    All-get_or (IsKnown (length s.files) s.policy) (commands_of s phase client) i d low
    (client_of_phase (IsKnown (length s.files) s.policy) s.items (phase - 1) (client - 1) is.known).0
