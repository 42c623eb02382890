-- The lose lines of a script.
use Rattle.std.specs.Prelude.{ℕ, List, [], ◌∷◌, take}
use Rattle.std.specs.List.{flat_map}
use Rattle.mf_places.specs.declared.losses.LoseLine.{LoseLine}
use Rattle.mf_lines.specs.declared.parts.Act.{Act}
use Rattle.mf_lines.specs.declared.parts.Act.TheVariants as act
use Rattle.mf_lines.specs.declared.parts.Command.{Command}
use Rattle.mf_lines.specs.declared.parts.Client.{Client}
use Rattle.mf_lines.specs.Meaning.{Script, phases_in}

-- what a command of line n is as a lose line, if it is one
abbrev pub lost_by : ℕ → Act → List LoseLine
lost_by n (act.Lose server) = record { line = n; server = server } ∷ []
lost_by n any_other = []

-- the lose lines of a client
abbrev pub client_losses : Client → List LoseLine
client_losses client = flat_map (λ (command : Command). lost_by command.line command.act) client.commands

-- the lose lines of a phase, whose clients these are
abbrev pub phase_losses : List Client → List LoseLine
phase_losses clients = flat_map client_losses clients

-- the lose lines of a script up to the end of a phase, in its order; phases are numbered from 1
abbrev pub losses_of : Script → ℕ → List LoseLine
losses_of s phase = flat_map phase_losses (take phase (phases_in s.items))
