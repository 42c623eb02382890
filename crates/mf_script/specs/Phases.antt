-- The phases of a script, and the ticks before them; phases are numbered from 1.
use Rattle.std.specs.Prelude.{ℕ, zero, suc, ◌+◌, ◌-◌, List, [], ◌∷◌, slice_index_or}
use Rattle.mf_lines.specs.declared.parts.Client.{Client}
use Rattle.mf_lines.specs.declared.parts.Item.{Item}
use Rattle.mf_lines.specs.declared.parts.Item.TheVariants as item
use Rattle.mf_lines.specs.Meaning.{Script, phases_in}

-- the clients of a phase
abbrev pub clients_of : Script → (phase : ℕ) → List Client
clients_of s phase = slice_index_or (phases_in s.items) (phase - 1) []

-- the ticks in front of the phase behind so many others
abbrev pub ticks_ahead : List Item → ℕ → ℕ
ticks_ahead [] others = 0
ticks_ahead (item.Tick ticks ∷ items) others = ticks + ticks_ahead items others
ticks_ahead (item.Phase clients ∷ items) zero = 0
ticks_ahead (item.Phase clients ∷ items) (suc others) = ticks_ahead items others

-- the ticks before a phase: the sum over the tick lines in front of it
abbrev pub ticks_before : Script → (phase : ℕ) → ℕ
ticks_before s phase = ticks_ahead s.items (phase - 1)
