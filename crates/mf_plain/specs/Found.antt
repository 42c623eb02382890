-- What is found of a name.
use Rattle.std.specs.Prelude.{◌≡◌, ℕ, List, slice_index_or}
use Rattle.mf_machine.specs.declared.answer.State.{State}
use Rattle.mf_machine.specs.declared.answer.State.TheVariants as state
use Rattle.mf_machine.specs.Steps.{see_answer}
use Rattle.mf_places.specs.declared.Name.{Name}
use Rattle.mf_places.specs.Placement.{server_of}
use Rattle.mf_places.specs.Numbers.{number_of}
use Rattle.mf_places.specs.Servers.{IsIn}
use Rattle.mf_vault.specs.declared.answers.Got.{Got}
use Rattle.mf_vault.specs.declared.answers.Got.TheVariants as got
use Rattle.mf_vault.specs.declared.answers.Rest.{Rest}
use Rattle.mf_vault.specs.declared.answers.Rest.TheVariants as rest
use Rattle.mf_vault.specs.Resting.{word_of}
use Rattle.mf_plain.specs.declared.access.PlainAccess.{PlainAccess}
use Rattle.mf_plain.specs.Stored.{IsThere}

-- the server of a name, whether it is cut off, and what is stored of the name
abbrev pub server_in : PlainAccess → Name → ℕ
server_in s x = server_of s.book x

abbrev pub IsCutIn : PlainAccess → Name → Type 0
IsCutIn s x = IsIn s.cut (server_in s x)

abbrev pub rest_in : PlainAccess → Name → Rest
rest_in s x = slice_index_or s.names.items (number_of s.book x) rest.Unborn

-- what a probe finds
abbrev pub StateIn : PlainAccess → Name → State → Type 0
StateIn s x (state.Away t) = IsCutIn s x × (t ≡ server_in s x)
StateIn s x state.Unborn = (IsCutIn s x → ⊥) × (state.Unborn ≡ see_answer (word_of (rest_in s x)))
StateIn s x state.Here = (IsCutIn s x → ⊥) × (state.Here ≡ see_answer (word_of (rest_in s x)))
StateIn s x (state.Lost l) = (IsCutIn s x → ⊥) × (state.Lost l ≡ see_answer (word_of (rest_in s x)))

-- what a get finds
abbrev pub IsThereIn : PlainAccess → Name → Type 0
IsThereIn s x = IsThere (rest_in s x)

abbrev pub GotIn : PlainAccess → Name → Got → Type 0
GotIn s x (got.Away t) = IsCutIn s x × (t ≡ server_in s x)
GotIn s x (got.Here c) = (IsCutIn s x → ⊥) × (rest_in s x ≡ rest.Here c)
GotIn s x (got.Lost l) = (IsCutIn s x → ⊥) × (rest_in s x ≡ rest.Lost l)
GotIn s x got.Memory = (IsCutIn s x → ⊥) × ((c : List ℕ) × (rest_in s x ≡ rest.Here c))
