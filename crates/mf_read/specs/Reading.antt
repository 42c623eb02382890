-- What a read does.
use Rattle.std.specs.Prelude.{◌≡◌, ℕ, zero, suc, ◌+◌, ◌<◌, ◌≤◌, ◌⊎◌, List, [], ◌∷◌, ◌++◌, length}
use Rattle.mf_machine.specs.declared.answer.Slot.TheVariants.{Work}
use Rattle.mf_shape.specs.Stages.{tolerance_at, width_at}
use Rattle.mf_places.specs.declared.Name.{Name}
use Rattle.mf_places.specs.Facts.{BookFacts}
use Rattle.mf_places.specs.Names.{stripes_of}
use Rattle.mf_vault.specs.declared.answers.Pinned.TheVariants as pinned
use Rattle.mf_vault.specs.Facts.{Facts}
use Rattle.mf_vault.specs.Actor.{Actor, Call, pin, unpin}
use Rattle.mf_vault.specs.Licence.{Does}
use Rattle.mf_read.specs.declared.outcome.ReadOutcome.{ReadOutcome}
use Rattle.mf_read.specs.declared.outcome.ReadOutcome.TheVariants.{Bytes, Absent, Removed, DataLost, Unreachable}
use Rattle.mf_read.specs.declared.outcome.ReadOutcome.TheVariants.{Memory}
use Rattle.mf_read.specs.Asking.{Ask, here_in, lost_in, away_in, IsServed, IsShort, IsCut, gets}

-- the askings of the first n stripes of generation g in turn, none of them short
abbrev pub AreServed : BookFacts → (g n : ℕ) → List Ask → Type 0
AreServed b g zero asks = asks ≡ []
AreServed b g (suc n) asks =
    (front last : List Ask) × AreServed b g n front × IsServed b g n last × (asks ≡ front ++ last)

-- how many lost names of a stripe generation g bears, and how many stripes it has
abbrev pub bears : BookFacts → ℕ → ℕ
bears b g = tolerance_at b.shape.stages g

abbrev pub stripes : BookFacts → ℕ → ℕ
stripes b g = stripes_of b (width_at b.shape.stages g)

-- the calls with which a read of generation g ends at stripe j: a short asking that found more names Lost than the
-- generation bears; a short one that didn't, and found a name Away; or one that want of memory cut
abbrev pub IsEnd : Facts → (g j : ℕ) → ReadOutcome → List Call → Type 0
IsEnd f g j (DataLost h k lost) cs =
    (asks : List Ask) × (h ≡ g) × (k ≡ j) × IsShort f.book g j asks × (cs ≡ gets f asks) × (lost ≡ lost_in asks)
    × (bears f.book g < length lost)
IsEnd f g j (Unreachable h k x server) cs =
    (asks : List Ask) × (h ≡ g) × (k ≡ j) × IsShort f.book g j asks × (cs ≡ gets f asks)
    × (length (lost_in asks) ≤ bears f.book g)
    × ((others : List (Name × ℕ)) × (away_in asks ≡ (x, server) ∷ others))
IsEnd f g j Memory cs = IsCut f g j cs
IsEnd f g j Absent cs = ⊥
IsEnd f g j Removed cs = ⊥
IsEnd f g j (Bytes h bytes from) cs = ⊥

-- the calls of a read of generation g: the askings of all stripes, or those of the first ones and then an end
abbrev pub Ends : Facts → (g : ℕ) → ReadOutcome → List Call → Type 0
Ends f g o cs =
    (j : ℕ) × (front : List Ask) × (rest : List Call) × AreServed f.book g j front × IsEnd f g j o rest
    × (cs ≡ gets f front ++ rest)

abbrev pub IsReadOf : Facts → (g : ℕ) → ReadOutcome → List Call → Type 0
IsReadOf f g (Bytes h bytes from) cs =
    (asks : List Ask) × (h ≡ g) × AreServed f.book g (stripes f.book g) asks × (cs ≡ gets f asks)
    × (bytes.items ≡ f.bytes) × (from ≡ here_in asks)
IsReadOf f g o cs = Ends f g o cs

-- a read goes through the generation of the Hold slot where that is pinned, and else through that of its own Work pin,
-- which it frees
abbrev pub IsThrough : (hold g : ℕ) (inner cs : List Call) → Type 0
IsThrough hold g inner cs = ((hold ≡ g + 1) × (cs ≡ inner))
    ⊎ ((hold ≡ 0) × ((missed : List ℕ) × (cs ≡ pin Work missed (pinned.At g) ∷ inner ++ unpin Work ∷ [])))

-- the calls of a read with this outcome
abbrev pub IsRead : Facts → (hold : ℕ) → ReadOutcome → List Call → Type 0
IsRead f hold Absent cs = (hold ≡ 0) × ((missed : List ℕ) × (cs ≡ pin Work missed pinned.Absent ∷ []))
IsRead f hold Removed cs = (hold ≡ 0) × ((missed : List ℕ) × (cs ≡ pin Work missed pinned.Removed ∷ []))
IsRead f hold o cs = (g : ℕ) × (inner : List Call) × IsReadOf f g o inner × IsThrough hold g inner cs

-- a read led from one actor to the other
abbrev pub Reads : ReadOutcome → Actor → Actor → Type 0
Reads o a b = (cs : List Call) × IsRead a.facts a.view.hold o cs × Does cs a b
