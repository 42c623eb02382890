-- What follows of reads.
use Rattle.std.specs.Prelude.{◌≡◌, ◌≢◌, ℕ, ◌<◌, List, [], length, Some}
use Rattle.std.specs.declared.vec.Vec.{Vec}
use Rattle.std.specs.declared.alloc.Global.{Global}
use Rattle.mf_machine.specs.Worlds.{World}
use Rattle.mf_places.specs.Facts.{BookFacts}
use Rattle.mf_vault.specs.Actor.{Actor}
use Rattle.mf_vault.specs.Gains.{EngineGains}
use Rattle.mf_read.specs.declared.outcome.ReadOutcome.{ReadOutcome}
use Rattle.mf_read.specs.declared.outcome.ReadOutcome.TheVariants.{Bytes, Memory}
use Rattle.mf_read.specs.Asking.{Ask, IsShort, lost_in, away_in}
use Rattle.mf_read.specs.Reading.{Reads, bears}

-- a short asking in which no name was Away has more names Lost than the generation bears
abbrev pub ShortHasLost : Type 0
ShortHasLost = (b : BookFacts) (g j : ℕ) (asks : List Ask) → IsShort b g j asks → away_in asks ≡ []
    → bears b g < length (lost_in asks)

-- the outcomes are the same: a list of bytes is by its bytes
abbrev pub IsSame : ReadOutcome → ReadOutcome → Type 0
IsSame (Bytes g bytes from) p = (others : Vec ℕ Global) × (p ≡ Bytes g others from) × (others.items ≡ bytes.items)
IsSame o p = p ≡ o

-- where the whole state is told, a read that had its memory has one outcome, and leaves one state, view and ledger
abbrev pub OneResult : Type 0
OneResult = (a b c : Actor) (w : World) (o p : ReadOutcome) → a.whole ≡ Some w → Reads o a b → Reads p a c
    → o ≢ Memory → p ≢ Memory → IsSame o p × (b ≡ c)

-- a read publishes nothing, takes no right and closes nothing; Made and Met grow by its entries and its pin
abbrev pub ReadsGain : Type 0
ReadsGain = (a b : Actor) (o : ReadOutcome) → (x : Reads o a b) → EngineGains x.0 [] 0 0 a b
