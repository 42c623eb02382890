-- What came of gathering a stripe.
use Rattle.std.specs.Prelude.{◌≡◌, ℕ, List}
use Rattle.mf_decode.specs.declared.gathering.Gathered.{Gathered}
use Rattle.mf_decode.specs.declared.gathering.Gathered.TheVariants.{All, Short, Memory}
use Rattle.mf_vault.specs.Actor.{Actor, Call}
use Rattle.mf_vault.specs.Licence.{Does}
use Rattle.mf_read.specs.Asking.{Ask, IsServed, IsShort, IsCut, gets}
use Rattle.mf_read.specs.Stripes.{chunks_of_stripe}

-- an asking led from one actor to the other, and all chunks are the stripe's
abbrev pub Gathers : (g j : ℕ) → Gathered → Actor → Actor → Type 0
Gathers g j (All chunks) a b =
    (asks : List Ask) × IsServed a.facts.book g j asks × Does (gets a.facts asks) a b
    × (chunks.items ≡ chunks_of_stripe a.facts g j)
Gathers g j Short a b = (asks : List Ask) × IsShort a.facts.book g j asks × Does (gets a.facts asks) a b
Gathers g j Memory a b = (cs : List Call) × IsCut a.facts g j cs × Does cs a b
