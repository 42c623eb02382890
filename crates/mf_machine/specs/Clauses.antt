-- The clauses of *Accounted* by name, none of which is idle.
use Rattle.std.specs.Prelude.{◌≢◌, ℕ, ◌<◌}
use Rattle.mf_machine.specs.Exhibits.{Needs}
use Rattle.mf_machine.specs.File.{File, Opening, State}
use Rattle.mf_machine.specs.Kept.{Accounted, NumberGiven, Greatest, PublishedOnce, ClosedOnce, PutOnce, DroppedOnce}
use Rattle.mf_machine.specs.Kept.{ClosedBy, UnbornStill, DroppedBy, LostOnceMore, LostAsOften, LineGiven}

-- their names
pub data AccountedClause : Type 0 where
  number : AccountedClause
  greatest : AccountedClause
  published_once : AccountedClause
  closed_once : AccountedClause
  put_once : AccountedClause
  dropped_once : AccountedClause
  closed : AccountedClause
  unborn : AccountedClause
  dropped : AccountedClause
  lost : AccountedClause
  kept : AccountedClause
  line : AccountedClause

-- what each says
abbrev pub Says : AccountedClause → File → Opening → State → Type 0
Says number f k s = NumberGiven k s
Says greatest f k s = (m : ℕ) → Greatest s m
Says published_once f k s = (m : ℕ) → PublishedOnce k s m
Says closed_once f k s = (g : ℕ) → g < f.stages → ClosedOnce k s g
Says put_once f k s = (n : ℕ) → n < f.names → PutOnce k s n
Says dropped_once f k s = (n : ℕ) → n < f.names → DroppedOnce k s n
Says closed f k s = (g : ℕ) → g < f.stages → ClosedBy k s g
Says unborn f k s = (n : ℕ) → n < f.names → UnbornStill k s n
Says dropped f k s = (n : ℕ) → n < f.names → DroppedBy k s n
Says lost f k s = (n : ℕ) → n < f.names → LostOnceMore k s n
Says kept f k s = (n : ℕ) → n < f.names → LostAsOften k s n
Says line f k s = (n : ℕ) → n < f.names → LineGiven k s n

-- none of them is idle: for each some state meets all others, and not the rule
abbrev pub AccountedNeeds : Type 0
AccountedNeeds = (c : AccountedClause) → Needs (λ f k s. Accounted f k s)
    (λ f k s. (d : AccountedClause) → d ≢ c → Says d f k s)
