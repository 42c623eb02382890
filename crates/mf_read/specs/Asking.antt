-- An asking: the gets by which all data of a stripe is asked for, each with what it found.
use Rattle.std.specs.Prelude.{◌≡◌, ℕ, zero, suc, ◌+◌, ◌-◌, ◌<◌, ◌⊎◌, List, [], ◌∷◌, ◌++◌, map}
use Rattle.std.specs.List.{range_with_len}
use Rattle.mf_shape.specs.Stages.{copies_at}
use Rattle.mf_places.specs.declared.Name.{Name}
use Rattle.mf_places.specs.declared.Name.TheVariants as name
use Rattle.mf_places.specs.Facts.{BookFacts}
use Rattle.mf_places.specs.Generations.{pieces_at, pieces_of, parities_of_stripe}
use Rattle.mf_vault.specs.declared.answers.Got.{Got}
use Rattle.mf_vault.specs.declared.answers.Got.TheVariants as got
use Rattle.mf_vault.specs.Facts.{Facts, cell_of}
use Rattle.mf_vault.specs.Actor.{Call, get}

-- what a get found: the chunk, the line of the lose command that lost it, or the server that can't be reached
pub data Found : Type 0 where
  here : Found
  lost : ℕ → Found
  away : ℕ → Found

-- a name that was asked for, and what was found
pub record Ask : Type 0 where
  pub name : Name
  pub found : Found

-- ---- what the asks say

-- how many names were Here
abbrev pub one_here : Found → ℕ
one_here here = 1
one_here (lost l) = 0
one_here (away s) = 0

abbrev pub here_in : List Ask → ℕ
here_in [] = 0
here_in (a ∷ asks) = one_here a.found + here_in asks

-- the names that were Lost, in the order found, with their lines
abbrev pub one_lost : Name → Found → List (Name × ℕ)
one_lost x here = []
one_lost x (lost l) = (x, l) ∷ []
one_lost x (away s) = []

abbrev pub lost_in : List Ask → List (Name × ℕ)
lost_in [] = []
lost_in (a ∷ asks) = one_lost a.name a.found ++ lost_in asks

-- the names that were Away, in the order found, with their servers
abbrev pub one_away : Name → Found → List (Name × ℕ)
one_away x here = []
one_away x (lost l) = []
one_away x (away s) = (x, s) ∷ []

abbrev pub away_in : List Ask → List (Name × ℕ)
away_in [] = []
away_in (a ∷ asks) = one_away a.name a.found ++ away_in asks

-- ---- the order of an asking

-- names asked for in turn, until `wanted` of them were Here or all were asked for
abbrev pub still : Found → ℕ → ℕ
still here n = n
still (lost l) n = suc n
still (away s) n = suc n

abbrev pub IsAsked : (wanted : ℕ) (names : List Name) → List Ask → Type 0
IsAsked zero names asks = asks ≡ []
IsAsked (suc n) [] asks = asks ≡ []
IsAsked (suc n) (x ∷ names) [] = ⊥
IsAsked (suc n) (x ∷ names) (a ∷ asks) = (a.name ≡ x) × IsAsked (still a.found n) names asks

-- where generation g has chunk i: its data, and its copies
abbrev pub homes_of : BookFacts → (g i : ℕ) → List Name
homes_of b g i = name.Data i ∷ map (λ c. name.Copy c i) (range_with_len 0 (copies_at b.shape.stages g))

-- chunks in turn, each asked for where generation g has it until it was Here
abbrev pub AreAsked : BookFacts → (g : ℕ) (chunks : List ℕ) → List (List Ask) → Type 0
AreAsked b g [] pieces = pieces ≡ []
AreAsked b g (i ∷ chunks) [] = ⊥
AreAsked b g (i ∷ chunks) (asks ∷ pieces) = IsAsked 1 (homes_of b g i) asks × AreAsked b g chunks pieces

-- how many chunks were Here nowhere
abbrev pub missing : List (List Ask) → ℕ
missing [] = 0
missing (asks ∷ pieces) = (1 - here_in asks) + missing pieces

abbrev pub joined : List (List Ask) → List Ask
joined [] = []
joined (asks ∷ pieces) = asks ++ joined pieces

-- the asking of stripe j of generation g: each of its chunks in turn, and then its parities, until as many were Here as
-- chunks were Here nowhere
pub record IsAsking (b : BookFacts) (g j : ℕ) (asks : List Ask) : Type 0 where
  pub pieces : List (List Ask)
  pub parities : List Ask
  pub order : asks ≡ joined pieces ++ parities
  pub each : AreAsked b g (pieces_at b g j) pieces
  pub after : IsAsked (missing pieces) (parities_of_stripe b g j) parities

-- it is served where as many names were Here as the stripe has chunks, and short where fewer were
abbrev pub IsServed : BookFacts → (g j : ℕ) → List Ask → Type 0
IsServed b g j asks = IsAsking b g j asks × (here_in asks ≡ pieces_of b g j)

abbrev pub IsShort : BookFacts → (g j : ℕ) → List Ask → Type 0
IsShort b g j asks = IsAsking b g j asks × (here_in asks < pieces_of b g j)

-- ---- the calls

-- a chunk that is handed out is the name's cell
abbrev pub got_of : Facts → Name → Found → Got
got_of f x here = got.Here (cell_of f x)
got_of f x (lost l) = got.Lost l
got_of f x (away s) = got.Away s

abbrev pub get_of : Facts → Ask → Call
get_of f a = get a.name (got_of f a.name a.found)

abbrev pub gets : Facts → List Ask → List Call
gets f [] = []
gets f (a ∷ asks) = get_of f a ∷ gets f asks

-- calls of an asking that want of memory cut: its front, and perhaps a get of the next name, which was Here and
-- couldn't
-- be shared
abbrev pub IsCut : Facts → (g j : ℕ) → List Call → Type 0
IsCut f g j cs = (asks rest : List Ask) × IsAsking f.book g j (asks ++ rest)
    × ((cs ≡ gets f asks)
    ⊎ ((x : Name) × (others : List Ask) × (rest ≡ record { name = x; found = here } ∷ others)
    × (cs ≡ gets f asks ++ get x got.Memory ∷ [])))
