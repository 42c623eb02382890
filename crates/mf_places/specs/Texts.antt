-- The texts of names and of sets of servers.
use Rattle.std.specs.Prelude.{ℕ, List, ◌++◌, codes, decimal}
use Rattle.std.specs.List.{flat_map}
use Rattle.mf_places.specs.Servers.{servers_of}
use Rattle.mf_places.specs.declared.Name.{Name}
use Rattle.mf_places.specs.declared.Name.TheVariants.{Data, Copy, Parity}
use Rattle.mf_places.specs.declared.servers.Servers.{Servers}

-- `D3` is chunk 3, `C0.3` copy 0 of chunk 3, and `P4.1.0` parity 0 of stripe 1 of width 4.
abbrev pub name_text : Name → List ℕ
name_text (Data i) = codes "D" ++ decimal i
name_text (Copy c i) = codes "C" ++ decimal c ++ codes "." ++ decimal i
name_text (Parity width j p) = codes "P" ++ decimal width ++ codes "." ++ decimal j ++ codes "." ++ decimal p

-- A lost name, with the line of the lose command that lost it.
abbrev pub lost_text : Name → ℕ → List ℕ
lost_text name line = name_text name ++ codes ":" ++ decimal line

-- A name that can't be reached, and its server.
abbrev pub away_text : Name → ℕ → List ℕ
away_text name server = name_text name ++ codes " server " ++ decimal server

-- A number behind a space.
abbrev pub spaced : ℕ → List ℕ
spaced n = codes " " ++ decimal n

-- The servers of a set, ascending, each behind a space.
abbrev pub servers_text : Servers → List ℕ
servers_text set = flat_map spaced (servers_of set)
