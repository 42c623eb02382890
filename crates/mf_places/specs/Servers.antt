-- Sets of servers.
use Rattle.std.specs.Prelude.{ℕ, ◌^◌, ◌<◌, Bool, List, filter, fold, if◌then◌else◌, nat_lt, IsBitSet, bit_or, ◌==◌}
use Rattle.std.specs.Int.{bit_at}
use Rattle.std.specs.List.{range_with_len}
use Rattle.mf_shape.specs.declared.TheConstants.{MAX_SERVERS}
use Rattle.mf_places.specs.declared.servers.Servers.{Servers}

-- The server is in the set: its bit is set. A server above 127 is in no set.
abbrev pub IsIn : Servers → ℕ → Type 0
IsIn set server = (server < MAX_SERVERS) × IsBitSet set.bits server

-- The set of no server.
abbrev pub no_servers : Servers
no_servers = record { bits = 0 }

-- The set with one server more. A server above 127 changes nothing.
abbrev pub with_server : Servers → ℕ → Servers
with_server set server =
    record { bits = (if nat_lt server MAX_SERVERS then bit_or set.bits (2 ^ server) else set.bits) }

-- The set of these servers.
unfoldable pub set_of : List ℕ → Servers
set_of servers = fold with_server no_servers servers

-- The server is in the set, as a test.
abbrev pub is_in : Servers → ℕ → Bool
is_in set server = bit_at set.bits server == 1

-- The servers of a set, ascending.
unfoldable pub servers_of : Servers → List ℕ
servers_of set = filter (is_in set) (range_with_len 0 MAX_SERVERS)
