-- What is kept of a cache of plans.
use Rattle.std.specs.Prelude.{ℕ, Option, Some, None}
use Rattle.lru.specs.LruCache.{LruCache}

-- How many entries a cache keeps at most. Where there is none, none are kept.
abbrev pub capacity_of : {K V : Type 0} → Option (LruCache K V) → ℕ
capacity_of None = 0
capacity_of (Some kept) = kept.cap
