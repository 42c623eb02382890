-- Where the names lie.
use Rattle.std.specs.Prelude.{◌≡◌, ℕ, ◌+◌, ◌*◌, ◌%◌, ◌<◌, ◌==◌, Bool, IsTrue, length}
use Rattle.mf_shape.specs.Stages.{max_width, max_copied_width}
use Rattle.mf_places.specs.declared.Name.{Name}
use Rattle.mf_places.specs.declared.Name.TheVariants as name
use Rattle.mf_places.specs.Facts.{BookFacts}
use Rattle.mf_places.specs.Generations.{holds, stripe_of}

-- The column of a name: the data go over the greatest width, each copy is moved on by the greatest width of a stage
-- with copies, and the parities stand behind.
abbrev pub column_of : BookFacts → Name → ℕ
column_of b (name.Data i) = i % max_width b.shape.stages
column_of b (name.Copy c i) = (i + (c + 1) * max_copied_width b.shape.stages) % max_width b.shape.stages
column_of b (name.Parity width j p) = max_width b.shape.stages + p

-- The server of a name.
abbrev pub server_of : BookFacts → Name → ℕ
server_of b x = (b.file + column_of b x) % b.shape.servers

-- The name lies on this server.
abbrev pub is_on : BookFacts → ℕ → Name → Bool
is_on b server x = server_of b x == server

-- Any other name of the same stripe of one generation lies on another server.
pub record IsApart (b : BookFacts) (x : Name) : Type 0 where
  pub apart : (g : ℕ) (y : Name) → g < length b.shape.stages → IsTrue (holds b g x) → IsTrue (holds b g y)
      → stripe_of b g x ≡ stripe_of b g y → server_of b x ≡ server_of b y → x ≡ y
