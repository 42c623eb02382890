-- The texts of a script's faults.
use Rattle.std.specs.Prelude.{ℕ, List, [], ◌++◌, codes}
use Rattle.mf_shape.specs.Texts.{shape_text}
use Rattle.mf_check.specs.Texts.{family_text}
use Rattle.mf_lines.specs.declared.parts.LimitName.{LimitName}
use Rattle.mf_lines.specs.declared.parts.LimitName.TheVariants as limit
use Rattle.mf_lines.specs.declared.parts.Kind.{Kind}
use Rattle.mf_lines.specs.declared.parts.Kind.TheVariants as kind

-- the names of limits
abbrev pub limit_text : LimitName → List ℕ
limit_text limit.Text = codes "text"
limit_text limit.Number = codes "number"
limit_text limit.Tick = codes "tick"
limit_text limit.Point = codes "point"
limit_text limit.Points = codes "points"
limit_text limit.Chunk = codes "chunk"
limit_text limit.Name = codes "name"
limit_text limit.Files = codes "files"
limit_text limit.Pattern = codes "pattern"
limit_text limit.Length = codes "length"
limit_text limit.Chunks = codes "chunks"
limit_text limit.Phases = codes "phases"
limit_text limit.Clients = codes "clients"
limit_text limit.Commands = codes "commands"

-- The kinds of faults. Want of memory has no text.
abbrev pub kind_text : Kind → List ℕ
kind_text kind.Text = codes "text"
kind_text kind.Header = codes "header"
kind_text kind.Unknown = codes "unknown"
kind_text kind.Arity = codes "arity"
kind_text kind.Number = codes "number"
kind_text (kind.Limit name) = codes "limit " ++ limit_text name
kind_text kind.Twice = codes "twice"
kind_text kind.NoFile = codes "nofile"
kind_text kind.NoServer = codes "noserver"
kind_text kind.Order = codes "order"
kind_text (kind.Shape fault) = codes "shape " ++ shape_text fault
kind_text (kind.Family fault) = codes "family " ++ family_text fault
kind_text kind.Memory = []
