-- The file at rest of its parts.
use Rattle.mf_plain.specs.declared.parts.Parts.{Parts}
use Rattle.mf_plain.specs.Resting.{Resting}

abbrev pub resting_in : Parts → Resting
resting_in p = record {
  book = p.book;
  bytes = p.told.value.bytes;
  losses = p.told.value.losses;
  number = p.published;
  closed = p.closed.items;
  names = p.names.items;
  born = p.born;
}
