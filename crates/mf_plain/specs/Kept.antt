-- What the fields of a file at rest are.
use Rattle.mf_plain.specs.declared.plain.Plain.TheInside.{Inside}
use Rattle.mf_plain.specs.Resting.{Resting, AtRest}

abbrev pub resting_of : Inside → Resting
resting_of p = record {
  book = p.book;
  bytes = p.told.value.bytes;
  losses = p.told.value.losses;
  number = p.published;
  closed = p.closed.items;
  names = p.names.items;
  born = p.born;
}

abbrev pub IsKept : Inside → Type 0
IsKept p = AtRest (resting_of p)
