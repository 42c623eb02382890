use Rattle.std.proofs.Common.{List, All, ap, sym, ◌∙◌, subst}
use Rattle.mf_places.specs.declared.Name.{Name}
use Rattle.mf_convert.specs.Cells.{IsFirst}
use Rattle.mf_convert.proofs.Listed.{first_held, first_of}
use Rattle.mf_convert.proofs.creating.prepared.Goals as goal

pub cells_of-requires-clause-names : goal.cells_of-requires-clause-names
cells_of-requires-clause-names g c = subst (λ b. All (IsFirst b) c.deref.result.now) (sym c.book-2.ensures)
    (subst (λ (l : List Name). All (IsFirst (g.A.Access.actor c.args.access.now).facts.book) l)
    (sym (c.deref.ensures.value ∙ c.in_ok-names.ensures.sublist ∙ ap first_of c.book.ensures))
    (first_held (g.A.Access.actor c.args.access.now).facts.book))
