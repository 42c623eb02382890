-- The facts of a file among many actors tell the file at rest from which its table was made.
use Rattle.std.proofs.Common.{◌≡◌, false, [], length, get_or, sym, ap, ◌∙◌}
use Rattle.std.proofs.lemmas.List.{ext_get_or}
use Rattle.mf_places.specs.Names.{count_of}
use Rattle.mf_vault.specs.declared.answers.Rest.{Rest}
use Rattle.mf_vault.specs.declared.answers.Rest.TheVariants as rest
use Rattle.mf_vault.specs.Facts.{Facts}
use Rattle.mf_vault.specs.Resting.{word_of, home_of}
use Rattle.mf_gate.specs.declared.known.About.{About}
use Rattle.mf_gate.specs.declared.gate.Pass.{Pass}
use Rattle.mf_gate.specs.Passes.{IsAt, about}
use Rattle.mf_gate.specs.Table.{facts_of}
use Rattle.mf_plain.specs.Alone.{rest_from}
use Rattle.mf_plain.proofs.Rests.{rest_back}
use Rattle.mf_shared.specs.declared.shared.Shared.{Shared}
use Rattle.mf_shared.specs.Shared.{facts_in}
use Rattle.mf_shared.proofs.Told.{code_tells}

-- the word and the slot of a name at rest tell it
rest_told : (r s : Rest) → word_of r ≡ word_of s → home_of r ≡ home_of s → r ≡ s
rest_told r s a b = sym (rest_back r) ∙ ((λ i. rest_from (a i) (b i)) ∙ rest_back s)

about_told : (j k : About) → length j.closed ≡ length j.book.shape.stages
    → length k.closed ≡ length k.book.shape.stages → length j.names ≡ count_of j.book → length k.names ≡ count_of k.book
    → facts_of j ≡ facts_of k → j ≡ k
about_told j k jc kc jn kn e = λ i. record {
  book = (e i).book;
  bytes = (e i).bytes;
  losses = (e i).losses;
  number = (e i).opening.number;
  closed = closed i;
  names = names i;
}
  where
    closed : j.closed ≡ k.closed
    closed = ext_get_or false j.closed k.closed (jc ∙ (ap (λ (f : Facts). length f.book.shape.stages) e ∙ sym kc))
        (λ g l. ap (λ (f : Facts). f.opening.closed g) e)

    names : j.names ≡ k.names
    names = ext_get_or rest.Unborn j.names k.names (jn ∙ (ap (λ (f : Facts). count_of f.book) e ∙ sym kn))
        (λ n l. rest_told (get_or j.names n rest.Unborn) (get_or k.names n rest.Unborn)
        (ap (λ (f : Facts). f.opening.name n) e) (ap (λ (f : Facts). f.opening.home n) e))

-- a pass at the table of one file is at that of each file with the same facts
pub at_each : (p : Pass) (s t : Shared) → IsAt p t.gate → facts_in s ≡ facts_in t → IsAt p s.gate
at_each p s t at e = (
  at.0 ∙ sym (code_tells s.gate.board.shared.table_id t.gate.board.shared.table_id (ap (λ (f : Facts). f.table) e)),
  at.1 ∙ sym (about_told (about s.gate) (about t.gate) s.closed t.closed s.names t.names
      (λ i. record (e i) { born = 0; now = 0; table = [] })),
)
