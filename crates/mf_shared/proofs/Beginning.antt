-- A phase of many actors begins from a file at rest.
use Rattle.std.proofs.Common.{◌≡◌, ℕ, ◌++◌, Bool, List, sym, ap, ◌∙◌, subst}
use Rattle.mf_places.specs.declared.losses.LoseLine.{LoseLine}
use Rattle.mf_gate.specs.Resting as gate
use Rattle.mf_gate.specs.Resting.{about_of}
use Rattle.mf_plain.specs.Resting.{Resting, AtRest}
use Rattle.mf_plain.proofs.Begins.{rests_on}

-- here r is the file as its parts tell it, and r' the same as the caller sees it
pub rests_here : (r r' : Resting) (losses : List LoseLine) (bytes : List ℕ) (shut : List Bool) → r ≡ r' → AtRest r
    → (more : List LoseLine) × (losses ≡ r'.losses ++ more) → bytes ≡ r.bytes → shut ≡ r.closed
    → gate.AtRest (about_of r.book bytes losses r.number shut r.names)
rests_here r r' losses bytes shut same at (more, is) eb es =
    subst (λ (b : List ℕ). gate.AtRest (about_of r.book b losses r.number shut r.names)) (sym eb)
    (subst (λ (l : List Bool). gate.AtRest (about_of r.book r.bytes losses r.number l r.names)) (sym es) record {
      closed = at.closed;
      names = at.names;
      rest = rests_on r 0 0 losses more at (is ∙ ap (λ (z : Resting). z.losses ++ more) (sym same));
    })
