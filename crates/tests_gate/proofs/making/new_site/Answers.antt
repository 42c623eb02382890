use Rattle.std.proofs.Common.{false, [], ◌∷◌, sym}
use Rattle.std.proofs.Common.{subst}
use Rattle.mf_gate.specs.Resting.{AtRest, about_of}
use Rattle.tests_gate.proofs.TwoBytes.{rests}
use Rattle.tests_gate.proofs.making.new_site.Goals as goal

pub new-made-requires : goal.new-made-requires
new-made-requires c =
    subst AtRest (λ j. about_of (sym c.in_ok-book.ensures j) (sym c.pick-bytes.ensures j) c.in_ok-losses.losses 1
    (false ∷ false ∷ false ∷ []) (sym c.in_ok-names.ensures j)) (rests c.in_ok-losses.losses)
