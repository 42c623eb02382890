use Rattle.std.proofs.Common.{◌≡◌, ◌+◌, ℕ, Option, List, [], ◌∷◌, ◌++◌, get_or, length, ap, subst, ◌∙◌, arith}
use Rattle.mf_check.specs.Search.{SearchAnswer, AllDecodable, IsFirstUndecodable}
use Rattle.mf_check.proofs.Orders.{begins_with_zero, zero_before}
use Rattle.mf_check.proofs.Shifts.{decodable_from_first}
use Rattle.mf_check.proofs.search.first_undecodable.Goals as goal

pub returns-in-None : goal.returns-in-None
returns-in-None c =
    let points = c.args.points.now in
    let width = c.args.width in
    let begun = c.push.new.self.items in
    let same : begun ≡ 0 ∷ [] = c.in_ok-push.ensures.items
    ∙ ap (λ (l : List ℕ). l ++ 0 ∷ []) c.in_ok-places.ensures.items in
    let new = c.first_continued.new.places.items in
    let answer : (new ≡ begun) × AllDecodable points width begun 1 (λ s. Unit {0}) =
    subst (λ (o : Option (List ℕ)). SearchAnswer points width begun 1 new o) c.in-None.is
    c.in_ok-first_continued.ensures in
    let all : AllDecodable points width (0 ∷ []) 1 (λ s. Unit {0}) =
    subst (λ (l : List ℕ). AllDecodable points width l 1 (λ s. Unit {0})) same answer.1 in
    record {
      each = decodable_from_first points width (λ i. (let h = c.type_inv.points i in omega arith))
          (λ i li. (let h = c.requires.nonzero i li in omega arith))
          (λ s set first. all.each s set (begins_with_zero (width + length points) (length points) s set first) tt);
    }

pub returns-in-Some : goal.returns-in-Some
returns-in-Some c =
    let points = c.args.points.now in
    let width = c.args.width in
    let begun = c.push.new.self.items in
    let same : begun ≡ 0 ∷ [] = c.in_ok-push.ensures.items
    ∙ ap (λ (l : List ℕ). l ++ 0 ∷ []) c.in_ok-places.ensures.items in
    let new = c.first_continued.new.places.items in
    let answer : IsFirstUndecodable points width begun 1 new c.in-Some.kernel =
    subst (λ (o : Option (List ℕ)). SearchAnswer points width begun 1 new o) c.in-Some.is
    c.in_ok-first_continued.ensures in
    let first : IsFirstUndecodable points width (0 ∷ []) 1 new c.in-Some.kernel =
    subst (λ (l : List ℕ). IsFirstUndecodable points width l 1 new c.in-Some.kernel) same answer in
    let zero : get_or new 0 0 ≡ 0 = first.continues.begins 0 (omega arith) in (
      first.set,
      first.undecodable,
      λ s set before. first.first.each s set
          (begins_with_zero (width + length points) (length points) s set (zero_before s new before zero)) before,
      first.kernel_list,
    )
