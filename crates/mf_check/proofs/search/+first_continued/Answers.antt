use Rattle.std.proofs.Common.{◌≡◌, ◌+◌, ℕ, Option, List, [], ◌∷◌, ◌++◌, length, ap, sym, subst, ◌∙◌, arith}
use Rattle.mf_check.specs.Search.{SearchAnswer, IsFront, AllDecodable, IsFirstUndecodable}
use Rattle.mf_check.proofs.Orders.{answer_whole, IsFront-push, one_more, found, popped}
use Rattle.mf_check.proofs.search.+first_continued.Goals as goal

pub returns-then-len-points : goal.returns-then-len-points
returns-then-len-points t c =
    let points = c.args.points.now in
    let p = c.args.places.now.items in
    let read_is : c.deref.result.now ≡ p = c.deref.ensures.value in
    answer_whole points c.args.width c.args.from p c.deref.result.now c.requires.front
    (ap length (sym read_is) ∙ c.deref.ensures.len ∙ sym c.len.ensures ∙ c.if-len-points.true) read_is
    c.kernel_at.result c.kernel_at.ensures

pub first_continued-requires : goal.first_continued-requires
first_continued-requires t c =
    let points = c.args.points.now in
    let p = c.args.places.now.items in
    let place = c.loop-place.place in
    let held : length c.loop-place.places.items ≡ length p = ap length c.loop-place.invariant.same in
    let room = c.loop-place.invariant.room in
    let same : c.push.new.self.items ≡ p ++ place ∷ [] = c.in_ok-push.ensures.items
    ∙ ap (λ (l : List ℕ). l ++ place ∷ []) c.loop-place.invariant.same in (
      omega (arith, c.decreases, c.in_ok-push.ensures.len, c.loop-place.places.ok.0, c.args.places.now.ok.0),
      (
        c.requires.few,
        (
          c.requires.narrow,
          subst (λ (l : List ℕ). IsFront (c.args.width + length points) (length points) (place + 1) l) (sym same)
              (IsFront-push (c.args.width + length points) (length points) c.args.from place p c.requires.front
              c.loop-place.invariant.room c.loop-place.auto.place c.loop-place-test.true),
        ),
      ),
    )

pub returns-in-Some : goal.returns-in-Some
returns-in-Some t c =
    let points = c.args.points.now in
    let width = c.args.width in
    let p = c.args.places.now.items in
    let place = c.loop-place.place in
    let new = c.first_continued.new.places.items in
    let same : c.push.new.self.items ≡ p ++ place ∷ [] = c.in_ok-push.ensures.items
    ∙ ap (λ (l : List ℕ). l ++ place ∷ []) c.loop-place.invariant.same in
    let answer : IsFirstUndecodable points width c.push.new.self.items (place + 1) new c.in-Some.kernel =
    subst (λ (o : Option (List ℕ)). SearchAnswer points width c.push.new.self.items (place + 1) new o) c.in-Some.is
    c.in_ok-kernel.ensures in
    found points width c.args.from p c.requires.front place new c.in-Some.kernel c.loop-place.invariant.room
    c.loop-place.auto.place c.loop-place.invariant.done
    (subst (λ (l : List ℕ). IsFirstUndecodable points width l (place + 1) new c.in-Some.kernel) same answer)

pub loop-place-preserved : goal.loop-place-preserved
loop-place-preserved t c =
    let points = c.args.points.now in
    let width = c.args.width in
    let p = c.args.places.now.items in
    let place = c.loop-place.place in
    let new = c.first_continued.new.places.items in
    let same : c.push.new.self.items ≡ p ++ place ∷ [] = c.in_ok-push.ensures.items
    ∙ ap (λ (l : List ℕ). l ++ place ∷ []) c.loop-place.invariant.same in
    let answer : (new ≡ c.push.new.self.items) × AllDecodable points width c.push.new.self.items (place + 1)
    (λ s. Unit {0}) =
    subst (λ (o : Option (List ℕ)). SearchAnswer points width c.push.new.self.items (place + 1) new o) c.in-None.is
    c.in_ok-kernel.ensures in
    record {
      same = popped p new c.pop.new.self.items place c.first_continued.new.places.len (answer.0 ∙ same)
          c.first_continued.new.places.ok.0 c.pop.ensures.rest;
      room = c.loop-place.invariant.room;
      done = one_more points width c.args.from p c.requires.front place c.loop-place.invariant.room
          c.loop-place.invariant.done
          (subst (λ (l : List ℕ). AllDecodable points width l (place + 1) (λ s. Unit {0})) same answer.1);
    }
