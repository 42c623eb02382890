-- A phase begins from a file at rest.
use Rattle.std.proofs.Common.{◌≡◌, ℕ, ◌+◌, ◌==◌, ◌≤◌, Bool, true, false, eqb, cond, List, [], ◌∷◌, ◌++◌, length}
use Rattle.std.proofs.Common.{length-append, None, sym, refl, ap, ◌∙◌, subst, arith, if◌then◌else◌}
use Rattle.std.proofs.lemmas.Grind.{merely}
use Rattle.mf_machine.specs.Actors.{on}
use Rattle.mf_machine.specs.Rest as machine
use Rattle.mf_machine.specs.Worlds.{World, Fits, Opens}
use Rattle.mf_machine.proofs.Tells.{rest_goes_on}
use Rattle.mf_machine.proofs.Openings.{opens}
use Rattle.mf_places.specs.declared.losses.LoseLine.{LoseLine}
use Rattle.mf_places.specs.Servers.{no_servers}
use Rattle.mf_places.specs.declared.servers.Servers.{Servers}
use Rattle.mf_vault.specs.declared.answers.Entry.{Entry}
use Rattle.mf_vault.specs.Facts.{Facts, file, lines, stages}
use Rattle.mf_vault.specs.Licence.{Holding}
use Rattle.mf_vault.specs.Resting.{words_of, opening_of}
use Rattle.mf_vault.proofs.Doing.{nothing}
use Rattle.mf_plain.specs.declared.known.Known.{Known}
use Rattle.mf_plain.specs.Alone.{world, actor_at, first_stored, first_actor, pin_words, pins_of}
use Rattle.mf_plain.specs.Resting.{Resting, AtRest, facts_of}
use Rattle.mf_plain.specs.Standing.{Stands, first_known, facts_at}
use Rattle.mf_plain.proofs.Lists.{words_length, homes_length, pins_length}
use Rattle.mf_plain.proofs.Worlds as worlds

lines_append : (xs ys : List LoseLine) → lines (xs ++ ys) ≡ lines xs ++ lines ys
lines_append [] ys = refl
lines_append (x ∷ xs) ys = ap (λ l. (record { line = x.line; server = x.server }) ∷ l) (lines_append xs ys)

born_low : (n now born : ℕ) → born ≤ now → (if n == 0 then now else born) ≤ now
born_low n now born l = by (eqb n 0)
  where
    by : (t : Bool) → cond t now born ≤ now
    by true = omega arith
    by false = l

module _ (r : Resting) (now born : ℕ) (losses : List LoseLine) (more : List LoseLine) (at : AtRest r)
    (is : losses ≡ r.losses ++ more) where
  abbrev k : Known
  k = first_known r losses

  abbrev f : Facts
  f = facts_at r.book born now k

  abbrev w : World
  w = world (first_stored r) k.view

  pub rests_on : machine.Rest (file f) f.opening
  rests_on =
      subst (λ ls. machine.Rest (record (file (facts_of r r.born r.losses)) {
        losses =
            ls;
      }) (opening_of r.number r.closed r.names))
      (sym (ap lines is ∙ lines_append r.losses more))
      (rest_goes_on (file (facts_of r r.born r.losses)) (opening_of r.number r.closed r.names) (lines more) at.rest)

  long : length r.closed ≡ stages f
  long = at.closed

  wide : length (pin_words (pins_of None None) 0 r.closed) ≡ stages f
  wide = pins_length (pins_of None None) 0 r.closed ∙ long

  fits : Fits (file f) w
  fits = record {
    wide = let a = length-append (pin_words (pins_of None None) 0 r.closed) (words_of r.names) in let b =
        words_length r.names in
        let c = wide in let d = at.names in omega arith;
    deep = homes_length r.names ∙ at.names;
  }

  opened : Opens (file f) f.opening w
  opened = record {
    fits = fits;
    number = refl;
    right = refl;
    pins = λ g l. worlds.pin_get f (first_stored r) k.view long g (let z = long in omega arith)
        ∙ (let z = none_on g in omega arith);
    names = λ n l. worlds.name_get f (first_stored r) k.view long n;
    homes = λ n l. worlds.home_get f (first_stored r) k.view long n;
    views = refl;
  }
    where
      none_on : (g : ℕ) → on g 0 0 ≡ 0
      none_on g = let z =
          Rattle.mf_machine.proofs.Lists.bit_not 0 (g + 1) (λ e. let y : 0 ≡ g + 1 = e in absurd (omega arith)) in
          omega arith

  holding : Holding f w
  holding = record { rest = rests_on; fits = fits; ruled = opens (file f) f.opening w rests_on opened }

  pub first_stands : born ≤ now → Stands r.book born now k (first_stored r) [] no_servers
  first_stands since = record {
    closed = at.closed;
    names = at.names;
    since = since;
    is_file = record { layout = at.is_file.layout; long = at.is_file.long; bytes = at.is_file.bytes };
    ready = record { active = omega arith; free = refl; hold = omega arith; work = omega arith; right = omega arith };
    tied = record { share = refl; gone = refl; strays = refl; right = refl; hold = refl; work = refl };
    holding = merely holding;
    came = merely ([], nothing _);
  }

-- in the words of the code
pub new_stands : (r r' : Resting) (now born : ℕ) (losses : List LoseLine) (k : Known) (es : List Entry) (cut : Servers)
    → r ≡ r' → AtRest r
    → r'.born ≤ now → (more : List LoseLine) × (losses ≡ r'.losses ++ more) → k ≡ first_known r' losses
    → born ≡ (if r.number == 0 then now else r.born) → es ≡ [] → cut ≡ no_servers
    → Stands r.book born now k (first_stored r) es cut
new_stands r r' now born losses k es cut same at since (more, is) ek eb ee ec =
    subst (λ (x : Known). Stands r.book born now x (first_stored r) es cut) (sym (ek
    ∙ ap (λ (z : Resting). first_known z losses) (sym same)))
    (subst (λ l. Stands r.book born now (first_known r losses) (first_stored r) l cut) (sym ee)
    (subst (λ x. Stands r.book born now (first_known r losses) (first_stored r) [] x) (sym ec)
    (first_stands r now born losses more at (is ∙ ap (λ (z : Resting). z.losses ++ more) (sym same))
    (subst (λ x. x ≤ now) (sym eb) (born_low r.number now r.born
    (subst (λ (z : Resting). z.born ≤ now) (sym same) since))))))

pub new_actor : (r r' : Resting) (now born : ℕ) (losses : List LoseLine) (k : Known) (es : List Entry) (cut : Servers)
    → r ≡ r'
    → k ≡ first_known r' losses → born ≡ (if r.number == 0 then now else r.born) → es ≡ [] → cut ≡ no_servers
    → actor_at (facts_at r.book born now k) (first_stored r) k.view es cut ≡ first_actor r' now losses
new_actor r r' now born losses k es cut same ek eb ee ec =
    (λ j. actor_at (facts_at r.book (eb j) now (to j)) (first_stored r) (to j).view (ee j) (ec j))
    ∙ ap (λ (z : Resting). first_actor z now losses) same
  where
    to : k ≡ first_known r losses
    to = ek ∙ ap (λ (z : Resting). first_known z losses) (sym same)
