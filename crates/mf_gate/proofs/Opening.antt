-- The table as it is made from a file at rest keeps its rule.
use Rattle.std.proofs.Common.{◌≡◌, ℕ, zero, suc, ◌+◌, ◌<◌, List, [], ◌∷◌, map, length, get_or, Option, None}
use Rattle.std.proofs.Common.{sym, refl, ap, ◌∙◌, arith}
use mathlib.Core.Option.{some}
use Rattle.atomic_table.specs.Table.{opening}
use Rattle.mf_machine.specs.File.{File}
use Rattle.mf_machine.specs.File.Home.{empty}
use Rattle.mf_machine.specs.Worlds.{World, Opens, first_view}
use Rattle.mf_machine.proofs.Openings as machine
use Rattle.mf_vault.specs.declared.answers.Rest.{Rest}
use Rattle.mf_vault.specs.declared.answers.Rest.TheVariants as rest
use Rattle.mf_vault.specs.Resting as resting
use Rattle.mf_gate.specs.declared.known.About.{About}
use Rattle.mf_gate.specs.Resting.{AtRest, HasWords, HasSlots, slot_of}
use Rattle.mf_gate.specs.Table.{facts_of, file_of, home_of, homes_of, world_of, Rule}
use Rattle.mf_gate.proofs.Maps.{homes_long}

long_map : (xs : List (Option (List ℕ))) → length (map some xs) ≡ length xs
long_map [] = refl
long_map (x ∷ xs) = ap suc (long_map xs)

-- a slot of the table as it is made
made_home : (xs : List (Option (List ℕ))) (n : ℕ) → n < length xs
    → get_or (homes_of (map some xs)) n empty ≡ home_of (some (get_or xs n None))
made_home [] n l = absurd (omega arith)
made_home (x ∷ xs) zero l = refl
made_home (x ∷ xs) (suc n) l = made_home xs n (omega arith)

same_home : (r : Rest) → home_of (some (slot_of r)) ≡ resting.home_of r
same_home rest.Unborn = refl
same_home (rest.Here c) = refl
same_home (rest.Lost l) = refl
same_home rest.Dropped = refl

pub opens : (k : About) (ws : List ℕ) (xs : List (Option (List ℕ))) → AtRest k → HasWords k.number k.closed k.names ws
    → HasSlots k.names xs
    → Rule k (opening ws xs (record { about = k; view = first_view (file_of k) (facts_of k).opening }))
opens k ws xs r w h = record {
  holding = record {
    rest = r.rest;
    fits = fits;
    ruled = machine.opens f (facts_of k).opening now r.rest record {
      fits = fits;
      number = w.number_is;
      right = w.right;
      pins = λ g l. w.pins g (omega arith);
      names = λ n l. at n ∙ (w.names_are n (omega arith)).0;
      homes = λ n l. made_home xs n (omega arith) ∙ (ap (λ (y : Option (List ℕ)). home_of (some y))
          (h.slots n (omega arith)) ∙ same_home (get_or k.names n rest.Unborn));
      views = refl;
    };
  };
  lines = λ n l inside e. let low = (w.names_are n (omega arith)).1 in let z = at n in omega arith;
}
  where
    f : File
    f = file_of k

    now : World
    now = world_of (opening ws xs (record { about = k; view = first_view (file_of k) (facts_of k).opening }))

    at : (n : ℕ) → get_or ws (length k.book.shape.stages + 2 + n) 0 ≡ get_or ws (length k.closed + 2 + n) 0
    at n = ap (λ (y : ℕ). get_or ws (y + 2 + n) 0) (sym r.closed)

    fits : Rattle.mf_machine.specs.Worlds.Fits f now
    fits = let a = r.closed in let b = r.names in let c = w.long in let d = h.long in record {
      wide = omega arith;
      deep = homes_long (map some xs) ∙ (long_map xs ∙ (h.long ∙ r.names));
    }
