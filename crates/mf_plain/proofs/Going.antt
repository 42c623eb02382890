-- A call of the only actor: what is stored and known after it.
use Rattle.std.proofs.Common.{◌≡◌, ℕ, List, [], ◌∷◌, ◌++◌, length, sym, ap, ◌∙◌, subst, Some}
use mathlib.Core.Logic.{∥∥₁_map}
use Rattle.mf_machine.specs.declared.view.View.{View}
use Rattle.mf_machine.specs.Moves.{Runs, run}
use Rattle.mf_machine.specs.Worlds.{World, actor}
use Rattle.mf_machine.proofs.Laws as laws
use Rattle.mf_places.specs.declared.servers.Servers.{Servers}
use Rattle.mf_places.specs.Facts.{BookFacts}
use Rattle.mf_vault.specs.declared.answers.Entry.{Entry}
use Rattle.mf_vault.specs.Facts.{Facts, file}
use Rattle.mf_vault.specs.Actor.{Call, seen, entry_of, cut_by, moves}
use Rattle.mf_vault.specs.Answers.{IsFair, IsAnswer, Goes}
use Rattle.mf_vault.specs.Licence.{Holding, IsReady, erased}
use Rattle.mf_vault.proofs.Doing.{more}
use Rattle.mf_plain.specs.declared.known.Known.{Known}
use Rattle.mf_plain.specs.Alone.{Stored, world, actor_at}
use Rattle.mf_plain.specs.Standing.{facts_at, known_after, Tied, Stands}

module _ (b : BookFacts) (born ticks : ℕ) (k : Known) (s : Stored) (es : List Entry) (cut : Servers) where
  abbrev pub f : Facts
  f = facts_at b born ticks k

  abbrev pub w : World
  w = world s k.view

  -- the view after a call
  abbrev pub view : Call → View
  view c = actor (run (file f) w (moves f w c)) 0

  -- a call, and what is stored after it
  pub record Step (c : Call) (s' : Stored) : Type 0 where
    pub is : world s' (view c) ≡ run (file f) w (moves f w c)
    pub may : Runs (file f) w (moves f w c)
    pub sees : erased (view c) ≡ seen f c (erased k.view)
    pub tied : Tied s' (view c)
    pub ready : IsReady f (view c)
    pub closed : length s'.closed ≡ length s.closed
    pub names : length s'.names ≡ length s.names
    pub fair : IsFair c (actor_at f s k.view es cut)
    pub told : IsAnswer f c w

  module _ (c : Call) (s' : Stored) (st : Stands b born ticks k s es cut) (g : Step c s') where
    goes_to : Goes c (actor_at f s k.view es cut) (actor_at f s' (view c) (es ++ entry_of c) (cut_by c cut))
    goes_to = record {
      becomes = λ j. record {
        facts = f;
        view = g.sees j;
        entries = es ++ entry_of c;
        cut = cut_by c cut;
        whole = Some (g.is j);
      };
      fair = g.fair;
      told = g.told;
    }

    keeps : Holding f w → Holding f (world s' (view c))
    keeps h =
        subst (Holding f) (sym g.is) (let t =
        laws.all (file f) f.opening h.rest w (moves f w c) g.may (h.fits, h.ruled) in
        record { rest = h.rest; fits = t.0; ruled = t.1 })

    stands_to : Stands b born ticks (record k { view = view c }) s' (es ++ entry_of c) (cut_by c cut)
    stands_to = record {
      closed = g.closed ∙ st.closed;
      names = g.names ∙ st.names;
      since = st.since;
      is_file = st.is_file;
      ready = g.ready;
      tied = g.tied;
      holding = ∥∥₁_map st.holding keeps;
      came = ∥∥₁_map st.came (λ (cs, d). (cs ++ c ∷ [], more d goes_to));
    }

    module _ (k' : Known) (es' : List Entry) (cut' : Servers) (ek : k' ≡ known_after b born ticks k s c)
        (ee : es' ≡ es ++ entry_of c) (ec : cut' ≡ cut_by c cut) where
      pub stands : Stands b born ticks k' s' es' cut'
      stands = subst (λ (x : Known). Stands b born ticks x s' es' cut') (sym ek)
          (subst (λ l. Stands b born ticks (record k { view = view c }) s' l cut') (sym ee)
          (subst (λ x. Stands b born ticks (record k { view = view c }) s' (es ++ entry_of c) x) (sym ec) stands_to))

      pub goes : Goes c (actor_at f s k.view es cut) (actor_at (facts_at b born ticks k') s' k'.view es' cut')
      goes = subst (λ (x : Known). Goes c (actor_at f s k.view es cut)
          (actor_at (facts_at b born ticks x) s' x.view es' cut')) (sym ek)
          (subst (λ l. Goes c (actor_at f s k.view es cut) (actor_at f s' (view c) l cut')) (sym ee)
          (subst (λ x. Goes c (actor_at f s k.view es cut) (actor_at f s' (view c) (es ++ entry_of c) x)) (sym ec)
          goes_to))

  -- where the steps lead to this world, with this view
  pub from_run : (c : Call) (s' : Stored) (v' : View) → run (file f) w (moves f w c) ≡ world s' v'
      → Runs (file f) w (moves f w c) → erased v' ≡ seen f c (erased k.view) → Tied s' v' × IsReady f v'
      → length s'.closed ≡ length s.closed → length s'.names ≡ length s.names
      → IsFair c (actor_at f s k.view es cut) → IsAnswer f c w → Step c s'
  from_run c s' v' e may sees kept closed names fair told = let at : view c ≡ v' = ap (λ (x : World). actor x 0) e in
      record {
        is = ap (world s') at ∙ sym e;
        may = may;
        sees = ap erased at ∙ sees;
        tied = subst (Tied s') (sym at) kept.0;
        ready = subst (IsReady f) (sym at) kept.1;
        closed = closed;
        names = names;
        fair = fair;
        told = told;
      }

module _ {b : BookFacts} {born ticks : ℕ} {k : Known} {s : Stored} {es : List Entry} {cut : Servers} {c : Call}
    {s' : Stored}
    (st : Stands b born ticks k s es cut) (g : Step b born ticks k s es cut c s') where
  -- what is kept after the call, and that it went so
  pub stands_after : {k' : Known} {es' : List Entry} {cut' : Servers} → k' ≡ known_after b born ticks k s c
      → es' ≡ es ++ entry_of c
      → cut' ≡ cut_by c cut → Stands b born ticks k' s' es' cut'
  stands_after {k' = k'} {es' = es'} {cut' = cut'} ek ee ec =
      stands b born ticks k s es cut c s' st g k' es' cut' ek ee ec

  pub goes_after : {k' : Known} {es' : List Entry} {cut' : Servers} → k' ≡ known_after b born ticks k s c
      → es' ≡ es ++ entry_of c
      → cut' ≡ cut_by c cut
      → Goes c (actor_at (facts_at b born ticks k) s k.view es cut)
      (actor_at (facts_at b born ticks k') s' k'.view es' cut')
  goes_after {k' = k'} {es' = es'} {cut' = cut'} ek ee ec = goes b born ticks k s es cut c s' st g k' es' cut' ek ee ec
