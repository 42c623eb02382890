-- What the chunk operations of a conversion leave as it was.
use Rattle.std.proofs.Common.{◌≡◌, ℕ, ◌+◌, ◌<◌, List, [], ◌∷◌, ◌++◌, refl, sym, ◌∙◌, subst}
use Rattle.mf_machine.specs.declared.answer.State.{State}
use Rattle.mf_machine.specs.declared.answer.State.TheVariants.{Unborn, Here, Lost, Away}
use Rattle.mf_places.specs.declared.Name.{Name}
use Rattle.mf_places.specs.declared.Name.TheVariants as name
use Rattle.mf_vault.specs.declared.answers.Got.{Got}
use Rattle.mf_vault.specs.declared.answers.Got.TheVariants as got
use Rattle.mf_vault.specs.Facts.{Facts, stages}
use Rattle.mf_vault.specs.Actor.{Actor, Call, did}
use Rattle.mf_vault.specs.Actor as call
use Rattle.mf_vault.specs.Licence.{Does, did_all}
use Rattle.mf_vault.proofs.Doing.{facts_stay}
use Rattle.mf_vault.proofs.Leaving.{IsOp, AreOps, ops_then}
use Rattle.mf_convert.specs.declared.change.Change.{Change}
use Rattle.mf_convert.specs.Create.{probes}
use Rattle.mf_convert.specs.Convert as convert
use Rattle.mf_convert.specs.Convert.{IsCut, gets, make, makes, whole, names_of, sources}
use Rattle.mf_convert.specs.Converting.{IsConverter}

-- the right, the pins, the number looked at and the cut-off servers stay
pub record Stays (a b : Actor) : Type 0 where
  pub hold : b.view.hold ≡ a.view.hold
  pub work : b.view.work ≡ a.view.work
  pub cut : b.cut ≡ a.cut
  pub right : b.view.build.right ≡ a.view.build.right
  pub looked : b.view.build.looked ≡ a.view.build.looked
  pub last : b.view.last ≡ a.view.last
  pub number : b.view.seen.number ≡ a.view.seen.number

pub stays_same : (a : Actor) → Stays a a
stays_same a = record { hold = refl; work = refl; cut = refl; right = refl; looked = refl; last = refl; number = refl }

pub stays_on : {a b c : Actor} → Stays a b → Stays b c → Stays a c
stays_on x y = record {
  hold = y.hold ∙ x.hold;
  work = y.work ∙ x.work;
  cut = y.cut ∙ x.cut;
  right = y.right ∙ x.right;
  looked = y.looked ∙ x.looked;
  last = y.last ∙ x.last;
  number = y.number ∙ x.number;
}

steady : (a b : Actor) → b.view.hold ≡ a.view.hold → b.view.work ≡ a.view.work → b.cut ≡ a.cut
    → b.view.build.right ≡ a.view.build.right → b.view.build.looked ≡ a.view.build.looked → b.view.last ≡ a.view.last
    → b.view.seen.number ≡ a.view.seen.number → Stays a b
steady a b h w c r l t n = record { hold = h; work = w; cut = c; right = r; looked = l; last = t; number = n }

probe_stays : (x : Name) (s : State) (a : Actor) → Stays a (did (call.probe x s) a)
probe_stays x Unborn a = steady a (did (call.probe x Unborn) a) refl refl refl refl refl refl refl
probe_stays x Here a = steady a (did (call.probe x Here) a) refl refl refl refl refl refl refl
probe_stays x (Lost l) a = steady a (did (call.probe x (Lost l)) a) refl refl refl refl refl refl refl
probe_stays x (Away y) a = steady a (did (call.probe x (Away y)) a) refl refl refl refl refl refl refl

get_stays : (x : Name) (o : Got) (a : Actor) → Stays a (did (call.get x o) a)
get_stays x (got.Here c) a = steady a (did (call.get x (got.Here c)) a) refl refl refl refl refl refl refl
get_stays x (got.Lost l) a = steady a (did (call.get x (got.Lost l)) a) refl refl refl refl refl refl refl
get_stays x (got.Away y) a = steady a (did (call.get x (got.Away y)) a) refl refl refl refl refl refl refl
get_stays x got.Memory a = steady a (did (call.get x got.Memory) a) refl refl refl refl refl refl refl

op_stays : (c : Call) (a : Actor) → IsOp c → Stays a (did c a)
op_stays (call.probe x s) a h = probe_stays x s a
op_stays (call.put x) a h = steady a (did (call.put x) a) refl refl refl refl refl refl refl
op_stays (call.restore x) a h = steady a (did (call.restore x) a) refl refl refl refl refl refl refl
op_stays (call.get x o) a h = get_stays x o a
op_stays (call.cut_off s) a h = absurd h
op_stays (call.pin slot gs p) a h = absurd h
op_stays (call.unpin slot) a h = absurd h
op_stays (call.begin b) a h = absurd h
op_stays call.end a h = absurd h
op_stays (call.publish n) a h = absurd h
op_stays (call.close g c) a h = absurd h
op_stays (call.discard x b) a h = absurd h
op_stays (call.lose x l b) a h = absurd h

ops_stay : (cs : List Call) (a : Actor) → AreOps cs → Stays a (did_all cs a)
ops_stay [] a h = stays_same a
ops_stay (c ∷ cs) a h = stays_on (op_stays c a h.0) (ops_stay cs (did c a) h.1)

pub stays : {cs : List Call} {a b : Actor} → Does cs a b → AreOps cs → Stays a b
stays {cs = cs} {a = a} d h = subst (λ (z : Actor). Stays a z) (sym d.becomes) (ops_stay cs a h)

pub converter_stays : {cs : List Call} {g : ℕ} {a b : Actor} → Does cs a b → AreOps cs → IsConverter g a
    → IsConverter g b
converter_stays {g = g} d h k = let s = stays d h in record {
  building = record {
    right = s.right ∙ k.building.right;
    looked = s.looked ∙ k.building.looked;
    last = s.last ∙ k.building.last;
    seen = s.number ∙ k.building.seen;
  };
  work = s.work ∙ k.work;
  low = subst (λ (f : Facts). g + 1 < stages f) (sym (facts_stay d)) k.low;
}

-- ---- all that is due are such operations

pub gets_ops : (f : Facts) (xs : List Name) → AreOps (gets f xs)
gets_ops f [] = tt
gets_ops f (x ∷ xs) = (tt, gets_ops f xs)

pub probes_ops : (xs : List Name) (ss : List State) → AreOps (probes xs ss)
probes_ops [] ss = tt
probes_ops (x ∷ xs) [] = tt
probes_ops (x ∷ xs) (s ∷ ss) = (tt, probes_ops xs ss)

pub make_ops : (f : Facts) (g : ℕ) (x : Name) (s : State) → AreOps (make f g x s)
make_ops f g (name.Data i) s = tt
make_ops f g (name.Copy c i) s = tt
make_ops f g (name.Parity w j p) Unborn = ops_then (gets f (sources f.book g j p)) (call.put (name.Parity w j p) ∷ [])
    (gets_ops f (sources f.book g j p)) (tt, tt)
make_ops f g (name.Parity w j p) Here = tt
make_ops f g (name.Parity w j p) (Lost l) = ops_then (gets f (sources f.book g j p))
    (call.restore (name.Parity w j p) ∷ []) (gets_ops f (sources f.book g j p)) (tt, tt)
make_ops f g (name.Parity w j p) (Away y) = tt

pub makes_ops : (f : Facts) (g : ℕ) (xs : List Name) (ss : List State) → AreOps (makes f g xs ss)
makes_ops f g [] ss = tt
makes_ops f g (x ∷ xs) [] = tt
makes_ops f g (x ∷ xs) (s ∷ ss) = ops_then (make f g x s) (makes f g xs ss) (make_ops f g x s) (makes_ops f g xs ss)

pub whole_ops : (f : Facts) (g : ℕ) (ss : List State) → AreOps (whole f g ss)
whole_ops f g ss = ops_then (probes (names_of f (g + 1)) ss) (makes f g (names_of f (g + 1)) ss)
    (probes_ops (names_of f (g + 1)) ss) (makes_ops f g (names_of f (g + 1)) ss)

-- so are those that were done
pub cut_ops : {f : Facts} {g : ℕ} {due : List Call} {o : Change} {done : List Call} → IsCut f g due o done → AreOps due
    → AreOps done
cut_ops (convert.stopped c due made) h = tt
cut_ops (convert.away_probed x s due server) h = (tt, tt)
cut_ops (convert.away_got x o due server) h = (tt, tt)
cut_ops (convert.lost_probed x s due line k) h = (tt, tt)
cut_ops (convert.lost_got x o due line) h = (tt, tt)
cut_ops (convert.no_memory due) h = tt
cut_ops (convert.not_shared x o due) h = (tt, tt)
cut_ops (convert.later c due o done k) h = (h.0, cut_ops k h.1)
