-- The entries of a conversion so far, and its cuts.
use Rattle.std.proofs.Common.{◌≡◌, ℕ, ◌+◌, ◌<◌, ◌≤◌, List, [], ◌∷◌, ◌++◌, length, length-append, drop, refl, sym, ap}
use Rattle.std.proofs.Common.{◌∙◌, subst}
use Rattle.std.proofs.Common.{arith, Option, Some, None, IfSome, Result, Ok, Err, IfErr, IsErrAnd}
use Rattle.std.proofs.lemmas.List.{drop-append-le, append-nil}
use Rattle.mf_places.specs.declared.Name.{Name}
use Rattle.mf_vault.specs.declared.answers.Got.{Got}
use Rattle.mf_vault.specs.declared.answers.Got.TheVariants as got
use Rattle.mf_vault.specs.Facts.{Facts}
use Rattle.mf_vault.specs.Actor.{Actor, Call, entry_of, get_entry}
use Rattle.mf_vault.specs.Answers.{Goes}
use Rattle.mf_vault.specs.Licence.{Does, entries_of}
use Rattle.mf_vault.proofs.Doing.{nothing, one, then, facts_stay, entries_are}
use Rattle.mf_convert.specs.declared.change.Change.{Change}
use Rattle.mf_convert.specs.declared.change.Change.TheVariants as change
use Rattle.mf_convert.specs.declared.course.Course.{Course}
use Rattle.mf_convert.specs.Convert as convert
use Rattle.mf_convert.specs.Convert.{IsCut, IsCounted}
use Rattle.mf_convert.specs.Converting.{since, IsInTime, MayGoOn, IsStopped, Cuts, Completes}

-- what an error that is handed on says
pub handed_on : {X E : Type 0} (r : Result X E) (e : E) (P : E → Type 0) → IsErrAnd r (λ x. x ≡ e) → P e → IfErr r P
handed_on (Ok x) e P h p = tt
handed_on (Err x) e P h p = subst P (sym h) p

-- ---- time

fewer : (o : Option ℕ) (n m : ℕ) → m ≤ n → IfSome o (λ k. n ≤ k) → IfSome o (λ k. m ≤ k)
fewer None n m l h = h
fewer (Some k) n m l h = omega arith

pub at_most_one : (o : Option ℕ) (n m : ℕ) → m ≤ n + 1 → IfSome o (λ k. n < k) → IfSome o (λ k. m ≤ k)
at_most_one None n m l h = h
at_most_one (Some k) n m l h = omega arith

-- the entries since, with those of more calls
pub since_more : (c : Course) {ds : List Call} {a b : Actor} → c.start ≤ length a.entries → Does ds a b
    → since c b ≡ since c a ++ entries_of ds
since_more c {ds = ds} {a = a} low d =
    ap (λ es. drop c.start es) (entries_are d) ∙ drop-append-le c.start a.entries (entries_of ds) low

pub since_longer : (c : Course) {ds : List Call} {a b : Actor} → c.start ≤ length a.entries → Does ds a b
    → c.start ≤ length b.entries
since_longer c {ds = ds} {a = a} low d =
    let e = ap length (entries_are d) ∙ length-append a.entries (entries_of ds) in omega arith

-- one call more is in time
pub went : {c : Course} (d : Call) {a b : Actor} → length (entry_of d) ≤ 1 → MayGoOn c a → Goes d a b → IsInTime c b
went {c = c} d {a = a} {b = b} few m g = record {
  begun = since_longer c m.begun (one g);
  within =
      let e = ap length (since_more c m.begun (one g)) ∙ length-append (since c a) (entry_of d ++ []) in
      let z = ap length (append-nil (entry_of d)) in
      at_most_one c.stop (length (since c a)) (length (since c b)) (omega arith) m.below;
}

pub get_few : (x : Name) (o : Got) → length (get_entry x o) ≤ 1
get_few x (got.Here c) = omega arith
get_few x (got.Lost l) = omega arith
get_few x (got.Away s) = omega arith
get_few x got.Memory = omega arith

-- ---- cuts

pub stopped : {c : Course} {a : Actor} {o : Change} (d : Call) (due : List Call) → IsStopped c a o
    → Cuts c (d ∷ due) o a a
stopped {c = c} {a = a} {o = o} d due s = record {
  done = [];
  cut = subst (λ p. IsCut a.facts c.from (d ∷ due) p []) (sym s.outcome) (convert.stopped d due _);
  does = nothing a;
  counted = subst (λ p. IsCounted c.stop (since c a) p) (sym s.outcome) (refl, s.full);
}

pub no_memory : {c : Course} {a : Actor} (due : List Call) → IsInTime c a → Cuts c due change.Memory a a
no_memory {a = a} due t = record {
  done = [];
  cut = convert.no_memory due;
  does = nothing a;
  counted = t.within;
}

-- a cut with one call
pub by_call : {c : Course} {due : List Call} {d : Call} {o : Change} {a b : Actor} → IsCut a.facts c.from due o (d ∷ [])
    → Goes d a b
    → IsCounted c.stop (since c b) o → Cuts c due o a b
by_call {d = d} k g n = record { done = d ∷ []; cut = k; does = one g; counted = n }

-- more was due
with_more : {f : Facts} {g : ℕ} {due : List Call} {o : Change} {done : List Call} (more : List Call)
    → IsCut f g due o done → IsCut f g (due ++ more) o done
with_more more (convert.stopped c due made) = convert.stopped c (due ++ more) made
with_more more (convert.away_probed x s due server) = convert.away_probed x s (due ++ more) server
with_more more (convert.away_got x o due server) = convert.away_got x o (due ++ more) server
with_more more (convert.lost_probed x s due line h) = convert.lost_probed x s (due ++ more) line h
with_more more (convert.lost_got x o due line) = convert.lost_got x o (due ++ more) line
with_more more (convert.no_memory due) = convert.no_memory (due ++ more)
with_more more (convert.not_shared x o due) = convert.not_shared x o (due ++ more)
with_more more (convert.later c due o done k) = convert.later c (due ++ more) o done (with_more more k)

pub cut_before : {c : Course} {due : List Call} {o : Change} {a b : Actor} (more : List Call) → Cuts c due o a b
    → Cuts c (due ++ more) o a b
cut_before more k = record { done = k.done; cut = with_more more k.cut; does = k.does; counted = k.counted }

-- more was done
behind : {f : Facts} {g : ℕ} {due : List Call} {o : Change} {done : List Call} (ds : List Call) → IsCut f g due o done
    → IsCut f g (ds ++ due) o (ds ++ done)
behind [] k = k
behind {due = due} {o = o} {done = done} (d ∷ ds) k = convert.later d (ds ++ due) o (ds ++ done) (behind ds k)

pub cut_behind : {c : Course} {ds due : List Call} {o : Change} {a b d : Actor} → Does ds a b → Cuts c due o b d
    → Cuts c (ds ++ due) o a d
cut_behind {c = c} {ds = ds} {due = due} {o = o} x k = record {
  done = ds ++ k.done;
  cut = behind ds (subst (λ (f : Facts). IsCut f c.from due o k.done) (facts_stay x) k.cut);
  does = then x k.does;
  counted = k.counted;
}

-- one part behind the other
pub completes_then : {c : Course} {ds es : List Call} {a b d : Actor} → Completes c ds a b → Completes c es b d
    → Completes c (ds ++ es) a d
completes_then x y = record { does = then x.does y.does; time = y.time }

-- all of a part was done, and memory ran out behind it
pub cut_after : {c : Course} {ds : List Call} {a b : Actor} → Completes c ds a b → Cuts c ds change.Memory a b
cut_after {c = c} {ds = ds} {a = a} {b = b} x =
    subst (λ l. Cuts c l change.Memory a b) (append-nil ds) (cut_behind x.does (no_memory [] x.time))
