-- The probes of a conversion, and then what is made.
use Rattle.std.proofs.Common.{◌≡◌, ◌+◌, List, ◌++◌, sym, ap, ◌∙◌, subst}
use Rattle.std.proofs.Common.{Result, Ok, Err, IfOk, IfErr}
use Rattle.mf_machine.specs.declared.answer.State.{State}
use Rattle.mf_places.specs.declared.Name.{Name}
use Rattle.mf_vault.specs.Actor.{Actor}
use Rattle.mf_vault.proofs.Doing.{facts_stay}
use Rattle.mf_convert.specs.declared.change.Change.{Change}
use Rattle.mf_convert.specs.declared.change.Change.TheVariants as change
use Rattle.mf_convert.specs.declared.course.Course.{Course}
use Rattle.mf_convert.specs.Create.{probes}
use Rattle.mf_convert.specs.Convert.{AllGoOn, makes, whole, names_of}
use Rattle.mf_convert.specs.Converting.{IsInTime, Cuts, Completes, CutsProbes, CutsAll, CompletesAll, AreDone}
use Rattle.mf_convert.proofs.Courses.{no_memory, cut_before, cut_behind, completes_then}
use Rattle.mf_convert.proofs.Probing.{heres, heres_on}

pub ok_both : {X E : Type 0} (r : Result X E) (P Q R : X → Type 0) → ((x : X) → P x → Q x → R x) → IfOk r P → IfOk r Q
    → IfOk r R
ok_both (Ok x) P Q R f p q = f x p q
ok_both (Err e) P Q R f p q = tt

pub err_map : {X E : Type 0} (r : Result X E) (P Q : E → Type 0) → ((e : E) → P e → Q e) → IfErr r P → IfErr r Q
err_map (Ok x) P Q f p = tt
err_map (Err e) P Q f p = f e p

pub none_done : {c : Course} {a b : Actor} → b ≡ a → IsInTime c a → CutsAll c change.Memory a b
none_done {c = c} {a = a} e t = subst (λ z. CutsAll c change.Memory a z) (sym e) record {
  states = heres (names_of a.facts (c.from + 1));
  on = heres_on a.facts.book c.from (names_of a.facts (c.from + 1));
  cuts = no_memory (whole a.facts c.from (heres (names_of a.facts (c.from + 1)))) t;
}

pub probes_cut : {c : Course} {o : Change} (names : List Name) {a b d : Actor} → b ≡ a
    → names ≡ names_of a.facts (c.from + 1) → CutsProbes c names o b d → CutsAll c o a d
probes_cut {c = c} {o = o} names {a = a} {d = d} e is k =
    let x = subst (λ z. CutsProbes c names o z d) e k in
    record {
      states = x.states;
      on = subst (λ l. AllGoOn a.facts.book c.from l x.states) is x.on;
      cuts = cut_before (makes a.facts c.from (names_of a.facts (c.from + 1)) x.states)
          (subst (λ l. Cuts c (probes l x.states) o a d) is x.cuts);
    }

pub makes_cut : {c : Course} {o : Change} (names : List Name) (states : List State) {a b d z : Actor} → b ≡ a
    → names ≡ names_of a.facts (c.from + 1) → AllGoOn b.facts.book c.from names states
    → Completes c (probes names states) b d
    → Cuts c (makes d.facts c.from names states) o d z → CutsAll c o a z
makes_cut {c = c} {o = o} names states {a = a} {d = d} {z = z} e is on probed k =
    let x = subst (λ y. Completes c (probes names states) y d) e probed in
    record {
      states = states;
      on = subst (λ l. AllGoOn a.facts.book c.from l states) is
          (subst (λ (y : Actor). AllGoOn y.facts.book c.from names states) e on);
      cuts = subst (λ l. Cuts c (probes l states ++ makes a.facts c.from l states) o a z) is
          (cut_behind x.does (subst (λ f. Cuts c (makes f c.from names states) o d z) (facts_stay x.does) k));
    }

pub makes_done : {c : Course} (names : List Name) (states : List State) {a b d z : Actor} → b ≡ a
    → names ≡ names_of a.facts (c.from + 1) → AllGoOn b.facts.book c.from names states
    → Completes c (probes names states) b d
    → Completes c (makes d.facts c.from names states) d z → AreDone z names → CompletesAll c a z
makes_done {c = c} names states {a = a} {d = d} {z = z} e is on probed k all =
    let x = subst (λ y. Completes c (probes names states) y d) e probed in
    record {
      states = states;
      on = subst (λ l. AllGoOn a.facts.book c.from l states) is
          (subst (λ (y : Actor). AllGoOn y.facts.book c.from names states) e on);
      completes = subst (λ l. Completes c (probes l states ++ makes a.facts c.from l states) a z) is
          (completes_then x (subst (λ f. Completes c (makes f c.from names states) d z) (facts_stay x.does) k));
      done = subst (λ l. AreDone z l)
          (is ∙ ap (λ f. names_of f (c.from + 1)) (sym (facts_stay k.does ∙ facts_stay x.does))) all;
    }
