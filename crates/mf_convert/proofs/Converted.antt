-- A conversion from its calls.
use Rattle.std.proofs.Common.{◌≡◌, ℕ, ◌+◌, ◌<◌, ◌≤◌, ◌^◌, true, List, [], ◌∷◌, ◌++◌, length, drop, refl, sym, ap}
use Rattle.std.proofs.Common.{◌∙◌, subst, arith, Option, IfSome, Some, None, ⊎_elim}
use Rattle.std.proofs.Math.Seq.{drop-append_seam}
use Rattle.std.proofs.lemmas.List.{append-nil}
use Rattle.mf_machine.specs.declared.answer.Slot.TheVariants.{Work}
use Rattle.mf_machine.specs.Actors.{Among}
use Rattle.mf_places.specs.declared.Name.{Name}
use Rattle.mf_places.specs.declared.Name.TheVariants.{Data}
use Rattle.mf_places.specs.Facts.{IsBook}
use Rattle.mf_places.specs.Generations.{holds}
use Rattle.mf_places.specs.Names.{HasName}
use Rattle.mf_vault.specs.declared.answers.Entry.{Entry}
use Rattle.mf_vault.specs.declared.answers.Pinned.{Pinned}
use Rattle.mf_vault.specs.declared.answers.Pinned.TheVariants.{At}
use Rattle.mf_vault.specs.Conditions.{Leaves}
use Rattle.mf_vault.specs.Facts.{Facts, number}
use Rattle.mf_vault.specs.Actor.{Actor, Call, begin, pin, unpin, end, publish, did}
use Rattle.mf_vault.specs.Answers.{Goes}
use Rattle.mf_vault.specs.Counting.{io_of}
use Rattle.mf_vault.specs.Licence.{Does, Entered, entries_of, work_of_pin}
use Rattle.mf_vault.specs.May.{MayPublish}
use Rattle.mf_vault.proofs.Doing.{one, then, after, more, facts_stay, entries_are}
use Rattle.mf_vault.proofs.Held.{may_publish_next}
use Rattle.mf_vault.proofs.Leaving.{AreOps}
use Rattle.mf_convert.specs.declared.change.Change.{Change}
use Rattle.mf_convert.specs.declared.change.Change.TheVariants as change
use Rattle.mf_convert.specs.declared.course.Course.{Course}
use Rattle.mf_convert.specs.Convert as convert
use Rattle.mf_convert.specs.Convert.{IsConversion, IsConvert, Converts, IsCounted, whole, names_of}
use Rattle.mf_convert.specs.Converting.{since, IsConverter, CutsAll, CompletesAll, ConvertsFrom, ConvertsPinned}
use Rattle.mf_convert.proofs.Fewer.{whole_few, calls_few}
use Rattle.mf_convert.proofs.Next.{next_found}
use Rattle.mf_convert.proofs.Steady.{stays, converter_stays, whole_ops, cut_ops}

-- the entries since the ledger was so long are those of all calls
pub since_all : (c : Course) {cs : List Call} {a b : Actor} → c.start ≡ length a.entries → Does cs a b
    → since c b ≡ entries_of cs
since_all c {cs = cs} {a = a} {b = b} e d =
    ap (λ n. drop n b.entries) e ∙ (ap (λ es. drop (length a.entries) es) (entries_are d)
    ∙ drop-append_seam a.entries (entries_of cs))

-- where all was done the next generation may be published
pub may_publish : {c : Course} {a b : Actor} → CompletesAll c a b → IsConverter c.from a → MayPublish (c.from + 2) b
may_publish {c = c} {a = a} {b = b} k from =
    let z = converter_stays k.completes.does (whole_ops a.facts c.from k.states) from in
    subst (λ n. MayPublish n b) (let e : c.from + 1 + 1 ≡ c.from + 2 = omega arith in e)
    (may_publish_next b (c.from + 1) z.building z.low each) where
      each : (x : Name) → HasName b.facts.book x → holds b.facts.book (c.from + 1) x ≡ true
          → Among (number b.facts x) b.view.build.settled
      each x had h = let stands = next_found b.facts (c.from + 1) x had h in
          subst (λ y. Among (number b.facts y) b.view.build.settled) stands.is
          (k.done stands.place (Data 0) stands.below)

-- publishing has no entry
published_same : (c : Course) {n : ℕ} {b d : Actor} → Goes (publish n) b d → since c d ≡ since c b
published_same c {b = b} g = ap (λ es. drop c.start es) (entries_are (one g) ∙ append-nil b.entries)

pub few_since : {c : Course} {n : ℕ} {a b d : Actor} → IsBook a.facts.book → CompletesAll c a b → Goes (publish n) b d
    → c.start ≡ length a.entries
    → length (since c d) < 2 ^ 32
few_since {c = c} {a = a} book k g e =
    let x = ap length (published_same c g ∙ since_all c e k.completes.does) in
    let y = calls_few (whole a.facts c.from k.states) in
    let z = whole_few a.facts c.from k.states book in omega arith

pub converted_from : {c : Course} {made : ℕ} {a b d : Actor} → CompletesAll c a b → Goes (publish (c.from + 2)) b d
    → c.start ≡ length a.entries → made ≡ (io_of (since c d)).writes
    → ConvertsFrom c.from c.stop (change.Converted c.from (c.from + 1) made) a d
converted_from {c = c} {made = m} {a = a} {b = b} {d = d} k g e is =
    let calls = whole a.facts c.from k.states ++ publish (c.from + 2) ∷ [] in
    let does : Does calls a d = more k.completes.does g in
    let entries = since_all c e does in
    record {
      calls = calls;
      conversion = convert.converted k.states m k.on;
      counted = (
        is ∙ ap (λ es. (io_of es).writes) entries,
        subst (λ (es : List Entry). IfSome c.stop (λ most. length es ≤ most)) (sym (published_same c g)
            ∙ entries) k.completes.time.within,
      );
      does = does;
    }

pub cut_from : {c : Course} {o : Change} {a b : Actor} → CutsAll c o a b → c.start ≡ length a.entries
    → ConvertsFrom c.from c.stop o a b
cut_from {c = c} {o = o} k e = record {
  calls = k.cuts.done;
  conversion = convert.cut k.states o k.cuts.done k.on k.cuts.cut;
  counted = subst (λ es. IsCounted c.stop es o) (since_all c e k.cuts.does) k.cuts.counted;
  does = k.cuts.does;
}

-- ---- what a conversion leaves

-- the right, the pins and the cut-off servers
pub record Rests (a b : Actor) : Type 0 where
  pub hold : b.view.hold ≡ a.view.hold
  pub work : b.view.work ≡ a.view.work
  pub cut : b.cut ≡ a.cut
  pub right : b.view.build.right ≡ a.view.build.right
  pub facts : b.facts ≡ a.facts

rests_of : {cs : List Call} {a b : Actor} → Does cs a b → AreOps cs → Rests a b
rests_of d h = let s = stays d h in record {
  hold = s.hold;
  work = s.work;
  cut = s.cut;
  right = s.right;
  facts = facts_stay d;
}

split_at : (cs ds : List Call) {a b : Actor} → Does (cs ++ ds) a b → (m : Actor) × Does cs a m × Does ds m b
split_at [] ds {a = a} d = (a, record { becomes = refl; fair = tt; told = tt }, d)
split_at (c ∷ cs) ds {a = a} d =
    let r = split_at cs ds {a = did c a} (record { becomes = d.becomes; fair = d.fair.1; told = d.told.1 }) in
    (r.0, record { becomes = r.1.becomes; fair = (d.fair.0, r.1.fair); told = (d.told.0, r.1.told) }, r.2)

conversion_rests : {f : Facts} {g : ℕ} {o : Change} {cs : List Call} {a b : Actor} → IsConversion f g o cs → Does cs a b
    → Rests a b
conversion_rests {f = f} {g = g} {a = a} (convert.converted states made on) d =
    let s = split_at (whole f g states) (publish (g + 2) ∷ []) d in
    let x = rests_of s.1 (whole_ops f g states) in
    subst (λ z. Rests a z) (sym s.2.becomes)
    (record { hold = x.hold; work = x.work; cut = x.cut; right = x.right; facts = x.facts })
conversion_rests {f = f} {g = g} (convert.cut states o done on k) d = rests_of d (cut_ops k (whole_ops f g states))

no_calls : {cs : List Call} {a b : Actor} → cs ≡ [] → Does cs a b → Rests a b
no_calls {a = a} {b = b} e d = rests_of (subst (λ l. Does l a b) e d) tt

pub pinned_rests : {g upto : ℕ} {stop : Option ℕ} {o : Change} {a b : Actor} → ConvertsPinned g upto stop o a b
    → Rests a b
pinned_rests p = ⊎_elim (λ k. conversion_rests k.1 p.does) (λ k. no_calls k.2 p.does) p.conversion

-- ---- the whole call

pub no_publish : (cs : List Call) → entries_of (cs ++ unpin Work ∷ end ∷ []) ≡ entries_of cs
no_publish [] = refl
no_publish (c ∷ cs) = ap (λ l. Rattle.mf_vault.specs.Actor.entry_of c ++ l) (no_publish cs)

pub converts : {g upto : ℕ} {stop : Option ℕ} {o : Change} {a b d x z : Actor} → Entered (At g) a b
    → ConvertsPinned g upto stop o b d → Goes (unpin Work) d x → Goes end x z → Converts upto stop o a z
converts {g = g} {upto = upto} {stop = stop} {o = o} {a = a} {z = z} e p u f = record {
  calls = begin true ∷ pin Work e.missed (At g) ∷ (p.calls ++ unpin Work ∷ end ∷ []);
  licence = ⊎_elim
      (λ k. convert.converting e.missed g o p.calls k.0 (subst (λ h. IsConversion h g o p.calls) e.facts k.1))
      (λ k. subst
      (λ cs. IsConvert a.facts upto o (begin true ∷ pin Work e.missed (At g) ∷ (cs ++ unpin Work ∷ end ∷ [])))
      (sym k.2)
      (subst (λ q. IsConvert a.facts upto q (begin true ∷ pin Work e.missed (At g) ∷ unpin Work ∷ end ∷ [])) (sym k.1)
      (convert.last e.missed g k.0)))
      p.conversion;
  counted = subst (λ es. IsCounted stop es o) (sym (no_publish p.calls)) p.counted;
  does = then e.does (then p.does (after u (one f)));
}

-- how each way leaves the actor
pub left_pinned : {g upto : ℕ} {stop : Option ℕ} {o : Change} {a b d x z : Actor} → Entered (At g) a b
    → ConvertsPinned g upto stop o b d → Goes (unpin Work) d x → Goes end x z → Leaves a z
left_pinned {a = a} {d = d} {x = x} {z = z} e p u f = let r = pinned_rests p in
    subst (λ y. Leaves a y) (sym f.becomes) (subst (λ (y : Actor). Leaves a (did end y)) (sym u.becomes) record {
      idle = record { right = refl; work = refl };
      facts = r.facts ∙ e.facts;
      hold = r.hold ∙ e.hold;
      cut = r.cut ∙ e.cut;
    })

-- where there was nothing to convert
pub left_at_once : {p : Pinned} {a b z : Actor} → Entered p a b → work_of_pin p a.view.work ≡ 0 → Goes end b z
    → Leaves a z
left_at_once {a = a} e free f = subst (λ y. Leaves a y) (sym f.becomes) record {
  idle = record { right = refl; work = e.work ∙ free };
  facts = e.facts;
  hold = e.hold;
  cut = e.cut;
}

pub nothing_counted : (stop : Option ℕ) → IfSome stop (λ most. 0 ≤ most)
nothing_counted None = tt
nothing_counted (Some n) = omega arith
