-- A repair from its parts.
use Rattle.std.proofs.Common.{◌≡◌, ℕ, zero, suc, ◌+◌, ◌<◌, ◌≤◌, true, false, List, [], ◌∷◌, ◌++◌, length, take, drop}
use Rattle.std.proofs.Common.{refl, sym, ap}
use Rattle.std.proofs.lemmas.Bool.{eqb-false, cases_lt}
use Rattle.std.proofs.Common.{All, ◌^◌, ⊎_elim, ◌==◌, ◌∙◌, subst, arith, append-nil, Option, Result, Ok, Err, filter}
use Rattle.std.specs.declared.alloc.AllocError.{AllocError}
use Rattle.mf_machine.specs.declared.answer.Slot.TheVariants.{Work}
use Rattle.mf_machine.specs.declared.answer.State.{State}
use Rattle.mf_machine.specs.declared.answer.State.TheVariants.{Unborn, Here, Lost, Away}
use Rattle.mf_places.specs.declared.Name.{Name}
use Rattle.mf_places.specs.Facts.{BookFacts, IsBook}
use Rattle.mf_places.specs.Generations.{stripe_names}
use Rattle.mf_shape.specs.Stages.{copies_at}
use Rattle.mf_vault.specs.declared.answers.Entry.{Entry}
use Rattle.mf_vault.specs.declared.answers.Got.TheVariants as got
use Rattle.mf_vault.specs.declared.answers.Pinned.{Pinned}
use Rattle.mf_vault.specs.declared.answers.Pinned.TheVariants.{At, Absent, Removed}
use Rattle.mf_vault.specs.Facts.{Facts, stages}
use Rattle.mf_vault.specs.Actor as call
use Rattle.mf_vault.specs.Actor.{Actor, Call, begin, end, pin, unpin, did, entry_of}
use Rattle.mf_vault.specs.Answers.{Goes}
use Rattle.mf_vault.specs.Conditions.{IsIdle, Leaves}
use Rattle.mf_vault.specs.Licence.{Does, Entered, IsFile, entries_of}
use Rattle.mf_vault.proofs.Doing.{nothing, same, one, then, after}
use Rattle.mf_read.specs.Asking.{Ask, lost_in, away_in, IsServed, IsShort, IsCut, gets}
use Rattle.mf_read.specs.Reading.{bears, stripes}
use Rattle.mf_read.proofs.Entries.{lost_append, away_append}
use Rattle.mf_read.proofs.Shortage.{short_has_lost}
use Rattle.mf_repair.specs.declared.outcome.RepairOutcome.{RepairOutcome}
use Rattle.mf_repair.specs.declared.outcome.RepairOutcome.TheVariants as outcome
use Rattle.mf_repair.specs.Repair as licence
use Rattle.mf_repair.specs.Repair.{probes, lost_names, restores, restores_in, skips_in, one_restore, one_skip}
use Rattle.mf_repair.specs.Repair.{found_in, once}
use Rattle.mf_repair.specs.Repair.{IsMended, AreMended, IsShortMend, IsCutMend, IsEnd, IsRepairOf, IsRepair, Repairs}
use Rattle.mf_repair.specs.Mending as mending
use Rattle.mf_repair.specs.Mending.{IsMender, HasStripe, Stays, AreApart, IsLostOf, Probes, RestoresSome, told_by}
use Rattle.mf_repair.specs.Mending.{LacksNames, IsShortOf}
use Rattle.mf_repair.specs.Mending.{RepairsStripe, RepairsAll, RepairsOf, restore_entries, skip_entries, is_restore}
use Rattle.mf_repair.specs.Mending.{is_skip}
use Rattle.mf_repair.proofs.Staying.{stays_nothing, stays_then}
use Rattle.mf_repair.proofs.Telling.{told_since, from_low, found_append, gets_found, entries_since}
use Rattle.mf_repair.proofs.Same.{no_fewer}
use Rattle.mf_repair.proofs.Rising.{asking_once}
use Rattle.mf_repair.proofs.Listing.{names_apart}
use Rattle.mf_repair.proofs.Probed.{still_gotten}
use Rattle.mf_repair.proofs.Bounded.{generation_few}

probes_none : (names : List Name) → probes names [] ≡ []
probes_none [] = refl
probes_none (x ∷ names) = refl

-- ---- the ends of a stripe

pub nothing_probed : (g j : ℕ) {a b : Actor} → b ≡ a → RepairsStripe g j (Err outcome.Memory) a b
nothing_probed g j {a = a} e = (
  [],
  licence.no_memory [] (subst (λ (l : List Call). IsCutMend a.facts g j l)
      (probes_none (stripe_names a.facts.book g j)) (licence.in_probes [] (omega arith))),
  same e,
)

empty_is : {A : Type 0} (l : List A) → length l ≡ 0 → l ≡ []
empty_is [] e = refl
empty_is (x ∷ l) e = absurd (omega arith)

pub none_lost : (g j : ℕ) {lost : List Name} {a b : Actor} → Probes g j lost a b → length lost ≡ 0
    → RepairsStripe g j (Ok tt) a b
none_lost g j {lost = lost} {a = a} p e = (
  probes (stripe_names a.facts.book g j) p.states,
  licence.whole p.states p.long (sym p.names ∙ empty_is lost e),
  p.does,
)

-- the gets go on from the probes
some_lost : (g j : ℕ) {lost : List Name} {a b : Actor} (p : Probes g j lost a b) → 0 < length lost
    → 0 < length (lost_names (stripe_names a.facts.book g j) p.states)
some_lost g j p some = let e = ap length p.names in omega arith

pub all_restored : (g j : ℕ) {lost : List Name} {a b c d : Actor} → Probes g j lost a b → 0 < length lost
    → (asks : List Ask) → IsServed b.facts.book g j asks → Does (gets b.facts asks) b c → Does (restores lost) c d
    → RepairsStripe g j (Ok tt) a d
all_restored g j {lost = lost} {a = a} {b = b} {c = c} {d = d} p some asks served gotten done =
    let all = stripe_names a.facts.book g j in (
      probes all p.states ++ (gets a.facts asks ++ restores (lost_names all p.states)),
      licence.mended p.states asks p.long (some_lost g j p some)
          (subst (λ (f : Facts). IsServed f.book g j asks) p.stays.facts served),
      then p.does (then (subst (λ (f : Facts). Does (gets f asks) b c) p.stays.facts gotten)
          (subst (λ (l : List Name). Does (restores l) c d) p.names done)),
    )

pub none_restored : (g j : ℕ) {lost : List Name} {a b c d : Actor} → Probes g j lost a b → 0 < length lost
    → (asks : List Ask) → IsServed b.facts.book g j asks → Does (gets b.facts asks) b c → d ≡ c
    → RepairsStripe g j (Err outcome.Memory) a d
none_restored g j {lost = lost} {a = a} {b = b} {c = c} {d = d} p some asks served gotten e =
    let all = stripe_names a.facts.book g j in (
      probes all p.states ++ (gets a.facts asks ++ restores (take 0 (lost_names all p.states))),
      licence.no_memory (probes all p.states ++ (gets a.facts asks ++ restores (take 0 (lost_names all p.states))))
          (licence.in_restores p.states asks 0 p.long (some_lost g j p some)
          (subst (λ (f : Facts). IsServed f.book g j asks) p.stays.facts served)),
      then p.does (then (subst (λ (f : Facts). Does (gets f asks) b c) p.stays.facts gotten) (same e)),
    )

pub cut_there : (g j : ℕ) {lost : List Name} {a b c : Actor} → Probes g j lost a b → 0 < length lost
    → (cs : List Call) × IsCut b.facts g j cs × Does cs b c → RepairsStripe g j (Err outcome.Memory) a c
cut_there g j {a = a} {b = b} {c = c} p some (cs, cut, does) =
    let all = stripe_names a.facts.book g j in (
      probes all p.states ++ cs,
      licence.no_memory (probes all p.states ++ cs) (licence.in_gets p.states cs p.long (some_lost g j p some)
          (subst (λ (f : Facts). IsCut f g j cs) p.stays.facts cut)),
      then p.does does,
    )

-- there is one
pub some_by : {slice lost : List Name} → slice ≡ lost → (length slice == 0) ≡ false → 0 < length lost
some_by {slice = slice} e h = let n = ap length e in ⊎_elim (λ (z : 0 < length slice). omega arith)
    (λ (z : length slice ≤ 0). absurd (eqb-false (length slice) 0 h (omega arith))) (cases_lt 0 (length slice))

-- what was found lost is so after the gets, and its names are different
pub lost_after : (g j : ℕ) {lost slice : List Name} {a b c : Actor} → Probes g j lost a b → (asks : List Ask)
    → Does (gets b.facts asks) b c → slice ≡ lost → All (IsLostOf g j c) slice
lost_after g j {c = c} p asks gotten e = subst (λ (l : List Name). All (IsLostOf g j c) l) (sym e)
    (λ k d low. still_gotten g j _ asks gotten (p.found k d low))

pub apart_after : (g j : ℕ) {lost slice : List Name} {a b c : Actor} → IsBook a.facts.book
    → HasStripe g j a.facts.book
    → Probes g j lost a b → Stays a c → slice ≡ lost → AreApart c.facts.book slice
apart_after g j {slice = slice} {a = a} book has p s e = subst (λ (f : Facts). AreApart f.book slice) (sym s.facts)
    (subst (λ (l : List Name). AreApart a.facts.book l) (sym (e ∙ p.names))
    (names_apart a.facts.book book g j has p.states))

-- ---- a short asking

-- the calls of the stripe
record Shorts (g j : ℕ) (a c : Actor) : Type 0 where
  pub calls : List Call
  pub short : IsShortMend a.facts g j calls
  pub does : Does calls a c

shorts : (g j : ℕ) {lost : List Name} {a b c : Actor} → Probes g j lost a b → 0 < length lost
    → (asks : List Ask) × IsShort b.facts.book g j asks × Does (gets b.facts asks) b c → Shorts g j a c
shorts g j {a = a} {b = b} {c = c} p some (asks, short, does) =
    let all = stripe_names a.facts.book g j in record {
      calls = probes all p.states ++ gets a.facts asks;
      short = record {
        states = p.states;
        asks = asks;
        long = p.long;
        some = some_lost g j p some;
        short = subst (λ (f : Facts). IsShort f.book g j asks) p.stays.facts short;
        order = refl;
      };
      does = then p.does (subst (λ (f : Facts). Does (gets f asks) b c) p.stays.facts does);
    }

facts_of : {g j : ℕ} {a c : Actor} → Shorts g j a c → c.facts ≡ a.facts
facts_of s = Rattle.mf_vault.proofs.Doing.facts_stay s.does

-- where no name was Away, more were lost than are borne
lacks : (f : Facts) (g j : ℕ) (calls : List Call) → IsBook f.book → g < stages f → IsShortMend f g j calls
    → away_in (found_in calls) ≡ [] → bears f.book g < length (once (lost_in (found_in calls)))
lacks f g j calls book low s none =
    let first = probes (stripe_names f.book g j) s.states in
    let is : found_in calls ≡ found_in first ++ s.asks = ap found_in s.order
    ∙ (found_append first (gets f s.asks) ∙ ap (λ l. found_in first ++ l) (gets_found f s.asks)) in
    let gone = ap length (sym (away_append (found_in first) s.asks) ∙ (sym (ap away_in is) ∙ none)) in
    let two = Rattle.std.proofs.Common.length-append (away_in (found_in first)) (away_in s.asks) in
    let many = short_has_lost f.book g j s.asks s.short (empty_is (away_in s.asks) (omega arith)) in
    let lost = ap (λ l. length (once l)) (ap lost_in is ∙ lost_append (found_in first) s.asks) in
    let few = book.shape.chain.copies g low in
    let least = no_fewer (lost_in (found_in first)) (lost_in s.asks)
    (asking_once f.book g j s.asks (omega arith) s.short.0) in
    omega arith

pub lacks_names : (g j n : ℕ) {lost : List Name} {a b c : Actor} → IsBook a.facts.book → g < stages a.facts
    → n ≡ length a.entries → Probes g j lost a b → 0 < length lost
    → (asks : List Ask) × IsShort b.facts.book g j asks × Does (gets b.facts asks) b c → LacksNames g n c
lacks_names g j n {a = a} {c = c} book low e p some gathered =
    let s = shorts g j p some gathered in
    subst (λ (l : List Ask). away_in l ≡ [] → bears c.facts.book g < length (once (lost_in l)))
    (sym (told_since s.calls n e s.does))
    (subst (λ (f : Facts). away_in (found_in s.calls) ≡ [] → bears f.book g < length (once (lost_in
    (found_in s.calls))))
    (sym (facts_of s)) (lacks a.facts g j s.calls book low s.short))

pub entries_from : (g j n : ℕ) {lost : List Name} {a b c : Actor} → n ≡ length a.entries → Probes g j lost a b
    → 0 < length lost → (asks : List Ask) × IsShort b.facts.book g j asks × Does (gets b.facts asks) b c
    → n ≤ length c.entries
entries_from g j n e p some gathered = let s = shorts g j p some gathered in from_low s.calls n e s.does

ends : (f : Facts) (g j : ℕ) (calls : List Call) (o : RepairOutcome) → IsShortMend f g j calls
    → IsShortOf (bears f.book g) g j (found_in calls) o → IsEnd f g j o calls
ends f g j calls _ s (mending.data_lost many) = licence.data_lost calls s many
ends f g j calls _ s (mending.unreachable x server others few is) = licence.unreachable calls x server others s few is
ends f g j calls _ s mending.no_memory = licence.no_memory calls (subst (λ l. IsCutMend f g j l) (sym s.order)
    (licence.in_gets s.states (gets f s.asks) s.long s.some
    (Rattle.mf_read.proofs.Stripewise.whole_cut f g j s.asks s.short.0)))

pub ended_short : (g j n : ℕ) (o : RepairOutcome) {lost : List Name} {a b c : Actor} → n ≡ length a.entries
    → Probes g j lost a b → 0 < length lost
    → (asks : List Ask) × IsShort b.facts.book g j asks × Does (gets b.facts asks) b c
    → IsShortOf (bears c.facts.book g) g j (told_by (drop n c.entries)) o → RepairsStripe g j (Err o) a c
ended_short g j n o {a = a} {c = c} e p some gathered is =
    let s = shorts g j p some gathered in (
      s.calls,
      ends a.facts g j s.calls o s.short (subst (λ (f : Facts). IsShortOf (bears f.book g) g j (found_in s.calls) o)
          (facts_of s)
          (subst (λ (l : List Ask). IsShortOf (bears c.facts.book g) g j l o) (told_since s.calls n e s.does) is)),
      s.does,
    )

-- ---- stripes in turn

pub record Stripes (g j : ℕ) (a b : Actor) : Type 0 where
  pub calls : List Call
  pub mended : AreMended a.facts g j calls
  pub does : Does calls a b
  pub stays : Stays a b

pub no_stripes : (g : ℕ) (a : Actor) → Stripes g 0 a a
no_stripes g a = record { calls = []; mended = refl; does = nothing a; stays = stays_nothing a }

pub stripes_more : {g j : ℕ} {a b c : Actor} → Stripes g j a b → RepairsStripe g j (Ok tt) b c → Stays b c
    → Stripes g (j + 1) a c
stripes_more {g = g} {j = j} {a = a} s (calls, is, does) stays = record {
  calls = s.calls ++ calls;
  mended = subst (λ n. AreMended a.facts g n (s.calls ++ calls)) (let z : suc j ≡ j + 1 = omega arith in z)
      (s.calls, calls, s.mended, subst (λ (f : Facts). IsMended f g j calls) s.stays.facts is, refl);
  does = then s.does does;
  stays = stays_then s.stays stays;
}

pub stripes_end : {g j : ℕ} (o : RepairOutcome) {a b c : Actor} → Stripes g j a b → j < stripes a.facts.book g
    → RepairsStripe g j (Err o) b c → RepairsAll g (Err o) a c
stripes_end {g = g} {j = j} o {a = a} s low (calls, is, does) = (
  s.calls ++ calls,
  licence.ended o j s.calls calls low s.mended (subst (λ (f : Facts). IsEnd f g j o calls) s.stays.facts is),
  then s.does does,
)

pub stripes_all : {g j : ℕ} {a b : Actor} → Stripes g j a b → j ≡ stripes a.facts.book g → RepairsAll g (Ok tt) a b
stripes_all {g = g} {a = a} s e = (s.calls, subst (λ n. AreMended a.facts g n s.calls) e s.mended, s.does)

-- ---- the counts

restores_told : (c : Call) → length (filter is_restore (entry_of c)) ≡ one_restore c
restores_told (call.cut_off s) = refl
restores_told (call.pin slot gs p) = refl
restores_told (call.unpin slot) = refl
restores_told (call.begin b) = refl
restores_told call.end = refl
restores_told (call.publish n) = refl
restores_told (call.probe x s) = refl
restores_told (call.put x) = refl
restores_told (call.restore x) = refl
restores_told (call.close g c) = refl
restores_told (call.discard x b) = refl
restores_told (call.get x (got.Here c)) = refl
restores_told (call.get x (got.Lost l)) = refl
restores_told (call.get x (got.Away s)) = refl
restores_told (call.get x got.Memory) = refl
restores_told (call.lose x l b) = refl

skips_told : (c : Call) → length (filter is_skip (entry_of c)) ≡ one_skip c
skips_told (call.cut_off s) = refl
skips_told (call.pin slot gs p) = refl
skips_told (call.unpin slot) = refl
skips_told (call.begin b) = refl
skips_told call.end = refl
skips_told (call.publish n) = refl
skips_told (call.probe x Unborn) = refl
skips_told (call.probe x Here) = refl
skips_told (call.probe x (Lost l)) = refl
skips_told (call.probe x (Away s)) = refl
skips_told (call.put x) = refl
skips_told (call.restore x) = refl
skips_told (call.close g c) = refl
skips_told (call.discard x true) = refl
skips_told (call.discard x false) = refl
skips_told (call.get x (got.Here c)) = refl
skips_told (call.get x (got.Lost l)) = refl
skips_told (call.get x (got.Away s)) = refl
skips_told (call.get x got.Memory) = refl
skips_told (call.lose x l true) = refl
skips_told (call.lose x l false) = refl

filter_long : {A : Type 0} (p : A → Rattle.std.proofs.Common.Bool) (xs ys : List A)
    → length (filter p (xs ++ ys)) ≡ length (filter p xs) + length (filter p ys)
filter_long p xs ys = ap length (Rattle.std.proofs.lemmas.List.Elements.filter-append p xs ys)
    ∙ Rattle.std.proofs.Common.length-append (filter p xs) (filter p ys)

restores_counted : (calls : List Call) → restore_entries (entries_of calls) ≡ restores_in calls
restores_counted [] = refl
restores_counted (c ∷ calls) = filter_long is_restore (entry_of c) (entries_of calls)
    ∙ (λ k. restores_told c k + restores_counted calls k)

skips_counted : (calls : List Call) → skip_entries (entries_of calls) ≡ skips_in calls
skips_counted [] = refl
skips_counted (c ∷ calls) = filter_long is_skip (entry_of c) (entries_of calls)
    ∙ (λ k. skips_told c k + skips_counted calls k)

pub repaired : (g n restored skipped : ℕ) (entries : List Entry) {a b : Actor} → n ≡ length a.entries
    → RepairsAll g (Ok tt) a b → entries ≡ drop n b.entries → restored ≡ restore_entries entries
    → skipped ≡ skip_entries entries → RepairsOf g (outcome.Repaired restored skipped) a b
repaired g n restored skipped entries {a = a} {b = b} e (calls, are, does) is r s =
    let told = is ∙ entries_since calls n e does in (
      calls,
      subst (λ (o : RepairOutcome). IsRepairOf a.facts g o calls)
          (λ k. outcome.Repaired (sym (r ∙ (ap restore_entries told ∙ restores_counted calls)) k)
          (sym (s ∙ (ap skip_entries told ∙ skips_counted calls)) k)) (licence.repaired calls are),
      does,
    )

-- ---- the whole

pub mender : {g : ℕ} {a c : Actor} → Entered (At g) a c → IsMender g c
mender {g = g} e = record {
  stage = subst (λ (f : Facts). g < stages f) (sym e.facts) e.range.0;
  right = e.building.right;
  work = e.work;
}

pub through : {g : ℕ} {o : RepairOutcome} {a c d u b : Actor} → Entered (At g) a c → RepairsOf g o c d
    → Goes (unpin Work) d u → Goes end u b → Repairs o a b
through {g = g} {o = o} {a = a} e (calls, is, does) x y = record {
  calls = begin true ∷ pin Work e.missed (At g) ∷ (calls ++ (unpin Work ∷ end ∷ []));
  licence = licence.through o e.missed g calls (subst (λ (f : Facts). IsRepairOf f g o calls) e.facts is);
  does = then e.does (then does (after x (one y)));
}

pub through_leaves : {g : ℕ} {a c d u b : Actor} → Entered (At g) a c → Stays c d → Goes (unpin Work) d u
    → Goes end u b → Leaves a b
through_leaves {a = a} {d = d} e s x y =
    subst (λ (z : Actor). Leaves a z) (sym (y.becomes ∙ ap (λ (z : Actor). did end z) x.becomes)) record {
      idle = record { right = refl; work = refl };
      facts = s.facts ∙ e.facts;
      hold = s.hold ∙ e.hold;
      cut = s.cut ∙ e.cut;
    }

-- where the pin pinned nothing
pub enters_leaves : {p : Pinned} {a c b : Actor} → Entered p a c → c.view.work ≡ 0 → Goes end c b → Leaves a b
enters_leaves {a = a} e free y = subst (λ (z : Actor). Leaves a z) (sym y.becomes) record {
  idle = record { right = refl; work = free };
  facts = e.facts;
  hold = e.hold;
  cut = e.cut;
}

pub busy_leaves : {a b : Actor} → IsIdle a → Goes (begin false) a b → Leaves a b
busy_leaves {a = a} idle y = subst (λ (z : Actor). Leaves a z) (sym y.becomes)
    (record { idle = record { right = idle.right; work = idle.work }; facts = refl; hold = refl; cut = refl })

-- how long the entries of a repair are
pub few_since : (g n : ℕ) (entries : List Entry) {a b : Actor} → IsBook a.facts.book → g < stages a.facts
    → n ≡ length a.entries → RepairsAll g (Ok tt) a b → entries ≡ drop n b.entries → length entries < 2 ^ 24
few_since g n entries book low e (calls, are, does) is =
    let l = ap length (is ∙ entries_since calls n e does) in
    let few = generation_few book low (licence.repaired calls are) in omega arith

pub ledger_low : (g n : ℕ) {a b : Actor} → n ≡ length a.entries → RepairsAll g (Ok tt) a b → n ≤ length b.entries
ledger_low g n e (calls, are, does) = from_low calls n e does
