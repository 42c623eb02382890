-- Conversions of one file in turn.
use Rattle.std.proofs.Common.{◌≡◌, ℕ, zero, suc, ◌+◌, ◌-◌, ◌*◌, ◌≤◌, true, false, None, List, [], ◌∷◌, ◌++◌, length}
use Rattle.std.proofs.Common.{map}
use Rattle.std.proofs.Common.{filter, refl, sym, ap, ◌∙◌, subst, arith, append_assoc, length-append}
use Rattle.std.proofs.lemmas.List.{append-nil, map-append, length-map}
use Rattle.std.proofs.lemmas.List.Elements.{filter-append}
use Rattle.std.proofs.lemmas.List.Sums.{length-filter, count_by-le-length}
use Rattle.mf_places.specs.Facts.{IsBook}
use Rattle.mf_vault.specs.declared.answers.Entry.{Entry}
use Rattle.mf_vault.specs.Facts.{Facts}
use Rattle.mf_vault.specs.Actor.{Actor}
use Rattle.mf_vault.specs.Conditions.{IsIdle, Leaves}
use Rattle.mf_vault.specs.Licence.{entries_of}
use Rattle.mf_vault.proofs.Doing.{entries_are}
use Rattle.mf_convert.specs.declared.change.Change.{Change}
use Rattle.mf_convert.specs.declared.change.Change.TheVariants as change
use Rattle.mf_convert.specs.Convert.{Converts}
use Rattle.mf_convert.proofs.Fewer.{entries_low}
use Rattle.mf_client.specs.declared.done.Part.{Part}
use Rattle.mf_client.specs.Sweeps.{ConvertsInTurn, AreAll, is_converted, is_part, parts_of}
use Rattle.mf_client.specs.Steps.{AreConverted, Converting, Visited}
use Rattle.mf_convert.proofs.Leaving.{converts_leaves}

-- one conversion more
turn_more : (upto : ℕ) (cs : List Change) (c : Change) (a b d : Actor) → ConvertsInTurn upto cs a b
    → Converts upto None c b d → ConvertsInTurn upto (cs ++ c ∷ []) a d
turn_more upto [] c a b d x y = (d, subst (λ (z : Actor). Converts upto None c z d) x y, refl)
turn_more upto (e ∷ cs) c a b d (mid, one, others) y = (mid, one, turn_more upto cs c mid b d others y)

false_true : {X : Type 0} → false ≡ true → X
false_true e = absurd (let z : false ≡ true = e in cc)

converted_first : (c : Change) (n : ℕ) (cs : List Change) → is_converted c ≡ true → AreAll n cs
    → AreAll (suc n) (c ∷ cs)
converted_first (change.Converted from to made) n cs e x = x
converted_first other n cs e x = false_true e

-- changes that published a generation, and then all that were still allowed
all_behind : (cs ds : List Change) (n m : ℕ) → m ≡ length cs + n → AreConverted cs → AreAll n ds
    → AreAll m (cs ++ ds)
all_behind [] ds n m e converted x = let same : n ≡ m = omega arith in subst (λ k. AreAll k ds) same x
all_behind (c ∷ cs) ds n zero e converted x = absurd (omega arith)
all_behind (c ∷ cs) ds n (suc m) e converted x =
    converted_first c m (cs ++ ds) converted.0 (all_behind cs ds n m (omega arith) converted.1 x)

ends_there : (c : Change) (n : ℕ) → is_converted c ≡ false → AreAll (suc n) (c ∷ [])
ends_there (change.Converted from to made) n e = false_true (sym e)
ends_there other n e = refl

converted_more : (cs : List Change) (c : Change) → AreConverted cs → is_converted c ≡ true
    → AreConverted (cs ++ c ∷ [])
converted_more [] c x e = (e, tt)
converted_more (d ∷ cs) c x e = (x.0, converted_more cs c x.1 e)

-- ---- what is told

pub parts_both : (file : ℕ) (cs ds : List Change) → parts_of file (cs ++ ds) ≡ parts_of file cs ++ parts_of file ds
parts_both file cs ds =
    let part : Change → Part = λ c. record { file = file; change = c } in
    ap (map part) (filter-append is_part cs ds) ∙ map-append part (filter is_part cs) (filter is_part ds)

told_more : (file : ℕ) (cs : List Change) (c : Change) (before now after : List Part)
    → now ≡ before ++ parts_of file cs → after ≡ now ++ parts_of file (c ∷ [])
    → after ≡ before ++ parts_of file (cs ++ c ∷ [])
told_more file cs c before now after x y =
    y ∙ ap (λ l. l ++ parts_of file (c ∷ [])) x
    ∙ append_assoc before (parts_of file cs) (parts_of file (c ∷ []))
    ∙ ap (λ l. before ++ l) (sym (parts_both file cs (c ∷ [])))

-- ---- a loop

pub none_converted : (file due : ℕ) (a : Actor) (parts now : List Part) → now ≡ parts
    → Converting file due 0 a a parts now
none_converted file due a parts now same = record {
  changes = [];
  turn = refl;
  converted = tt;
  count = refl;
  told = same ∙ sym (append-nil parts);
}

pub one_converted : (file due i : ℕ) (c : Change) (a b d : Actor) (before now after : List Part)
    → Converting file due i a b before now → Converts due None c b d → after ≡ now ++ parts_of file (c ∷ [])
    → is_converted c ≡ true → Converting file due (i + 1) a d before after
one_converted file due i c a b d before now after x y told e = record {
  changes = x.changes ++ c ∷ [];
  turn = turn_more due x.changes c a b d x.turn y;
  converted = converted_more x.changes c x.converted e;
  count = length-append x.changes (c ∷ []) ∙ ap (λ n. n + 1) x.count;
  told = told_more file x.changes c before now after x.told told;
}

pub ended_there : (file due i : ℕ) (c : Change) (a b d : Actor) (before now after : List Part)
    → Converting file due i a b before now → Converts due None c b d → after ≡ now ++ parts_of file (c ∷ [])
    → is_converted c ≡ false → i + 1 ≤ due → Visited file due a d before after
ended_there file due i c a b d before now after x y told e low =
    let count = x.count in
    record {
      changes = x.changes ++ c ∷ [];
      visits = record {
        converts = turn_more due x.changes c a b d x.turn y;
        all = all_behind x.changes (c ∷ []) (suc (due - (i + 1))) due (omega arith) x.converted
            (ends_there c (due - (i + 1)) e);
      };
      told = told_more file x.changes c before now after x.told told;
    }

pub all_converted : (file due : ℕ) (a b : Actor) (before after : List Part) → Converting file due due a b before after
    → Visited file due a b before after
all_converted file due a b before after x =
    let count = x.count in
    record {
      changes = x.changes;
      visits = record {
        converts = x.turn;
        all = subst (AreAll due) (append-nil x.changes)
            (all_behind x.changes [] 0 due (omega arith) x.converted refl);
      };
      told = x.told;
    }

-- ---- what is left

pub turn_leaves : (upto : ℕ) (cs : List Change) (a b : Actor) → ConvertsInTurn upto cs a b → IsIdle a → Leaves a b
turn_leaves upto [] a b e idle =
    subst (Leaves a) (sym e) (record { idle = idle; facts = refl; hold = refl; cut = refl })
turn_leaves upto (c ∷ cs) a b (mid, one, others) idle =
    let x = converts_leaves one idle in
    let y = turn_leaves upto cs mid b others x.idle in
    record {
      idle = y.idle;
      facts = y.facts ∙ x.facts;
      hold = y.hold ∙ x.hold;
      cut = y.cut ∙ x.cut;
    }

-- the ledger has a few entries more
pub record Adds (a b : Actor) (most : ℕ) : Type 0 where
  pub entries : List Entry
  pub are : b.entries ≡ a.entries ++ entries
  pub few : length entries ≤ most

pub turn_adds : (upto : ℕ) (cs : List Change) (a b : Actor) → IsBook a.facts.book → IsIdle a
    → ConvertsInTurn upto cs a b → Adds a b (length cs * 1980005)
turn_adds upto [] a b book idle e = record {
  entries = [];
  are = ap (λ (x : Actor). x.entries) e ∙ sym (append-nil a.entries);
  few = omega arith;
}
turn_adds upto (c ∷ cs) a b book idle (mid, one, others) =
    let left = converts_leaves one idle in
    let r = turn_adds upto cs mid b (subst (λ (f : Facts). IsBook f.book) (sym left.facts) book) left.idle others in
    let es = entries_of one.calls in
    let low = entries_low book one in
    let most = r.few in
    let long = length-append es r.entries in
    record {
      entries = es ++ r.entries;
      are = r.are ∙ ap (λ l. l ++ r.entries) (entries_are one.does) ∙ append_assoc a.entries es r.entries;
      few = omega arith;
    }

pub all_few : (n : ℕ) (cs : List Change) → AreAll n cs → length cs ≤ n
all_few zero cs e = let none = ap length e in omega arith
all_few (suc n) [] x = absurd x
all_few (suc n) (change.Converted from to made ∷ cs) x = let r = all_few n cs x in omega arith
all_few (suc n) (other ∷ cs) e = let none = ap length e in omega arith

pub parts_few : (file : ℕ) (cs : List Change) → length (parts_of file cs) ≤ length cs
parts_few file cs =
    let part : Change → Part = λ c. record { file = file; change = c } in
    let e = length-map (filter is_part cs) part in
    let same = length-filter is_part cs in
    let low = count_by-le-length is_part cs in omega arith
