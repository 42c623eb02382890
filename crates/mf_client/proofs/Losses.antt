-- Names that are lost, file by file.
use Rattle.std.proofs.Common.{◌≡◌, ℕ, zero, suc, ◌+◌, ◌<◌, ◌≤◌, Bool, true, false, List, [], ◌∷◌, ◌++◌, length}
use Rattle.std.proofs.Common.{filter, take, drop, get_or, set, refl, sym, ap, ◌∙◌, subst, arith, append_assoc, inl, inr}
use Rattle.std.proofs.Common.{length-append, All}
use Rattle.std.specs.Prelude.{Vec}
use Rattle.std.specs.Global.{Global}
use Rattle.std.proofs.lemmas.Bool.{cases_Bool, cond-true, cond-false, eqb-true}
use Rattle.std.proofs.lemmas.List.{length-map, get_or-map, map-set, take-set, take_more_set, drop-set-lt, map-append}
use Rattle.std.proofs.lemmas.List.{take_more}
use Rattle.std.proofs.lemmas.List.Elements.{filter-append, All-head, All-tail, All-cons, All-nil}
use Rattle.std.proofs.Math.Seq.{drop-cons, map-set_same, take-suc, take-suc-set}
use Rattle.mf_machine.specs.File.{listed}
use Rattle.mf_places.specs.declared.Name.{Name}
use Rattle.mf_places.specs.Names.{HasName, all_names}
use Rattle.mf_places.specs.Placement.{server_of, is_on}
use Rattle.mf_places.proofs.Names.{All-sublist}
use Rattle.mf_vault.specs.Facts.{Facts, file, number, lines}
use Rattle.mf_vault.specs.Actor.{Actor, lose}
use Rattle.mf_vault.specs.Answers.{Goes}
use Rattle.mf_vault.specs.Licence.{Does, IsKept}
use Rattle.mf_vault.specs.May.{MayLose}
use Rattle.mf_vault.proofs.Doing.{nothing, more}
use Rattle.mf_vault.proofs.Held.{server_is}
use Rattle.mf_client.specs.Acts.{names_on, loses, LosesIn, LosesAll, lists_on}
use Rattle.mf_client.specs.Clients.{facts_in}
use Rattle.mf_client.specs.Steps.{IsLine, AreLosable, AllLosable, HaveRoom, rows}
use Rattle.mf_convert.proofs.Few.{passing_few}

-- ---- one file

abbrev there : List Bool → ℕ
there answers = length (filter (λ (yes : Bool). yes) answers)

loses_push : (line : ℕ) (xs : List Name) (ss : List Bool) (x : Name) (r : Bool) → length ss ≡ length xs
    → loses line (xs ++ x ∷ []) (ss ++ r ∷ []) ≡ loses line xs ss ++ lose x line r ∷ []
loses_push line [] [] x r e = refl
loses_push line [] (s ∷ ss) x r e = absurd (omega arith)
loses_push line (y ∷ xs) [] x r e = absurd (omega arith)
loses_push line (y ∷ xs) (s ∷ ss) x r e = ap (λ l. lose y line s ∷ l) (loses_push line xs ss x r (omega arith))

pub none_lost : (line : ℕ) (a : Actor) → LosesIn line [] 0 a a
none_lost line a = record { answers = []; long = refl; count = refl; does = nothing a }

pub lose_more : (line n m i : ℕ) (names : List Name) (r : Bool) (d : Name) {a b c : Actor}
    → LosesIn line (take i names) n a b → Goes (lose (get_or names i d) line r) b c → i < length names
    → m ≡ n + there (r ∷ []) → LosesIn line (take (i + 1) names) m a c
lose_more line n m i names r d {a = a} {c = c} x goes low e =
    let next : suc i ≡ i + 1 = omega arith in
    subst (λ l. LosesIn line l m a c) (sym (take-suc names i d low) ∙ ap (λ k. take k names) next) (record {
      answers = x.answers ++ r ∷ [];
      long = length-append x.answers (r ∷ []) ∙ ap (λ k. k + 1) x.long
          ∙ sym (length-append (take i names) (get_or names i d ∷ []));
      count = e ∙ ap (λ k. k + there (r ∷ [])) x.count
          ∙ sym (length-append (filter (λ (yes : Bool). yes) x.answers) (filter (λ (yes : Bool). yes) (r ∷ [])))
          ∙ ap length (sym (filter-append (λ (yes : Bool). yes) x.answers (r ∷ [])));
      does = subst (λ l. Does l a c) (sym (loses_push line (take i names) x.answers (get_or names i d) r x.long))
          (more x.does goes);
    })

-- where a name may be lost depends on the facts alone
pub may_still : (x : Name) (line : ℕ) (a b : Actor) → b.facts ≡ a.facts → MayLose x line a → MayLose x line b
may_still x line a b e may = subst (λ (f : Facts). HasName f.book x × (0 < listed line ((file f).server (number f x))
    (file f).losses)) (sym e) may

-- ---- what each name on a server is

passes : (p : Name → Bool) (xs : List Name) → All (λ x. p x ≡ true) (filter p xs)
passes p [] = All-nil (λ x. p x ≡ true)
passes p (x ∷ xs) = elim (cases_Bool (p x)) [
  | inl holds ↦ subst (All (λ y. p y ≡ true)) (sym (cond-true _ _ _ holds))
      (All-cons (λ y. p y ≡ true) x (filter p xs) holds (passes p xs))
  | inr fails ↦ subst (All (λ y. p y ≡ true)) (sym (cond-false _ _ _ fails)) (passes p xs)
]

losable : (line s : ℕ) (a : Actor) → IsKept a → IsLine line s a.facts → AreLosable line (names_on a.facts s) a
losable line s a kept is = (
  (λ k d low.
      let x = get_or (names_on a.facts s) k d in
      let had = All-sublist a.facts.book (is_on a.facts.book s) (names_on a.facts s) refl k d low in
      let on = eqb-true (server_of a.facts.book x) s (passes (is_on a.facts.book s) (all_names a.facts.book) k d low) in
      (had, subst (λ n. 0 < listed line n (lines a.facts.losses)) (sym (server_is a.facts x had ∙ on)) is)),
  (let few = passing_few a.facts.book (is_on a.facts.book s) kept.file.layout in omega arith),
)

pub losable_all : (line s : ℕ) (actors : List Actor) → All IsKept actors → All (IsLine line s) (facts_in actors)
    → AllLosable line (lists_on s actors) actors
losable_all line s [] kept is = tt
losable_all line s (a ∷ actors) kept is = (
  losable line s a (All-head IsKept a actors kept) (All-head (IsLine line s) a.facts (facts_in actors) is),
  losable_all line s actors (All-tail IsKept a actors kept) (All-tail (IsLine line s) a.facts (facts_in actors) is),
)

-- ---- file by file

losable_long : (line : ℕ) (lists : List (List Name)) (actors : List Actor) → AllLosable line lists actors
    → length lists ≡ length actors
losable_long line [] [] h = refl
losable_long line [] (a ∷ actors) h = absurd h
losable_long line (names ∷ lists) [] h = absurd h
losable_long line (names ∷ lists) (a ∷ actors) h = ap suc (losable_long line lists actors h.1)

pub losable_at : (line i : ℕ) (lists : List (List Name)) (actors : List Actor) (l : List Name) (d : Actor)
    → AllLosable line (drop i lists) (drop i actors) → i < length actors
    → (i < length lists) × AreLosable line (get_or lists i l) (get_or actors i d)
    × AllLosable line (drop (suc i) lists) (drop (suc i) actors)
losable_at line zero [] [] l d h low = absurd (omega arith)
losable_at line zero [] (a ∷ actors) l d h low = absurd h
losable_at line zero (names ∷ lists) [] l d h low = absurd h
losable_at line zero (names ∷ lists) (a ∷ actors) l d h low = (omega arith, h.0, h.1)
losable_at line (suc i) lists [] l d h low = absurd (omega arith)
losable_at line (suc i) [] (a ∷ actors) l d h low =
    absurd (let e = losable_long line [] (drop i actors) h in
    let f = Rattle.std.proofs.lemmas.List.length-drop i actors in omega arith)
losable_at line (suc i) (names ∷ lists) (a ∷ actors) l d h low =
    let r = losable_at line i lists actors l d h (omega arith) in
    let k = r.0 in (omega arith, r.1, r.2)

pub room_at : (i : ℕ) (lists : List (List Name)) (spare : List ℕ) (l : List Name) (d : ℕ)
    → HaveRoom (drop i lists) (drop i spare) → i < length lists → i < length spare
    → (length (get_or lists i l) ≤ get_or spare i d) × HaveRoom (drop (suc i) lists) (drop (suc i) spare)
room_at zero [] spare l d h low also = absurd (omega arith)
room_at zero (names ∷ lists) [] l d h low also = absurd (omega arith)
room_at zero (names ∷ lists) (n ∷ spare) l d h low also = (h.0, h.1)
room_at (suc i) [] spare l d h low also = absurd (omega arith)
room_at (suc i) (names ∷ lists) [] l d h low also = absurd (omega arith)
room_at (suc i) (names ∷ lists) (n ∷ spare) l d h low also = room_at i lists spare l d h (omega arith) (omega arith)

-- one file more: what the others come to makes the whole
pub lost_more : (line i count k : ℕ) (lists : List (List Name)) (start now : List Actor) (l : List Name) (d b : Actor)
    → ((n : ℕ) (after : List Actor) → LosesAll line (drop i lists) n (drop i now) after
    → LosesAll line lists (count + n) start (take i now ++ after))
    → i < length lists → i < length now → LosesIn line (get_or lists i l) k (get_or now i d) b
    → (n : ℕ) (after : List Actor) → LosesAll line (drop (i + 1) lists) n (drop (i + 1) (set now i b)) after
    → LosesAll line lists ((count + k) + n) start (take (i + 1) (set now i b) ++ after)
lost_more line i count k lists start now l d b so low also one n after rest =
    let next : i + 1 ≡ suc i = omega arith in
    let others : LosesAll line (drop (suc i) lists) n (drop (suc i) now) after =
    subst (λ (x : List Actor). LosesAll line (drop (suc i) lists) n x after) (drop-set-lt (suc i) now i b (omega arith))
    (subst (λ j. LosesAll line (drop j lists) n (drop j (set now i b)) after) next rest) in
    let both : LosesAll line (get_or lists i l ∷ drop (suc i) lists) (k + n) (get_or now i d ∷ drop (suc i) now)
    (b ∷ after) = (k, n, refl, one, others) in
    let whole = so (k + n) (b ∷ after) (subst (λ (x : List Actor). LosesAll line (drop i lists) (k + n) x (b ∷ after))
    (sym (drop-cons now i d also)) (subst (λ (x : List (List Name)). LosesAll line x (k + n) (get_or now i d ∷ drop
    (suc i) now) (b ∷ after)) (sym (drop-cons lists i l low)) both)) in
    let sum : count + (k + n) ≡ (count + k) + n = omega arith in
    let ends = sym (append_assoc (take i now) (b ∷ []) after)
    ∙ ap (λ x. x ++ after) (sym (take-suc-set now i b also) ∙ ap (λ j. take j (set now i b)) (sym next)) in
    subst (λ (x : List Actor). LosesAll line lists ((count + k) + n) start x) ends
    (subst (λ j. LosesAll line lists j start (take i now ++ b ∷ after)) sum whole)

-- nothing is lost behind the last file
pub lost_none : (line : ℕ) (lists : List (List Name)) (start now : List Actor) (count i : ℕ)
    → ((n : ℕ) (after : List Actor) → LosesAll line (drop i lists) n (drop i now) after
    → LosesAll line lists (count + n) start (take i now ++ after))
    → AllLosable line (drop i lists) (drop i now) → i ≡ length now → LosesAll line lists count start now
lost_none line lists start now count i so may e =
    let none : drop i now ≡ [] = ap (λ j. drop j now) e ∙ Rattle.std.proofs.Math.Seq.drop-length now in
    let empty : drop i lists ≡ [] = Rattle.std.proofs.lemmas.List.nil_from_length (drop i lists)
    (losable_long line (drop i lists) (drop i now) may ∙ ap length none) in
    let last : LosesAll line (drop i lists) 0 (drop i now) [] =
    subst (λ (x : List Actor). LosesAll line (drop i lists) 0 x []) (sym none)
    (subst (λ (x : List (List Name)). LosesAll line x 0 [] []) (sym empty) refl) in
    let whole = so 0 [] last in
    let sum : count + 0 ≡ count = omega arith in
    let all = Rattle.std.proofs.lemmas.List.append-nil (take i now) ∙ ap (λ j. take j now) e
    ∙ Rattle.std.proofs.Math.Seq.take-length now in
    subst (λ (x : List Actor). LosesAll line lists count start x) all
    (subst (λ j. LosesAll line lists j start (take i now ++ [])) sum whole)

-- ---- the lists and the room

pub rows_push : (lists : List (Vec Name Global)) (v : Vec Name Global) → rows (lists ++ v ∷ []) ≡ rows lists ++
    v.items ∷ []
rows_push lists v = map-append (λ (w : Vec Name Global). w.items) lists (v ∷ [])

pub lists_more : (s i : ℕ) (actors : List Actor) (lists : List (List Name)) (d : Actor) (names : List Name)
    → lists ≡ lists_on s (take i actors) → i < length actors → names ≡ names_on (get_or actors i d).facts s
    → lists ++ names ∷ [] ≡ lists_on s (take (i + 1) actors)
lists_more s i actors lists d names is low e =
    let next : suc i ≡ i + 1 = omega arith in
    (λ j. is j ++ e j ∷ [])
    ∙ sym (map-append (λ (a : Actor). names_on a.facts s) (take i actors) (get_or actors i d ∷ []))
    ∙ ap (lists_on s) (sym (take-suc actors i d low) ∙ ap (λ k. take k actors) next)

room_push : (lists : List (List Name)) (spare : List ℕ) (names : List Name) (n : ℕ) → HaveRoom lists spare
    → length names ≤ n → HaveRoom (lists ++ names ∷ []) (spare ++ n ∷ [])
room_push [] [] names n h low = (low, tt)
room_push [] (k ∷ spare) names n h low = absurd h
room_push (l ∷ lists) [] names n h low = absurd h
room_push (l ∷ lists) (k ∷ spare) names n h low = (h.0, room_push lists spare names n h.1 low)

pub room_more : (i : ℕ) (spare : List ℕ) (lists : List (List Name)) (names : List Name) (n : ℕ)
    → HaveRoom lists (take i spare) → i < length spare → length names ≤ n
    → HaveRoom (lists ++ names ∷ []) (take (i + 1) (set spare i n))
room_more i spare lists names n h low few =
    subst (HaveRoom (lists ++ names ∷ [])) (sym (take_more_set spare i n low))
    (room_push lists (take i spare) names n h few)

-- at most as many were there as there are names
there_low : (answers : List Bool) → there answers ≤ length answers
there_low [] = omega arith
there_low (true ∷ answers) = let r = there_low answers in omega arith
there_low (false ∷ answers) = let r = there_low answers in omega arith

pub lost_low : {line n : ℕ} {names : List Name} {a b : Actor} → LosesIn line names n a b → n ≤ length names
lost_low x = let r = there_low x.answers in let e = x.count in let l = x.long in omega arith
