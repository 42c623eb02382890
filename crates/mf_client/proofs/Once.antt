-- Where the whole state is told, a client's commands have one result.
use Rattle.std.proofs.Common.{◌≡◌, ◌≢◌, ℕ, ◌+◌, ◌-◌, Option, Bool, false, List, [], ◌∷◌, length}
use Rattle.std.proofs.Common.{filter}
use Rattle.std.proofs.Common.{refl, sym, ap, ◌∙◌, subst, arith, Some, None, All}
use Rattle.std.specs.Prelude.{slice_set, Vec}
use Rattle.std.specs.List.{list_any}
use Rattle.std.specs.Global.{Global}
use Rattle.std.proofs.lemmas.Bool.{or_parts}
use Rattle.std.proofs.lemmas.List.Elements.{All-head, All-tail, All-cons, All-nil, All-set}
use Rattle.sha2.specs.Sha256.{sha256}
use Rattle.mf_machine.specs.declared.answer.Slot.TheVariants.{Hold}
use Rattle.mf_machine.specs.Worlds.{World}
use Rattle.mf_places.specs.declared.Name.{Name}
use Rattle.mf_places.specs.declared.servers.Servers.{Servers}
use Rattle.mf_lines.specs.declared.parts.Act.{Act}
use Rattle.mf_lines.specs.declared.parts.Act.TheVariants as act
use Rattle.mf_lines.specs.declared.parts.Command.{Command}
use Rattle.mf_lines.specs.Meaning.{Script, file_in}
use Rattle.mf_vault.specs.declared.answers.Pinned.{Pinned}
use Rattle.mf_vault.specs.declared.answers.Pinned.TheVariants as pinned
use Rattle.mf_script.specs.Families.{file_policies}
use Rattle.mf_vault.specs.Actor.{Actor, Call, did, onward, pin, unpin, lose, cut_off}
use Rattle.mf_vault.specs.Answers.{Goes}
use Rattle.mf_vault.specs.Licence.{Does, did_all}
use Rattle.mf_vault.proofs.Once.{one_answer}
use Rattle.mf_convert.specs.declared.change.Change.{Change}
use Rattle.mf_convert.specs.Create.{Creates}
use Rattle.mf_convert.specs.Remove.{Removes}
use Rattle.mf_convert.specs.Convert.{Converts}
use Rattle.mf_convert.proofs.Once.{creates_once, removes_once}
use Rattle.mf_convert.proofs.OnceConverted.{converts_once}
use Rattle.mf_repair.specs.declared.outcome.RepairOutcome.{RepairOutcome}
use Rattle.mf_repair.specs.Repair.{Repairs}
use Rattle.mf_repair.proofs.OneRepair.{repairs_once}
use Rattle.mf_reclaim.specs.declared.outcome.ReclaimOutcome.{ReclaimOutcome}
use Rattle.mf_reclaim.specs.Reclaim.{Reclaims}
use Rattle.mf_reclaim.proofs.Once.{reclaims_once}
use Rattle.mf_vault.specs.Facts.{stages}
use Rattle.mf_read.specs.declared.outcome.ReadOutcome.{ReadOutcome}
use Rattle.mf_read.specs.declared.outcome.ReadOutcome.TheVariants as read
use Rattle.mf_read.specs.Laws.{IsSame}
use Rattle.mf_read.proofs.OneRead.{one_result}
use Rattle.mf_client.specs.declared.done.Done.{Done}
use Rattle.mf_client.specs.declared.done.Outcome.{Outcome}
use Rattle.mf_client.specs.declared.done.Outcome.TheVariants as outcome
use Rattle.mf_client.specs.declared.done.Part.{Part}
use Rattle.mf_client.specs.declared.done.Place.{Place}
use Rattle.mf_client.specs.Lacks.{change_lacks, read_lacks, repair_lacks, reclaim_lacks, outcome_lacks}
use Rattle.mf_client.specs.Acts.{IsCreated, IsRefused, IsReadOut, IsRepaired, IsConverted, IsReclaimed, IsRemoved}
use Rattle.mf_client.specs.Acts.{IsHeld, IsReleased, Pins, ActsOn}
use Rattle.mf_client.specs.OnFile.{OnFile}
use Rattle.mf_client.specs.Acts.{Acts, loses, LosesIn, LosesAll, IsLost, lists_on, away_of, cut_all}
use Rattle.mf_client.specs.Acts.{Comes, ActsBy}
use Rattle.mf_client.specs.Laws.{IsWhole, HadMemory, RunsOnce}
use Rattle.mf_client.specs.Runs.{IsDone, RunsFrom, io_gained}
use Rattle.mf_client.proofs.Went.{whole_on, whole_all, refused_reads, comes_does}
use Rattle.mf_client.proofs.OnceSwept.{true_false, had_change, some_is, at_whole, swept_once, swept_whole}

-- two results are the same
abbrev Same : Outcome → Outcome → Actor → Actor → Type 0
Same o p b c = (o ≡ p) × (b ≡ c)

-- the same calls lead to the same actor
same : {cs ds : List Call} {a b c : Actor} → cs ≡ ds → Does cs a b → Does ds a c → b ≡ c
same {a = a} e x y = x.becomes ∙ (ap (λ l. did_all l a) e ∙ sym y.becomes)

had_read : (x : ReadOutcome) → read_lacks x ≡ false → x ≢ read.Memory
had_read x had e = true_false (sym (ap read_lacks e) ∙ had)

-- ---- create

changed_once : (x : Change) (p : Outcome) (a b c : Actor) → IsWhole a → Creates x a b → IsCreated p a c
    → change_lacks x ≡ false → outcome_lacks p ≡ false → Same (outcome.Change x) p b c
changed_once x (outcome.Change y) a b c (w, e) m n had also =
    let r = creates_once a b c w x y e m n (had_change x had) (had_change y also) in
    ((ap (λ z. outcome.Change z) r.0), r.1)
changed_once x outcome.Memory a b c w m n had also = absurd (true_false also)
changed_once x other a b c w m n had also = absurd n

created_once : (o p : Outcome) (a b c : Actor) → IsWhole a → IsCreated o a b → IsCreated p a c
    → outcome_lacks o ≡ false → outcome_lacks p ≡ false → Same o p b c
created_once (outcome.Change x) p a b c w m n had also = changed_once x p a b c w m n had also
created_once outcome.Memory p a b c w m n had also = absurd (true_false had)
created_once other p a b c w m n had also = absurd m

-- ---- repair, convert and reclaim

repaired_by : (x : RepairOutcome) (p : Outcome) (a b c : Actor) → IsWhole a → Repairs x a b → IsRepaired p a c
    → repair_lacks x ≡ false → outcome_lacks p ≡ false → Same (outcome.Repair x) p b c
repaired_by x (outcome.Repair y) a b c (w, e) m n had also =
    let r = repairs_once a b c w x y e m n (λ z. true_false (sym (ap repair_lacks z) ∙ had))
    (λ z. true_false (sym (ap repair_lacks z) ∙ also)) in
    ((ap (λ z. outcome.Repair z) r.0), r.1)
repaired_by x other a b c w m n had also = absurd n

repaired_once : (o p : Outcome) (a b c : Actor) → IsWhole a → IsRepaired o a b → IsRepaired p a c
    → outcome_lacks o ≡ false → outcome_lacks p ≡ false → Same o p b c
repaired_once (outcome.Repair x) p a b c w m n had also = repaired_by x p a b c w m n had also
repaired_once other p a b c w m n had also = absurd m

converted_by : (stop : Option ℕ) (x : Change) (p : Outcome) (a b c : Actor) → IsWhole a
    → Converts (stages a.facts - 1) stop x a b → IsConverted stop p a c
    → change_lacks x ≡ false → outcome_lacks p ≡ false → Same (outcome.Change x) p b c
converted_by stop x (outcome.Change y) a b c (w, e) m n had also =
    let r = converts_once a b c w (stages a.facts - 1) stop x y e m n (had_change x had) (had_change y also) in
    ((ap (λ z. outcome.Change z) r.0), r.1)
converted_by stop x other a b c w m n had also = absurd n

converted_once : (stop : Option ℕ) (o p : Outcome) (a b c : Actor) → IsWhole a → IsConverted stop o a b
    → IsConverted stop p a c → outcome_lacks o ≡ false → outcome_lacks p ≡ false → Same o p b c
converted_once stop (outcome.Change x) p a b c w m n had also = converted_by stop x p a b c w m n had also
converted_once stop other p a b c w m n had also = absurd m

reclaimed_by : (x : ReclaimOutcome) (p : Outcome) (a b c : Actor) → IsWhole a → Reclaims x a b → IsReclaimed p a c
    → reclaim_lacks x ≡ false → outcome_lacks p ≡ false → Same (outcome.Reclaim x) p b c
reclaimed_by x (outcome.Reclaim y) a b c (w, e) m n had also =
    let r = reclaims_once a b c w x y e m n (λ z. true_false (sym (ap reclaim_lacks z) ∙ had))
    (λ z. true_false (sym (ap reclaim_lacks z) ∙ also)) in
    ((ap (λ z. outcome.Reclaim z) r.0), r.1)
reclaimed_by x other a b c w m n had also = absurd n

reclaimed_once : (o p : Outcome) (a b c : Actor) → IsWhole a → IsReclaimed o a b → IsReclaimed p a c
    → outcome_lacks o ≡ false → outcome_lacks p ≡ false → Same o p b c
reclaimed_once (outcome.Reclaim x) p a b c w m n had also = reclaimed_by x p a b c w m n had also
reclaimed_once other p a b c w m n had also = absurd m

-- ---- remove

removed_by : (x : Change) (p : Outcome) (a b c : Actor) → IsWhole a → Removes x a b → IsRemoved p a c
    → Same (outcome.Change x) p b c
removed_by x (outcome.Change y) a b c (w, e) m n =
    let r = removes_once a b c w x y e m n in ((ap (λ z. outcome.Change z) r.0), r.1)
removed_by x other a b c w m n = absurd n

removed_once : (o p : Outcome) (a b c : Actor) → IsWhole a → IsRemoved o a b → IsRemoved p a c → Same o p b c
removed_once (outcome.Change x) p a b c w m n = removed_by x p a b c w m n
removed_once other p a b c w m n = absurd m

-- ---- read

-- outcomes without bytes that are the same are equal
refused_same : (q r : ReadOutcome) (a b : Actor) → IsRefused q a b → IsSame q r → r ≡ q
refused_same (read.Bytes g bytes from) r a b x e = absurd x
refused_same read.Absent r a b x e = e
refused_same read.Removed r a b x e = e
refused_same (read.DataLost g j names) r a b x e = e
refused_same (read.Unreachable g j name server) r a b x e = e
refused_same read.Memory r a b x e = e

bytes_refused : (g from : ℕ) (bytes : Vec ℕ Global) (r : ReadOutcome) (a c : Actor) → IsRefused r a c
    → r ≡ read.Bytes g bytes from → ⊥
bytes_refused g from bytes r a c x e = let y = subst (λ z. IsRefused z a c) e x in y

-- the numbers and the digest of bytes
same_bytes : (g k from h l till : ℕ) (bytes others more : Vec ℕ Global) (dg dh : List ℕ)
    → read.Bytes h others till ≡ read.Bytes g more from → more.items ≡ bytes.items
    → k ≡ length bytes.items → dg ≡ sha256 bytes.items → l ≡ length others.items → dh ≡ sha256 others.items
    → outcome.Bytes g k from dg ≡ outcome.Bytes h l till dh
same_bytes g k from h l till bytes others more dg dh e items long is longs also =
    let z : read.Bytes h others till ≡ read.Bytes g more from = e in
    let a : h ≡ g = cc in
    let b : others ≡ more = cc in
    let c : till ≡ from = cc in
    let s = items_of b in
    let n = long ∙ ap length s ∙ sym longs in
    let d = is ∙ ap sha256 s ∙ sym also in
    λ i. outcome.Bytes (sym a i) (n i) (sym c i) (d i)
  where
    items_of : others ≡ more → bytes.items ≡ others.items
    items_of b = sym items ∙ sym (ap (λ (v : Vec ℕ Global). v.items) b)

bytes_once : (g k from : ℕ) (dg : List ℕ) (p : Outcome) (a b c : Actor) → IsWhole a
    → IsReadOut (outcome.Bytes g k from dg) a b → IsReadOut p a c → outcome_lacks p ≡ false
    → Same (outcome.Bytes g k from dg) p b c
bytes_once g k from dg (outcome.Bytes h l till dh) a b c (w, e) (bytes, x, long, is) (others, y, longs, also) had =
    let r = one_result a b c w (read.Bytes g bytes from) (read.Bytes h others till) e x y (λ z. cc) (λ z. cc) in
    let s = r.0 in
    (same_bytes g k from h l till bytes others s.0 dg dh s.1 s.2 long is longs also, r.1)
bytes_once g k from dg (outcome.Refused r) a b c (w, e) (bytes, x, long, is) y had =
    let s = one_result a b c w (read.Bytes g bytes from) r e x (refused_reads r a c y) (λ z. cc) (had_read r had) in
    absurd (bytes_refused g from s.0.0 r a c y s.0.1)
bytes_once g k from dg other a b c w x y had = absurd y

refused_once : (q : ReadOutcome) (p : Outcome) (a b c : Actor) → IsWhole a → IsRefused q a b → IsReadOut p a c
    → read_lacks q ≡ false → outcome_lacks p ≡ false → Same (outcome.Refused q) p b c
refused_once q (outcome.Bytes h l till dh) a b c (w, e) x (others, y, longs, also) had also_had =
    let s = one_result a b c w q (read.Bytes h others till) e (refused_reads q a b x) y (had_read q had) (λ z. cc) in
    absurd (bytes_refused h till others q a b x (sym (refused_same q (read.Bytes h others till) a b x s.0)))
refused_once q (outcome.Refused r) a b c (w, e) x y had also =
    let s = one_result a b c w q r e (refused_reads q a b x) (refused_reads r a c y) (had_read q had) (had_read r
    also) in
    ((ap (λ z. outcome.Refused z) (sym (refused_same q r a b x s.0))), s.1)
refused_once q other a b c w x y had also = absurd y

read_once : (o p : Outcome) (a b c : Actor) → IsWhole a → IsReadOut o a b → IsReadOut p a c → outcome_lacks o ≡ false
    → outcome_lacks p ≡ false → Same o p b c
read_once (outcome.Bytes g k from dg) p a b c w x y had also = bytes_once g k from dg p a b c w x y also
read_once (outcome.Refused q) p a b c w x y had also = refused_once q p a b c w x y had also
read_once other p a b c w x y had also = absurd x

-- ---- hold and release

-- the first call
first : {d : Call} {cs : List Call} {a b : Actor} → Does (d ∷ cs) a b → Goes d a (did d a)
first d = record { becomes = refl; fair = d.fair.0; told = d.told.0 }

rest : {d : Call} {cs : List Call} {a b : Actor} → Does (d ∷ cs) a b → Does cs (did d a) b
rest d = record { becomes = d.becomes; fair = d.fair.1; told = d.told.1 }

pins_once : (p q : Pinned) (a b c : Actor) → IsWhole a → Pins p a b → Pins q a c → (p ≡ q) × (b ≡ c)
pins_once p q a b c (w, e) (free, (gs, x)) (also, (hs, y)) =
    let k = one_answer.pin a _ _ w Hold gs hs p q e (first x) (first y) in
    (k.1, same (λ j. pin Hold (k.0 j) (k.1 j) ∷ []) x y)

-- what a hold tells, as what its pin found, or that none was made
abbrev held_of : Pinned → Outcome
held_of (pinned.At g) = outcome.Held g
held_of pinned.Absent = outcome.HoldAbsent
held_of pinned.Removed = outcome.HoldRemoved

pinned_once : (p : Pinned) (o : Outcome) (a b c : Actor) → IsWhole a → Pins p a b → IsHeld o a c
    → Same (held_of p) o b c
pinned_once p (outcome.Held g) a b c w x y =
    let k = pins_once p (pinned.At g) a b c w x y in (ap held_of k.0, k.1)
pinned_once p outcome.HoldAbsent a b c w x y =
    let k = pins_once p pinned.Absent a b c w x y in (ap held_of k.0, k.1)
pinned_once p outcome.HoldRemoved a b c w x y =
    let k = pins_once p pinned.Removed a b c w x y in (ap held_of k.0, k.1)
pinned_once p (outcome.AlreadyHeld g) a b c w x y =
    absurd (let free = x.0 in let held = y.0 in omega arith)
pinned_once p other a b c w x y = absurd y

already_once : (g : ℕ) (o : Outcome) (a b c : Actor) → a.view.hold ≡ g + 1 → b ≡ a → IsHeld o a c
    → Same (outcome.AlreadyHeld g) o b c
already_once g (outcome.AlreadyHeld h) a b c held is y =
    let other = y.0 in
    let e : g ≡ h = omega arith in
    (ap (λ n. outcome.AlreadyHeld n) e, is ∙ sym y.1)
already_once g (outcome.Held h) a b c held is y = absurd (let free = y.0 in omega arith)
already_once g outcome.HoldAbsent a b c held is y = absurd (let free = y.0 in omega arith)
already_once g outcome.HoldRemoved a b c held is y = absurd (let free = y.0 in omega arith)
already_once g other a b c held is y = absurd y

held_once : (o p : Outcome) (a b c : Actor) → IsWhole a → IsHeld o a b → IsHeld p a c → Same o p b c
held_once (outcome.Held g) p a b c w x y = pinned_once (pinned.At g) p a b c w x y
held_once outcome.HoldAbsent p a b c w x y = pinned_once pinned.Absent p a b c w x y
held_once outcome.HoldRemoved p a b c w x y = pinned_once pinned.Removed p a b c w x y
held_once (outcome.AlreadyHeld g) p a b c w x y = already_once g p a b c x.0 x.1 y
held_once other p a b c w x y = absurd x

released_by : (g : ℕ) (p : Outcome) (a b c : Actor) → a.view.hold ≡ g + 1 → Does (unpin Hold ∷ []) a b
    → IsReleased p a c → Same (outcome.Released g) p b c
released_by g (outcome.Released h) a b c held x y =
    let other = y.0 in
    let e : g ≡ h = omega arith in (ap (λ n. outcome.Released n) e, same refl x y.1)
released_by g outcome.NotHeld a b c held x y = absurd (let free = y.0 in omega arith)
released_by g other a b c held x y = absurd y

free_by : (p : Outcome) (a b c : Actor) → a.view.hold ≡ 0 → b ≡ a → IsReleased p a c → Same outcome.NotHeld p b c
free_by (outcome.Released h) a b c free is y = absurd (let held = y.0 in omega arith)
free_by outcome.NotHeld a b c free is y = (refl, is ∙ sym y.1)
free_by other a b c free is y = absurd y

released_once : (o p : Outcome) (a b c : Actor) → IsReleased o a b → IsReleased p a c → Same o p b c
released_once (outcome.Released g) p a b c x y = released_by g p a b c x.0 x.1 y
released_once outcome.NotHeld p a b c x y = free_by p a b c x.0 x.1 y
released_once other p a b c x y = absurd x

-- ---- lose

-- what follows a call that two lists share
rest_of : {d e : Call} {ds : List Call} {a b : Actor} → d ≡ e → Does (e ∷ ds) a b → Does ds (did d a) b
rest_of {ds = ds} {a = a} {b = b} e x = subst (λ k. Does ds (did k a) b) (sym e) (rest x)

answers_once : (line : ℕ) (xs : List Name) (ss ts : List Bool) {a b c : Actor} (w : World) → length ss ≡ length xs
    → length ts ≡ length xs → a.whole ≡ Some w → Does (loses line xs ss) a b → Does (loses line xs ts) a c → ss ≡ ts
answers_once line [] [] [] w m n e x y = refl
answers_once line [] [] (t ∷ ts) w m n e x y = absurd (omega arith)
answers_once line [] (s ∷ ss) ts w m n e x y = absurd (omega arith)
answers_once line (z ∷ xs) [] ts w m n e x y = absurd (omega arith)
answers_once line (z ∷ xs) (s ∷ ss) [] w m n e x y = absurd (omega arith)
answers_once line (z ∷ xs) (s ∷ ss) (t ∷ ts) {a = a} w m n e x y =
    let answer = one_answer.lose a _ _ w z line s t e (first x) (first y) in
    let others = answers_once line xs ss ts _ (omega arith) (omega arith) (ap (onward _) e) (rest x)
    (rest_of (ap (lose z line) answer) y) in
    (λ j. answer j ∷ others j)

lost_in_once : (line : ℕ) (names : List Name) (n m : ℕ) (a b c : Actor) → IsWhole a → LosesIn line names n a b
    → LosesIn line names m a c → (n ≡ m) × (b ≡ c)
lost_in_once line names n m a b c (w, e) x y =
    let s = answers_once line names x.answers y.answers w x.long y.long e x.does y.does in (
      x.count ∙ ap (λ l. length (filter (λ (there : Bool). there) l)) s ∙ sym y.count,
      same (ap (loses line names) s) x.does y.does,
    )

lost_all_once : (line : ℕ) (lists : List (List Name)) (n m : ℕ) (before after others : List Actor)
    → All IsWhole before → LosesAll line lists n before after → LosesAll line lists m before others
    → (n ≡ m) × (after ≡ others)
lost_all_once line [] n m [] [] [] w x y = (x ∙ sym y, refl)
lost_all_once line [] n m [] [] (c ∷ others) w x y = absurd y
lost_all_once line [] n m [] (b ∷ after) others w x y = absurd x
lost_all_once line [] n m (a ∷ before) after others w x y = absurd x
lost_all_once line (names ∷ lists) n m [] after others w x y = absurd x
lost_all_once line (names ∷ lists) n m (a ∷ before) [] others w x y = absurd x
lost_all_once line (names ∷ lists) n m (a ∷ before) (b ∷ after) [] w x y = absurd y
lost_all_once line (names ∷ lists) n m (a ∷ before) (b ∷ after) (c ∷ others) w (k, r, e, x, xs) (l, s, f, y, ys) =
    let one = lost_in_once line names k l a b c (All-head IsWhole a before w) x y in
    let all = lost_all_once line lists r s before after others (All-tail IsWhole a before w) xs ys in
    let i = one.0 in
    let j = all.0 in
    ((omega arith), (λ t. one.1 t ∷ all.1 t))

lost_by : (server line n : ℕ) (p : Outcome) (before after others : List Actor) → All IsWhole before
    → LosesAll line (lists_on server before) n before after → IsLost server line p before others
    → outcome_lacks p ≡ false → (outcome.Lost n ≡ p) × (after ≡ others)
lost_by server line n (outcome.Lost m) before after others w x y had =
    let r = lost_all_once line (lists_on server before) n m before after others w x y in
    (ap (λ k. outcome.Lost k) r.0, r.1)
lost_by server line n outcome.Memory before after others w x y had = absurd (true_false had)
lost_by server line n other before after others w x y had = absurd y

lost_once : (server line : ℕ) (o p : Outcome) (before after others : List Actor) → All IsWhole before
    → IsLost server line o before after → IsLost server line p before others → outcome_lacks o ≡ false
    → outcome_lacks p ≡ false → (o ≡ p) × (after ≡ others)
lost_once server line (outcome.Lost n) p before after others w x y had also =
    lost_by server line n p before after others w x y also
lost_once server line outcome.Memory p before after others w x y had also = absurd (true_false had)
lost_once server line other p before after others w x y had also = absurd x

-- ---- any command

on_once : (n : ℕ) (R S : Actor → Actor → Type 0) (o p : Outcome) (ps qs : List Part) (before after others : List Actor)
    → ((a b c : Actor) → IsWhole a → R a b → S a c → Same o p b c)
    → All IsWhole before → ActsOn n R ps before after → ActsOn n S qs before others
    → (o ≡ p) × (ps ≡ qs) × (after ≡ others)
on_once n R S o p ps qs before after others once w (none, x) (also, y) =
    let e = some_is x.old y.old (sym x.was ∙ y.was) in
    let r = once y.old x.new y.new (at_whole before n y.old w y.was) (subst (λ z. R z x.new) e x.goes) y.goes in
    (r.0, none ∙ sym also, x.is ∙ ap (slice_set before n) r.1 ∙ sym y.is)

acts_once : (policies : List (Option (List ℕ))) (line : ℕ) (x : Act) (o p : Outcome) (ps qs : List Part)
    (before after others : List Actor) → All IsWhole before → Acts policies line x o ps before after
    → Acts policies line x p qs before others → outcome_lacks o ≡ false
    → list_any (λ (part : Part). change_lacks part.change) ps ≡ false → outcome_lacks p ≡ false
    → list_any (λ (part : Part). change_lacks part.change) qs ≡ false → (o ≡ p) × (ps ≡ qs) × (after ≡ others)
acts_once policies line (act.Create file) o p ps qs before after others w x y had parts also both =
    on_once file (IsCreated o) (IsCreated p) o p ps qs before after others
    (λ a b c i m n. created_once o p a b c i m n had also) w x y
acts_once policies line (act.Read file away) o p ps qs before after others w x y had parts also both =
    on_once file (IsReadOut o) (IsReadOut p) o p ps qs before after others
    (λ a b c i m n. read_once o p a b c i m n had also) w x y
acts_once policies line (act.Repair file away) o p ps qs before after others w x y had parts also both =
    on_once file (IsRepaired o) (IsRepaired p) o p ps qs before after others
    (λ a b c i m n. repaired_once o p a b c i m n had also) w x y
acts_once policies line (act.Convert file away stop) o p ps qs before after others w x y had parts also both =
    on_once file (IsConverted stop o) (IsConverted stop p) o p ps qs before after others
    (λ a b c i m n. converted_once stop o p a b c i m n had also) w x y
acts_once policies line (act.Reclaim file) o p ps qs before after others w x y had parts also both =
    on_once file (IsReclaimed o) (IsReclaimed p) o p ps qs before after others
    (λ a b c i m n. reclaimed_once o p a b c i m n had also) w x y
acts_once policies line (act.Remove file) o p ps qs before after others w x y had parts also both =
    on_once file (IsRemoved o) (IsRemoved p) o p ps qs before after others
    (λ a b c i m n. removed_once o p a b c i m n) w x y
acts_once policies line (act.Hold file) o p ps qs before after others w x y had parts also both =
    on_once file (IsHeld o) (IsHeld p) o p ps qs before after others
    (λ a b c i m n. held_once o p a b c i m n) w x y
acts_once policies line (act.Release file) o p ps qs before after others w x y had parts also both =
    on_once file (IsReleased o) (IsReleased p) o p ps qs before after others
    (λ a b c i m n. released_once o p a b c m n) w x y
acts_once policies line (act.Lose server) o p ps qs before after others w x y had parts also both =
    let r = lost_once server line o p before after others w x.1 y.1 had also in
    (r.0, x.0 ∙ sym y.0, r.1)
acts_once policies line act.Sweep o p ps qs before after others w x y had parts also both =
    swept_once policies o p ps qs before after others w x y had parts also both

-- ---- the whole states after a command

cut_whole : (away : Servers) (xs : List Actor) → All IsWhole xs → All IsWhole (cut_all away xs)
cut_whole away [] w = All-nil IsWhole
cut_whole away (x ∷ xs) w = All-cons IsWhole (did (cut_off away) x) (cut_all away xs)
    (whole_all (cut_off away ∷ []) x (All-head IsWhole x xs w)) (cut_whole away xs (All-tail IsWhole x xs w))

on_whole : (x : Act) (o : Outcome) (file : ℕ) (before after : List Actor) → All IsWhole before
    → OnFile file (Comes x o) before after → All IsWhole after
on_whole x o file before after w on =
    subst (All IsWhole) (sym on.is) (All-set IsWhole before file on.new
    (whole_on (comes_does x o on.goes).1 (at_whole before file on.old w on.was)) w)

lost_whole : (line : ℕ) (lists : List (List Name)) (n : ℕ) (before after : List Actor) → All IsWhole before
    → LosesAll line lists n before after → All IsWhole after
lost_whole line [] n [] [] w x = w
lost_whole line [] n [] (b ∷ after) w x = absurd x
lost_whole line [] n (a ∷ before) after w x = absurd x
lost_whole line (names ∷ lists) n [] after w x = absurd x
lost_whole line (names ∷ lists) n (a ∷ before) [] w x = absurd x
lost_whole line (names ∷ lists) n (a ∷ before) (b ∷ after) w (k, r, e, x, xs) =
    All-cons IsWhole b after (whole_on x.does (All-head IsWhole a before w))
    (lost_whole line lists r before after (All-tail IsWhole a before w) xs)

lose_whole : (server line : ℕ) (o : Outcome) (before after : List Actor) → All IsWhole before
    → IsLost server line o before after → All IsWhole after
lose_whole server line (outcome.Lost n) before after w x =
    lost_whole line (lists_on server before) n before after w x
lose_whole server line outcome.Memory before after w x = subst (All IsWhole) (sym x) w
lose_whole server line other before after w x = absurd x

whole_by : (f : Option ℕ) (policies : List (Option (List ℕ))) (line : ℕ) (x : Act) (o : Outcome) (parts : List Part)
    (before after : List Actor) → All IsWhole before → ActsBy f policies line x o parts before after
    → All IsWhole after
whole_by (Some file) policies line x o parts before after w h = on_whole x o file before after w h.1
whole_by None policies line (act.Lose server) o parts before after w h = lose_whole server line o before after w h.1
whole_by None policies line act.Sweep o parts before after w h = swept_whole policies o parts before after w h
whole_by None policies line other o parts before after w h = absurd h

acts_whole : (policies : List (Option (List ℕ))) (line : ℕ) (x : Act) (o : Outcome) (parts : List Part)
    (before after : List Actor) → All IsWhole before
    → Acts policies line x o parts before after → All IsWhole after
acts_whole policies line x o parts before after w h = whole_by (file_in x) policies line x o parts before after w h

-- ---- a client's commands

done_once : (s : Script) (at : Place) (c : Command) (d e : Done) (before after others : List Actor)
    → All IsWhole before → IsDone s at c d before after → IsDone s at c e before others → HadMemory d → HadMemory e
    → (d ≡ e) × (after ≡ others)
done_once s at c d e before after others w x y had also =
    let mine = or_parts (outcome_lacks d.outcome) _ had in
    let others_had = or_parts (outcome_lacks e.outcome) _ also in
    let r = acts_once (file_policies s) c.line c.act d.outcome e.outcome d.parts e.parts
    (cut_all (away_of c.act) before) after others (cut_whole (away_of c.act) before w) x.acts y.acts mine.0 mine.1 others_had.0 others_had.1 in
    let place = x.place ∙ sym y.place in
    let same_act = x.act ∙ sym y.act in
    let io = x.io ∙ ap (io_gained before) r.2 ∙ sym y.io in
    ((λ i. record { place = place i; act = same_act i; outcome = r.0 i; parts = r.1 i; io = io i }), r.2)

runs_once : (s : Script) (phase client n : ℕ) (commands : List Command) (before after others : List Actor)
    (ds es : List Done) → All IsWhole before → RunsFrom s phase client n commands before ds after
    → RunsFrom s phase client n commands before es others → All HadMemory ds → All HadMemory es
    → (ds ≡ es) × (after ≡ others)
runs_once s phase client n [] before after others ds es w x y had also =
    (x.0 ∙ sym y.0, x.1 ∙ sym y.1)
runs_once s phase client n (c ∷ commands) before after others [] es w x y had also = absurd x
runs_once s phase client n (c ∷ commands) before after others (d ∷ ds) [] w x y had also = absurd y
runs_once s phase client n (c ∷ commands) before after others (d ∷ ds) (e ∷ es) w (mid, x, xs) (also_mid, y, ys) had
    also =
    let at : Place = record { phase = phase; client = client; command = n } in
    let one = done_once s at c d e before mid also_mid w x y (All-head HadMemory d ds had) (All-head HadMemory e es
    also) in
    let all = runs_once s phase client (n + 1) commands mid after others ds es
    (acts_whole (file_policies s) c.line c.act d.outcome d.parts (cut_all (away_of c.act) before) mid
    (cut_whole (away_of c.act) before w) x.acts) xs
    (subst (λ (l : List Actor). RunsFrom s phase client (n + 1) commands l es others) (sym one.1) ys)
    (All-tail HadMemory d ds had) (All-tail HadMemory e es also) in
    ((λ i. one.0 i ∷ all.0 i), all.1)

pub run_once : RunsOnce
run_once s phase client before after others ds es w x y had also =
    runs_once s phase client 1 _ before after others ds es w x y had also
