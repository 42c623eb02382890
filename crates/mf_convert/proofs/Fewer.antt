-- A conversion has few entries.
use Rattle.std.proofs.Common.{◌≡◌, ℕ, zero, suc, ◌+◌, ◌-◌, ◌*◌, ◌<◌, ◌≤◌, ◌^◌, List, [], ◌∷◌, ◌++◌, length}
use Rattle.std.proofs.Common.{length-append, min, refl, ap}
use Rattle.std.proofs.Common.{arith, Option, ⊎_elim}
use Rattle.std.proofs.Math.Nat.{div-le_self}
use Rattle.std.proofs.lemmas.Bool.{cases_lt}
use Rattle.std.proofs.lemmas.List.FromFn.{length-map-range_with_len}
use Rattle.mf_machine.specs.declared.answer.Slot.TheVariants.{Work}
use Rattle.mf_machine.specs.declared.answer.State.{State}
use Rattle.mf_machine.specs.declared.answer.State.TheVariants.{Unborn, Here, Lost, Away}
use Rattle.mf_shape.specs.declared.Stage.{Stage}
use Rattle.mf_shape.specs.Stages.{width_at}
use Rattle.mf_shape.specs.Chain.{IsChain}
use Rattle.mf_code.specs.Stripes.{stripe_count}
use Rattle.mf_places.specs.declared.Name.{Name}
use Rattle.mf_places.specs.declared.Name.TheVariants as name
use Rattle.mf_places.specs.Facts.{BookFacts, IsBook}
use Rattle.mf_vault.specs.Facts.{Facts}
use Rattle.mf_vault.specs.Actor.{Actor, Call, entry_of}
use Rattle.mf_vault.specs.Actor as call
use Rattle.mf_vault.specs.Licence.{entries_of}
use Rattle.mf_convert.specs.declared.change.Change.{Change}
use Rattle.mf_convert.specs.Create.{probes}
use Rattle.mf_convert.specs.Convert as convert
use Rattle.mf_convert.specs.Convert.{IsCut, IsConversion, IsConvert, Converts, gets, sources, make, makes, whole}
use Rattle.mf_convert.specs.Convert.{names_of, factor_at}
use Rattle.mf_convert.proofs.Courses.{get_few}
use Rattle.mf_convert.proofs.Few.{names_few}

entry_few : (c : Call) → length (entry_of c) ≤ 1
entry_few (call.cut_off s) = omega arith
entry_few (call.pin slot gs p) = omega arith
entry_few (call.unpin slot) = omega arith
entry_few (call.begin b) = omega arith
entry_few call.end = omega arith
entry_few (call.publish n) = omega arith
entry_few (call.probe x s) = omega arith
entry_few (call.put x) = omega arith
entry_few (call.restore x) = omega arith
entry_few (call.close g c) = omega arith
entry_few (call.discard x b) = omega arith
entry_few (call.get x o) = get_few x o
entry_few (call.lose x l b) = omega arith

pub calls_few : (cs : List Call) → length (entries_of cs) ≤ length cs
calls_few [] = omega arith
calls_few (c ∷ cs) =
    let a = entry_few c in let b = calls_few cs in let e = length-append (entry_of c) (entries_of cs) in omega arith

gets_long : (f : Facts) (xs : List Name) → length (gets f xs) ≡ length xs
gets_long f [] = refl
gets_long f (x ∷ xs) = ap suc (gets_long f xs)

pub probes_few : (xs : List Name) (ss : List State) → length (probes xs ss) ≤ length xs
probes_few [] ss = omega arith
probes_few (x ∷ xs) [] = omega arith
probes_few (x ∷ xs) (s ∷ ss) = let r = probes_few xs ss in omega arith

beyond : (s : List Stage) (t : ℕ) → length s ≤ t → width_at s t ≡ 0
beyond [] t low = refl
beyond (x ∷ s) zero low = absurd (omega arith)
beyond (x ∷ s) (suc t) low = beyond s t (omega arith)

width_low : {s : List Stage} → IsChain s → (t : ℕ) → width_at s t ≤ 64
width_low {s = s} chain t = ⊎_elim
    (λ in_range. (chain.widths t in_range).1)
    (λ past. let e = beyond s t past in omega arith)
    (cases_lt t (length s))

sources_few : (b : BookFacts) (g j p : ℕ) → IsBook b → length (sources b g j p) ≤ 64
sources_few b g j p book =
    let n = factor_at b g in
    let count = stripe_count b.chunk b.bytes (width_at b.shape.stages g) in
    let long = length-map-range_with_len (λ i. name.Parity (width_at b.shape.stages g) i p) (j * n)
    (min ((j + 1) * n) count - j * n) in
    let wide = width_low book.shape.chain (g + 1) in
    let least = div-le_self (width_at b.shape.stages (g + 1)) (width_at b.shape.stages g) in
    omega arith

made_few : (f : Facts) (xs : List Name) (c : Call) → length xs ≤ 64 → length (gets f xs ++ c ∷ []) ≤ 65
made_few f xs c low = let a = length-append (gets f xs) (c ∷ []) in let b = gets_long f xs in omega arith

make_few : (f : Facts) (g : ℕ) (x : Name) (s : State) → IsBook f.book → length (make f g x s) ≤ 65
make_few f g (name.Data i) s book = omega arith
make_few f g (name.Copy c i) s book = omega arith
make_few f g (name.Parity w j p) Unborn book = made_few f (sources f.book g j p) (call.put (name.Parity w j p))
    (sources_few f.book g j p book)
make_few f g (name.Parity w j p) Here book = omega arith
make_few f g (name.Parity w j p) (Lost l) book = made_few f (sources f.book g j p) (call.restore (name.Parity w j p))
    (sources_few f.book g j p book)
make_few f g (name.Parity w j p) (Away y) book = omega arith

makes_few : (f : Facts) (g : ℕ) (xs : List Name) (ss : List State) → IsBook f.book
    → length (makes f g xs ss) ≤ length xs * 65
makes_few f g [] ss book = omega arith
makes_few f g (x ∷ xs) [] book = omega arith
makes_few f g (x ∷ xs) (s ∷ ss) book =
    let a = length-append (make f g x s) (makes f g xs ss) in
    let b = make_few f g x s book in
    let c = makes_few f g xs ss book in omega arith

pub whole_few : (f : Facts) (g : ℕ) (ss : List State) → IsBook f.book → length (whole f g ss) ≤ 1980000
whole_few f g ss book =
    let xs = names_of f (g + 1) in
    let a = length-append (probes xs ss) (makes f g xs ss) in
    let b = probes_few xs ss in
    let c = makes_few f g xs ss book in
    let n = names_few f.book (g + 1) book in omega arith

cut_few : {f : Facts} {g : ℕ} {due : List Call} {o : Change} {done : List Call} → IsCut f g due o done
    → length done ≤ length due
cut_few (convert.stopped c due made) = omega arith
cut_few (convert.away_probed x s due server) = omega arith
cut_few (convert.away_got x o due server) = omega arith
cut_few (convert.lost_probed x s due line h) = omega arith
cut_few (convert.lost_got x o due line) = omega arith
cut_few (convert.no_memory due) = omega arith
cut_few (convert.not_shared x o due) = omega arith
cut_few (convert.later c due o done k) = let r = cut_few k in omega arith

conversion_few : {f : Facts} {g : ℕ} {o : Change} {cs : List Call} → IsBook f.book → IsConversion f g o cs
    → length cs ≤ 1980001
conversion_few {f = f} {g = g} book (convert.converted states made on) =
    let a = length-append (whole f g states) (call.publish (g + 2) ∷ []) in
    let b = whole_few f g states book in omega arith
conversion_few {f = f} {g = g} book (convert.cut states o done on k) =
    let a = cut_few k in
    let b = whole_few f g states book in omega arith

convert_few : {f : Facts} {upto : ℕ} {o : Change} {cs : List Call} → IsBook f.book → IsConvert f upto o cs
    → length cs ≤ 1980005
convert_few book convert.busy = omega arith
convert_few book (convert.absent missed) = omega arith
convert_few book (convert.was_removed missed) = omega arith
convert_few book (convert.last missed g low) = omega arith
convert_few book (convert.converting missed g o done low k) =
    let a = conversion_few book k in
    let b = length-append done (call.unpin Work ∷ call.end ∷ []) in omega arith

pub entries_low : {upto : ℕ} {stop : Option ℕ} {o : Change} {a b : Actor} → IsBook a.facts.book
    → (r : Converts upto stop o a b)
    → length (entries_of r.calls) ≤ 1980005
entries_low book r = let a = convert_few book r.licence in let b = calls_few r.calls in omega arith

pub entries_few : {upto : ℕ} {stop : Option ℕ} {o : Change} {a b : Actor} → IsBook a.facts.book
    → (r : Converts upto stop o a b)
    → length (entries_of r.calls) < 2 ^ 24
entries_few book r = let a = entries_low book r in omega arith
