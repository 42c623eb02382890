-- A convert gets no data and no copy.
use Rattle.std.proofs.Common.{◌≡◌, ℕ, ◌+◌, true, false, List, [], ◌∷◌, ◌++◌, map, refl, ap, arith}
use Rattle.mf_machine.specs.declared.answer.Slot.TheVariants.{Work}
use Rattle.mf_machine.specs.declared.answer.State.{State}
use Rattle.mf_machine.specs.declared.answer.State.TheVariants.{Unborn, Here, Lost, Away}
use Rattle.mf_shape.specs.Stages.{width_at}
use Rattle.mf_code.specs.Stripes.{narrow_stripes}
use Rattle.mf_places.specs.declared.Name.{Name}
use Rattle.mf_places.specs.declared.Name.TheVariants as name
use Rattle.mf_vault.specs.declared.answers.Entry.{Entry}
use Rattle.mf_vault.specs.declared.io.Io.{Io}
use Rattle.mf_vault.specs.Counting.{io_of}
use Rattle.mf_vault.specs.declared.answers.Got.TheVariants as got
use Rattle.mf_vault.specs.Facts.{Facts, cell_of}
use Rattle.mf_vault.specs.Actor.{Actor, Call, entry_of}
use Rattle.mf_vault.specs.Actor as call
use Rattle.mf_vault.specs.Licence.{entries_of}
use Rattle.mf_vault.proofs.Counted.{io_append}
use Rattle.mf_vault.proofs.Doing.{entries_are}
use Rattle.mf_convert.specs.declared.change.Change.{Change}
use Rattle.mf_convert.specs.Create.{probes}
use Rattle.mf_convert.specs.Convert as convert
use Rattle.mf_convert.specs.Convert.{IsCut, IsConversion, IsConvert, Converts, gets, sources, make, makes, whole}
use Rattle.mf_convert.specs.Convert.{names_of, factor_at}
use Rattle.mf_convert.specs.Laws.{GetsNoData, AllGetNoData, AllTellNoData, ReadsNoData}

-- no data and no copy is got
pub record IsClean (entries : List Entry) : Type 0 where
  pub tell : AllTellNoData entries
  pub pieces : (io_of entries).pieces ≡ 0
  pub copies : (io_of entries).copies ≡ 0

clean : (entries : List Entry) → AllTellNoData entries → (io_of entries).pieces ≡ 0 → (io_of entries).copies ≡ 0
    → IsClean entries
clean entries t p c = record { tell = t; pieces = p; copies = c }

tell_then : (es fs : List Entry) → AllTellNoData es → AllTellNoData fs → AllTellNoData (es ++ fs)
tell_then [] fs x y = y
tell_then (e ∷ es) fs x y = (x.0, tell_then es fs x.1 y)

clean_then : (es fs : List Entry) → IsClean es → IsClean fs → IsClean (es ++ fs)
clean_then es fs x y =
    let e = io_append es fs in
    let p = ap (λ (i : Io). i.pieces) e in
    let c = ap (λ (i : Io). i.copies) e in
    let a = x.pieces in
    let b = y.pieces in
    let s = x.copies in
    let t = y.copies in
    clean (es ++ fs) (tell_then es fs x.tell y.tell) (omega arith) (omega arith)

-- the entry of a call that gets none tells of none
one_clean : (c : Call) → GetsNoData c → IsClean (entry_of c)
one_clean (call.get (name.Data i) o) h = absurd h
one_clean (call.get (name.Copy k i) o) h = absurd h
one_clean (call.get (name.Parity w j p) (got.Here c)) h =
    clean (entry_of (call.get (name.Parity w j p) (got.Here c))) (tt, tt) refl refl
one_clean (call.get (name.Parity w j p) (got.Lost l)) h =
    clean (entry_of (call.get (name.Parity w j p) (got.Lost l))) (tt, tt) refl refl
one_clean (call.get (name.Parity w j p) (got.Away s)) h =
    clean (entry_of (call.get (name.Parity w j p) (got.Away s))) (tt, tt) refl refl
one_clean (call.get (name.Parity w j p) got.Memory) h = clean [] tt refl refl
one_clean (call.cut_off s) h = clean [] tt refl refl
one_clean (call.pin slot gs p) h = clean [] tt refl refl
one_clean (call.unpin slot) h = clean [] tt refl refl
one_clean (call.begin b) h = clean [] tt refl refl
one_clean call.end h = clean [] tt refl refl
one_clean (call.publish next) h = clean [] tt refl refl
one_clean (call.probe x s) h = clean (entry_of (call.probe x s)) (tt, tt) refl refl
one_clean (call.put x) h = clean (entry_of (call.put x)) (tt, tt) refl refl
one_clean (call.restore x) h = clean (entry_of (call.restore x)) (tt, tt) refl refl
one_clean (call.close g c) h = clean (entry_of (call.close g c)) (tt, tt) refl refl
one_clean (call.discard x true) h = clean (entry_of (call.discard x true)) (tt, tt) refl refl
one_clean (call.discard x false) h = clean (entry_of (call.discard x false)) (tt, tt) refl refl
one_clean (call.lose x l b) h = clean (entry_of (call.lose x l b)) (tt, tt) refl refl

all_clean : (cs : List Call) → AllGetNoData cs → IsClean (entries_of cs)
all_clean [] h = clean [] tt refl refl
all_clean (c ∷ cs) h = clean_then (entry_of c) (entries_of cs) (one_clean c h.0) (all_clean cs h.1)

cleans_then : (cs ds : List Call) → AllGetNoData cs → AllGetNoData ds → AllGetNoData (cs ++ ds)
cleans_then [] ds h k = k
cleans_then (c ∷ cs) ds h k = (h.0, cleans_then cs ds h.1 k)

probes_clean : (xs : List Name) (ss : List State) → AllGetNoData (probes xs ss)
probes_clean [] ss = tt
probes_clean (x ∷ xs) [] = tt
probes_clean (x ∷ xs) (s ∷ ss) = (tt, probes_clean xs ss)

-- all that is got are parities
row_clean : (f : Facts) (w p : ℕ) (js : List ℕ) → AllGetNoData (gets f (map (λ i. name.Parity w i p) js))
row_clean f w p [] = tt
row_clean f w p (j ∷ js) = (
  tt,
  row_clean f w p js,
)

sources_clean : (f : Facts) (g j p : ℕ) → AllGetNoData (gets f (sources f.book g j p))
sources_clean f g j p = row_clean f (width_at f.book.shape.stages g) p
    (narrow_stripes f.book.chunk f.book.bytes (width_at f.book.shape.stages g) (factor_at f.book g) j)

make_clean : (f : Facts) (g : ℕ) (x : Name) (s : State) → AllGetNoData (make f g x s)
make_clean f g (name.Data i) s = tt
make_clean f g (name.Copy c i) s = tt
make_clean f g (name.Parity w j p) Unborn = cleans_then (gets f (sources f.book g j p))
    (call.put (name.Parity w j p) ∷ [])
    (sources_clean f g j p) (tt, tt)
make_clean f g (name.Parity w j p) Here = tt
make_clean f g (name.Parity w j p) (Lost l) = cleans_then (gets f (sources f.book g j p))
    (call.restore (name.Parity w j p) ∷ [])
    (sources_clean f g j p) (tt, tt)
make_clean f g (name.Parity w j p) (Away y) = tt

makes_clean : (f : Facts) (g : ℕ) (xs : List Name) (ss : List State) → AllGetNoData (makes f g xs ss)
makes_clean f g [] ss = tt
makes_clean f g (x ∷ xs) [] = tt
makes_clean f g (x ∷ xs) (s ∷ ss) = cleans_then (make f g x s) (makes f g xs ss) (make_clean f g x s)
    (makes_clean f g xs ss)

whole_clean : (f : Facts) (g : ℕ) (ss : List State) → AllGetNoData (whole f g ss)
whole_clean f g ss = cleans_then (probes (names_of f (g + 1)) ss) (makes f g (names_of f (g + 1)) ss)
    (probes_clean (names_of f (g + 1)) ss) (makes_clean f g (names_of f (g + 1)) ss)

cut_clean : {f : Facts} {g : ℕ} {due : List Call} {o : Change} {done : List Call} → IsCut f g due o done
    → AllGetNoData due → AllGetNoData done
cut_clean (convert.stopped c due made) h = tt
cut_clean (convert.away_probed x s due server) h = (tt, tt)
cut_clean (convert.away_got x o due server) h = (h.0, tt)
cut_clean (convert.lost_probed x s due line k) h = (tt, tt)
cut_clean (convert.lost_got x o due line) h = (h.0, tt)
cut_clean (convert.no_memory due) h = tt
cut_clean (convert.not_shared x o due) h = (h.0, tt)
cut_clean (convert.later c due o done k) h = (h.0, cut_clean k h.1)

conversion_clean : {f : Facts} {g : ℕ} {o : Change} {cs : List Call} → IsConversion f g o cs → AllGetNoData cs
conversion_clean {f = f} {g = g} (convert.converted states made on) =
    cleans_then (whole f g states) (call.publish (g + 2) ∷ []) (whole_clean f g states) (tt, tt)
conversion_clean {f = f} {g = g} (convert.cut states o done on k) = cut_clean k (whole_clean f g states)

convert_clean : {f : Facts} {upto : ℕ} {o : Change} {cs : List Call} → IsConvert f upto o cs → AllGetNoData cs
convert_clean convert.busy = (tt, tt)
convert_clean (convert.absent missed) = (tt, (tt, (tt, tt)))
convert_clean (convert.was_removed missed) = (tt, (tt, (tt, tt)))
convert_clean (convert.last missed g low) =
    (tt, (tt, (tt, (tt, tt))))
convert_clean (convert.converting missed g o done low k) = (
  tt,
  (
    tt,
    cleans_then done (call.unpin Work ∷ call.end ∷ []) (conversion_clean k)
        (tt, (tt, tt)),
  ),
)

pub reads_no_data : ReadsNoData
reads_no_data a b upto stop o x = let got = convert_clean x.licence in let c = all_clean x.calls got in
    (got, (entries_of x.calls, entries_are x.does, c.tell, c.pieces, c.copies))
