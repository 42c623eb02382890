-- Where the whole state is told, a convert has one result.
use Rattle.std.proofs.Common.{◌≡◌, ◌≢◌, ℕ, ◌+◌, ◌<◌, ◌≤◌, true, List, [], ◌∷◌, ◌++◌, length, refl, sym, ap, ◌∙◌}
use Rattle.std.proofs.Common.{subst, arith}
use Rattle.std.proofs.Common.{Option, Some, IfSome}
use Rattle.mf_machine.specs.declared.answer.Slot.TheVariants.{Work}
use Rattle.mf_machine.specs.Worlds.{World}
use Rattle.mf_vault.specs.declared.answers.Pinned.TheVariants.{At, Absent, Removed}
use Rattle.mf_vault.specs.Facts.{Facts}
use Rattle.mf_vault.specs.Actor.{Actor, Call, did, begin, end, pin, unpin}
use Rattle.mf_vault.specs.Licence.{Does, entries_of}
use Rattle.mf_convert.specs.declared.change.Change.{Change}
use Rattle.mf_convert.specs.declared.change.Change.TheVariants as change
use Rattle.mf_convert.specs.Convert as convert
use Rattle.mf_convert.specs.Convert.{IsConversion, IsConvert, IsCounted, Converts}
use Rattle.mf_convert.specs.Laws.{ConvertsOnce}
use Rattle.mf_convert.proofs.Once.{rest, rest_of, same, goes_on, begins, pins, at_absent, at_removed, removed_absent}
use Rattle.mf_convert.proofs.Once.{false_true, after_pin}
use Rattle.mf_convert.proofs.Converted.{no_publish}
use Rattle.mf_convert.proofs.OneEnd.{IsTimed, conversions_once, one_outcome}

-- where nothing was left of the calls but the end
abbrev ending : List Call
ending = unpin Work ∷ end ∷ []

timed_of : (stop : Option ℕ) (cs : List Call) (o : Change) → IsCounted stop (entries_of (cs ++ ending)) o
    → IsTimed stop 0 cs o
timed_of stop cs (change.Converted from to made) h = subst (λ es. IfSome stop (λ most. 0 + length es ≤ most))
    (no_publish cs) (fewer (length (entries_of (cs ++ ending))) h.1) where
      fewer : (n : ℕ) → IfSome stop (λ most. n ≤ most) → IfSome stop (λ most. 0 + n ≤ most)
      fewer n k = subst (λ m. IfSome stop (λ most. m ≤ most)) (omega arith) k
timed_of stop cs (change.Stopped from to made) h = h.1 ∙ ap Some (ap length (no_publish cs) ∙ omega arith)
timed_of stop cs o h = subst (λ es. IfSome stop (λ most. 0 + length es ≤ most)) (no_publish cs)
    (fewer (length (entries_of (cs ++ ending))) h) where
      fewer : (n : ℕ) → IfSome stop (λ most. n ≤ most) → IfSome stop (λ most. 0 + n ≤ most)
      fewer n k = subst (λ m. IfSome stop (λ most. m ≤ most)) (omega arith) k

-- two conversions behind two pins
turned : (f : Facts) (stop : Option ℕ) {o p : Change} {a b c : Actor} {w : World} (ms ns : List ℕ) (g h : ℕ)
    (cs ds : List Call) → a.whole ≡ Some w
    → o ≢ change.Memory → p ≢ change.Memory → IsConversion f g o cs → IsConversion f h p ds
    → IsCounted stop (entries_of (cs ++ ending)) o → IsCounted stop (entries_of (ds ++ ending)) p
    → Does (after_pin ms (At g) (cs ++ ending)) a b → Does (after_pin ns (At h) (ds ++ ending)) a c → (o ≡ p) × (b ≡ c)
turned f stop {o = o} {p = p} {a = a} {b = b} {c = c} ms ns g h cs ds alone u v k l i j x y =
    let both = pins alone x y in
    let number : g ≡ h = let e = both.1 in cc in
    let one = goes_on (begin true) a alone in
    let far = goes_on (pin Work ms (At g)) (did (begin true) a) one.1 in
    let z = conversions_once stop far.0 far.1 (ending, b, rest (rest x))
    (ending, c, rest_of (λ r. pin Work (both.0 r) (both.1 r)) (rest y))
    (timed_of stop cs o i) (timed_of stop ds p j) u v k (subst (λ n. IsConversion f n p ds) (sym number) l) in
    let calls : cs ++ ending ≡ ds ++ ending = ap (λ r. r ++ ending) z.calls in (
      one_outcome stop (entries_of (ds ++ ending)) z.alike (subst (λ r. IsCounted stop (entries_of r) o) calls i) j,
      same (λ r. after_pin (both.0 r) (both.1 r) (calls r)) x y,
    )

-- below `upto` and not
apart : {A : Type 0} (g h upto : ℕ) → g ≡ h → g < upto → upto ≤ h → A
apart g h upto e low high = absurd (omega arith)

converts_once_by : (f : Facts) (upto : ℕ)
    (stop : Option ℕ) {o p : Change} {cs ds : List Call} {a b c : Actor} {w : World} → IsConvert f upto o cs
    → IsConvert f upto p ds
    → a.whole ≡ Some w → IsCounted stop (entries_of cs) o → IsCounted stop (entries_of ds) p → Does cs a b → Does ds a c
    → o ≢ change.Memory → p ≢ change.Memory → (o ≡ p) × (b ≡ c)
converts_once_by f upto stop convert.busy convert.busy e i j x y u v = (refl, same refl x y)
converts_once_by f upto stop convert.busy (convert.absent hs) e i j x y u v = absurd (false_true (begins e x y))
converts_once_by f upto stop convert.busy (convert.was_removed hs) e i j x y u v = absurd (false_true (begins e x y))
converts_once_by f upto stop convert.busy (convert.last hs h l) e i j x y u v = absurd (false_true (begins e x y))
converts_once_by f upto stop convert.busy (convert.converting hs h p ds l z) e i j x y u v = absurd
    (false_true (begins e x y))
converts_once_by f upto stop (convert.absent gs) convert.busy e i j x y u v = absurd (false_true (sym (begins e x y)))
converts_once_by f upto stop (convert.absent gs) (convert.absent hs) e i j x y u v = let k = pins e x y in
    (refl, same (λ r. after_pin (k.0 r) Absent (end ∷ [])) x y)
converts_once_by f upto stop (convert.absent gs) (convert.was_removed hs) e i j x y u v = absurd
    (removed_absent (sym (pins e x y).1))
converts_once_by f upto stop (convert.absent gs) (convert.last hs h l) e i j x y u v = absurd
    (at_absent h (sym (pins e x y).1))
converts_once_by f upto stop (convert.absent gs) (convert.converting hs h p ds l z) e i j x y u v = absurd
    (at_absent h (sym (pins e x y).1))
converts_once_by f upto stop (convert.was_removed gs) convert.busy e i j x y u v = absurd
    (false_true (sym (begins e x y)))
converts_once_by f upto stop (convert.was_removed gs) (convert.absent hs) e i j x y u v = absurd
    (removed_absent (pins e x y).1)
converts_once_by f upto stop (convert.was_removed gs) (convert.was_removed hs) e i j x y u v = let k = pins e x y in
    (refl, same (λ r. after_pin (k.0 r) Removed (end ∷ [])) x y)
converts_once_by f upto stop (convert.was_removed gs) (convert.last hs h l) e i j x y u v = absurd
    (at_removed h (sym (pins e x y).1))
converts_once_by f upto stop (convert.was_removed gs) (convert.converting hs h p ds l z) e i j x y u v = absurd
    (at_removed h (sym (pins e x y).1))
converts_once_by f upto stop (convert.last gs g low) convert.busy e i j x y u v = absurd
    (false_true (sym (begins e x y)))
converts_once_by f upto stop (convert.last gs g low) (convert.absent hs) e i j x y u v = absurd
    (at_absent g (pins e x y).1)
converts_once_by f upto stop (convert.last gs g low) (convert.was_removed hs) e i j x y u v = absurd
    (at_removed g (pins e x y).1)
converts_once_by f upto stop (convert.last gs g low) (convert.last hs h l) e i j x y u v = let k = pins e x y in
    (ap change.Last (let z = k.1 in let n : g ≡ h = cc in n), same (λ r. after_pin (k.0 r) (k.1 r) ending) x y)
converts_once_by f upto stop (convert.last gs g low) (convert.converting hs h p ds l z) e i j x y u v =
    apart h g upto (let k = (pins e x y).1 in let n : g ≡ h = cc in sym n) l low
converts_once_by f upto stop (convert.converting gs g o cs low k) convert.busy e i j x y u v = absurd
    (false_true (sym (begins e x y)))
converts_once_by f upto stop (convert.converting gs g o cs low k) (convert.absent hs) e i j x y u v = absurd
    (at_absent g (pins e x y).1)
converts_once_by f upto stop (convert.converting gs g o cs low k) (convert.was_removed hs) e i j x y u v = absurd
    (at_removed g (pins e x y).1)
converts_once_by f upto stop (convert.converting gs g o cs low k) (convert.last hs h l) e i j x y u v =
    apart g h upto (let q = (pins e x y).1 in let n : g ≡ h = cc in n) low l
converts_once_by f upto stop (convert.converting gs g o cs low k) (convert.converting hs h p ds l z) e i j x y u v =
    turned f stop gs hs g h cs ds e u v k z i j x y

pub converts_once : ConvertsOnce
converts_once a b c w upto stop o p e x y n m =
    converts_once_by a.facts upto stop x.licence y.licence e x.counted y.counted x.does y.does n m
