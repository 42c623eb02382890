-- One record more is read, and there is one way to read a journal.
use Rattle.std.proofs.Common.{◌≡◌, ◌⊎◌, inl, inr, ℕ, List, [], ◌∷◌, ◌++◌, length, get_or, take}
use Rattle.std.proofs.Common.{drop, Vec, refl, sym, ap, subst, ◌∙◌, append_assoc}
use Rattle.std.proofs.lemmas.List.{map_push, take_at, drop_at}
use Rattle.std.proofs.lemmas.List.Elements.{All-head, All-tail}
use Rattle.std.proofs.lemmas.Nat.{from_be_bytes-to_be_bytes_4}
use Rattle.std.specs.Int.{w32, to_be_bytes, from_be_bytes}
use Rattle.std.specs.List.{All}
use Rattle.std.specs.declared.alloc.Global.{Global}
use Rattle.mf_journal.specs.Frames.{front, frames, framed, mark, IsShort, IsJournal}
use Rattle.mf_journal.specs.Opening.{HasFault, HasNone, IsBad, IsShut, Opens, lists}
use Rattle.mf_journal.specs.declared.opening.OpenFault.{OpenFault}
use Rattle.mf_journal.specs.declared.opening.OpenFault.TheVariants.{Disk, NotJournal, Bad, Memory}
use Rattle.mf_journal.proofs.Blocks.{front_push}

pub lists_push : (vs more : List (Vec ℕ Global)) (v : Vec ℕ Global) (p : List ℕ)
    → more ≡ vs ++ v ∷ [] → v.items ≡ p
    → lists more ≡ lists vs ++ p ∷ []
lists_push vs more v p is same =
    ap lists is
    ∙ map_push (λ (v : Vec ℕ Global). v.items) vs v
    ∙ ap (λ q. lists vs ++ q ∷ []) same

pub one_read : (bytes rest behind after p : List ℕ) (ps more : List (List ℕ))
    → bytes ≡ front ps ++ rest
    → rest ≡ 165 ∷ behind → behind ≡ framed p ++ after → more ≡ ps ++ p ∷ []
    → bytes ≡ front more ++ after
one_read bytes rest behind after p ps more is opens first pushed =
    is
    ∙ ap (λ l. front ps ++ l) (opens ∙ ap (λ l. 165 ∷ l) first)
    ∙ sym (front_push ps p after)
    ∙ ap (λ qs. front qs ++ after) (sym pushed)

-- the same bytes begin with one record
same_frame : (p q x y : List ℕ) → IsShort p → IsShort q → framed p ++ x ≡ framed q ++ y
    → (p ≡ q) × (x ≡ y)
same_frame p q x y short_p short_q e =
    let number : to_be_bytes w32 (length p) ≡ to_be_bytes w32 (length q) = ap (take 4) e in
    let size : length p ≡ length q =
    sym (from_be_bytes-to_be_bytes_4 (length p) short_p)
    ∙ ap (from_be_bytes w32) number
    ∙ from_be_bytes-to_be_bytes_4 (length q) short_q in
    let behind : p ++ x ≡ q ++ y = ap (drop 4) e in (
      sym (take_at p x (length p) refl)
          ∙ ap (take (length p)) behind
          ∙ take_at q y (length p) (sym size),
      sym (drop_at p x (length p) refl)
          ∙ ap (drop (length p)) behind
          ∙ drop_at q y (length p) (sym size),
    )

-- no record begins here
abbrev pub IsFinal : List ℕ → Type 0
IsFinal r = (p tail : List ℕ) → IsShort p → r ≡ 165 ∷ (framed p ++ tail) → ⊥

frames_final : (ps qs : List (List ℕ)) (r s : List ℕ) → All IsShort ps → All IsShort qs → IsFinal r
    → IsFinal s
    → frames ps ++ r ≡ frames qs ++ s → (ps ≡ qs) × (r ≡ s)
frames_final [] [] r s short_p short_q end_r end_s e = (refl, e)
frames_final [] (q ∷ qs) r s short_p short_q end_r end_s e =
    absurd (end_r q (frames qs ++ s) (All-head IsShort q qs short_q)
    (e ∙ append_assoc (165 ∷ framed q) (frames qs) s))
frames_final (p ∷ ps) [] r s short_p short_q end_r end_s e =
    absurd (end_s p (frames ps ++ r) (All-head IsShort p ps short_p)
    (sym e ∙ append_assoc (165 ∷ framed p) (frames ps) r))
frames_final (p ∷ ps) (q ∷ qs) r s short_p short_q end_r end_s e =
    let f : 165 ∷ (framed p ++ (frames ps ++ r)) ≡ 165 ∷ (framed q ++ (frames qs ++ s)) =
    sym (append_assoc (165 ∷ framed p) (frames ps) r)
    ∙ e
    ∙ append_assoc (165 ∷ framed q) (frames qs) s in
    let first = same_frame p q (frames ps ++ r) (frames qs ++ s) (All-head IsShort p ps short_p)
    (All-head IsShort q qs short_q) (ap (drop 1) f) in
    let more = frames_final ps qs r s (All-tail IsShort p ps short_p)
    (All-tail IsShort q qs short_q) end_r end_s first.1 in
    (ap (λ x. x ∷ ps) first.0 ∙ ap (λ xs. q ∷ xs) more.0, more.1)

shut_final : (r : List ℕ) → IsShut r → IsFinal r
shut_final [] shut p tail short e = absurd (cc)
shut_final (gate ∷ rest) shut p tail short e = shut (ap (λ l. get_or l 0 0) e)

bad_final : (rest : List ℕ) → HasNone rest → IsFinal (165 ∷ rest)
bad_final rest none p tail short e = none p tail short (ap (drop 1) e)

-- what stands is what opens
pub opens_as_stands : (bytes : List ℕ) (ps qs : List (List ℕ)) (place : ℕ) → IsJournal bytes ps
    → Opens bytes qs place → qs ≡ ps
opens_as_stands bytes ps qs place stands opens =
    let same : frames qs ++ opens.rest ≡ frames ps ++ stands.gate ∷ stands.rest =
    ap (drop 8) (sym opens.is ∙ stands.is) in
    (frames_final qs ps opens.rest (stands.gate ∷ stands.rest) opens.short stands.short
    (shut_final opens.rest opens.shut) (shut_final (stands.gate ∷ stands.rest) stands.shut) same).0

-- and it is never refused
pub stands_not_bad : (bytes : List ℕ) (ps : List (List ℕ)) (place : ℕ) → IsJournal bytes ps
    → IsBad bytes place → ⊥
stands_not_bad bytes ps place stands bad =
    let same : frames bad.ps ++ 165 ∷ bad.rest ≡ frames ps ++ stands.gate ∷ stands.rest =
    ap (drop 8) (sym bad.is ∙ stands.is) in
    let ends = frames_final bad.ps ps (165 ∷ bad.rest) (stands.gate ∷ stands.rest) bad.short
    stands.short (bad_final bad.rest bad.none) (shut_final (stands.gate ∷ stands.rest) stands.shut)
    same in
    stands.shut (sym (ap (λ l. get_or l 0 0) ends.1))

pub stands_has_mark : (bytes : List ℕ) (ps : List (List ℕ)) → IsJournal bytes ps
    → take 8 bytes ≡ mark
stands_has_mark bytes ps stands = ap (take 8) stands.is

pub stands_never : (bytes : List ℕ) (ps : List (List ℕ)) (e : OpenFault) → IsJournal bytes ps
    → (e ≡ Memory) ⊎ HasFault e bytes → (e ≡ Disk) ⊎ (e ≡ Memory)
stands_never bytes ps e stands (inl memory) = inr memory
stands_never bytes ps Disk stands (inr has) = absurd has
stands_never bytes ps NotJournal stands (inr has) = absurd (has (stands_has_mark bytes ps stands))
stands_never bytes ps (Bad place) stands (inr has) =
    absurd (stands_not_bad bytes ps place stands has)
stands_never bytes ps Memory stands (inr has) = absurd has

-- bytes that open have no fault
pub opens_faultless : (bytes : List ℕ) (ps : List (List ℕ)) (place : ℕ) → Opens bytes ps place
    → (fault : OpenFault) → HasFault fault bytes → ⊥
opens_faultless bytes ps place opens Disk has = has
opens_faultless bytes ps place opens NotJournal has = has (ap (take 8) opens.is)
opens_faultless bytes ps place opens (Bad at) bad =
    let same : frames ps ++ opens.rest ≡ frames bad.ps ++ 165 ∷ bad.rest =
    ap (drop 8) (sym opens.is ∙ bad.is) in
    let ends = frames_final ps bad.ps opens.rest (165 ∷ bad.rest) opens.short bad.short
    (shut_final opens.rest opens.shut) (bad_final bad.rest bad.none) same in
    subst IsShut ends.1 opens.shut refl
opens_faultless bytes ps place opens Memory has = has

bad_once : (bytes : List ℕ) (m n : ℕ) → IsBad bytes m → IsBad bytes n → m ≡ n
bad_once bytes m n a b =
    let same : frames a.ps ++ 165 ∷ a.rest ≡ frames b.ps ++ 165 ∷ b.rest =
    ap (drop 8) (sym a.is ∙ b.is) in
    let ends = frames_final a.ps b.ps (165 ∷ a.rest) (165 ∷ b.rest) a.short b.short
    (bad_final a.rest a.none) (bad_final b.rest b.none) same in
    a.at ∙ ap (λ ps. length (front ps)) ends.0 ∙ sym b.at

-- bytes have one fault
faults_agree : (bytes : List ℕ) (e fault : OpenFault) → HasFault e bytes → HasFault fault bytes
    → e ≡ fault
faults_agree bytes Disk fault is has = absurd is
faults_agree bytes Memory fault is has = absurd is
faults_agree bytes NotJournal Disk is has = absurd has
faults_agree bytes NotJournal Memory is has = absurd has
faults_agree bytes NotJournal NotJournal is has = refl
faults_agree bytes NotJournal (Bad n) is bad = absurd (is (ap (take 8) bad.is))
faults_agree bytes (Bad m) Disk is has = absurd has
faults_agree bytes (Bad m) Memory is has = absurd has
faults_agree bytes (Bad m) NotJournal bad has = absurd (has (ap (take 8) bad.is))
faults_agree bytes (Bad m) (Bad n) a b = ap (λ k. Bad k) (bad_once bytes m n a b)

pub answers_exactly : (bytes : List ℕ) (e : OpenFault) → (e ≡ Memory) ⊎ HasFault e bytes
    → (fault : OpenFault) → HasFault fault bytes → (e ≡ Disk) ⊎ (e ≡ Memory) ⊎ (e ≡ fault)
answers_exactly bytes e (inl memory) fault has = inr (inl memory)
answers_exactly bytes e (inr is) fault has = inr (inr (faults_agree bytes e fault is has))
