-- Lists whose front is changed, place by place.
use Rattle.std.proofs.Common.{◌≡◌, ℕ, suc, ◌+◌, ◌<◌, ◌≤◌, List, [], ◌∷◌, ◌++◌, length, take, drop, get_or, set}
use Rattle.std.proofs.Common.{refl, sym, ap, ◌∙◌, arith, append_assoc}
use Rattle.std.proofs.lemmas.List.{length-map, get_or-take}
use Rattle.std.proofs.Math.Seq.{take-suc, drop-cons, set-append_seam}
use Rattle.mf_places.specs.declared.servers.Servers.{Servers}
use Rattle.mf_vault.specs.Actor.{Actor, did, cut_off}
use Rattle.mf_client.specs.Acts.{cut_all}

-- the place behind a changed front is written
pub front_set : {X : Type 0} (front xs : List X) (i : ℕ) (d x : X) → length front ≡ i → i < length xs
    → set (front ++ drop i xs) i x ≡ (front ++ x ∷ []) ++ drop (suc i) xs
front_set front xs i d x long low =
    ap (λ l. set (front ++ l) i x) (drop-cons xs i d low)
    ∙ ap (λ n. set (front ++ get_or xs i d ∷ drop (suc i) xs) n x) (sym long)
    ∙ set-append_seam front (get_or xs i d) (drop (suc i) xs) x
    ∙ sym (append_assoc front (x ∷ []) (drop (suc i) xs))

front_get : {X : Type 0} (front : List X) (x d : X) (xs : List X) → get_or (front ++ x ∷ xs) (length front) d ≡ x
front_get [] x d xs = refl
front_get (y ∷ front) x d xs = front_get front x d xs

pub behind_front : {X : Type 0} (front xs : List X) (i : ℕ) (d : X) → length front ≡ i → i < length xs
    → get_or (front ++ drop i xs) i d ≡ get_or xs i d
behind_front front xs i d long low =
    ap (λ l. get_or (front ++ l) i d) (drop-cons xs i d low)
    ∙ ap (λ n. get_or (front ++ get_or xs i d ∷ drop (suc i) xs) n d) (sym long)
    ∙ front_get front (get_or xs i d) d (drop (suc i) xs)

take_long : {X : Type 0} (xs : List X) (i : ℕ) → i ≤ length xs → length (take i xs) ≡ i
take_long xs i low = Rattle.std.proofs.lemmas.List.length-take i xs ∙ omega arith

-- one more actor with the servers cut off
pub cut_more : (away : Servers) (xs now : List Actor) (i : ℕ) (d b : Actor)
    → now ≡ cut_all away (take i xs) ++ drop i xs → i < length xs → b ≡ did (cut_off away) (get_or now i d)
    → set now i b ≡ cut_all away (take (i + 1) xs) ++ drop (i + 1) xs
cut_more away xs now i d b is low e =
    let front = cut_all away (take i xs) in
    let long = length-map (take i xs) (did (cut_off away)) ∙ take_long xs i (omega arith) in
    let got = ap (λ l. get_or l i d) is ∙ behind_front front xs i d long low in
    let one = e ∙ ap (did (cut_off away)) got in
    let more = sym (Rattle.std.proofs.lemmas.List.map-append (did (cut_off away)) (take i xs) (get_or xs i d ∷ []))
    ∙ ap (cut_all away) (sym (take-suc xs i d low)) in
    let next : suc i ≡ i + 1 = omega arith in
    ap (λ l. set l i b) is
    ∙ front_set front xs i d b long low
    ∙ ap (λ x. (front ++ x ∷ []) ++ drop (suc i) xs) one
    ∙ ap (λ l. l ++ drop (suc i) xs) more
    ∙ ap (λ n. cut_all away (take n xs) ++ drop n xs) next
