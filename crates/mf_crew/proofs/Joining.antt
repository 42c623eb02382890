-- Actors that take in others, file by file.
use Rattle.std.proofs.Common.{◌≡◌, suc, ◌<◌, Bool, true, false, List, [], ◌∷◌, ◌++◌, length, map, get_or}
use Rattle.std.proofs.Common.{set, All, refl, ap, arith, cond}
use Rattle.std.proofs.lemmas.List.Elements.{All-nil, All-cons, All-head, All-tail}
use Rattle.mf_machine.specs.declared.view.View.{View}
use Rattle.mf_machine.specs.Steps.{joined, ended, unpinned}
use Rattle.mf_machine.specs.declared.answer.Slot.TheVariants.{Hold, Work}
use Rattle.mf_vault.specs.Actor.{Actor}
use Rattle.mf_shared.specs.Seats.{let_go}
use Rattle.mf_crew.specs.Live.{join_each, views_of}

-- what an actor lets go of plays no part where another takes it in
joined_let_go : (v w : View) → joined v (let_go w) ≡ joined v w
joined_let_go v w = either _
  where
    either : (b : Bool)
        → joined v (cond b (unpinned Work (unpinned Hold w)) (ended (unpinned Work (unpinned Hold w)))) ≡ joined v w
    either true = refl
    either false = refl

pub share_let_go : (w : View) → (let_go w).share ≡ w.share
share_let_go w = either _
  where
    either : (b : Bool)
        → (cond b (unpinned Work (unpinned Hold w)) (ended (unpinned Work (unpinned Hold w)))).share ≡ w.share
    either true = refl
    either false = refl

pub join_let_go : (vs : List View) (actors : List Actor)
    → join_each vs (map (λ (a : Actor). let_go a.view) actors) ≡ join_each vs (views_of actors)
join_let_go [] actors = refl
join_let_go (v ∷ vs) [] = refl
join_let_go (v ∷ vs) (a ∷ actors) =
    let one = joined_let_go v a.view in let rest = join_let_go vs actors in λ i. one i ∷ rest i

join_none : (vs : List View) → join_each vs [] ≡ vs
join_none [] = refl
join_none (v ∷ vs) = refl

-- one more is taken in
pub join_push : (vs ws : List View) (w d : View) → length ws < length vs
    → join_each vs (ws ++ w ∷ [])
    ≡ set (join_each vs ws) (length ws) (joined (get_or (join_each vs ws) (length ws) d) w)
join_push [] ws w d low = absurd (omega (arith, low))
join_push (v ∷ vs) [] w d low = ap (λ l. joined v w ∷ l) (join_none vs)
join_push (v ∷ vs) (u ∷ ws) w d low = ap (λ l. joined v u ∷ l) (join_push vs ws w d (omega (arith, low)))

pub join_length : (vs ws : List View) → length (join_each vs ws) ≡ length vs
join_length [] ws = refl
join_length (v ∷ vs) [] = refl
join_length (v ∷ vs) (w ∷ ws) = ap suc (join_length vs ws)

-- what holds of each actor, and of each that it takes in, gives what holds behind that
pub join_each-all : (P Q R : View → Type 0) (vs ws : List View) → length ws ≡ length vs
    → ((v w : View) → P v → Q w → R (joined v w)) → All P vs → All Q ws → All R (join_each vs ws)
join_each-all P Q R [] ws long step one other = All-nil R
join_each-all P Q R (v ∷ vs) [] long step one other = absurd (omega (arith, long))
join_each-all P Q R (v ∷ vs) (w ∷ ws) long step one other =
    All-cons R (joined v w) (join_each vs ws) (step v w (All-head P v vs one) (All-head Q w ws other))
    (join_each-all P Q R vs ws (omega (arith, long)) step (All-tail P v vs one) (All-tail Q w ws other))
