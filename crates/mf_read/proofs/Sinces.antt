-- What an asking adds to the calls since it began.
use Rattle.std.proofs.Common.{◌≡◌, ℕ, ◌+◌, ◌*◌, ◌<◌, List, [], ◌∷◌, ◌++◌, length, Bool, Option, Some, None, Result}
use Rattle.std.proofs.Common.{Ok, Err, IfSome, IfOk, is_some}
use Rattle.std.proofs.Common.{get_or, slice_get, refl, sym, ap, ◌∙◌, subst, append_assoc, append-nil, arith}
use Rattle.std.specs.declared.alloc.AllocError.{AllocError}
use Rattle.std.proofs.Math.Logic.{∥∥₁_elim, ∥∥₁_map}
use Rattle.std.proofs.lemmas.List.{get_or-take}
use Rattle.std.proofs.lemmas.List.Elements.{All-push}
use Rattle.std.proofs.lemmas.List.FromFn.{get_or-map-range_with_len}
use Rattle.std.proofs.lemmas.Option.{slice_get-get_or}
use Rattle.std.specs.Coded.{le_prop, coded_ℕ, Coded-set}
use mathlib.Core.Bool.{Bool-set}
use mathlib.Core.List.{is_set}
use mathlib.Core.Sum.{⊎_set}
use Rattle.mf_code.specs.Chunks.{chunk}
use Rattle.mf_code.specs.Stripes.{stripe, piece_count}
use Rattle.mf_code.proofs.Lists.{length-chunk, length-parity}
use Rattle.mf_stripe.proofs.Stripes.{weighted_lists_stripe}
use Rattle.mf_shape.specs.Stages.{width_at, parities_at}
use Rattle.mf_places.specs.Generations.{pieces_of}
use Rattle.mf_decode.specs.declared.pieces.Asked.{Asked}
use Rattle.mf_decode.specs.declared.pieces.Place.{Place}
use Rattle.mf_decode.specs.declared.pieces.Place.TheVariants as place
use Rattle.mf_decode.specs.Answers.{answers_after, failure_of}
use Rattle.mf_decode.specs.Stripes.{IsPiece, IsParity}
use Rattle.mf_vault.specs.Facts.{Facts}
use Rattle.mf_vault.specs.Actor.{Actor}
use Rattle.mf_vault.specs.Licence.{Does, IsFile}
use Rattle.mf_vault.proofs.Doing.{facts_stay}
use Rattle.mf_read.specs.declared.asking.Stop.{Stop}
use Rattle.mf_read.specs.Asking.{Ask, IsAsked, gets}
use Rattle.mf_read.specs.Groups.{IsReader, AsksAt, want, Group, IsGroup, IsSince, asks_of, names_at, cell_at, since}
use Rattle.mf_read.specs.Groups.{told, stopped_at}
use Rattle.mf_read.specs.Stripes.{chunks_of_stripe, stripe_at, count_is}
use Rattle.mf_read.proofs.Asked.{does_on, does_more}
use Rattle.mf_read.proofs.Readers.{reader_stays}
use Rattle.mf_read.proofs.Told.{since_gets, since_wanting, told_append, told_place, told_front}

pub asks_push : (groups : List Group) (x : Group) → asks_of (groups ++ x ∷ []) ≡ asks_of groups ++ x.asks
asks_push [] x = append-nil x.asks
asks_push (y ∷ groups) x = ap (λ (l : List Ask). y.asks ++ l) (asks_push groups x)
    ∙ sym (append_assoc y.asks (asks_of groups) x.asks)

-- an asking goes on only where it didn't stop
pub going : (o : Option Stop) → stopped_at o ≡ None → o ≡ None
going None e = refl
going (Some stop) e = absurd (let z : Some stop.place ≡ None = e in cc)

module _ (g j : ℕ) (start old now : Actor) where
  pub since_more : (at : Place) (r : Result (Option (List ℕ)) AllocError) (stopped : Option Stop)
      → IsSince g j start None old → AsksAt g j at r stopped old now
      → IsSince g j start stopped now
  since_more at (Ok o) stopped (groups, good, does) (e, (asks, is, had, cell, more)) =
      let x : Group = record { asked = record { place = at; had = is_some o }; asks = asks } in
      let f = facts_stay does in
      subst (λ (s : Option Stop). IsSince g j start s now) (sym e) (
        groups ++ x ∷ [],
        All-push (IsGroup start.facts.book g j) groups x good
            (record { names = subst (λ (k : Facts). IsAsked 1 (names_at k.book g j at) asks) f is; had = had }),
        subst (λ (l : List Ask). Does (gets start.facts l) start now) (sym (asks_push groups x)) (does_on
            (asks_of groups) asks does more),
      )
  since_more at (Err err) stopped (groups, good, does) (w, e, (asks, next, rest, is, wanting, more)) =
      let f = facts_stay does in
      subst (λ (s : Option Stop). IsSince g j start s now) (sym e) (
        groups,
        asks,
        next,
        rest,
        good,
        subst (λ (k : Facts). IsAsked 1 (names_at k.book g j at) (asks ++ next ∷ rest)) f is,
        wanting,
        does_more (asks_of groups) asks (want w) does more,
      )

  -- and so to the answers
  abbrev tells : Actor → List Asked
  tells a = told a.facts.book g j (since start a)

  Asked_set : IsSet (List Asked)
  Asked_set = is_set (hlevel (Coded-set coded_ℕ, Bool-set, ⊎_set))

  told_so : (asks : List Ask) (a : Actor) → a.facts ≡ start.facts → since start a ≡ asks
      → tells a ≡ told start.facts.book g j asks
  told_so asks a f e = (λ i. told (f i).book g j (e i))

  answers_so : (at : Place) (r : Result (Option (List ℕ)) AllocError) (stopped : Option Stop)
      → IsSince g j start None old → AsksAt g j at r stopped old now
      → now.facts ≡ old.facts → tells now ≡ answers_after at r (tells old)
  answers_so at (Ok o) stopped (groups, good, does) (e, (asks, is, had, cell, more)) same =
      let f = facts_stay does in
      let b = start.facts.book in
      let before = told_so (asks_of groups) old f (since_gets start.facts (asks_of groups) does) in
      let after = told_so (asks_of groups ++ asks) now (same
      ∙ f) (since_gets start.facts (asks_of groups ++ asks) (does_on (asks_of groups) asks does more)) in
      let one = told_place b g j at asks (subst (λ (k : Facts). IsAsked 1 (names_at k.book g j at) asks) f is) in
      after ∙ told_append b g j (asks_of groups) asks ∙ (λ i. sym before i ++ one i)
      ∙ ap (λ (h : Bool). tells old ++ (record { place = at; had = h }) ∷ []) (sym had)
  answers_so at (Err err) stopped (groups, good, does) (w, e, (asks, next, rest, is, wanting, more)) same =
      let f = facts_stay does in
      let b = start.facts.book in
      let before = told_so (asks_of groups) old f (since_gets start.facts (asks_of groups) does) in
      let after = told_so (asks_of groups ++ asks) now (same
      ∙ f) (since_wanting start.facts (asks_of groups ++ asks) w (does_more (asks_of groups) asks
      (want w) does more)) in
      let none = told_front b g j at asks next rest (subst (λ (k : Facts). IsAsked 1 (names_at k.book g j at)
      (asks ++ next ∷ rest)) f is) in
      after ∙ told_append b g j (asks_of groups) asks ∙ (λ i. sym before i ++ none i) ∙ append-nil (tells old)

  pub facts_at : (at : Place) (r : Result (Option (List ℕ)) AllocError) (stopped : Option Stop)
      → AsksAt g j at r stopped old now → now.facts ≡ old.facts
  facts_at at (Ok o) stopped (e, (asks, is, had, cell, more)) = facts_stay more
  facts_at at (Err err) stopped (w, e, (asks, next, rest, is, wanting, more)) = facts_stay more

  pub failure_at : (at : Place) (r : Result (Option (List ℕ)) AllocError) (stopped : Option Stop)
      → AsksAt g j at r stopped old now → stopped_at stopped ≡ failure_of at r
  failure_at at (Ok o) stopped asked = ap stopped_at asked.0
  failure_at at (Err err) stopped asked = ap stopped_at asked.1

  -- from what is kept of the asker
  pub since_on : (at : Place) (r : Result (Option (List ℕ)) AllocError) (before stopped : Option Stop)
      → ∥ IsSince g j start before old ∥₁ → stopped_at before ≡ None
      → AsksAt g j at r stopped old now → ∥ IsSince g j start stopped now ∥₁
  since_on at r before stopped s e asked =
      ∥∥₁_map (subst (λ (o : Option Stop). ∥ IsSince g j start o old ∥₁) (going before e) s)
      (λ x. since_more at r stopped x asked)

  pub answers_on : (at : Place) (r : Result (Option (List ℕ)) AllocError) (before stopped : Option Stop)
      → ∥ IsSince g j start before old ∥₁ → stopped_at before ≡ None
      → AsksAt g j at r stopped old now → tells now ≡ answers_after at r (tells old)
  answers_on at r before stopped s e asked =
      ∥∥₁_elim (subst (λ (o : Option Stop). ∥ IsSince g j start o old ∥₁) (going before e) s) (Asked_set (tells now)
      (answers_after at r (tells old)))
      (λ x. answers_so at r stopped x asked (facts_at at r stopped asked))

reader_prop : (g j : ℕ) (a : Actor) → IsProp (IsReader g j a)
reader_prop g j a = hlevel (le_prop)

pub reader_on : (g j : ℕ) (start now : Actor) (before : Option Stop) → IsReader g j start
    → ∥ IsSince g j start before now ∥₁ → stopped_at before ≡ None → IsReader g j now
reader_on g j start now before r s e =
    ∥∥₁_elim (subst (λ (o : Option Stop). ∥ IsSince g j start o now ∥₁) (going before e) s) (reader_prop g j now)
    (λ x. reader_stays start.facts (asks_of x.0) g j x.2 r)

-- ---- what is had is the stripe's

piece_is : (f : Facts) (g j t : ℕ) → IsFile f → t < pieces_of f.book g j
    → slice_get (chunks_of_stripe f g j) t ≡ Some (chunk f.book.chunk f.bytes (j * width_at f.book.shape.stages g + t))
unfolding stripe
piece_is f g j t file low =
    let n = count_is f g j file in
    slice_get-get_or (chunks_of_stripe f g j) t [] (omega arith)
    ∙ ap Some (get_or-map-range_with_len (chunk f.book.chunk f.bytes) (j * width_at f.book.shape.stages g) _ t _ []
    (by_count (length f.bytes) file.long) refl)
  where
    by_count : (n : ℕ) → n ≡ f.book.bytes → t < piece_count f.book.chunk n (width_at f.book.shape.stages g) j
    by_count n e = subst (λ (k : ℕ). t < piece_count f.book.chunk k (width_at f.book.shape.stages g) j) (sym e) low

had_piece : (f : Facts) (g j t : ℕ) (o : Option (List ℕ)) → IsFile f → t < pieces_of f.book g j
    → IfSome o (λ bytes. bytes ≡ cell_at f g j (place.Piece t))
    → IfSome o (IsPiece (stripe_at f g j) t)
had_piece f g j t None file low e = tt
had_piece f g j t (Some c) file low e = record {
  len = ap length e ∙ length-chunk f.book.chunk f.bytes (j * width_at f.book.shape.stages g + t);
  agrees = piece_is f g j t file low ∙ ap Some (sym e);
}

had_parity : (f : Facts) (g j p : ℕ) (o : Option (List ℕ)) → p < parities_at f.book.shape.stages g
    → IfSome o (λ bytes. bytes ≡ cell_at f g j (place.Parity p))
    → IfSome o (IsParity (stripe_at f g j) p)
had_parity f g j p None low e = tt
had_parity f g j p (Some c) low e =
    let w = width_at f.book.shape.stages g in
    let point = get_or f.book.points p 0 in
    record {
      len = ap length e ∙ length-parity f.book.chunk f.bytes point w j;
      agrees = e ∙ sym (weighted_lists_stripe f.book.chunk f.bytes point w j)
          ∙ ap (λ (x : ℕ). Rattle.mf_code.specs.Rows.weighted_lists f.book.chunk x (chunks_of_stripe f g j)) (sym
          (get_or-take (parities_at f.book.shape.stages g) f.book.points p 0 low));
    }

pub piece_at : (g j t : ℕ) (r : Result (Option (List ℕ)) AllocError) (stopped : Option Stop) (a b : Actor)
    → IsFile a.facts → t < pieces_of a.facts.book g j
    → AsksAt g j (place.Piece t) r stopped a b → IfOk r (λ o. IfSome o (IsPiece (stripe_at a.facts g j) t))
piece_at g j t (Ok o) stopped a b file low (e, (asks, is, had, cell, more)) = had_piece a.facts g j t o file low cell
piece_at g j t (Err err) stopped a b file low asked = tt

pub parity_at : (g j p : ℕ) (r : Result (Option (List ℕ)) AllocError) (stopped : Option Stop) (a b : Actor)
    → p < parities_at a.facts.book.shape.stages g
    → AsksAt g j (place.Parity p) r stopped a b → IfOk r (λ o. IfSome o (IsParity (stripe_at a.facts g j) p))
parity_at g j p (Ok o) stopped a b low (e, (asks, is, had, cell, more)) = had_parity a.facts g j p o low cell
parity_at g j p (Err err) stopped a b low asked = tt
