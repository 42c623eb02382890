-- No clause of *Accounted* is idle: for each a state that meets the others, and not the rule.
use Rattle.std.proofs.Common.{◌≡◌, ◌≢◌, ◌⊎◌, ℕ, zero, suc, ◌+◌, ◌<◌, true, false, List, [], ◌∷◌, refl, inl, inr, ⊎_elim}
use Rattle.std.proofs.Common.{arith}
use mathlib.Core.Logic.{dite}
use native.Mathlib.Decide.{ℕ_discrete}
use Rattle.mf_machine.specs.declared.view.Changes.{Changes}
use Rattle.mf_machine.specs.declared.view.Loss.{Loss}
use Rattle.mf_machine.specs.declared.view.Made.{Made}
use Rattle.mf_machine.specs.declared.view.View.{View}
use Rattle.mf_machine.specs.Counts.{bit, total}
use Rattle.mf_machine.specs.Clauses.{AccountedClause, AccountedNeeds, Says}
use Rattle.mf_machine.specs.Clauses as clause
use Rattle.mf_machine.specs.Exhibits.{Needs}
use Rattle.mf_machine.specs.File.{File, Opening, State}
use Rattle.mf_machine.specs.File.Home.{empty, keeps}
use Rattle.mf_machine.specs.Kept.{Accounted, PublishedOnce}
use Rattle.mf_machine.specs.Rest.{Rest}
use Rattle.mf_machine.specs.Worlds.{fresh, nothing_seen, nothing_made, no_changes}
use Rattle.mf_machine.proofs.Guards.{false_true}
use Rattle.mf_machine.proofs.Lists.{bit_is, bit_not}
use Rattle.mf_machine.proofs.Words.{cell_here}

-- a file of one generation and one name, which the lines 7 and 8 may lose
abbrev tiny : File
tiny = record {
  stages = 1;
  names = 1;
  holds = λ g n. true;
  server = λ n. n;
  cell = λ n. n ∷ [];
  losses = (record { line = 7; server = 0 }) ∷ (record { line = 8; server = 0 }) ∷ [];
}

-- a fact of the only generation, or of the only name
at_zero : (P : ℕ → Type 0) → P 0 → (n : ℕ) → n < 1 → P n
at_zero P p zero l = p
at_zero P p (suc n) l = absurd (omega arith)

-- openings: the name is Unborn; it is Here
abbrev bare : Opening
bare = record { number = 0; closed = λ _. false; name = λ _. 0; home = λ _. empty }

abbrev stored : Opening
stored = record { number = 0; closed = λ _. false; name = λ _. 1; home = λ n. keeps (n ∷ []) }

bare_rests : Rest tiny bare
bare_rests = record {
  number = omega arith;
  closed = λ g l e. absurd (false_true e);
  born = λ g l e n i h. absurd (omega arith);
  settled = λ n l e. omega arith;
  dropped = λ n l e. absurd (omega arith);
  lost = λ n i l e. absurd (omega arith);
  here = λ n l e. absurd (omega arith);
  bare = λ n l e. refl;
}

stored_rests : Rest tiny stored
stored_rests = record {
  number = omega arith;
  closed = λ g l e. absurd (false_true e);
  born = λ g l e n i h. absurd (omega arith);
  settled = λ n l e. omega arith;
  dropped = λ n l e. absurd (omega arith);
  lost = λ n i l e. absurd (omega arith);
  here = λ n l e. cell_here tiny n (keeps (n ∷ [])) refl;
  bare = λ n l ne. absurd (ne refl);
}

-- the state, with the word of the generation and of the name
abbrev state : ℕ → ℕ → (ℕ → ℕ) → (ℕ → ℕ) → List View → State
state number right pins name views =
    record { number = number; right = right; pins = pins; name = name; home = λ _. empty; views = views }

-- an actor that made this
abbrev maker : Made → View
maker m = record (fresh 1 [] nothing_seen) { made = m }

abbrev changer : Changes → View
changer c = maker (record nothing_made { changes = c })

-- a loss of the name
abbrev loss : ℕ → Loss
loss line = record { name = 0; line = line }

-- 1 and 2 were published once each
twice : (m : ℕ) → PublishedOnce bare (state 1 0 (λ _. 0) (λ _. 0)
    (maker (record nothing_made { numbers = 1 ∷ 2 ∷ [] }) ∷ [])) m
twice m h = dite (ℕ_discrete 1 m)
    (λ e. let a = bit_is 1 m e in let b = bit_not 2 m (λ d. omega arith) in (omega arith, omega arith))
    (λ ne. let a = bit_not 1 m ne in dite (ℕ_discrete 2 m)
    (λ e. let b = bit_is 2 m e in (omega arith, omega arith))
    (λ other. let b = bit_not 2 m other in absurd (omega arith)))

-- the number 1, which nobody has published
abbrev number_state : State
number_state = state 1 0 (λ _. 0) (λ _. 0) []

number_alone : (d : AccountedClause) → d ≢ clause.number → Says d tiny bare number_state
number_alone clause.number ne = absurd (ne refl)
number_alone clause.greatest ne = λ m h. absurd (omega arith)
number_alone clause.published_once ne = λ m h. absurd (omega arith)
number_alone clause.closed_once ne = at_zero _ (λ h. absurd (omega arith))
number_alone clause.put_once ne = at_zero _ (λ h. absurd (omega arith))
number_alone clause.dropped_once ne = at_zero _ (λ h. absurd (omega arith))
number_alone clause.closed ne = at_zero _ ((λ h. absurd (omega arith)), ⊎_elim (λ e. absurd (false_true e)) (λ h. absurd (omega arith)))
number_alone clause.unborn ne = at_zero _ ((λ h. (refl, refl)), λ h. inl refl)
number_alone clause.dropped ne = at_zero _ ((λ h. absurd (omega arith)), ⊎_elim (λ e. absurd (omega arith)) (λ h. absurd (omega arith)))
number_alone clause.lost ne = at_zero _ (λ ne h. ⊎_elim (λ e. absurd (omega arith)) (λ h. absurd (omega arith)) h)
number_alone clause.kept ne = at_zero _ (λ ne l z. refl)
number_alone clause.line ne = at_zero _ (λ l e. absurd (omega arith))

number_needed : Needs (λ f k s. Accounted f k s) (λ f k s. (d : AccountedClause) → d ≢ clause.number → Says d f k s)
number_needed = (tiny, bare, number_state, bare_rests, number_alone, λ r. ⊎_elim (λ t. let e = t.0 in omega arith) (λ h. omega arith) r.number)

-- the number 1, where 2 was published too
abbrev greatest_state : State
greatest_state = state 1 0 (λ _. 0) (λ _. 0) (maker (record nothing_made { numbers = 1 ∷ 2 ∷ [] }) ∷ [])

greatest_alone : (d : AccountedClause) → d ≢ clause.greatest → Says d tiny bare greatest_state
greatest_alone clause.number ne = inr (omega arith)
greatest_alone clause.greatest ne = absurd (ne refl)
greatest_alone clause.published_once ne = twice
greatest_alone clause.closed_once ne = at_zero _ (λ h. absurd (omega arith))
greatest_alone clause.put_once ne = at_zero _ (λ h. absurd (omega arith))
greatest_alone clause.dropped_once ne = at_zero _ (λ h. absurd (omega arith))
greatest_alone clause.closed ne = at_zero _ ((λ h. absurd (omega arith)), ⊎_elim (λ e. absurd (false_true e)) (λ h. absurd (omega arith)))
greatest_alone clause.unborn ne = at_zero _ ((λ h. (refl, refl)), λ h. inl refl)
greatest_alone clause.dropped ne = at_zero _ ((λ h. absurd (omega arith)), ⊎_elim (λ e. absurd (omega arith)) (λ h. absurd (omega arith)))
greatest_alone clause.lost ne = at_zero _ (λ ne h. ⊎_elim (λ e. absurd (omega arith)) (λ h. absurd (omega arith)) h)
greatest_alone clause.kept ne = at_zero _ (λ ne l z. refl)
greatest_alone clause.line ne = at_zero _ (λ l e. absurd (omega arith))

greatest_needed : Needs (λ f k s. Accounted f k s) (λ f k s. (d : AccountedClause) → d ≢ clause.greatest → Says d f k s)
greatest_needed = (tiny, bare, greatest_state, bare_rests, greatest_alone, λ r. let t = r.greatest 2 (omega arith) in omega arith)

-- the number 1, published twice
abbrev published_once_state : State
published_once_state = state 1 0 (λ _. 0) (λ _. 0) (maker (record nothing_made { numbers = 1 ∷ 1 ∷ [] }) ∷ [])

published_once_alone : (d : AccountedClause) → d ≢ clause.published_once → Says d tiny bare published_once_state
published_once_alone clause.number ne = inr (omega arith)
published_once_alone clause.greatest ne = λ m h. dite (ℕ_discrete 1 m) (λ e. omega arith) (λ ne. let b = bit_not 1 m ne in absurd (omega arith))
published_once_alone clause.published_once ne = absurd (ne refl)
published_once_alone clause.closed_once ne = at_zero _ (λ h. absurd (omega arith))
published_once_alone clause.put_once ne = at_zero _ (λ h. absurd (omega arith))
published_once_alone clause.dropped_once ne = at_zero _ (λ h. absurd (omega arith))
published_once_alone clause.closed ne = at_zero _ ((λ h. absurd (omega arith)), ⊎_elim (λ e. absurd (false_true e)) (λ h. absurd (omega arith)))
published_once_alone clause.unborn ne = at_zero _ ((λ h. (refl, refl)), λ h. inl refl)
published_once_alone clause.dropped ne = at_zero _ ((λ h. absurd (omega arith)), ⊎_elim (λ e. absurd (omega arith)) (λ h. absurd (omega arith)))
published_once_alone clause.lost ne = at_zero _ (λ ne h. ⊎_elim (λ e. absurd (omega arith)) (λ h. absurd (omega arith)) h)
published_once_alone clause.kept ne = at_zero _ (λ ne l z. refl)
published_once_alone clause.line ne = at_zero _ (λ l e. absurd (omega arith))

published_once_needed : Needs (λ f k s. Accounted f k s) (λ f k s. (d : AccountedClause) → d ≢ clause.published_once → Says d f k s)
published_once_needed = (tiny, bare, published_once_state, bare_rests, published_once_alone, λ r. let t = (r.published_once 1 (omega arith)).0 in omega arith)

-- a generation closed twice
abbrev closed_once_state : State
closed_once_state = state 0 0 (λ _. 9223372036854775808) (λ _. 0) (maker (record nothing_made { closings = 0 ∷ 0 ∷ [] }) ∷ [])

closed_once_alone : (d : AccountedClause) → d ≢ clause.closed_once → Says d tiny bare closed_once_state
closed_once_alone clause.number ne = inl (refl, λ m. refl)
closed_once_alone clause.greatest ne = λ m h. absurd (omega arith)
closed_once_alone clause.published_once ne = λ m h. absurd (omega arith)
closed_once_alone clause.closed_once ne = absurd (ne refl)
closed_once_alone clause.put_once ne = at_zero _ (λ h. absurd (omega arith))
closed_once_alone clause.dropped_once ne = at_zero _ (λ h. absurd (omega arith))
closed_once_alone clause.closed ne = at_zero _ ((λ h. inr (omega arith)), λ h. omega arith)
closed_once_alone clause.unborn ne = at_zero _ ((λ h. (refl, refl)), λ h. inl refl)
closed_once_alone clause.dropped ne = at_zero _ ((λ h. absurd (omega arith)), ⊎_elim (λ e. absurd (omega arith)) (λ h. absurd (omega arith)))
closed_once_alone clause.lost ne = at_zero _ (λ ne h. ⊎_elim (λ e. absurd (omega arith)) (λ h. absurd (omega arith)) h)
closed_once_alone clause.kept ne = at_zero _ (λ ne l z. refl)
closed_once_alone clause.line ne = at_zero _ (λ l e. absurd (omega arith))

closed_once_needed : Needs (λ f k s. Accounted f k s) (λ f k s. (d : AccountedClause) → d ≢ clause.closed_once → Says d f k s)
closed_once_needed = (tiny, bare, closed_once_state, bare_rests, closed_once_alone, λ r. let t = (r.closed_once 0 (omega arith) (omega arith)).0 in omega arith)

-- a name put twice
abbrev put_once_state : State
put_once_state = state 0 0 (λ _. 0) (λ _. 1) (changer (record no_changes { put = 0 ∷ 0 ∷ [] }) ∷ [])

put_once_alone : (d : AccountedClause) → d ≢ clause.put_once → Says d tiny bare put_once_state
put_once_alone clause.number ne = inl (refl, λ m. refl)
put_once_alone clause.greatest ne = λ m h. absurd (omega arith)
put_once_alone clause.published_once ne = λ m h. absurd (omega arith)
put_once_alone clause.closed_once ne = at_zero _ (λ h. absurd (omega arith))
put_once_alone clause.put_once ne = absurd (ne refl)
put_once_alone clause.dropped_once ne = at_zero _ (λ h. absurd (omega arith))
put_once_alone clause.closed ne = at_zero _ ((λ h. absurd (omega arith)), ⊎_elim (λ e. absurd (false_true e)) (λ h. absurd (omega arith)))
put_once_alone clause.unborn ne = at_zero _ (⊎_elim (λ e. absurd (omega arith)) (λ h. absurd (omega arith)), λ h. let a = h.0 in let b = h.1 in absurd (omega arith))
put_once_alone clause.dropped ne = at_zero _ ((λ h. absurd (omega arith)), ⊎_elim (λ e. absurd (omega arith)) (λ h. absurd (omega arith)))
put_once_alone clause.lost ne = at_zero _ (λ ne h. ⊎_elim (λ e. absurd (omega arith)) (λ h. absurd (omega arith)) h)
put_once_alone clause.kept ne = at_zero _ (λ ne l z. refl)
put_once_alone clause.line ne = at_zero _ (λ l e. absurd (omega arith))

put_once_needed : Needs (λ f k s. Accounted f k s) (λ f k s. (d : AccountedClause) → d ≢ clause.put_once → Says d f k s)
put_once_needed = (tiny, bare, put_once_state, bare_rests, put_once_alone, λ r. let t = (r.put_once 0 (omega arith) (omega arith)).0 in omega arith)

-- a name dropped twice
abbrev dropped_once_state : State
dropped_once_state = state 0 0 (λ _. 0) (λ _. 3) (changer (record no_changes { dropped = 0 ∷ 0 ∷ [] }) ∷ [])

dropped_once_alone : (d : AccountedClause) → d ≢ clause.dropped_once → Says d tiny stored dropped_once_state
dropped_once_alone clause.number ne = inl (refl, λ m. refl)
dropped_once_alone clause.greatest ne = λ m h. absurd (omega arith)
dropped_once_alone clause.published_once ne = λ m h. absurd (omega arith)
dropped_once_alone clause.closed_once ne = at_zero _ (λ h. absurd (omega arith))
dropped_once_alone clause.put_once ne = at_zero _ (λ h. absurd (omega arith))
dropped_once_alone clause.dropped_once ne = absurd (ne refl)
dropped_once_alone clause.closed ne = at_zero _ ((λ h. absurd (omega arith)), ⊎_elim (λ e. absurd (false_true e)) (λ h. absurd (omega arith)))
dropped_once_alone clause.unborn ne = at_zero _ (⊎_elim (λ e. absurd (omega arith)) (λ h. absurd (omega arith)), λ h. let a = h.0 in let b = h.1 in absurd (omega arith))
dropped_once_alone clause.dropped ne = at_zero _ ((λ h. inr (omega arith)), λ h. refl)
dropped_once_alone clause.lost ne = at_zero _ (λ ne h. absurd (ne refl))
dropped_once_alone clause.kept ne = at_zero _ (λ ne l z. absurd (ne refl))
dropped_once_alone clause.line ne = at_zero _ (λ l e. absurd (omega arith))

dropped_once_needed : Needs (λ f k s. Accounted f k s) (λ f k s. (d : AccountedClause) → d ≢ clause.dropped_once → Says d f k s)
dropped_once_needed = (tiny, stored, dropped_once_state, stored_rests, dropped_once_alone, λ r. let t = (r.dropped_once 0 (omega arith) (omega arith)).0 in omega arith)

-- a closed generation, which nobody has closed
abbrev closed_state : State
closed_state = state 0 0 (λ _. 9223372036854775808) (λ _. 0) []

closed_alone : (d : AccountedClause) → d ≢ clause.closed → Says d tiny bare closed_state
closed_alone clause.number ne = inl (refl, λ m. refl)
closed_alone clause.greatest ne = λ m h. absurd (omega arith)
closed_alone clause.published_once ne = λ m h. absurd (omega arith)
closed_alone clause.closed_once ne = at_zero _ (λ h. absurd (omega arith))
closed_alone clause.put_once ne = at_zero _ (λ h. absurd (omega arith))
closed_alone clause.dropped_once ne = at_zero _ (λ h. absurd (omega arith))
closed_alone clause.closed ne = absurd (ne refl)
closed_alone clause.unborn ne = at_zero _ ((λ h. (refl, refl)), λ h. inl refl)
closed_alone clause.dropped ne = at_zero _ ((λ h. absurd (omega arith)), ⊎_elim (λ e. absurd (omega arith)) (λ h. absurd (omega arith)))
closed_alone clause.lost ne = at_zero _ (λ ne h. ⊎_elim (λ e. absurd (omega arith)) (λ h. absurd (omega arith)) h)
closed_alone clause.kept ne = at_zero _ (λ ne l z. refl)
closed_alone clause.line ne = at_zero _ (λ l e. absurd (omega arith))

closed_needed : Needs (λ f k s. Accounted f k s) (λ f k s. (d : AccountedClause) → d ≢ clause.closed → Says d f k s)
closed_needed = (tiny, bare, closed_state, bare_rests, closed_alone, λ r. ⊎_elim (λ e. false_true e) (λ h. omega arith) ((r.closed 0 (omega arith)).0 (omega arith)))

-- a name Here, which nobody has put
abbrev unborn_state : State
unborn_state = state 0 0 (λ _. 0) (λ _. 1) []

unborn_alone : (d : AccountedClause) → d ≢ clause.unborn → Says d tiny bare unborn_state
unborn_alone clause.number ne = inl (refl, λ m. refl)
unborn_alone clause.greatest ne = λ m h. absurd (omega arith)
unborn_alone clause.published_once ne = λ m h. absurd (omega arith)
unborn_alone clause.closed_once ne = at_zero _ (λ h. absurd (omega arith))
unborn_alone clause.put_once ne = at_zero _ (λ h. absurd (omega arith))
unborn_alone clause.dropped_once ne = at_zero _ (λ h. absurd (omega arith))
unborn_alone clause.closed ne = at_zero _ ((λ h. absurd (omega arith)), ⊎_elim (λ e. absurd (false_true e)) (λ h. absurd (omega arith)))
unborn_alone clause.unborn ne = absurd (ne refl)
unborn_alone clause.dropped ne = at_zero _ ((λ h. absurd (omega arith)), ⊎_elim (λ e. absurd (omega arith)) (λ h. absurd (omega arith)))
unborn_alone clause.lost ne = at_zero _ (λ ne h. ⊎_elim (λ e. absurd (omega arith)) (λ h. absurd (omega arith)) h)
unborn_alone clause.kept ne = at_zero _ (λ ne l z. refl)
unborn_alone clause.line ne = at_zero _ (λ l e. absurd (omega arith))

unborn_needed : Needs (λ f k s. Accounted f k s) (λ f k s. (d : AccountedClause) → d ≢ clause.unborn → Says d f k s)
unborn_needed = (tiny, bare, unborn_state, bare_rests, unborn_alone, λ r. ⊎_elim (λ e. omega arith) (λ h. omega arith) ((r.unborn 0 (omega arith)).1 (refl, refl)))

-- a Dropped name, which nobody has dropped
abbrev dropped_state : State
dropped_state = state 0 0 (λ _. 0) (λ _. 3) []

dropped_alone : (d : AccountedClause) → d ≢ clause.dropped → Says d tiny stored dropped_state
dropped_alone clause.number ne = inl (refl, λ m. refl)
dropped_alone clause.greatest ne = λ m h. absurd (omega arith)
dropped_alone clause.published_once ne = λ m h. absurd (omega arith)
dropped_alone clause.closed_once ne = at_zero _ (λ h. absurd (omega arith))
dropped_alone clause.put_once ne = at_zero _ (λ h. absurd (omega arith))
dropped_alone clause.dropped_once ne = at_zero _ (λ h. absurd (omega arith))
dropped_alone clause.closed ne = at_zero _ ((λ h. absurd (omega arith)), ⊎_elim (λ e. absurd (false_true e)) (λ h. absurd (omega arith)))
dropped_alone clause.unborn ne = at_zero _ (⊎_elim (λ e. absurd (omega arith)) (λ h. absurd (omega arith)), λ h. let a = h.0 in let b = h.1 in absurd (omega arith))
dropped_alone clause.dropped ne = absurd (ne refl)
dropped_alone clause.lost ne = at_zero _ (λ ne h. absurd (ne refl))
dropped_alone clause.kept ne = at_zero _ (λ ne l z. absurd (ne refl))
dropped_alone clause.line ne = at_zero _ (λ l e. absurd (omega arith))

dropped_needed : Needs (λ f k s. Accounted f k s) (λ f k s. (d : AccountedClause) → d ≢ clause.dropped → Says d f k s)
dropped_needed = (tiny, stored, dropped_state, stored_rests, dropped_alone, λ r. ⊎_elim (λ e. omega arith) (λ h. omega arith) ((r.dropped 0 (omega arith)).0 refl))

-- a Lost name, which was restored as often as lost
abbrev lost_state : State
lost_state = state 0 0 (λ _. 0) (λ _. 11) (changer (record no_changes { lost = loss 7 ∷ []; restored = 0 ∷ [] }) ∷ [])

lost_alone : (d : AccountedClause) → d ≢ clause.lost → Says d tiny stored lost_state
lost_alone clause.number ne = inl (refl, λ m. refl)
lost_alone clause.greatest ne = λ m h. absurd (omega arith)
lost_alone clause.published_once ne = λ m h. absurd (omega arith)
lost_alone clause.closed_once ne = at_zero _ (λ h. absurd (omega arith))
lost_alone clause.put_once ne = at_zero _ (λ h. absurd (omega arith))
lost_alone clause.dropped_once ne = at_zero _ (λ h. absurd (omega arith))
lost_alone clause.closed ne = at_zero _ ((λ h. absurd (omega arith)), ⊎_elim (λ e. absurd (false_true e)) (λ h. absurd (omega arith)))
lost_alone clause.unborn ne = at_zero _ (⊎_elim (λ e. absurd (omega arith)) (λ h. absurd (omega arith)), λ h. let a = h.0 in let b = h.1 in absurd (omega arith))
lost_alone clause.dropped ne = at_zero _ ((λ h. absurd (omega arith)), ⊎_elim (λ e. absurd (omega arith)) (λ h. absurd (omega arith)))
lost_alone clause.lost ne = absurd (ne refl)
lost_alone clause.kept ne = at_zero _ (λ ne l z. absurd (omega arith))
lost_alone clause.line ne = at_zero _ (λ l e. inr (let b = bit_is 7 l (omega arith) in omega arith))

lost_needed : Needs (λ f k s. Accounted f k s) (λ f k s. (d : AccountedClause) → d ≢ clause.lost → Says d f k s)
lost_needed = (tiny, stored, lost_state, stored_rests, lost_alone, λ r. let t = r.lost 0 (omega arith) (λ e. omega arith) (inl (omega arith)) in omega arith)

-- a name Here, which was lost and not restored
abbrev kept_state : State
kept_state = state 0 0 (λ _. 0) (λ _. 1) (changer (record no_changes { lost = loss 7 ∷ [] }) ∷ [])

kept_alone : (d : AccountedClause) → d ≢ clause.kept → Says d tiny stored kept_state
kept_alone clause.number ne = inl (refl, λ m. refl)
kept_alone clause.greatest ne = λ m h. absurd (omega arith)
kept_alone clause.published_once ne = λ m h. absurd (omega arith)
kept_alone clause.closed_once ne = at_zero _ (λ h. absurd (omega arith))
kept_alone clause.put_once ne = at_zero _ (λ h. absurd (omega arith))
kept_alone clause.dropped_once ne = at_zero _ (λ h. absurd (omega arith))
kept_alone clause.closed ne = at_zero _ ((λ h. absurd (omega arith)), ⊎_elim (λ e. absurd (false_true e)) (λ h. absurd (omega arith)))
kept_alone clause.unborn ne = at_zero _ (⊎_elim (λ e. absurd (omega arith)) (λ h. absurd (omega arith)), λ h. let a = h.0 in let b = h.1 in absurd (omega arith))
kept_alone clause.dropped ne = at_zero _ ((λ h. absurd (omega arith)), ⊎_elim (λ e. absurd (omega arith)) (λ h. absurd (omega arith)))
kept_alone clause.lost ne = at_zero _ (λ ne h. ⊎_elim (λ e. absurd (omega arith)) (λ h. absurd (omega arith)) h)
kept_alone clause.kept ne = absurd (ne refl)
kept_alone clause.line ne = at_zero _ (λ l e. absurd (omega arith))

kept_needed : Needs (λ f k s. Accounted f k s) (λ f k s. (d : AccountedClause) → d ≢ clause.kept → Says d f k s)
kept_needed = (tiny, stored, kept_state, stored_rests, kept_alone, λ r. let t = r.kept 0 (omega arith) (λ e. omega arith) (omega arith) refl in omega arith)

-- a Lost name with a line by which nobody has lost it
abbrev line_state : State
line_state = state 0 0 (λ _. 0) (λ _. 11) (changer (record no_changes { lost = loss 8 ∷ [] }) ∷ [])

line_alone : (d : AccountedClause) → d ≢ clause.line → Says d tiny stored line_state
line_alone clause.number ne = inl (refl, λ m. refl)
line_alone clause.greatest ne = λ m h. absurd (omega arith)
line_alone clause.published_once ne = λ m h. absurd (omega arith)
line_alone clause.closed_once ne = at_zero _ (λ h. absurd (omega arith))
line_alone clause.put_once ne = at_zero _ (λ h. absurd (omega arith))
line_alone clause.dropped_once ne = at_zero _ (λ h. absurd (omega arith))
line_alone clause.closed ne = at_zero _ ((λ h. absurd (omega arith)), ⊎_elim (λ e. absurd (false_true e)) (λ h. absurd (omega arith)))
line_alone clause.unborn ne = at_zero _ (⊎_elim (λ e. absurd (omega arith)) (λ h. absurd (omega arith)), λ h. let a = h.0 in let b = h.1 in absurd (omega arith))
line_alone clause.dropped ne = at_zero _ ((λ h. absurd (omega arith)), ⊎_elim (λ e. absurd (omega arith)) (λ h. absurd (omega arith)))
line_alone clause.lost ne = at_zero _ (λ ne h. refl)
line_alone clause.kept ne = at_zero _ (λ ne l z. absurd (omega arith))
line_alone clause.line ne = absurd (ne refl)

line_needed : Needs (λ f k s. Accounted f k s) (λ f k s. (d : AccountedClause) → d ≢ clause.line → Says d f k s)
line_needed = (tiny, stored, line_state, stored_rests, line_alone, λ r. ⊎_elim (λ e. omega arith) (λ h. omega arith) (r.line 0 (omega arith) 7 refl))

pub accounted_needs : AccountedNeeds
accounted_needs clause.number = number_needed
accounted_needs clause.greatest = greatest_needed
accounted_needs clause.published_once = published_once_needed
accounted_needs clause.closed_once = closed_once_needed
accounted_needs clause.put_once = put_once_needed
accounted_needs clause.dropped_once = dropped_once_needed
accounted_needs clause.closed = closed_needed
accounted_needs clause.unborn = unborn_needed
accounted_needs clause.dropped = dropped_needed
accounted_needs clause.lost = lost_needed
accounted_needs clause.kept = kept_needed
accounted_needs clause.line = line_needed
