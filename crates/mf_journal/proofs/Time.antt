-- One call more.
use Rattle.std.proofs.Common.{◌≡◌, ◌⊎◌, inl, inr, Bool, true, false, if◌then◌else◌, ℕ, suc, ◌+◌}
use Rattle.std.proofs.Common.{◌-◌, ◌≤◌, List, ◌∷◌, take, refl, sym, subst, arith}
use Rattle.mf_journal.specs.Calls.{after, lost, tried}
use Rattle.mf_journal.specs.Calls as call
use Rattle.mf_journal.specs.Crash.{Advances}
use Rattle.mf_journal.specs.Memory.{IsImage, LeftIn, LeftSince, next}
use Rattle.mf_journal.specs.declared.log.Log.{Log}
use Rattle.mf_journal.specs.declared.history.History.{History}

abbrev Goes : History → History → Type 0
Goes k now =
    Advances k.log.calls now.log.calls (LeftSince k) (LeftSince now)
    (IsImage now.origin.first now.log.writes)

-- either of two logs after one call more
pub one_of : (test : Bool) (a b : Log) (n : ℕ) → a.calls ≡ n → b.calls ≡ n
    → (if test then a else b).calls ≡ n
one_of true a b n is_a is_b = is_a
one_of false a b n is_a is_b = is_b

module _ (l : Log) (k : History) (counts : l.calls ≡ k.log.calls + 1) where
  step : (t : ℕ) → t ≤ k.log.calls → l.calls - t ≡ suc (k.log.calls - t)
  step t le = omega arith

  nothing_else : (t : ℕ) (c : List ℕ) → t ≤ k.log.calls → LeftSince (next l k) t c
      → LeftSince k t c ⊎ IsImage k.origin.first l.writes c
  nothing_else t c le (inl now) = inr now
  nothing_else t c le (inr past) =
      inl (subst (λ n. LeftIn k.origin.first (take n (k.log ∷ k.before)) c) (step t le) past)

  keeps : (t : ℕ) (c : List ℕ) → t ≤ k.log.calls → LeftSince k t c → LeftSince (next l k) t c
  keeps t c le left =
      inr (subst (λ n. LeftIn k.origin.first (take n (k.log ∷ k.before)) c) (sym (step t le)) left)

  pub goes : (now : History) → now ≡ next l k → Goes k now
  goes now is =
      subst (Goes k) (sym is)
      (record { later = omega arith; nothing_else = nothing_else; keeps = keeps })

-- after a write, whether it had no memory, was to fail or neither
pub goes_by_write : (full fails : Bool) (at : ℕ) (bytes : List ℕ) (k now : History)
    → now ≡ next (if full then lost k.log else if fails then tried at bytes k.log
    else after (call.write at bytes) k.log) k
    → Goes k now
goes_by_write true fails at bytes k now is = goes (lost k.log) k refl now is
goes_by_write false true at bytes k now is = goes (tried at bytes k.log) k refl now is
goes_by_write false false at bytes k now is = goes (after (call.write at bytes) k.log) k refl now is
