-- How a run of disk calls goes on.
use Rattle.std.proofs.Common.{inl, inr, ⊎_elim, ℕ, List, arith}
use Rattle.mf_journal.specs.Crash.{Advances}
use Rattle.mf_journal.specs.Moments.{AnyMoment}

module _ {D : Type 0} (calls : D → ℕ) (left_since : D → ℕ → List ℕ → Type 0)
    (leaves : D → List ℕ → Type 0) (old : D) (P : List ℕ → Type 0) where
  -- so far, and now, a crash leaves what has P
  pub record Safe (d : D) : Type 0 where
    pub so_far : AnyMoment calls left_since old d P
    pub now : (c : List ℕ) → leaves d c → P c

  -- before the first call
  pub started : ((c : List ℕ) → left_since old (calls old) c → leaves old c)
      → ((c : List ℕ) → leaves old c → P c)
      → Safe old
  started only here = record {
    so_far = record {
      later = omega arith;
      each = λ c left. here c (only c left);
      before = λ t c le left. inl left;
    };
    now = here;
  }

  -- one call more, after which a crash leaves what has P
  pub goes_on : (mid new : D) → Safe mid
      → Advances (calls mid) (calls new) (left_since mid) (left_since new) (leaves new)
      → ((c : List ℕ) → leaves new c → P c) → Safe new
  goes_on mid new safe time here = record {
    so_far = record {
      later = omega (arith, safe.so_far.later, time.later);
      each = λ c left. ⊎_elim (safe.so_far.each c) (here c)
          (time.nothing_else (calls old) c safe.so_far.later left);
      before = λ t c le left. ⊎_elim (safe.so_far.before t c le) (λ now. inr (here c now))
          (time.nothing_else t c (omega (arith, le, safe.so_far.later)) left);
    };
    now = here;
  }

  -- one call more, which adds nothing to what a crash leaves
  pub stays : (mid new : D) → Safe mid
      → Advances (calls mid) (calls new) (left_since mid) (left_since new) (leaves new)
      → ((c : List ℕ) → leaves new c → leaves mid c) → Safe new
  stays mid new safe time less = goes_on mid new safe time (λ c left. safe.now c (less c left))
