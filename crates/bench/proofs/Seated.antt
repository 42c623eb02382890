-- The seats of all jobs: of those at each place, and of those behind the first one.
use Rattle.std.proofs.Common.{◌≡◌, ℕ, ◌<◌, List, ◌∷◌, length, get_or, All, subst, suc, arith}
use Rattle.mf_shared.specs.declared.shared.Shared.{Shared}
use Rattle.mf_shared.specs.Seats.{IsOf}
use Rattle.bench.specs.declared.accesses.Job.{Job}

pub all_done : (s : Shared) (n : ℕ) (done : List Job) → length done ≡ n
    → ((i : ℕ) (d : Job) → i < n → IsOf (get_or done i d).seat s) → All (λ (job : Job). IsOf job.seat s) done
all_done s n done e each = λ i d low. each i d (subst (λ (m : ℕ). i < m) e low)

pub all_left : (s : Shared) (x : Job) (all rest : List Job) → all ≡ x ∷ rest
    → All (λ (job : Job). IsOf job.seat s) all → All (λ (job : Job). IsOf job.seat s) rest
all_left s x all rest e h = λ i d low.
    subst (All (λ (job : Job). IsOf job.seat s)) e h (suc i) d (omega arith)
