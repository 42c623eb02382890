-- Sums of counts that fit in 64 bits.
use Rattle.std.proofs.Common.{◌≡◌, ℕ, ◌+◌, ◌^◌, ◌<◌, ◌≤◌, List, length, take, get_or, map, ap, arith}
use Rattle.std.specs.List.{All, sum_by}
use Rattle.std.proofs.lemmas.List.{length-map}
use Rattle.std.proofs.lemmas.List.Sums.{sum_by_more_le, sum_by-le, length-filter, count_by-le-length}
use Rattle.std.proofs.lemmas.List.Elements.{All-filter, All-map, All-weaker}
use Rattle.mf_vault.specs.declared.io.Io.{Io}
use Rattle.mf_vault.specs.Counting.{no_io, SumFits}
use Rattle.mf_client.specs.declared.done.Done.{Done}
use Rattle.mf_client.specs.Runs.{IsSmall}
use Rattle.mf_report.specs.Counts.{SumsFit, total_io}
use Rattle.mf_report.specs.Commands.{converts}
use Rattle.mf_report.specs.Report.{conversions}

-- the sum of one kind so far and the next number fit, where the whole sum does
next_fits : (f : Io → ℕ) (ios : List Io) (i sum : ℕ) → sum ≡ sum_by f (take i ios) → i < length ios
    → sum_by f ios < 2 ^ 64 → sum + f (get_or ios i no_io) < 2 ^ 64
next_fits f ios i sum e within fits = omega (arith, sum_by_more_le f ios i no_io within)

-- so do those of each kind
pub next_fit : (ios : List Io) (i : ℕ) (sum : Io) → sum ≡ total_io (take i ios) → i < length ios → SumsFit ios
    → SumFits sum (get_or ios i no_io)
next_fit ios i sum e within fit = record {
  pieces =
      next_fits (λ (io : Io). io.pieces) ios i sum.pieces (ap (λ (io : Io). io.pieces) e) within fit.pieces;
  copies =
      next_fits (λ (io : Io). io.copies) ios i sum.copies (ap (λ (io : Io). io.copies) e) within fit.copies;
  parities =
      next_fits (λ (io : Io). io.parities) ios i sum.parities (ap (λ (io : Io). io.parities) e) within fit.parities;
  misses =
      next_fits (λ (io : Io). io.misses) ios i sum.misses (ap (λ (io : Io). io.misses) e) within fit.misses;
  writes =
      next_fits (λ (io : Io). io.writes) ios i sum.writes (ap (λ (io : Io). io.writes) e) within fit.writes;
  probes =
      next_fits (λ (io : Io). io.probes) ios i sum.probes (ap (λ (io : Io). io.probes) e) within fit.probes;
  drops =
      next_fits (λ (io : Io). io.drops) ios i sum.drops (ap (λ (io : Io). io.drops) e) within fit.drops;
}

-- the sum of one kind fits, where each number of it is below 2 ^ 32 and there aren't many
kind_fits : (f : Io → ℕ) → ((io : Io) → IsSmall io → f io ≤ 2 ^ 32) → (ios : List Io) → length ios ≤ 4096
    → All IsSmall ios → sum_by f ios < 2 ^ 64
kind_fits f small ios few all =
    omega (arith, sum_by-le f (2 ^ 32) ios (All-weaker IsSmall (λ io. f io ≤ 2 ^ 32) small ios all))

-- the sums of few counts of small numbers fit
small_fit : (ios : List Io) → length ios ≤ 4096 → All IsSmall ios → SumsFit ios
small_fit ios few all = record {
  pieces = kind_fits (λ (io : Io). io.pieces) (λ io small. omega (arith, small.pieces)) ios few all;
  copies = kind_fits (λ (io : Io). io.copies) (λ io small. omega (arith, small.copies)) ios few all;
  parities = kind_fits (λ (io : Io). io.parities) (λ io small. omega (arith, small.parities)) ios few all;
  misses = kind_fits (λ (io : Io). io.misses) (λ io small. omega (arith, small.misses)) ios few all;
  writes = kind_fits (λ (io : Io). io.writes) (λ io small. omega (arith, small.writes)) ios few all;
  probes = kind_fits (λ (io : Io). io.probes) (λ io small. omega (arith, small.probes)) ios few all;
  drops = kind_fits (λ (io : Io). io.drops) (λ io small. omega (arith, small.drops)) ios few all;
}

-- the sums of what commands took fit
pub done_fit : (done : List Done) (ios : List Io) → ios ≡ map (λ (d : Done). d.io) done
    → length done ≤ 4096 → All (λ (d : Done). IsSmall d.io) done → SumsFit ios
done_fit done ios e few all =
    rw e (small_fit (map (λ (d : Done). d.io) done) (simp length-map few)
    (All-map IsSmall (λ (d : Done). d.io) done all))

-- so do those of what the commands took that convert
pub conversions_fit : (done : List Done) (ios : List Io) → ios ≡ map (λ (d : Done). d.io) (conversions done)
    → length done ≤ 4096 → All (λ (d : Done). IsSmall d.io) done → SumsFit ios
conversions_fit done ios e few all =
    done_fit (conversions done) ios e
    (let p = λ (d : Done). converts d.act in omega (arith, length-filter p done, count_by-le-length p done))
    (All-filter (λ (d : Done). converts d.act) (λ (d : Done). IsSmall d.io) done all)
