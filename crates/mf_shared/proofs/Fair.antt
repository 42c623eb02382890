-- What is promised of the answers.
use Rattle.std.proofs.Common.{ℕ, ◌+◌, ◌<◌, ⊎_elim, subst, arith}
use Rattle.mf_machine.specs.declared.view.View.{View}
use Rattle.mf_machine.specs.Steps.{MayPublish, close_answer}
use Rattle.mf_machine.specs.Worlds.{read}
use Rattle.mf_vault.specs.Answers.{FairClose}
use Rattle.mf_vault.specs.Licence.{erased}
use Rattle.mf_vault.proofs.Closing.{fair_close, own_counted, own_none}
use Rattle.mf_gate.specs.declared.known.About.{About}
use Rattle.mf_gate.specs.Table.{Met, facts_of, file_of}

-- a published number is above what was seen
pub publish_rises : (k : About) (v : View) (next x : ℕ) → Met k v 0 x → MayPublish (file_of k) next v
    → v.seen.number < next
publish_rises k v next x m may = let sits = m.kept.holding.ruled.each m.id v m.at in let low = sits.seen.low in
    let now = sits.right.current may.2 may.3 in let last = may.4.1 in
    ⊎_elim (λ t. let e = t.0 in omega arith) (λ t. let e = t.0 in let l = t.2 in omega arith) may.4.2

-- a close that met x
pub close_fair : (k : About) (v : View) (g x : ℕ) → Met k v (g + 2) x → g < (file_of k).stages
    → FairClose g (close_answer x) (erased v)
close_fair k v g x m l = let s = read (file_of k) m.state in let r = m.kept.holding.ruled in
    subst (λ y. FairClose g (close_answer y) (erased v)) m.word (fair_close g (s.pins g) (erased v)
    (own_counted (file_of k) (facts_of k).opening s r m.id v m.at g l)
    (own_none (file_of k) (facts_of k).opening s r m.id v m.at g l))
