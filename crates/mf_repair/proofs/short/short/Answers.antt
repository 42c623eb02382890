use Rattle.std.proofs.Common.{◌≡◌, ◌<◌, ◌≤◌, length, ap, sym, ◌∙◌, subst, arith}
use Rattle.mf_read.specs.Asking.{away_in, lost_in}
use Rattle.mf_repair.specs.declared.outcome.RepairOutcome.TheVariants as outcome
use Rattle.mf_repair.specs.Repair.{once}
use Rattle.mf_repair.specs.Mending as mending
use Rattle.mf_repair.specs.Mending.{IsShortOf, told_by}
use Rattle.mf_repair.proofs.Telling.{first_none, first_some}
use Rattle.mf_repair.proofs.short.short.Goals as goal
use Rattle.mf_repair.proofs.short.short.Goals.{in_default-first_away-via-in-Some+else-few}
use Rattle.mf_repair.proofs.short.short.Goals.{in_default-first_away-via-in_default-first_away}

pub returns-in_default : goal.returns-in_default
returns-in_default c = mending.no_memory

pub returns-in-Some : goal.returns-in-Some
returns-in-Some c =
    let (others, is) = first_some (away_in (told_by c.args.entries.now)) c.in-Some.name c.in-Some.server
    (sym c.in-Some.is ∙ c.first_away.ensures) in
    mending.unreachable c.in-Some.name c.in-Some.server others
    (let few = c.if-few.true in let l = ap length (c.as_slice.ensures ∙ c.in-Ok.ensures) in omega arith) is

pub returns-in_default-first_away : goal.returns-in_default-first_away
returns-in_default-first_away c =
    let found = told_by c.args.entries.now in
    let l = ap length (c.as_slice.ensures ∙ c.in-Ok.ensures) in
    subst (λ lost. IsShortOf c.args.most c.args.g c.args.j found (outcome.DataLost c.args.g c.args.j lost))
    (sym c.in-Ok.ensures) (mending.data_lost (elim c.in_default-first_away.branch [
      | in_default-first_away-via-in-Some+else-few w ↦ let many = w.if-few.false in omega arith
      | in_default-first_away-via-in_default-first_away w ↦
          c.requires (first_none (away_in found) (sym w.in_default-first_away.is ∙ c.first_away.ensures))
    ]))
