use Rattle.std.proofs.Common.{◌*◌, ◌/◌, ◌%◌, ◌^◌, ap}
use Rattle.std.proofs.Math.Nat.{mod-add-mod}
use Rattle.mf_script.specs.Seeds.{next, draw}
use Rattle.mf_script.proofs.seeds.Draws.draw.Goals as goal

pub returns-clause-value : goal.returns-clause-value
unfolding next draw
returns-clause-value c =
    ap (λ x. (x / 2 ^ 33) % c.args.m)
    (mod-add-mod (c.args.self.now.state * 6364136223846793005) (2 ^ 64) 1442695040888963407)

pub returns-clause-state : goal.returns-clause-state
unfolding next
returns-clause-state c = mod-add-mod (c.args.self.now.state * 6364136223846793005) (2 ^ 64) 1442695040888963407
