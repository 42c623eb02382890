use Rattle.std.proofs.Common.{◌+◌, ap, ◌∙◌, arith}
use Rattle.morph_codes.specs.Handed.{written}
use Rattle.morph_codes.proofs.applying.put_three.Goals as goal

pub returns-clause-first : goal.returns-clause-first
returns-clause-first c =
    let q = c.args.q in
    c.put-3.ensures.others q (λ e. omega arith) ∙ c.put-2.ensures.others q (λ e. omega arith) ∙ c.put.ensures.here

pub returns-clause-second : goal.returns-clause-second
returns-clause-second c =
    let q = c.args.q in
    c.put-3.ensures.others (q + 1) (λ e. omega arith) ∙ c.put-2.ensures.here
    ∙ ap (written c.args.start c.args.b.now) (c.put.ensures.others (q + 1) (λ e. omega arith))

pub returns-clause-third : goal.returns-clause-third
returns-clause-third c =
    let q = c.args.q in
    c.put-3.ensures.here
    ∙ ap (written c.args.start c.args.c.now)
    (c.put-2.ensures.others (q + 2) (λ e. omega arith) ∙ c.put.ensures.others (q + 2) (λ e. omega arith))

pub returns-clause-sizes : goal.returns-clause-sizes
returns-clause-sizes c i = c.put-3.ensures.sizes i ∙ c.put-2.ensures.sizes i ∙ c.put.ensures.sizes i

pub returns-clause-below : goal.returns-clause-below
returns-clause-below c i lt =
    c.put-3.ensures.others i (λ e. omega arith) ∙ c.put-2.ensures.others i (λ e. omega arith)
    ∙ c.put.ensures.others i (λ e. omega arith)

pub returns-clause-above : goal.returns-clause-above
returns-clause-above c i le =
    c.put-3.ensures.others i (λ e. omega arith) ∙ c.put-2.ensures.others i (λ e. omega arith)
    ∙ c.put.ensures.others i (λ e. omega arith)
