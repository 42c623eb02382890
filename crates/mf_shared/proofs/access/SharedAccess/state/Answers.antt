use Rattle.std.proofs.Common.{rules, ◌<◌, sym, ap, ◌∙◌, subst}
use Rattle.mf_places.specs.Facts.{BookFacts}
use Rattle.mf_places.specs.Names.{count_of}
use Rattle.mf_places.specs.Numbers.{number_of}
use Rattle.mf_places.specs.Placement.{server_of}
use Rattle.mf_places.specs.Servers.{IsIn}
use Rattle.mf_vault.specs.Answers.{IsReached}
use Rattle.mf_gate.specs.Passes.{about}
use Rattle.mf_shared.specs.Whole.{told_by}
use Rattle.mf_shared.proofs.Noting.{see_meets}
use Rattle.mf_shared.proofs.Seen.{see_made}
use Rattle.mf_shared.proofs.access.SharedAccess.state.Goals as goal

pub returns-clause-made : goal.returns-clause-made
returns-clause-made g c = let s = c.args.self.now in let z = s.shared.now in let y = c.args.name in
    let same = c.number-n.ensures.value ∙ ap (λ (b : BookFacts). number_of b y) z.book_is in
    let low = subst (λ (b : BookFacts). c.number-n.result < count_of b) z.book_is c.number-n.ensures.low in
    let server = c.server-server.ensures.value ∙ ap (λ (b : BookFacts). server_of b y) z.book_is in
    let reached : IsReached (told_by s) y = λ h. let h = subst (IsIn s.cut) (sym server) h in
    let is = c.has.ensures.1 h in let no = c.if-has.false in search rules in
    see_made z s.pass s.ledger.items s.cut y c.see.new.pass c.number-n.result c.see.ensures.row.0 c.see.result s.at.1
    same
    (subst (λ j. j < count_of (about z.gate).book) same low) reached c.see.ensures.row.1 c.see.ensures.row.2

pub returns-clause-noted : goal.returns-clause-noted
returns-clause-noted g c = let s = c.args.self.now in let row = c.see.ensures.row in
    let same = c.number-n.ensures.value ∙ ap (λ (b : BookFacts). number_of b c.args.name) s.shared.now.book_is in
    see_meets s.shared.now s.pass c.see.new.pass c.args.name c.number-n.result s.at.1 same row.0 c.see.result row.1
    row.2
