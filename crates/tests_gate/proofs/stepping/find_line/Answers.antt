use Rattle.std.proofs.Common.{◌<◌, get_or, subst}
use Rattle.mf_machine.specs.File.{listed}
use Rattle.mf_vault.specs.Facts.{lines}
use Rattle.tests_gate.proofs.Lines.{any_line, line_at}
use Rattle.tests_gate.proofs.stepping.find_line.Goals as goal

pub returns-then-entry-server : goal.returns-then-entry-server
returns-then-entry-server c = let xs = c.args.entries.now in let i = c.loop-entry.entry-index in
    subst (λ s. 0 < listed (get_or xs i any_line).line s (lines xs)) c.if-entry-server.true
    (line_at xs i any_line c.loop-entry-test.true)
