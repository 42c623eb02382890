use Rattle.std.proofs.Common.{◌∙◌, ap}
use Rattle.serde_json.specs.Written.{has_float}
use Rattle.mf_report.proofs.Floats.{report_float}
use Rattle.mf_report.proofs.json.json_of.Goals as goal

pub line_of-requires : goal.line_of-requires
line_of-requires c =
    ap has_float c.in_ok-report.ensures ∙ report_float c.args.script.now c.args.commands.now c.args.files.now
