use Rattle.std.proofs.Common.{◌∙◌, ap}
use Rattle.std.specs.Prelude.{slice_index_or}
use Rattle.mf_places.specs.Names.{name_at}
use Rattle.mf_places.specs.Numbers.{number_of}
use Rattle.mf_places.proofs.Names.{number_of-name_at}
use Rattle.mf_vault.specs.declared.answers.Rest.TheVariants as rest
use Rattle.mf_report.proofs.Listed.{if_ok-map}
use Rattle.mf_report.proofs.dumps.rest_of.Goals as goal

pub returns : goal.returns
returns c =
    let r = c.args.plain.now in
    let name = c.name.ensures.value ∙ ap (λ b. name_at b c.args.n) c.book.ensures in
    if_ok-map c.rest.result _ _
    (λ s is. is ∙ ap (λ m. slice_index_or r.names m rest.Unborn)
    (ap (number_of r.book) name ∙ (number_of-name_at r.book c.args.n c.requires).1)) c.rest.ensures.state
