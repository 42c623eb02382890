use Rattle.std.proofs.Common.{sym, ap, ◌∙◌, ◌≡◌, subst, map, arith, get_or, List}
use Rattle.std.proofs.lemmas.List.{length-map, get_or-map, map-set}
use Rattle.mf_check.specs.Families.{Code}
use Rattle.mf_lines.specs.declared.parts.FileLine.{FileLine}
use Rattle.mf_script.specs.Contents.{bytes_in}
use Rattle.mf_script.specs.Families.{code_at}
use Rattle.mf_vault.specs.Actor.{Actor}
use Rattle.mf_vault.specs.Conditions.{IsIdle, IsOfFamily}
use Rattle.mf_vault.specs.Counting.{io_of}
use Rattle.mf_client.specs.Acts.{away_of}
use Rattle.mf_client.specs.Runs.{gained, io_gained}
use Rattle.mf_client.proofs.Numbered.{all_at, got_at, file_low, file_of, io_set}
use Rattle.mf_client.proofs.running.on_numbered.Goals as goal

pub on_file-requires-clause-idle : goal.on_file-requires-clause-idle
on_file-requires-clause-idle g c =
    let x = c.requires.finds in
    all_at IsIdle g.A.Access.actor c.args.accesses.now c.args.file c.index-accesses-file.result x.idle
    (file_low c.args.script.now c.args.command g.A.Access.actor c.args.accesses.now c.args.file x
    (x.file c.args.file c.requires.file))

pub on_file-requires-clause-family : goal.on_file-requires-clause-family
on_file-requires-clause-family g c =
    let x = c.requires.finds in
    let is = file_of c.args.script.now c.args.command g.A.Access.actor c.args.accesses.now c.args.file
    c.index-accesses-file.result c.index-files-file.result x (x.file c.args.file c.requires.file) in
    subst (λ (code : Code). IsOfFamily code.shape code.points
    (g.A.Access.actor (get_or c.args.accesses.now c.args.file c.index-accesses-file.result)).facts.book)
    (sym (c.family-family.ensures ∙ ap (code_at c.args.script.now) c.family_of.ensures.number)) is.family

pub on_file-requires-clause-bytes : goal.on_file-requires-clause-bytes
on_file-requires-clause-bytes g c =
    let x = c.requires.finds in
    let is = file_of c.args.script.now c.args.command g.A.Access.actor c.args.accesses.now c.args.file
    c.index-accesses-file.result c.index-files-file.result x (x.file c.args.file c.requires.file) in
    is.bytes ∙ ap (λ (l : List FileLine). bytes_in (get_or l c.args.file c.index-files-file.result).content)
    (sym c.files.ensures)

pub on_file-requires-clause-reached : goal.on_file-requires-clause-reached
on_file-requires-clause-reached g c =
    let x = c.requires.finds in
    all_at (λ (a : Actor). a.cut ≡ away_of c.args.command.act) g.A.Access.actor c.args.accesses.now c.args.file
    c.index-accesses-file.result c.requires.reached
    (file_low c.args.script.now c.args.command g.A.Access.actor c.args.accesses.now c.args.file x
    (x.file c.args.file c.requires.file))

pub returns-clause-came : goal.returns-clause-came
returns-clause-came g c =
    let x = c.requires.finds in
    record {
      old = g.A.Access.actor (get_or c.args.accesses.now c.args.file c.index-accesses-file.result);
      new = g.A.Access.actor c.on_file.new.access;
      was = got_at g.A.Access.actor c.args.accesses.now c.args.file c.index-accesses-file.result
          (file_low c.args.script.now c.args.command g.A.Access.actor c.args.accesses.now c.args.file x
          (x.file c.args.file c.requires.file));
      goes = c.on_file.ensures.came;
      is = map-set g.A.Access.actor c.args.accesses.now c.args.file c.on_file.new.access;
    }

pub returns-clause-io : goal.returns-clause-io
returns-clause-io g c =
    let f = g.A.Access.actor in
    let x = c.requires.finds in
    let xs = c.args.accesses.now in
    let n = c.args.file in
    let d = c.index-accesses-file.result in
    let y = f c.on_file.new.access in
    let low = file_low c.args.script.now c.args.command f xs n x (x.file n c.requires.file) in
    let long = length-map xs f in
    c.on_file.ensures.io
    ∙ ap (λ (a : Actor). io_of (gained a y)) (sym (get_or-map f xs n d (f d) low))
    ∙ sym (io_set (map f xs) n (f d) y (omega arith))
    ∙ ap (io_gained (map f xs)) (sym (map-set f xs n c.on_file.new.access))
