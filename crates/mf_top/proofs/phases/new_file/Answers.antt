use Rattle.std.proofs.Common.{◌≡◌, ◌≤◌, length, ap, ◌∙◌, sym, subst, arith}
use Rattle.mf_code.specs.Chunks.{chunk_count}
use Rattle.mf_script.specs.Contents.{bytes_in}
use Rattle.mf_script.proofs.Limits.{fit_file}
use Rattle.mf_top.proofs.phases.new_file.Goals as goal

pub overflow_cast-bytes : goal.overflow_cast-bytes
overflow_cast-bytes c =
    let sound = c.requires.script in
    let is = fit_file c.args.script.now c.args.n c.args.line.now sound.files sound.each c.requires.line in
    let long : length c.as_slice-bytes.result.now ≡ length (bytes_in c.args.line.now.content) =
    ap length (c.as_slice-bytes.ensures.value ∙ c.in_ok-content.ensures) in
    record { fits = omega (arith, is.short, long) }

pub new-requires-clause-chunk : goal.new-requires-clause-chunk
new-requires-clause-chunk c =
    subst (λ n. (1 ≤ n) × (n ≤ 65536)) (sym c.chunk.ensures) c.requires.script.chunk

pub new-requires-clause-file : goal.new-requires-clause-file
new-requires-clause-file c =
    let sound = c.requires.script in
    let is = fit_file c.args.script.now c.args.n c.args.line.now sound.files sound.each c.requires.line in
    omega (arith, is.number)

pub new-requires-clause-length : goal.new-requires-clause-length
new-requires-clause-length c =
    let sound = c.requires.script in
    let is = fit_file c.args.script.now c.args.n c.args.line.now sound.files sound.each c.requires.line in
    let long : length c.as_slice-bytes.result.now ≡ length (bytes_in c.args.line.now.content) =
    ap length (c.as_slice-bytes.ensures.value ∙ c.in_ok-content.ensures) in
    omega (arith, is.short, long)

pub new-requires-clause-chunks : goal.new-requires-clause-chunks
new-requires-clause-chunks c =
    let sound = c.requires.script in
    let is = fit_file c.args.script.now c.args.n c.args.line.now sound.files sound.each c.requires.line in
    let long : length c.as_slice-bytes.result.now ≡ length (bytes_in c.args.line.now.content) =
    ap length (c.as_slice-bytes.ensures.value ∙ c.in_ok-content.ensures) in
    subst (λ n. n ≤ 1024) (λ i. chunk_count (sym c.chunk.ensures i) (sym long i)) is.cut
