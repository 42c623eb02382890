use Rattle.std.proofs.Common.{ℕ, List, ◌++◌, sym, ap, ◌∙◌, length}
use Rattle.sha2.specs.Sha256.{sha256}
use Rattle.mf_client.proofs.acting.read_file.Goals as goal

pub returns-in-Bytes : goal.returns-in-Bytes
returns-in-Bytes g c =
    let r = c.in-Bytes.ensures in
    let items = r.reads.1.2.4 in (
      r.bytes,
      r.reads,
      r.are.1 ∙ ap length (sym items),
      c.digest.ensures
          ∙ ap sha256 (r.told ∙ ap (λ (l : List ℕ). l ++ r.taken) c.new-hashing.ensures ∙ r.are.0 ∙ sym items),
    )
