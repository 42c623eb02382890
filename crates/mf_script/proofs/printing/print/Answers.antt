use Rattle.std.specs.Prelude.{option_copied}
use Rattle.mf_script.proofs.TextLemmas.{whole_text}
use Rattle.mf_script.proofs.printing.print.Goals as goal

pub returns : goal.returns
returns c =
    rw (
      c.in_ok-begin.ensures,
      c.in_ok-push_dumps.ensures,
      c.in_ok-push_items.ensures,
      c.in_ok-push_files.ensures,
      c.in_ok-push_policy.ensures,
      c.in_ok-push_families.ensures,
      c.in_ok-push_chunk.ensures,
      c.in_ok-push_servers.ensures,
      c.in_ok-out.ensures.items,
    )
    (whole_text c.args.servers c.args.chunk c.args.families.now (option_copied c.args.policy) c.args.files.now
    c.args.items.now c.args.dumps.now)
