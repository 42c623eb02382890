use Rattle.std.proofs.lemmas.Bool.{eqb-true, eq-eqb}
use Rattle.std.proofs.lemmas.Nat.{bit_set_by_shift}
use Rattle.mf_places.proofs.servers.Servers.has.Goals as goal

pub returns-then-server-lt-MAX_SERVERS : goal.returns-then-server-lt-MAX_SERVERS
returns-then-server-lt-MAX_SERVERS c =
    let set = bit_set_by_shift c.args.self.bits c.args.server in
    (λ test. (c.if-server-lt-MAX_SERVERS.true, set.0 (eqb-true _ _ test)), λ h. eq-eqb _ _ (set.1 h.1))
