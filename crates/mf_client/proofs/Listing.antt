-- A lose command stands among the lose lines up to the end of its phase.
use Rattle.std.proofs.Common.{◌≡◌, ℕ, zero, suc, ◌+◌, ◌-◌, ◌<◌, ◌≤◌, ◌==◌, true, List, [], ◌∷◌, ◌++◌, length, take}
use Rattle.std.proofs.Common.{get_or}
use Rattle.std.proofs.Common.{refl, sym, ap, ◌∙◌, subst, arith}
use Rattle.std.specs.List.{flat_map}
use Rattle.std.proofs.lemmas.Bool.{cond-true}
use Rattle.std.proofs.lemmas.List.{get_or-take, length-take}
use Rattle.mf_machine.specs.Counts.{bit}
use Rattle.mf_machine.specs.File.{listed}
use Rattle.mf_machine.proofs.Lists.{bit_is}
use Rattle.mf_places.specs.declared.losses.LoseLine.{LoseLine}
use Rattle.mf_lines.specs.declared.parts.Act.{Act}
use Rattle.mf_lines.specs.declared.parts.Act.TheVariants as act
use Rattle.mf_lines.specs.declared.parts.Client.{Client}
use Rattle.mf_lines.specs.declared.parts.Command.{Command}
use Rattle.mf_lines.specs.Meaning.{Script, phases_in}
use Rattle.mf_script.specs.Losses.{lost_by, client_losses, phase_losses, losses_of}
use Rattle.mf_script.specs.Phases.{clients_of}
use Rattle.mf_vault.specs.Facts.{lines}
use Rattle.mf_client.specs.Clients.{commands_of, HasClient}

module _ (l s : ℕ) where
  here : List LoseLine → ℕ
  here xs = listed l s (lines xs)

  here_append : (xs ys : List LoseLine) → listed l s (lines (xs ++ ys)) ≡ listed l s (lines xs) + listed l s (lines ys)
  here_append [] ys = omega arith
  here_append (x ∷ xs) ys = let e = here_append xs ys in omega arith

  -- what is among the lines of an element is among those of all
  here_all : {X : Type 0} (f : X → List LoseLine) (xs : List X) (i : ℕ) (d : X) → i < length xs
      → listed l s (lines (f (get_or xs i d))) ≤ listed l s (lines (flat_map f xs))
  here_all f [] i d low = absurd (omega arith)
  here_all f (x ∷ xs) zero d low = let e = here_append (f x) (flat_map f xs) in omega arith
  here_all f (x ∷ xs) (suc i) d low =
      let e = here_append (f x) (flat_map f xs) in
      let r = here_all f xs i d (omega arith) in omega arith

  one_here : (line : ℕ) (x : Act) → line ≡ l → x ≡ act.Lose s → 0 < listed l s (lines (lost_by line x))
  one_here line x e is = subst (λ (n : ℕ). 0 < listed l s (lines (lost_by n x))) (sym e)
      (subst (λ (y : Act). 0 < listed l s (lines (lost_by l y))) (sym is)
      (let b = bit_is s s refl in
      let c = cond-true (l == l) (bit s s) 0 (Rattle.std.proofs.Common.eq-eqb l l refl) in omega arith))

pub lose_listed : (s : Script) (phase client i server : ℕ) (d : Command) → HasClient s phase client
    → i < length (commands_of s phase client)
    → (get_or (commands_of s phase client) i d).act ≡ act.Lose server
    → 0 < listed (get_or (commands_of s phase client) i d).line server (lines (losses_of s phase))
lose_listed s phase client i server d has low is =
    let c = get_or (commands_of s phase client) i d in
    let l = c.line in
    let bare : Client = record { commands = [] } in
    let phases = phases_in s.items in
    let one = one_here l server l c.act refl is in
    let by_command = here_all l server (λ (command : Command). lost_by command.line command.act)
    (commands_of s phase client) i d low in
    let by_client = here_all l server client_losses (clients_of s phase) (client - 1) bare
    (let x = has.clients.0 in let y = has.clients.1 in omega arith) in
    let front = length-take phase phases in
    let by_phase = here_all l server phase_losses (take phase phases) (phase - 1) []
    (let x = has.phases.0 in let y = has.phases.1 in omega arith) in
    let at = get_or-take phase phases (phase - 1) [] (let x = has.phases.0 in omega arith) in
    let same = ap (λ x. listed l server (lines (phase_losses x))) at in
    omega arith
