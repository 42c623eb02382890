-- What a phase of a trial leaves of a file at rest, and where a name may be lost.
use Rattle.std.proofs.Common.{◌≡◌, ℕ, ◌<◌, ◌==◌, List, length, get_or, filter, [], ◌∷◌, ◌++◌, ◌+◌, cond, eq-eqb}
use Rattle.std.proofs.Common.{arith, refl, sym, ap, ◌∙◌, subst}
use Rattle.std.proofs.lemmas.Bool.{eqb-true}
use Rattle.std.proofs.lemmas.List.Elements.{filter_passes}
use Rattle.mf_machine.specs.File.{IsLoseLine, listed}
use Rattle.mf_places.specs.declared.Name.{Name}
use Rattle.mf_places.specs.Names.{all_names}
use Rattle.mf_places.specs.Placement.{is_on, server_of}
use Rattle.mf_places.proofs.Names.{All-sublist}
use Rattle.mf_places.specs.declared.losses.LoseLine.{LoseLine}
use Rattle.mf_machine.specs.Counts.{bit}
use Rattle.mf_machine.proofs.Lists.{bit_is}
use Rattle.mf_vault.specs.Actor.{Actor}
use Rattle.mf_vault.specs.Facts.{Facts, file, number, lines}
use Rattle.mf_vault.specs.May.{MayLose}
use Rattle.mf_vault.proofs.Held.{server_is}
use Rattle.tests_life.specs.Mendings.{HasLine}

-- a pushed lose line is one
pub pushed_line : (old : List LoseLine) (line server : ℕ) → HasLine (old ++
    (record { line = line; server = server }) ∷ []) line server
pushed_line [] line server = subst (λ b. 0 < cond b (bit server server) 0 + 0) (sym (eq-eqb line line refl))
    (let e = bit_is server server refl in omega arith)
pushed_line (x ∷ old) line server = let r = pushed_line old line server in omega arith

pub may_lose : (a : Actor) (f : Facts) (line server : ℕ) (names : List Name) (k : ℕ) (d : Name) → a.facts ≡ f
    → names ≡ filter (is_on f.book server) (all_names f.book) → HasLine f.losses line server → k < length names
    → MayLose (get_or names k d) line a
may_lose a f line server names k d same is has low =
    let x = get_or names k d in
    let had = All-sublist f.book (is_on f.book server) names is k d low in
    let pass : is_on f.book server x ≡ Rattle.std.proofs.Common.true = subst (λ (l : List Name). k < length l
    → is_on f.book server (get_or l k d) ≡ Rattle.std.proofs.Common.true) (sym is)
    (filter_passes (is_on f.book server) (all_names f.book) k d) low in
    let on : server_of f.book x ≡ server = eqb-true (server_of f.book x) server pass in
    subst (λ (g : Facts). MayLose x line (record a { facts = g })) (sym same)
    (had, subst (λ s. 0 < listed line s (lines f.losses)) (sym (server_is f x had ∙ on)) has)
