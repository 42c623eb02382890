-- A create and a remove have few entries.
use Rattle.std.proofs.Common.{◌≡◌, ◌<◌, ◌≤◌, ◌^◌, List, [], ◌∷◌, ◌++◌, length, length-append, refl, arith}
use Rattle.mf_machine.specs.declared.answer.State.{State}
use Rattle.mf_machine.specs.declared.answer.State.TheVariants.{Unborn, Here, Lost, Away}
use Rattle.mf_places.specs.declared.Name.{Name}
use Rattle.mf_places.specs.Facts.{IsBook}
use Rattle.mf_vault.specs.Facts.{Facts}
use Rattle.mf_vault.specs.Actor.{Actor, Call, end, publish}
use Rattle.mf_vault.specs.Licence.{entries_of}
use Rattle.mf_convert.specs.declared.change.Change.{Change}
use Rattle.mf_convert.specs.Create as create
use Rattle.mf_convert.specs.Create.{IsCreate, Creates, probes, bring, brings, first_names}
use Rattle.mf_convert.specs.Remove as remove
use Rattle.mf_convert.specs.Remove.{IsRemove, Removes}
use Rattle.mf_convert.proofs.Few.{names_few}
use Rattle.mf_convert.proofs.Fewer.{calls_few, probes_few}

bring_few : (x : Name) (s : State) → length (bring x s) ≤ 1
bring_few x Unborn = omega arith
bring_few x Here = omega arith
bring_few x (Lost l) = omega arith
bring_few x (Away s) = omega arith

brings_few : (xs : List Name) (ss : List State) → length (brings xs ss) ≤ length xs
brings_few [] ss = omega arith
brings_few (x ∷ xs) [] = omega arith
brings_few (x ∷ xs) (s ∷ ss) =
    let r = brings_few xs ss in
    let o = bring_few x s in
    let e = length-append (bring x s) (brings xs ss) in omega arith

create_few : {f : Facts} {o : Change} {cs : List Call} → IsBook f.book → IsCreate f o cs → length cs ≤ 60004
create_few book create.busy = omega arith
create_few book (create.was_there gs g) = omega arith
create_few book (create.was_removed gs) = omega arith
create_few book (create.no_memory gs) = omega arith
create_few {f = f} book (create.created gs ss long) =
    let xs = first_names f in
    let few = names_few f.book 0 book in
    let last = publish 1 ∷ end ∷ [] in
    let p = probes_few xs ss in
    let b = brings_few xs ss in
    let d = length-append (probes xs ss) (brings xs ss ++ last) in
    let e = length-append (brings xs ss) last in omega arith

pub creates_few : {o : Change} {a b : Actor} → IsBook a.facts.book → (x : Creates o a b)
    → length (entries_of x.calls) < 2 ^ 24
creates_few book x = let few = create_few book x.licence in let calls = calls_few x.calls in omega arith

remove_few : {f : Facts} {o : Change} {cs : List Call} → IsRemove f o cs → length (entries_of cs) ≡ 0
remove_few remove.busy = refl
remove_few (remove.absent gs) = refl
remove_few (remove.was_removed gs) = refl
remove_few (remove.removed_now gs g) = refl

pub removes_few : {o : Change} {a b : Actor} → (x : Removes o a b) → length (entries_of x.calls) < 2 ^ 24
removes_few x = let few = remove_few x.licence in omega arith
