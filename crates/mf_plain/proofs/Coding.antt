-- The steps in the words of the code.
use Rattle.std.proofs.Common.{◌≡◌, ℕ, ◌<◌, Bool, List, [], ◌∷◌, ◌++◌, get_or, set, sym, refl, ap, ◌∙◌, subst, arith}
use Rattle.std.proofs.lemmas.List.{get_or_read}
use Rattle.mf_machine.specs.declared.answer.State.{State}
use Rattle.mf_machine.specs.declared.answer.State.TheVariants as state
use Rattle.mf_machine.specs.Steps as row
use Rattle.mf_places.specs.declared.Name.{Name}
use Rattle.mf_places.specs.Names.{count_of}
use Rattle.mf_places.specs.Numbers.{number_of}
use Rattle.mf_vault.specs.declared.answers.Answer.{Answer}
use Rattle.mf_vault.specs.declared.answers.Entry.{Entry}
use Rattle.mf_vault.specs.declared.answers.Entry.TheVariants as entry
use Rattle.mf_vault.specs.declared.answers.Got.{Got}
use Rattle.mf_vault.specs.declared.answers.Got.TheVariants as got
use Rattle.mf_vault.specs.declared.answers.Op.{Op}
use Rattle.mf_vault.specs.declared.answers.Rest.{Rest}
use Rattle.mf_vault.specs.declared.answers.Rest.TheVariants as rest
use Rattle.mf_vault.specs.Actor.{Call, state_answer, change_answer, noted}
use Rattle.mf_vault.specs.Actor as call
use Rattle.mf_vault.specs.Answers.{was_dropped, was_lost}
use Rattle.mf_vault.specs.May.{MayPut, MayRestore, MayDiscard, MayLose, MayGet}
use Rattle.mf_vault.specs.Facts.{cell_of}
use Rattle.mf_vault.specs.Resting as resting
use Rattle.mf_plain.specs.declared.access.PlainAccess.{PlainAccess}
use Rattle.mf_plain.specs.Alone.{Stored}
use Rattle.mf_plain.specs.Found.{StateIn, GotIn, IsThereIn, rest_in}
use Rattle.mf_plain.specs.Stored.{dropped_of, lost_of}
use Rattle.mf_plain.specs.Whole.{stored_of, facts_in, actor_of}
use Rattle.mf_plain.proofs.Going as going
use Rattle.mf_plain.proofs.Named as named

-- a call of the access, and what is stored after it
abbrev pub Step : PlainAccess → Call → Stored → Type 0
Step s c t = going.Step s.book s.born s.ticks s.known.value (stored_of s) s.ledger.items s.cut c t

abbrev pub with_names : PlainAccess → List Rest → Stored
with_names s names = record (stored_of s) { names = names }

pub found : (s : PlainAccess) (x : Name) (a : State) → StateIn s x a → named.FoundAs s.stands x a
found s x state.Unborn q = q
found s x state.Here q = q
found s x (state.Lost l) q = q
found s x (state.Away t) q = q

pub got_as : (s : PlainAccess) (x : Name) (o : Got) → GotIn s x o → named.GotAs s.stands x o
got_as s x (got.Here c) q = q
got_as s x (got.Lost l) q = q
got_as s x (got.Away t) q = q
got_as s x got.Memory q = q

-- a name's number, as the code has it
at_number : (s : PlainAccess) (c : Call) (x : Name) (n : ℕ) (r r' : Rest) → n ≡ number_of s.book x → r ≡ r'
    → Step s c (with_names s (set s.names.items (number_of s.book x) r'))
    → Step s c (with_names s (set s.names.items n r))
at_number s c x n r r' e is step = subst (λ i. Step s c (with_names s (set s.names.items i r))) (sym e)
    (subst (λ y. Step s c (with_names s (set s.names.items (number_of s.book x) y))) (sym is) step)

pub puts : (s : PlainAccess) (x : Name) (bytes : List ℕ) (n : ℕ) → MayPut x (actor_of s)
    → bytes ≡ cell_of (facts_in s) x → n ≡ number_of s.book x
    → Step s (call.put x) (with_names s (set s.names.items n (rest.Here bytes)))
puts s x bytes n m is e =
    at_number s (call.put x) x n (rest.Here bytes) (rest.Here bytes) e refl (named.puts s.stands x bytes m is)

pub restores : (s : PlainAccess) (x : Name) (bytes : List ℕ) (n : ℕ) → MayRestore x (actor_of s)
    → bytes ≡ cell_of (facts_in s) x
    → n ≡ number_of s.book x → Step s (call.restore x) (with_names s (set s.names.items n (rest.Here bytes)))
restores s x bytes n m is e =
    at_number s (call.restore x) x n (rest.Here bytes) (rest.Here bytes) e refl (named.restores s.stands x bytes m is)

-- what the code reads of a name
read_is : (s : PlainAccess) (x : Name) (n : ℕ) (r : Rest) → (n ≡ number_of s.book x) → n < count_of s.book
    → r ≡ get_or s.names.items n r
    → rest_in s x ≡ r
read_is s x n r e low at = sym (get_or_read s.names.items n r (let l = s.stands.names in omega arith) at rest.Unborn
    ∙ ap (λ i. get_or s.names.items i rest.Unborn) e)

pub drops : (s : PlainAccess) (x : Name) (n : ℕ) (r r' : Rest) (a : Bool) → MayDiscard x (actor_of s)
    → n ≡ number_of s.book x → n < count_of s.book
    → r ≡ get_or s.names.items n r → a ≡ was_dropped (row.drop_answer (resting.word_of r)) → r' ≡ dropped_of r
    → Step s (call.discard x a) (with_names s (set s.names.items n r'))
drops s x n r r' a m e low at is new = at_number s (call.discard x a) x n r' (dropped_of r) e new
    (named.drops s.stands x r a (read_is s x n r e low at) m is)

pub loses : (s : PlainAccess) (x : Name) (l n : ℕ) (r r' : Rest) (a : Bool) → MayLose x l (actor_of s)
    → n ≡ number_of s.book x → n < count_of s.book
    → r ≡ get_or s.names.items n r → was_lost a ≡ row.lose_answer (resting.word_of r) → r' ≡ lost_of l r
    → Step s (call.lose x l a) (with_names s (set s.names.items n r'))
loses s x l n r r' a m e low at is new = at_number s (call.lose x l a) x n r' (lost_of l r) e new
    (named.loses s.stands x r l a (read_is s x n r e low at) m is)

pub there : (s : PlainAccess) (x : Name) → MayGet x (actor_of s) → IsThereIn s x
there s x m = named.there s.stands x (rest_in s x) refl m

-- an entry, as the code makes it
pub entered : (o : Op) (x : Name) (a a' : Answer) (es es' : List Entry) → es' ≡ es ++ entry.Chunk o x a ∷ [] → a ≡ a'
    → es' ≡ es ++ noted o x a'
entered o x a a' es es' e is = e ∙ ap (λ y. es ++ entry.Chunk o x y ∷ []) is
