-- What the commands of a script are on, line by line.
use Rattle.std.proofs.Common.{◌≡◌, ℕ, zero, suc, ◌-◌, ◌<◌, ◌≤◌, List, [], ◌∷◌, ◌++◌, length, get_or}
use Rattle.std.proofs.Common.{refl, arith, All, IfSome, Some, None, Option}
use Rattle.std.proofs.lemmas.List.{length-map, length_push}
use Rattle.std.proofs.lemmas.List.Elements.{All-push, All-nil, All-weaker}
use Rattle.mf_lines.specs.declared.parts.Act.{Act}
use Rattle.mf_lines.specs.declared.parts.Act.TheVariants as act
use Rattle.mf_lines.specs.declared.parts.Client.{Client}
use Rattle.mf_lines.specs.declared.parts.Command.{Command}
use Rattle.mf_lines.specs.declared.parts.FileLine.{FileLine}
use Rattle.mf_lines.specs.declared.parts.Item.{Item}
use Rattle.mf_lines.specs.declared.parts.Item.TheVariants as item
use Rattle.mf_lines.specs.declared.forms.Form.{Form}
use Rattle.mf_lines.specs.declared.forms.Form.TheVariants as says
use Rattle.mf_lines.specs.Meaning.{Script, SoFar, on_last, with_client, client_with, with_command, with_form}
use Rattle.mf_lines.specs.Meaning.{names_in, file_in, phases_in}
use Rattle.mf_lines.specs.Keeps.{IsPolicied, Keeps}
use Rattle.mf_lines.proofs.LineWordLemmas.{KnowsFile}
use Rattle.mf_script.specs.Limits.{in_clients, in_item, in_items}
use Rattle.mf_script.specs.Sound.{OfClients, OfItems, IsKnown}

abbrev bare_client : Client
bare_client = record { commands = [] }

clients_weaker : (P Q : Command → Type 0) → ((c : Command) → P c → Q c) → (cs : List Client) → OfClients P cs
    → OfClients Q cs
clients_weaker P Q w [] h = tt
clients_weaker P Q w (c ∷ cs) h = (All-weaker P Q w c.commands h.0, clients_weaker P Q w cs h.1)

items_weaker : (P Q : Command → Type 0) → ((c : Command) → P c → Q c) → (items : List Item) → OfItems P items
    → OfItems Q items
items_weaker P Q w [] h = tt
items_weaker P Q w (item.Tick ticks ∷ items) h = items_weaker P Q w items h
items_weaker P Q w (item.Phase cs ∷ items) h = (clients_weaker P Q w cs h.0, items_weaker P Q w items h.1)

-- ---- one more at the end

client_more : (P : Command → Type 0) (cs : List Client) → OfClients P cs → OfClients P (cs ++ bare_client ∷ [])
client_more P [] h = (All-nil P, tt)
client_more P (c ∷ cs) h = (h.0, client_more P cs h.1)

command_more : (P : Command → Type 0) (x : Command) (cs : List Client) → P x → OfClients P cs
    → OfClients P (on_last (client_with x) cs)
command_more P x [] p h = tt
command_more P x (c ∷ []) p h = (All-push P c.commands x h.0 p, tt)
command_more P x (c ∷ d ∷ cs) p h = (h.0, command_more P x (d ∷ cs) p h.1)

phase_items : (P : Command → Type 0) (items : List Item) → OfItems P items → OfItems P (items ++ item.Phase [] ∷ [])
phase_items P [] h = (tt, tt)
phase_items P (item.Tick ticks ∷ items) h = phase_items P items h
phase_items P (item.Phase cs ∷ items) h = (h.0, phase_items P items h.1)

tick_items : (P : Command → Type 0) (ticks : ℕ) (items : List Item) → OfItems P items
    → OfItems P (items ++ item.Tick ticks ∷ [])
tick_items P ticks [] h = tt
tick_items P ticks (item.Tick more ∷ items) h = tick_items P ticks items h
tick_items P ticks (item.Phase cs ∷ items) h = (h.0, tick_items P ticks items h.1)

client_items : (P : Command → Type 0) (items : List Item) → OfItems P items → OfItems P (on_last with_client items)
client_items P [] h = tt
client_items P (item.Tick ticks ∷ []) h = tt
client_items P (item.Tick ticks ∷ y ∷ items) h = client_items P (y ∷ items) h
client_items P (item.Phase cs ∷ []) h = (client_more P cs h.0, tt)
client_items P (item.Phase cs ∷ y ∷ items) h = (h.0, client_items P (y ∷ items) h.1)

command_items : (P : Command → Type 0) (x : Command) (items : List Item) → P x → OfItems P items
    → OfItems P (on_last (with_command x) items)
command_items P x [] p h = tt
command_items P x (item.Tick ticks ∷ []) p h = tt
command_items P x (item.Tick ticks ∷ y ∷ items) p h = command_items P x (y ∷ items) p h
command_items P x (item.Phase cs ∷ []) p h = (command_more P x cs p h.0, tt)
command_items P x (item.Phase cs ∷ y ∷ items) p h = (h.0, command_items P x (y ∷ items) p h.1)

-- ---- of the lines

abbrev pub AreKnown : Script → Type 0
AreKnown s = OfItems (IsKnown (length s.files) s.policy) s.items

some_weaker : (o : Option ℕ) (m n : ℕ) → m ≤ n → IfSome o (λ file. file < m) → IfSome o (λ file. file < n)
some_weaker None m n low h = tt
some_weaker (Some file) m n low h = omega arith

grown : (m n : ℕ) (policy : Option (List ℕ)) → m ≤ n → (items : List Item) → OfItems (IsKnown m policy) items
    → OfItems (IsKnown n policy) items
grown m n policy low items h =
    items_weaker (IsKnown m policy) (IsKnown n policy) (λ c k. (some_weaker (file_in c.act) m n low k.0, k.1)) items h

policied : (policy : Option (List ℕ)) (thresholds : List ℕ) (x : Act) → IsPolicied policy x
    → IsPolicied (Some thresholds) x
policied policy thresholds act.Sweep k = refl
policied policy thresholds any_other k = tt

ruled : (n : ℕ) (policy : Option (List ℕ)) (thresholds : List ℕ) (items : List Item) → OfItems (IsKnown n policy) items
    → OfItems (IsKnown n (Some thresholds)) items
ruled n policy thresholds items h =
    items_weaker (IsKnown n policy) (IsKnown n (Some thresholds)) (λ c k. (k.0, policied policy thresholds c.act k.1))
    items h

named : (s : Script) (o : Option ℕ) → IfSome o (λ file. file < length (names_in s.files))
    → IfSome o (λ file. file < length s.files)
named s o h = some_weaker o (length (names_in s.files)) (length s.files)
    (let e = length-map s.files (λ (file : FileLine). file.name) in
    omega arith) h

-- one line more
pub known_more : (so : SoFar) (n : ℕ) (form : Form) → KnowsFile (names_in so.script.files) form → Keeps so form
    → AreKnown so.script → AreKnown (with_form so.script n form)
known_more so n (says.Policy thresholds) k own h =
    ruled (length so.script.files) so.script.policy thresholds so.script.items h
known_more so n (says.File file) k own h =
    let l = length_push so.script.files file in
    grown (length so.script.files) (length (so.script.files ++ file ∷ [])) so.script.policy (omega arith)
    so.script.items h
known_more so n (says.Tick ticks) k own h =
    tick_items (IsKnown (length so.script.files) so.script.policy) ticks so.script.items h
known_more so n says.Phase k own h = phase_items (IsKnown (length so.script.files) so.script.policy) so.script.items h
known_more so n says.Client k own h = client_items (IsKnown (length so.script.files) so.script.policy) so.script.items h
known_more so n (says.Command act) k own h =
    command_items (IsKnown (length so.script.files) so.script.policy) (record { line = n; act = act }) so.script.items
    (named so.script (file_in act) k, own.1) h
known_more so n form k own h = h

-- ---- of one client

client_at : (P : Command → Type 0) (cs : List Client) (i : ℕ) → OfClients P cs
    → All P (get_or cs i bare_client).commands × (length (get_or cs i bare_client).commands ≤ in_clients cs)
unfolding in_clients
client_at P [] i h = (All-nil P, omega arith)
client_at P (c ∷ cs) zero h = (h.0, omega arith)
client_at P (c ∷ cs) (suc i) h = let r = client_at P cs i h.1 in let low = r.1 in (r.0, omega arith)

phase_at : (P : Command → Type 0) (items : List Item) (i : ℕ) → OfItems P items
    → OfClients P (get_or (phases_in items) i []) × (in_clients (get_or (phases_in items) i []) ≤ in_items items)
unfolding in_items in_item in_clients
phase_at P [] i h = (tt, omega arith)
phase_at P (item.Tick ticks ∷ items) i h = let r = phase_at P items i h in let low = r.1 in (r.0, omega arith)
phase_at P (item.Phase cs ∷ items) zero h = (h.0, omega arith)
phase_at P (item.Phase cs ∷ items) (suc i) h = let r = phase_at P items i h.1 in let low = r.1 in (r.0, omega arith)

-- of each command of a client of a phase, both counted from 0, holds what holds of all, and they are no more than all
pub client_of_phase : (P : Command → Type 0) (items : List Item) (i k : ℕ) → OfItems P items
    → All P (get_or (get_or (phases_in items) i []) k bare_client).commands
    × (length (get_or (get_or (phases_in items) i []) k bare_client).commands ≤ in_items items)
client_of_phase P items i k h =
    let p = phase_at P items i h in
    let c = client_at P (get_or (phases_in items) i []) k p.0 in
    let a = c.1 in
    let b = p.1 in (c.0, omega arith)
