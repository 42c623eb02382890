-- The forms of a script's lines are those that it was read from.
use Rattle.std.proofs.Common.{◌≡◌, ℕ, ◌+◌, true, List, [], ◌∷◌, ◌++◌, map, Option, Some, None, refl, sym, ap, ◌∙◌}
use Rattle.std.proofs.Common.{subst, inl, inr}
use Rattle.std.specs.List.{flat_map}
use Rattle.std.proofs.lemmas.List.{append-nil, append_assoc, map_push}
use Rattle.mf_shape.specs.declared.Stage.{Stage}
use Rattle.mf_lines.specs.declared.words.LineWord.{LineWord}
use Rattle.mf_lines.specs.declared.words.LineWord.TheVariants as word
use Rattle.mf_lines.specs.declared.parts.Act.{Act}
use Rattle.mf_lines.specs.declared.parts.Command.{Command}
use Rattle.mf_lines.specs.declared.parts.Client.{Client}
use Rattle.mf_lines.specs.declared.parts.Item.{Item}
use Rattle.mf_lines.specs.declared.parts.Item.TheVariants as item
use Rattle.mf_lines.specs.declared.parts.FileLine.{FileLine}
use Rattle.mf_lines.specs.declared.forms.Form.{Form}
use Rattle.mf_lines.specs.declared.forms.Form.TheVariants as says
use Rattle.mf_lines.specs.Meaning.{Block, Script, SoFar, first_word, on_last, with_points, with_stage, with_client}
use Rattle.mf_lines.specs.Meaning.{client_with, with_command, with_form, no_block, so_before, with_line}
use Rattle.mf_lines.specs.Meaning.{so_with, so_of}
use Rattle.mf_lines.specs.Lines.{may_follow, may_follow_command}
use Rattle.mf_lines.proofs.ListLemmas.{on_last-push}
use Rattle.mf_lines.proofs.FormLemmas.{LineIs}
use Rattle.mf_script.specs.Texts.{HasForms}
use Rattle.mf_script.specs.Printing.{command_form, client_forms, item_forms, block_forms, policy_forms, store_forms}
use Rattle.mf_script.specs.Printing.{script_forms}
use Rattle.mf_script.proofs.Along.{along_text}
use Rattle.mf_script.proofs.Lists.{flat_push}

-- ---- one more at the end

phase_client : (clients : List Client) (client : Client)
    → item_forms (item.Phase (clients ++ client ∷ [])) ≡ item_forms (item.Phase clients) ++ client_forms client
phase_client clients client = ap (λ r. says.Phase ∷ r) (flat_push client_forms clients client)

client_command : (client : Client) (command : Command)
    → client_forms (client_with command client) ≡ client_forms client ++ command_form command ∷ []
client_command client command = ap (λ r. says.Client ∷ r) (map_push command_form client.commands command)

-- a phase is open, and a client is
record HasPhase (items : List Item) : Type 0 where
  before : List Item
  clients : List Client
  is : items ≡ before ++ item.Phase clients ∷ []

record HasClient (items : List Item) : Type 0 where
  before : List Item
  clients : List Client
  client : Client
  is : items ≡ before ++ item.Phase (clients ++ client ∷ []) ∷ []

no_commands : Client
no_commands = record { commands = [] }

client_added : (items : List Item) → HasPhase items
    → (flat_map item_forms (on_last with_client items) ≡ flat_map item_forms items ++ says.Client ∷ [])
    × HasClient (on_last with_client items)
unfolding no_commands
client_added items h =
    let new : on_last with_client items ≡ h.before ++ item.Phase (h.clients ++ no_commands ∷ []) ∷ [] =
    ap (on_last with_client) h.is ∙ on_last-push with_client h.before (item.Phase h.clients) in (
      ap (flat_map item_forms) new ∙ flat_push item_forms h.before (item.Phase (h.clients ++ no_commands ∷ []))
          ∙ ap (λ r. flat_map item_forms h.before ++ r) (phase_client h.clients no_commands)
          ∙ sym (append_assoc (flat_map item_forms h.before) (item_forms (item.Phase h.clients)) (says.Client ∷ []))
          ∙ ap (λ r. r ++ says.Client ∷ []) (sym (flat_push item_forms h.before (item.Phase h.clients))
          ∙ ap (flat_map item_forms) (sym h.is)),
      record { before = h.before; clients = h.clients; client = no_commands; is = new },
    )

command_added : (items : List Item) (command : Command) → HasClient items
    → (flat_map item_forms
    (on_last (with_command command) items) ≡ flat_map item_forms items ++ command_form command ∷ [])
    × HasClient (on_last (with_command command) items)
command_added items command h =
    let new : on_last (with_command command) items ≡ h.before ++ item.Phase
    (h.clients ++ client_with command h.client ∷ []) ∷ [] =
    ap (on_last (with_command command)) h.is
    ∙ on_last-push (with_command command) h.before (item.Phase (h.clients ++ h.client ∷ []))
    ∙ ap (λ cs. h.before ++ item.Phase cs ∷ []) (on_last-push (client_with command) h.clients h.client) in
    let last : item_forms (item.Phase (h.clients ++ client_with command h.client ∷ [])) ≡ item_forms
    (item.Phase (h.clients ++ h.client ∷ [])) ++ command_form command ∷ [] =
    phase_client h.clients (client_with command h.client)
    ∙ ap (λ r. item_forms (item.Phase h.clients) ++ r) (client_command h.client command)
    ∙ sym (append_assoc (item_forms (item.Phase h.clients)) (client_forms h.client) (command_form command ∷ []))
    ∙ ap (λ r. r ++ command_form command ∷ []) (sym (phase_client h.clients h.client)) in (
      ap (flat_map item_forms) new
          ∙ flat_push item_forms h.before (item.Phase (h.clients ++ client_with command h.client ∷ []))
          ∙ ap (λ r. flat_map item_forms h.before ++ r) last
          ∙ sym (append_assoc (flat_map item_forms h.before) (item_forms (item.Phase (h.clients ++ h.client ∷ [])))
          (command_form command ∷ []))
          ∙ ap (λ r. r ++ command_form command ∷ [])
          (sym (flat_push item_forms h.before (item.Phase (h.clients ++ h.client ∷ [])))
          ∙ ap (flat_map item_forms) (sym h.is)),
      record { before = h.before; clients = h.clients; client = client_with command h.client; is = new },
    )

-- ---- the forms so far, by the last line

-- one family, of which there are no points yet
record Bare (s : Script) : Type 0 where
  families : s.families ≡ no_block ∷ []
  policy : s.policy ≡ None
  files : s.files ≡ []
  items : s.items ≡ []
  dumps : s.dumps ≡ []

-- nothing behind the policy
record Unfiled (s : Script) : Type 0 where
  files : s.files ≡ []
  items : s.items ≡ []
  dumps : s.dumps ≡ []

-- one family, and nothing behind it
record Unruled (s : Script) : Type 0 where
  block : Block
  families : s.families ≡ block ∷ []
  policy : s.policy ≡ None
  rest : Unfiled s

filed : Script → List Form
filed s = store_forms s ++ map says.File s.files

body : Script → List Form
unfolding filed
body s = filed s ++ flat_map item_forms s.items

whole : Script → List Form
whole s = body s ++ map says.Dump s.dumps

Built : Option LineWord → Script → List Form → Type 0
Built None s forms = (forms ≡ []) × Bare s
Built (Some word.Morph) s forms = (forms ≡ says.Morph ∷ []) × Bare s
Built (Some word.Servers) s forms = (forms ≡ says.Morph ∷ says.Servers s.servers ∷ []) × Bare s
Built (Some word.Chunk) s forms = (forms ≡ says.Morph ∷ says.Servers s.servers ∷ says.Chunk s.chunk ∷ []) × Bare s
Built (Some word.Points) s forms = (forms ≡ store_forms s) × Unruled s
Built (Some word.Stage) s forms = (forms ≡ store_forms s) × Unruled s
Built (Some word.Policy) s forms = (forms ≡ store_forms s) × Unfiled s
Built (Some word.File) s forms = (forms ≡ filed s) × (s.items ≡ []) × (s.dumps ≡ [])
Built (Some word.Tick) s forms = (forms ≡ body s) × (s.dumps ≡ [])
Built (Some word.Phase) s forms = (forms ≡ body s) × HasPhase s.items × (s.dumps ≡ [])
Built (Some word.Client) s forms = (forms ≡ body s) × HasClient s.items × (s.dumps ≡ [])
Built (Some (word.Command verb)) s forms = (forms ≡ body s) × HasClient s.items × (s.dumps ≡ [])
Built (Some word.Dump) s forms = forms ≡ whole s
Built (Some word.End) s forms = forms ≡ whole s ++ says.End ∷ []

push : (a b : List Form) (f : Form) → a ≡ b → a ++ f ∷ [] ≡ b ++ f ∷ []
push a b f e = ap (λ r. r ++ f ∷ []) e

-- the items of a body, one form longer
longer : (s : Script) (items : List Item) (f : Form)
    → flat_map item_forms items ≡ flat_map item_forms s.items ++ f ∷ []
    → body s ++ f ∷ [] ≡ filed s ++ flat_map item_forms items
unfolding body
longer s items f e = append_assoc (filed s) (flat_map item_forms s.items) (f ∷ []) ∙ ap (λ r. filed s ++ r) (sym e)

-- where no item stands yet
body_filed : (s : Script) → s.items ≡ [] → filed s ≡ body s
unfolding body
body_filed s e = sym (ap (λ is. filed s ++ flat_map item_forms is) e ∙ append-nil (filed s))

-- where no dump stands yet
body_whole : (s : Script) → s.dumps ≡ [] → body s ≡ whole s
unfolding whole
body_whole s e = sym (ap (λ ds. body s ++ map says.Dump ds) e ∙ append-nil (body s))

add_tick : (s : Script) (n ticks : ℕ) (forms : List Form) → forms ≡ body s → s.dumps ≡ []
    → Built (Some word.Tick) (with_form s n (says.Tick ticks)) (forms ++ says.Tick ticks ∷ [])
unfolding Built body filed
add_tick s n ticks forms e bare = (
  push forms (body s) (says.Tick ticks) e
      ∙ longer s (s.items ++ item.Tick ticks ∷ []) (says.Tick ticks) (flat_push item_forms s.items (item.Tick ticks)),
  bare,
)

add_phase : (s : Script) (n : ℕ) (forms : List Form) → forms ≡ body s → s.dumps ≡ []
    → Built (Some word.Phase) (with_form s n says.Phase) (forms ++ says.Phase ∷ [])
unfolding Built body filed
add_phase s n forms e bare = (
  push forms (body s) says.Phase e
      ∙ longer s (s.items ++ item.Phase [] ∷ []) says.Phase (flat_push item_forms s.items (item.Phase [])),
  record { before = s.items; clients = []; is = refl },
  bare,
)

add_client : (s : Script) (n : ℕ) (forms : List Form) → forms ≡ body s → HasPhase s.items → s.dumps ≡ []
    → Built (Some word.Client) (with_form s n says.Client) (forms ++ says.Client ∷ [])
unfolding Built body filed
add_client s n forms e h bare =
    let new = client_added s.items h in
    (push forms (body s) says.Client e ∙ longer s (on_last with_client s.items) says.Client new.0, new.1, bare)

add_command : (s : Script) (n : ℕ) (act : Act) (forms : List Form) → forms ≡ body s → HasClient s.items → s.dumps ≡ []
    → (forms ++ says.Command act ∷ [] ≡ body (with_form s n (says.Command act)))
    × HasClient (with_form s n (says.Command act)).items × ((with_form s n (says.Command act)).dumps ≡ [])
unfolding body filed
add_command s n act forms e h bare =
    let command : Command = record { line = n; act = act } in
    let new = command_added s.items command h in (
      push forms (body s) (says.Command act) e
          ∙ longer s (on_last (with_command command) s.items) (says.Command act) new.0,
      new.1,
      bare,
    )

-- one dump more behind the body and the dumps
add_dump : (s : Script) (n file : ℕ) (forms : List Form) → forms ≡ whole s
    → Built (Some word.Dump) (with_form s n (says.Dump file)) (forms ++ says.Dump file ∷ [])
unfolding Built whole body filed
add_dump s n file forms e =
    push forms (whole s) (says.Dump file) e ∙ append_assoc (body s) (map says.Dump s.dumps) (says.Dump file ∷ [])
    ∙ ap (λ r. body s ++ r) (sym (map_push says.Dump s.dumps file))

-- the lines of the store, where the one family is this
one_block : (s : Script) (block : Block) (policy : Option (List ℕ)) → s.families ≡ block ∷ [] → s.policy ≡ policy
    → store_forms s
    ≡ says.Morph ∷ says.Servers s.servers ∷ says.Chunk s.chunk ∷ (block_forms block ++ policy_forms policy)
one_block s block policy e p =
    (λ i. says.Morph ∷ says.Servers s.servers ∷ says.Chunk s.chunk
    ∷ (flat_map block_forms (e i) ++ policy_forms (p i)))
    ∙ ap (λ r. says.Morph ∷ says.Servers s.servers ∷ says.Chunk s.chunk ∷ (r ++ policy_forms policy))
    (append-nil (block_forms block))

-- and there is no policy
lone_block : (s : Script) (block : Block) → s.families ≡ block ∷ [] → s.policy ≡ None
    → store_forms s ≡ says.Morph ∷ says.Servers s.servers ∷ says.Chunk s.chunk ∷ block_forms block
lone_block s block e none =
    one_block s block None e none
    ∙ ap (λ r. says.Morph ∷ says.Servers s.servers ∷ says.Chunk s.chunk ∷ r) (append-nil (block_forms block))

-- the points behind the chunk size, one stage more behind these, and one file more behind the store's lines
add_points : (s : Script) (forms : List Form) (n : ℕ) (points : List ℕ)
    → forms ≡ says.Morph ∷ says.Servers s.servers ∷ says.Chunk s.chunk ∷ [] → Bare s
    → Built (Some word.Points) (with_form s n (says.Points points)) (forms ++ says.Points points ∷ [])
unfolding Built
add_points s forms n points e bare =
    let one : on_last (with_points points) s.families ≡ with_points points no_block ∷ [] =
    ap (on_last (with_points points)) bare.families in (
      push forms _ (says.Points points) e
          ∙ sym (lone_block (with_form s n (says.Points points)) (with_points points no_block) one bare.policy),
      record {
        block = with_points points no_block;
        families = one;
        policy = bare.policy;
        rest = record { files = bare.files; items = bare.items; dumps = bare.dumps };
      },
    )

add_stage : (s : Script) (forms : List Form) (n : ℕ) (stage : Stage) → forms ≡ store_forms s → Unruled s
    → Built (Some word.Stage) (with_form s n (says.Stage stage)) (forms ++ says.Stage stage ∷ [])
unfolding Built
add_stage s forms n stage e h =
    let one : on_last (with_stage stage) s.families ≡ with_stage stage h.block ∷ [] =
    ap (on_last (with_stage stage)) h.families in (
      push forms _ (says.Stage stage) (e ∙ lone_block s h.block h.families h.policy)
          ∙ ap (λ r. says.Morph ∷ says.Servers s.servers ∷ says.Chunk s.chunk ∷ says.Points h.block.points ∷ r)
          (sym (map_push says.Stage h.block.stages stage))
          ∙ sym (lone_block (with_form s n (says.Stage stage)) (with_stage stage h.block) one h.policy),
      record {
        block = with_stage stage h.block;
        families = one;
        policy = h.policy;
        rest = record { files = h.rest.files; items = h.rest.items; dumps = h.rest.dumps };
      },
    )

-- a policy behind the stages
add_policy : (s : Script) (forms : List Form) (n : ℕ) (thresholds : List ℕ) → forms ≡ store_forms s → Unruled s
    → Built (Some word.Policy) (with_form s n (says.Policy thresholds)) (forms ++ says.Policy thresholds ∷ [])
unfolding Built
add_policy s forms n thresholds e h = (
  push forms _ (says.Policy thresholds) (e ∙ lone_block s h.block h.families h.policy)
      ∙ sym (one_block (with_form s n (says.Policy thresholds)) h.block (Some thresholds) h.families refl),
  record { files = h.rest.files; items = h.rest.items; dumps = h.rest.dumps },
)

add_file : (s : Script) (forms : List Form) (n : ℕ) (file : FileLine) → forms ≡ filed s → s.items ≡ [] → s.dumps ≡ []
    → Built (Some word.File) (with_form s n (says.File file)) (forms ++ says.File file ∷ [])
unfolding Built filed
add_file s forms n file e bare none = (
  push forms (filed s) (says.File file) e ∙ append_assoc (store_forms s) (map says.File s.files) (says.File file ∷ [])
      ∙ ap (λ x. store_forms s ++ x) (sym (map_push says.File s.files file)),
  bare,
  none,
)

filed_bare : (s : Script) → s.files ≡ [] → store_forms s ≡ filed s
unfolding filed
filed_bare s e = sym (ap (λ fs. store_forms s ++ map says.File fs) e ∙ append-nil (store_forms s))

-- behind a client or a command
in_client : (s : Script) (n : ℕ) (forms : List Form) (form : Form) → may_follow_command (first_word form) ≡ true
    → forms ≡ body s → HasClient s.items → s.dumps ≡ []
    → Built (Some (first_word form)) (with_form s n form) (forms ++ form ∷ [])
unfolding Built
in_client s n forms says.Client e is h bare =
    add_client s n forms is (record { before = h.before; clients = h.clients ++ h.client ∷ []; is = h.is }) bare
in_client s n forms says.Phase e is h bare = add_phase s n forms is bare
in_client s n forms (says.Tick ticks) e is h bare = add_tick s n ticks forms is bare
in_client s n forms (says.Command act) e is h bare = add_command s n act forms is h bare
in_client s n forms (says.Dump file) e is h bare = add_dump s n file forms (is ∙ body_whole s bare)
in_client s n forms says.End e is h bare = push forms (whole s) says.End (is ∙ body_whole s bare)
in_client s n forms form e is h bare = absurd cc

built_more : (last : LineWord) (s : Script) (n : ℕ) (forms : List Form) (form : Form)
    → may_follow last (first_word form) ≡ true → Built (Some last) s forms
    → Built (Some (first_word form)) (with_form s n form) (forms ++ form ∷ [])
unfolding may_follow Built
built_more word.Morph s n forms (says.Servers x) e h = (
  push forms _ (says.Servers x) h.0,
  record {
    families = h.1.families;
    policy = h.1.policy;
    files = h.1.files;
    items = h.1.items;
    dumps = h.1.dumps;
  },
)
built_more word.Servers s n forms (says.Chunk x) e h = (
  push forms _ (says.Chunk x) h.0,
  record {
    families = h.1.families;
    policy = h.1.policy;
    files = h.1.files;
    items = h.1.items;
    dumps = h.1.dumps;
  },
)
built_more word.Chunk s n forms (says.Points x) e h = add_points s forms n x h.0 h.1
built_more word.Points s n forms (says.Stage stage) e h = add_stage s forms n stage h.0 h.1
built_more word.Stage s n forms (says.Stage stage) e h = add_stage s forms n stage h.0 h.1
built_more word.Stage s n forms (says.Policy thresholds) e h = add_policy s forms n thresholds h.0 h.1
built_more word.Stage s n forms (says.File file) e h =
    add_file s forms n file (h.0 ∙ filed_bare s h.1.rest.files) h.1.rest.items h.1.rest.dumps
built_more word.Policy s n forms (says.File file) e h =
    add_file s forms n file (h.0 ∙ filed_bare s h.1.files) h.1.items h.1.dumps
built_more word.File s n forms (says.File file) e h = add_file s forms n file h.0 h.1 h.2
built_more word.File s n forms (says.Tick ticks) e h = add_tick s n ticks forms (h.0 ∙ body_filed s h.1) h.2
built_more word.File s n forms says.Phase e h = add_phase s n forms (h.0 ∙ body_filed s h.1) h.2
built_more word.File s n forms (says.Dump file) e h =
    add_dump s n file forms (h.0 ∙ body_filed s h.1 ∙ body_whole s h.2)
built_more word.File s n forms says.End e h =
    push forms (whole s) says.End (h.0 ∙ body_filed s h.1 ∙ body_whole s h.2)
built_more word.Tick s n forms (says.Tick ticks) e h = add_tick s n ticks forms h.0 h.1
built_more word.Tick s n forms says.Phase e h = add_phase s n forms h.0 h.1
built_more word.Tick s n forms (says.Dump file) e h = add_dump s n file forms (h.0 ∙ body_whole s h.1)
built_more word.Tick s n forms says.End e h = push forms (whole s) says.End (h.0 ∙ body_whole s h.1)
built_more word.Phase s n forms says.Client e h = add_client s n forms h.0 h.1 h.2
built_more word.Client s n forms form e h = in_client s n forms form e h.0 h.1 h.2
built_more (word.Command verb) s n forms form e h = in_client s n forms form e h.0 h.1 h.2
built_more word.Dump s n forms (says.Dump file) e h = add_dump s n file forms h
built_more word.Dump s n forms says.End e h = push forms (whole s) says.End h
built_more last s n forms form e h = absurd cc

built_line : (so : SoFar) (line : List ℕ) (form : Form) (before : List Form) → LineIs so line form
    → Built so.last so.script before
    → Built (Some (first_word form)) (with_form so.script (so.lines + 1) form) (before ++ form ∷ [])
unfolding Built
built_line so line form before is h =
    elim is.place [
      | inl first ↦
          let start = subst (λ l. Built l so.script before) first.0 h in
          subst (λ f. Built (Some (first_word f)) (with_form so.script (so.lines + 1) f) (before ++ f ∷ []))
          (sym first.1) (push before [] says.Morph start.0, start.1)
      | inr (last, was, follows) ↦ built_more last so.script (so.lines + 1) before form follows
          (subst (λ l. Built l so.script before) was h)
    ]

-- a script that was read has the forms that it was read from
pub forms_are : (text : List ℕ) (forms : List Form) → HasForms text forms → script_forms (so_of forms).script ≡ forms
unfolding Built whole body filed script_forms so_of
forms_are text forms has =
    sym (subst (λ l. Built l (so_of forms).script forms) has.ended
    (along_text (λ done before so. Built so.last so.script before)
    (λ done before so line form is h. built_line so line form before is h) text forms has (
      refl,
      record {
        families = refl;
        policy = refl;
        files = refl;
        items = refl;
        dumps = refl;
      },
    )))
