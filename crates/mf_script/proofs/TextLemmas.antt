-- The text of a script, written from front to back.
use Rattle.std.proofs.Common.{◌≡◌, ℕ, ◌+◌, ◌<◌, List, [], ◌∷◌, ◌++◌, map, length, get_or, take, refl, sym, ap, ◌∙◌}
use Rattle.std.specs.Prelude.{codes, Result, Ok, Err, OnOk, Option, Some, None}
use Rattle.std.specs.List.{flat_map, join_with_byte}
use Rattle.std.proofs.lemmas.Grind.{flat_map-append}
use Rattle.std.proofs.lemmas.List.{append_assoc, append-nil, map_more, take_more}
use Rattle.mf_text.specs.Decimal.{decimal_text}
use Rattle.mf_shape.specs.declared.Stage.{Stage}
use Rattle.mf_lines.specs.declared.parts.FileLine.{FileLine}
use Rattle.mf_lines.specs.declared.parts.Client.{Client}
use Rattle.mf_lines.specs.declared.parts.Item.{Item}
use Rattle.mf_lines.specs.declared.forms.Form.{Form}
use Rattle.mf_lines.specs.declared.forms.Form.TheVariants as says
use Rattle.mf_lines.specs.declared.parts.Item.TheVariants as item
use Rattle.mf_script.specs.declared.script.NamedFamily.{NamedFamily}
use Rattle.mf_lines.specs.Meaning.{Block}
use Rattle.mf_lines.specs.LineTexts.{line_text}
use Rattle.mf_script.specs.Printing.{client_forms, item_forms, block_forms, policy_forms, script_forms, script_text}
use Rattle.mf_script.specs.Scripts.{block_of, script_with}
use Rattle.mf_script.specs.Printing.{next_line, lines_text}
use Rattle.mf_lines.specs.Meaning.{names_in}
use Rattle.mf_script.proofs.Lists.{flat_push}

-- what holds of a call that gave no error, and what follows from it
pub on_ok-map : {T E : Type 0} (r : Result T E) (P Q : Type 0) → (P → Q) → OnOk r P → OnOk r Q
on_ok-map (Ok x) P Q f h = f h
on_ok-map (Err e) P Q f h = h

-- ---- points

abbrev pub spaced : ℕ → List ℕ
spaced n = 32 ∷ decimal_text n

pub join_spaced : (word : List ℕ) (ns : List ℕ)
    → join_with_byte 32 (word ∷ map decimal_text ns) ≡ word ++ flat_map spaced ns
join_spaced word [] = sym (append-nil word)
join_spaced word (n ∷ ns) = ap (λ r. word ++ 32 ∷ r) (join_spaced (decimal_text n) ns)

pub points_end : (points : List ℕ) → 10 ∷ (codes "points" ++ flat_map spaced points) ≡ next_line [] (says.Points points)
unfolding line_text
points_end points = ap (λ r. 10 ∷ r) (sym (join_spaced (codes "points") points))

pub thresholds_end : (thresholds : List ℕ)
    → 10 ∷ (codes "policy" ++ flat_map spaced thresholds) ≡ next_line [] (says.Policy thresholds)
unfolding line_text
thresholds_end thresholds = ap (λ r. 10 ∷ r) (sym (join_spaced (codes "policy") thresholds))

-- ---- lines behind LFs

pub lines_text-append : (names : List (List ℕ)) (a b : List Form)
    → lines_text names (a ++ b) ≡ lines_text names a ++ lines_text names b
unfolding lines_text
lines_text-append names a b = flat_map-append (next_line names) a b

pub lines_text-one : (names : List (List ℕ)) (form : Form) → lines_text names (form ∷ []) ≡ next_line names form
unfolding lines_text
lines_text-one names form = append-nil (next_line names form)

pub lines_text-nil : (names : List (List ℕ)) → lines_text names [] ≡ []
unfolding lines_text
lines_text-nil names = refl

-- ---- the whole text

join_lines : (names : List (List ℕ)) (f : Form) (fs : List Form)
    → join_with_byte 10 (map (line_text names) (f ∷ fs)) ≡ line_text names f ++ lines_text names fs
unfolding lines_text
join_lines names f [] = sym (append-nil (line_text names f))
join_lines names f (g ∷ fs) = ap (λ r. line_text names f ++ 10 ∷ r) (join_lines names g fs)

stages_text : (names : List (List ℕ)) (stages : List Stage)
    → lines_text names (map says.Stage stages) ≡ lines_text [] (map says.Stage stages)
unfolding lines_text line_text
stages_text names [] = refl
stages_text names (s ∷ stages) = ap (λ r. next_line [] (says.Stage s) ++ r) (stages_text names stages)

points_text : (names : List (List ℕ)) (points : List ℕ) (rest : List Form)
    → lines_text names (says.Points points ∷ rest) ≡ next_line [] (says.Points points) ++ lines_text names rest
unfolding lines_text line_text
points_text names points rest = refl

block_text : (names : List (List ℕ)) (block : Block)
    → lines_text names (block_forms block) ≡ lines_text [] (block_forms block)
block_text names block =
    points_text names block.points (map says.Stage block.stages)
    ∙ ap (λ r. next_line [] (says.Points block.points) ++ r) (stages_text names block.stages)
    ∙ sym (points_text [] block.points (map says.Stage block.stages))

blocks_text : (names : List (List ℕ)) (blocks : List Block)
    → lines_text names (flat_map block_forms blocks) ≡ lines_text [] (flat_map block_forms blocks)
blocks_text names [] = lines_text-nil names ∙ sym (lines_text-nil [])
blocks_text names (b ∷ blocks) =
    lines_text-append names (block_forms b) (flat_map block_forms blocks)
    ∙ (λ i. block_text names b i ++ blocks_text names blocks i)
    ∙ sym (lines_text-append [] (block_forms b) (flat_map block_forms blocks))

policy_text : (names : List (List ℕ)) (policy : Option (List ℕ))
    → lines_text names (policy_forms policy) ≡ lines_text [] (policy_forms policy)
unfolding lines_text line_text
policy_text names None = refl
policy_text names (Some thresholds) = refl

pub tick_text : (names : List (List ℕ)) (ticks : ℕ)
    → next_line [] (says.Tick ticks) ≡ lines_text names (item_forms (item.Tick ticks))
unfolding lines_text line_text
tick_text names ticks = sym (append-nil (next_line [] (says.Tick ticks)))

files_text : (names : List (List ℕ)) (files : List FileLine)
    → lines_text names (map says.File files) ≡ lines_text [] (map says.File files)
unfolding lines_text line_text
files_text names [] = refl
files_text names (f ∷ files) = ap (λ r. next_line [] (says.File f) ++ r) (files_text names files)

store_text : (names : List (List ℕ)) (servers chunk : ℕ) (rest : List Form)
    → lines_text names (says.Servers servers ∷ says.Chunk chunk ∷ rest) ≡
    (next_line [] (says.Servers servers) ++ next_line [] (says.Chunk chunk)) ++ lines_text names rest
unfolding lines_text line_text
store_text names servers chunk rest =
    sym (append_assoc (next_line [] (says.Servers servers)) (next_line [] (says.Chunk chunk)) (lines_text names rest))

end_text : (names : List (List ℕ)) → lines_text names (says.End ∷ []) ≡ 10 ∷ codes "end"
unfolding lines_text line_text
end_text names = refl

regroup : (m a b s p f i d e : List ℕ)
    → m ++ ((a ++ b) ++ (((((s ++ p) ++ f) ++ i) ++ d) ++ e)) ≡ (((((((m ++ a) ++ b) ++ s) ++ p) ++ f) ++ i) ++ d) ++ e
regroup m a b s p f i d e = sym (simp append_assoc)

pub whole_text : (servers chunk : ℕ) (families : List NamedFamily) (policy : Option (List ℕ)) (files : List FileLine)
    (items : List Item) (dumps : List ℕ)
    → (((((((codes "morph 1" ++ next_line [] (says.Servers servers)) ++ next_line [] (says.Chunk chunk))
    ++ lines_text [] (flat_map block_forms (map block_of families))) ++ lines_text [] (policy_forms policy))
    ++ lines_text [] (map says.File files)) ++ lines_text (names_in files) (flat_map item_forms items))
    ++ lines_text (names_in files) (map says.Dump dumps)) ++ 10 ∷ codes "end"
    ≡ script_text (script_with servers chunk families policy files [] items dumps)
unfolding script_text script_forms line_text
whole_text servers chunk families policy files items dumps =
    let names : List (List ℕ) = names_in files in
    let rs : List Form = flat_map block_forms (map block_of families) in
    let bs : List Form = rs ++ policy_forms policy in
    let fs : List Form = map says.File files in
    let ps : List Form = flat_map item_forms items in
    let ds : List Form = map says.Dump dumps in
    let a : List ℕ = next_line [] (says.Servers servers) in
    let b : List ℕ = next_line [] (says.Chunk chunk) in
    let rest : lines_text names ((bs ++ fs ++ ps ++ ds) ++ says.End ∷ []) ≡
    ((((lines_text [] rs ++ lines_text [] (policy_forms policy)) ++ lines_text [] fs) ++ lines_text names ps)
    ++ lines_text names ds) ++ 10 ∷ codes "end" =
    lines_text-append names (bs ++ fs ++ ps ++ ds) (says.End ∷ [])
    ∙ (λ i. (lines_text-append names (bs ++ fs ++ ps) ds
    ∙ ap (λ x. x ++ lines_text names ds) (lines_text-append names (bs ++ fs) ps
    ∙ ap (λ x. x ++ lines_text names ps) (lines_text-append names bs fs
    ∙ (λ j. (lines_text-append names rs (policy_forms policy)
    ∙ (λ k. blocks_text names (map block_of families) k ++ policy_text names policy k)) j
    ++ files_text names files j)))) i ++ end_text names i) in
    sym (
    join_lines names says.Morph (says.Servers servers ∷ says.Chunk chunk ∷ ((bs ++ fs ++ ps ++ ds) ++ says.End ∷ []))
    ∙ ap (λ x. codes "morph 1" ++ x) (store_text names servers chunk ((bs ++ fs ++ ps ++ ds) ++ says.End ∷ [])
    ∙ ap (λ x. (a ++ b) ++ x) rest)
    ∙ regroup (codes "morph 1") a b (lines_text [] rs) (lines_text [] (policy_forms policy)) (lines_text [] fs)
    (lines_text names ps) (lines_text names ds)
    (10 ∷ codes "end"))

-- ---- the loops

pub none_yet : (names : List (List ℕ)) (old : List ℕ) → old ≡ old ++ lines_text names []
none_yet names old = sym (ap (λ r. old ++ r) (lines_text-nil names) ∙ append-nil old)

-- one line more, and some more
pub add_form : (names : List (List ℕ)) (old out : List ℕ) (forms : List Form) (form : Form)
    → out ≡ old ++ lines_text names forms → out ++ next_line names form ≡ old ++ lines_text names (forms ++ form ∷ [])
add_form names old out forms form so =
    ap (λ o. o ++ next_line names form) so ∙ append_assoc old (lines_text names forms) (next_line names form)
    ∙ ap (λ r. old ++ r) (ap (λ r. lines_text names forms ++ r) (sym (lines_text-one names form))
    ∙ sym (lines_text-append names forms (form ∷ [])))

pub add_forms : (names : List (List ℕ)) (old out : List ℕ) (forms more : List Form)
    → out ≡ old ++ lines_text names forms → out ++ lines_text names more ≡ old ++ lines_text names (forms ++ more)
add_forms names old out forms more so =
    ap (λ o. o ++ lines_text names more) so ∙ append_assoc old (lines_text names forms) (lines_text names more)
    ∙ ap (λ r. old ++ r) (sym (lines_text-append names forms more))

pub map_step : {X Y : Type 0} (f : X → Y) (xs : List X) (i : ℕ) (x : X) → i < length xs → x ≡ get_or xs i x
    → map f (take i xs) ++ f x ∷ [] ≡ map f (take (i + 1) xs)
map_step f xs i x lt is = ap (λ y. map f (take i xs) ++ f y ∷ []) is ∙ sym (map_more f xs i x lt)

-- the lines of a family, and those of the loops over families, clients and items
pub block_lines : (old : List ℕ) (block : Block)
    → (old ++ next_line [] (says.Points block.points)) ++ lines_text []
    (map says.Stage block.stages) ≡ old ++ lines_text [] (block_forms block)
block_lines old block =
    append_assoc old (next_line [] (says.Points block.points)) (lines_text [] (map says.Stage block.stages))
    ∙ ap (λ r. old ++ r) (sym (points_text [] block.points (map says.Stage block.stages)))

pub block_step : (families : List NamedFamily) (i : ℕ) (named : NamedFamily) → i < length families
    → named ≡ get_or families i named
    → flat_map block_forms (map block_of (take i families)) ++ block_forms (block_of named) ≡ flat_map block_forms
    (map block_of (take (i + 1) families))
block_step families i named lt is =
    sym (flat_push block_forms (map block_of (take i families)) (block_of named))
    ∙ ap (flat_map block_forms) (map_step block_of families i named lt is)

taken_step : {X : Type 0} (xs : List X) (i : ℕ) (x : X) → i < length xs → x ≡ get_or xs i x
    → take i xs ++ x ∷ [] ≡ take (i + 1) xs
taken_step xs i x lt is = ap (λ y. take i xs ++ y ∷ []) is ∙ sym (take_more xs i x lt)

pub client_step : (clients : List Client) (i : ℕ) (client : Client) → i < length clients
    → client ≡ get_or clients i client
    → item_forms (item.Phase (take i clients)) ++ client_forms client ≡ item_forms (item.Phase (take (i + 1) clients))
client_step clients i client lt is =
    ap (λ r. says.Phase ∷ r) (sym (flat_push client_forms (take i clients) client)
    ∙ ap (flat_map client_forms) (taken_step clients i client lt is))

pub item_step : (items : List Item) (i : ℕ) (x : Item) → i < length items → x ≡ get_or items i x
    → flat_map item_forms (take i items) ++ item_forms x ≡ flat_map item_forms (take (i + 1) items)
item_step items i x lt is =
    sym (flat_push item_forms (take i items) x) ∙ ap (flat_map item_forms) (taken_step items i x lt is)

pub client_start : (names : List (List ℕ)) → 10 ∷ codes "client" ≡ lines_text names (says.Client ∷ [])
unfolding lines_text line_text
client_start names = refl

pub phase_start : (names : List (List ℕ)) → 10 ∷ codes "phase" ≡ lines_text names (item_forms (item.Phase []))
unfolding lines_text line_text
phase_start names = refl
