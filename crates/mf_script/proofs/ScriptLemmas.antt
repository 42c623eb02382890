-- What is read of a text: its script, or the fault of its stages or points; and what a script's parts are.
use Rattle.std.proofs.Common.{◌≡◌, ◌≢◌, ℕ, zero, suc, get_or, ◌+◌, ◌<◌, ◌≤◌, List, [], ◌∷◌, ◌++◌, map, length, Result}
use Rattle.std.proofs.Common.{Option}
use Rattle.std.proofs.Common.{Ok, Err, refl, sym, ap, ◌∙◌, subst, arith, inl, inr}
use Rattle.std.specs.Prelude.{codes, IfOk, All}
use Rattle.std.proofs.lemmas.List.{length-map}
use Rattle.std.proofs.lemmas.List.Elements.{All-nil, All-cons}
use Rattle.mf_text.specs.Lines.{lines_of}
use Rattle.mf_shape.specs.declared.ShapeFault.{ShapeFault}
use Rattle.mf_shape.specs.declared.ShapeFault.TheVariants as shape
use Rattle.mf_shape.specs.Chain.{IsShape}
use Rattle.mf_shape.specs.Faults as shapes
use Rattle.mf_check.specs.declared.FamilyFault.{FamilyFault}
use Rattle.mf_check.specs.declared.FamilyFault.TheVariants as family
use Rattle.mf_check.specs.Families.{Code, IsCode}
use Rattle.mf_check.specs.Faults as families
use Rattle.mf_lines.specs.declared.parts.FileLine.{FileLine}
use Rattle.mf_lines.specs.declared.parts.Item.{Item}
use Rattle.mf_lines.specs.declared.parts.Kind.{Kind}
use Rattle.mf_lines.specs.declared.parts.Kind.TheVariants as kind
use Rattle.mf_lines.specs.declared.parts.ScriptFault.{ScriptFault}
use Rattle.mf_lines.specs.declared.draft.Draft.{Draft}
use Rattle.mf_lines.specs.Meaning.{Script, SoFar, no_block, so_of, main_of}
use Rattle.mf_lines.specs.Drafts.{script_in, so_in}
use Rattle.mf_script.specs.declared.script.NamedFamily.{NamedFamily}
use Rattle.mf_script.specs.Passes.{read_text}
use Rattle.mf_script.specs.Texts.{HasForms}
use Rattle.mf_script.specs.Scripts.{block_of, code_of, script_with, IsScript}
use Rattle.mf_script.specs.Sound.{HasOne, IsKept}
use Rattle.mf_script.specs.Faults.{main_code, shape_kind, family_kind, IsFault, IsScriptFault}
use Rattle.mf_script.specs.Printing.{script_forms, script_text, AreAlike}
use Rattle.mf_script.proofs.PassLemmas.{HasSo, so_read, fault_read}
use Rattle.mf_script.proofs.RoundTrip.{alike_lines, no_longer, again}
use Rattle.mf_script.proofs.SoundLemmas.{sound}

-- ---- faults

-- a fault of the lines, unless memory ran out
pub line_fault : (text : List ℕ) (fault : ScriptFault) → (fault.kind ≢ kind.Memory → read_text text ≡ Err fault)
    → IsScriptFault text fault
line_fault text fault h = go fault.kind refl
  where
    told : fault.kind ≢ kind.Memory → IsScriptFault text fault
    told other = inr (inl (fault_read text fault.line fault.kind (h other)))

    go : (k : Kind) → fault.kind ≡ k → IsScriptFault text fault
    go kind.Memory e = inl e
    go k e = told (λ same. let no = sym e ∙ same in absurd cc)

module _ (text : List ℕ) (draft : Draft) (read : read_text text ≡ Ok (so_in draft)) where
  so : HasSo text (so_in draft)
  so = so_read text (so_in draft) read

  same : script_in draft ≡ (so_of so.forms).script
  same = ap (λ (x : SoFar). x.script) so.is

  line : draft.stage_line ≡ (so_of so.forms).stage_line
  line = ap (λ (x : SoFar). x.stage_line) so.is

  shape_told : (fault : ShapeFault) → fault ≢ shape.Memory → shapes.IsFirst draft.stages.items draft.servers fault
      → IsFault text draft.stage_line (kind.Shape fault)
  shape_told fault other first = inr (inl (record {
    fault = fault;
    is = refl;
    forms = so.forms;
    lines = so.lines;
    line = line;
    not_memory = other;
    first = subst (λ s. shapes.IsFirst (main_of s).stages s.servers fault) same first;
  }))

  pub shape_fault : (fault : ShapeFault) → shapes.IsFirst draft.stages.items draft.servers fault
      → IsScriptFault text (record { line = draft.stage_line; kind = shape_kind fault })
  shape_fault shape.Memory first = inl refl
  shape_fault shape.NoStage first = inr (shape_told shape.NoStage (λ e. cc) first)
  shape_fault shape.TooManyStages first = inr (shape_told shape.TooManyStages (λ e. cc) first)
  shape_fault (shape.Width g) first = inr (shape_told (shape.Width g) (λ e. cc) first)
  shape_fault (shape.Parities g) first = inr (shape_told (shape.Parities g) (λ e. cc) first)
  shape_fault (shape.Copies g) first = inr (shape_told (shape.Copies g) (λ e. cc) first)
  shape_fault (shape.NotMultiple g) first = inr (shape_told (shape.NotMultiple g) (λ e. cc) first)
  shape_fault (shape.ParitiesGrow g) first = inr (shape_told (shape.ParitiesGrow g) (λ e. cc) first)
  shape_fault (shape.CopiesGrow g) first = inr (shape_told (shape.CopiesGrow g) (λ e. cc) first)
  shape_fault (shape.ParitiesOverWidth g) first = inr (shape_told (shape.ParitiesOverWidth g) (λ e. cc) first)
  shape_fault shape.CopiesDontFit first = inr (shape_told shape.CopiesDontFit (λ e. cc) first)
  shape_fault (shape.Servers n) first = inr (shape_told (shape.Servers n) (λ e. cc) first)

  family_told : (fault : FamilyFault) → fault ≢ family.Memory → IsShape (main_code (script_in draft)).shape
      → families.IsFault draft.stages.items draft.points fault → IsFault text draft.stage_line (kind.Family fault)
  family_told fault other ok first = inr (inr (record {
    fault = fault;
    is = refl;
    forms = so.forms;
    lines = so.lines;
    line = line;
    not_memory = other;
    shape_ok = subst (λ s. IsShape (main_code s).shape) same ok;
    first = subst (λ s. families.IsFault (main_of s).stages (main_of s).points fault) same first;
  }))

  pub family_fault : (fault : FamilyFault) → IsShape (main_code (script_in draft)).shape
      → families.IsFault draft.stages.items draft.points fault
      → IsScriptFault text (record { line = draft.stage_line; kind = family_kind fault })
  family_fault family.Memory ok first = inl refl
  family_fault (family.PointCount n) ok first = inr (family_told (family.PointCount n) (λ e. cc) ok first)
  family_fault (family.PointZero i) ok first = inr (family_told (family.PointZero i) (λ e. cc) ok first)
  family_fault (family.PointTwice i j) ok first = inr (family_told (family.PointTwice i j) (λ e. cc) ok first)
  family_fault (family.Undecodable g places kernel) ok first =
      inr (family_told (family.Undecodable g places kernel) (λ e. cc) ok first)

  -- ---- a script that was read

  module _ (families : List NamedFamily) (family : Code)
      (one : families ≡ record { name = codes "main"; family = family } ∷ [])
      (is : family ≡ record {
        shape =
            record { stages = draft.stages.items; servers = draft.servers };
        points = draft.points;
      })
      (code : IsCode family) where
    abbrev read_script : Script
    read_script =
        script_with draft.servers draft.chunk families draft.policy draft.files.items draft.file_families.items
        draft.items.items draft.dumps.items

    blocks : map block_of families ≡ main_of (script_in draft) ∷ []
    blocks = ap (map block_of) one
        ∙ (λ i. record { name = codes "main"; points = (is i).points; stages = (is i).shape.stages } ∷ [])

    said : read_script ≡ (so_of so.forms).script
    said =
        (λ i. record {
          servers = draft.servers;
          chunk = draft.chunk;
          families = blocks i;
          policy = draft.policy;
          files = draft.files.items;
          file_families = draft.file_families.items;
          items = draft.items.items;
          dumps = draft.dumps.items;
        })
        ∙ same

    pub read_is : IsScript text read_script
    read_is = record {
      forms = so.forms;
      lines = so.lines;
      says = said;
      families = subst (All (λ block. IsCode (code_of read_script block))) (sym blocks)
          (All-cons (λ block. IsCode (code_of read_script block)) (main_of (script_in draft)) []
          (subst IsCode is code) (All-nil (λ block. IsCode (code_of read_script block))));
    }

    pub read_kept : IsKept families read_script
    read_kept = record {
      sound = sound text read_script read_is;
      over = subst (All (λ (named : NamedFamily). named.family.shape.servers ≡ draft.servers)) (sym one)
          (All-cons (λ (named : NamedFamily). named.family.shape.servers ≡ draft.servers) (record {
            name =
                codes "main";
            family = family;
          }) [] (ap (λ (c : Code). c.shape.servers) is)
          (All-nil (λ (named : NamedFamily). named.family.shape.servers ≡ draft.servers)));
    }

-- ---- what is printed is read again

pub if_ok-map : {T E : Type 0} (r : Result T E) (P Q : T → Type 0) → ((x : T) → P x → Q x) → IfOk r P → IfOk r Q
if_ok-map (Ok x) P Q f h = f x h
if_ok-map (Err e) P Q f h = h

-- the text of a script doesn't say the numbers of families
pub printed_text : (servers chunk : ℕ) (families : List NamedFamily) (policy : Option (List ℕ)) (files : List FileLine)
    (file_families : List ℕ) (items : List Item) (dumps : List ℕ)
    → script_text (script_with servers chunk families policy files [] items dumps) ≡ script_text
    (script_with servers chunk families policy files file_families items dumps)
unfolding script_text script_forms
printed_text servers chunk families policy files file_families items dumps = refl

-- a script has at most 128 servers
few_servers : (text : List ℕ) (s : Script) (is : IsScript text s) → (so_of is.forms).script.servers ≤ 128
few_servers text s is =
    let one = ap length (sound text s is).one.families in
    let code = is.families 0 no_block (omega arith) in
    subst (λ (x : Script). x.servers ≤ 128) is.says code.shape_ok.servers.1

pub printed : (text : List ℕ) (s : Script) → IsScript text s → IsScript (script_text s) s
printed text s is = record {
  forms = is.forms;
  lines = subst (λ x. HasForms (script_text x) is.forms) (sym is.says)
      (again text is.forms is.lines (few_servers text s is));
  says = is.says;
  families = is.families;
}

pub lines_kept : (text : List ℕ) (s : Script) → IsScript text s → AreAlike (lines_of text) (lines_of (script_text s))
lines_kept text s is =
    subst (λ x. AreAlike (lines_of text) (lines_of (script_text x))) (sym is.says)
    (alike_lines text is.forms is.lines (few_servers text s is))

pub shortest : (text : List ℕ) (s : Script) → IsScript text s → length (script_text s) ≤ length text
shortest text s is =
    subst (λ x. length (script_text x) ≤ length text) (sym is.says)
    (no_longer text is.forms is.lines (few_servers text s is))
