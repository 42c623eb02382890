-- A report as JSON has no floats.
use Rattle.std.proofs.Common.{◌≡◌, false, List, [], ◌∷◌, map, refl}
use Rattle.std.proofs.lemmas.Bool.{or_from}
use Rattle.std.specs.Prelude.{ℕ}
use Rattle.serde_json.specs.Data.{Data, number, unsigned, string}
use Rattle.serde_json.specs.View.{items_of}
use Rattle.serde_json.specs.Written.{has_float, items_have_float}
use Rattle.mf_vault.specs.declared.io.Io.{Io}
use Rattle.mf_lines.specs.Meaning.{Script, names_in}
use Rattle.mf_client.specs.declared.done.Done.{Done}
use Rattle.mf_plain.specs.Resting.{Resting}
use Rattle.mf_vault.specs.Texts.{io_numbers}
use Rattle.mf_report.specs.Commands.{part_text}
use Rattle.mf_report.specs.Dumps.{dumps_lines}
use Rattle.mf_report.specs.Report.{took, conversions}
use Rattle.mf_report.specs.Json.{texts_json, io_json, done_json, report_json}

items_float : {X : Type 0} (told : X → Data) → ((x : X) → has_float (told x) ≡ false) → (xs : List X)
    → items_have_float (items_of (map told xs)) ≡ false
items_float told none [] = refl
items_float told none (x ∷ xs) =
    or_from (has_float (told x)) (items_have_float (items_of (map told xs))) (none x) (items_float told none xs)

texts_float : (texts : List (List ℕ)) → has_float (texts_json texts) ≡ false
texts_float texts = items_float string (λ text. refl) texts

io_float : (io : Io) → has_float (io_json io) ≡ false
io_float io = items_float (λ n. number (unsigned n)) (λ n. refl) (io_numbers io)

done_float : (names : List (List ℕ)) (done : Done) → has_float (done_json names done) ≡ false
done_float names done =
    or_from (has_float (io_json done.io)) _ (io_float done.io)
    (or_from (has_float (texts_json (map (part_text names) done.parts))) _
    (texts_float (map (part_text names) done.parts))
    refl)

pub report_float : (s : Script) (done : List Done) (files : List Resting) → has_float (report_json s done files) ≡ false
report_float s done files =
    or_from (items_have_float (items_of (map (done_json (names_in s.files)) done))) _
    (items_float (done_json (names_in s.files)) (done_float (names_in s.files)) done)
    (or_from (has_float (io_json (took (conversions done)))) _ (io_float (took (conversions done)))
    (or_from (has_float (texts_json (dumps_lines (names_in s.files) files s.dumps))) _
    (texts_float (dumps_lines (names_in s.files) files s.dumps))
    (or_from (has_float (io_json (took done))) false (io_float (took done)) refl)))
