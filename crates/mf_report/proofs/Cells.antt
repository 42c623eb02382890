-- The chunks of a file at rest are their cells.
use Rattle.std.proofs.Common.{◌≡◌, ℕ, ◌<◌, ◌++◌, ◌∙◌, List, ap, sym}
use Rattle.std.specs.Prelude.{codes, slice_index_or}
use Rattle.mf_machine.specs.File.Home.{keeps}
use Rattle.mf_machine.proofs.Words.{cell_is}
use Rattle.mf_places.specs.Names as names
use Rattle.mf_places.specs.Placement.{server_of}
use Rattle.mf_places.specs.Texts.{name_text}
use Rattle.mf_vault.specs.declared.answers.Rest.{Rest}
use Rattle.mf_vault.specs.declared.answers.Rest.TheVariants as rest
use Rattle.mf_vault.specs.Facts.{file, cell}
use Rattle.mf_vault.specs.Resting.{word_of, home_of}
use Rattle.mf_plain.specs.Resting.{Resting, AtRest, facts_of}
use Rattle.mf_report.specs.Lines.{spaced}
use Rattle.mf_report.specs.Dumps.{rest_text}
use Rattle.mf_report.specs.Laws.{HereIsDigest}

pub here_is_cell : (r : Resting) → AtRest r → (n : ℕ) → n < names.count_of r.book → (bytes : List ℕ)
    → slice_index_or r.names n rest.Unborn ≡ rest.Here bytes → bytes ≡ cell r.book r.bytes (names.name_at r.book n)
here_is_cell r at n low bytes here =
    let kept = cell_is (file (facts_of r r.born r.losses)) n (home_of (slice_index_or r.names n rest.Unborn))
    (at.rest.here n low (ap word_of here)) in
    let same : keeps bytes ≡ keeps (cell r.book r.bytes (names.name_at r.book n)) = sym (ap home_of here) ∙ kept in
    cc

pub here_is_digest : HereIsDigest
here_is_digest r at n low bytes here =
    let line : Rest → List ℕ =
    λ x. codes "chunk " ++ name_text (names.name_at r.book n) ++ codes " server"
    ++ spaced (server_of r.book (names.name_at r.book n)) ++ codes " " ++ rest_text x in
    ap line (here ∙ ap rest.Here (here_is_cell r at n low bytes here))
