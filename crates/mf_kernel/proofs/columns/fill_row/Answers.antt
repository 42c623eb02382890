use Rattle.std.proofs.Common.{◌≡◌, ℕ, ◌+◌, refl, length, map, get_or, ap, ◌∙◌, arith}
use Rattle.mf_code.specs.Rows.{column}
use Rattle.mf_code.proofs.Lists.{list_of_from}
use Rattle.mf_kernel.specs.Dots.{dot}
use Rattle.mf_kernel.proofs.Blocks.{scaled_sum, block_none, block_more, length-column}
use Rattle.mf_kernel.proofs.Lent.{length-lists, list_at, long_at}
use Rattle.mf_kernel.proofs.columns.fill_row.Goals as goal

pub loop-t-init : goal.loop-t-init
loop-t-init g c =
    let a = c.args in
    block_none (λ i. get_or a.row.now i 0) c.fill.new.self (length a.out.now) a.start
    (map g.P.Bytes.list a.pieces.now) (c.fill.ensures.after (λ y e. e))

pub add_columns-requires : goal.add_columns-requires
add_columns-requires g c =
    let a = c.args in
    let t = c.loop-t.t in
    let piece = c.index-pieces-t.result in
    let long = long_at g.P.Bytes.list a.pieces.now t (a.start + length a.out.now) piece (omega arith)
    c.index-pieces-t.is c.requires.columns in
    omega (arith, long, ap length c.bytes.ensures)

pub loop-t-preserved : goal.loop-t-preserved
loop-t-preserved g c =
    let a = c.args in
    let t = c.loop-t.t in
    let piece = c.index-pieces-t.result in
    let lists = map g.P.Bytes.list a.pieces.now in
    let long = long_at g.P.Bytes.list a.pieces.now t (a.start + length a.out.now) piece (omega arith)
    c.index-pieces-t.is c.requires.columns in
    block_more (λ i. get_or a.row.now i 0) c.loop-t.out c.add_columns.new.out (get_or a.row.now t 0) a.start t lists
    (g.P.Bytes.list piece) c.bytes.result.now (omega (arith, length-lists g.P.Bytes.list a.pieces.now))
    (list_at g.P.Bytes.list a.pieces.now t piece (omega arith) c.index-pieces-t.is) c.bytes.ensures
    (omega (arith, long, ap length c.bytes.ensures)) refl c.add_columns.ensures c.loop-t.invariant

pub returns : goal.returns
returns g c =
    let a = c.args in
    let lists = map g.P.Bytes.list a.pieces.now in
    list_of_from (length a.out.now) (λ x. dot a.row.now (column (a.start + x) lists)) c.loop-t.out
    (omega arith)
    (λ x lt.
    c.loop-t.invariant x (omega arith)
    ∙ ap (λ (n : ℕ). scaled_sum (λ i. get_or a.row.now i 0) n (column (a.start + x) lists))
    (let e : c.loop-t.t ≡ length (column (a.start + x) lists) =
    omega (arith, length-column (a.start + x) lists, length-lists g.P.Bytes.list a.pieces.now) in e))
