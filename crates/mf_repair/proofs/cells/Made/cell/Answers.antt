use Rattle.std.proofs.Common.{◌≡◌, IfOk, sym, ◌∙◌, subst}
use Rattle.mf_repair.proofs.Placed.{data_from, copy_from, data_below, copy_below, parity_below, data_is, copy_is}
use Rattle.mf_repair.proofs.Placed.{parity_is}
use Rattle.mf_repair.proofs.cells.Made.cell.Goals as goal

pub overflow_sub-i : goal.overflow_sub-i
overflow_sub-i c = let (b, file, g, j, m, f) = c.requires in data_from c.args.name c.in-Data.i m f c.in-Data.is

pub bounds-self-i : goal.bounds-self-i
bounds-self-i c = let (b, file, g, j, m, f) = c.requires in data_below c.args.name c.in-Data.i m f c.in-Data.is

pub overflow_sub-i-in-Copy : goal.overflow_sub-i-in-Copy
overflow_sub-i-in-Copy c = let (b, file, g, j, m, f) = c.requires in copy_from c.args.name _ c.in-Copy.i m f
    c.in-Copy.is

pub bounds-self-i-in-Copy : goal.bounds-self-i-in-Copy
bounds-self-i-in-Copy c = let (b, file, g, j, m, f) = c.requires in copy_below c.args.name _ c.in-Copy.i m f
    c.in-Copy.is

pub returns-in-Data : goal.returns-in-Data
returns-in-Data c b file g j m f = subst (λ y. IfOk c.share.result (λ z. z ≡ y))
    (sym c.index-self-i.is ∙ data_is c.args.name c.in-Data.i c.index-self-i.result m f c.in-Data.is c.index-self-i.is)
    c.share.ensures

pub returns-in-Copy : goal.returns-in-Copy
returns-in-Copy c b file g j m f = subst (λ y. IfOk c.share-in-Copy.result (λ z. z ≡ y))
    (sym c.index-self-i-in-Copy.is
    ∙ copy_is c.args.name _ c.in-Copy.i c.index-self-i-in-Copy.result m f c.in-Copy.is c.index-self-i-in-Copy.is)
    c.share-in-Copy.ensures

pub returns-in-Parity : goal.returns-in-Parity
returns-in-Parity c b file g j m f = subst (λ y. IfOk c.share-in-Parity.result (λ z. z ≡ y))
    (parity_is c.args.name _ _ c.in-Parity.p c.as_slice.result.now _ m f c.in-Parity.is c.as_slice.ensures.value
    c.index-as_slice-p.is) c.share-in-Parity.ensures
