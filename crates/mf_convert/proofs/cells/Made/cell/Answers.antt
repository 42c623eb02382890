use Rattle.std.proofs.Common.{◌≡◌, IfOk, subst}
use Rattle.mf_convert.proofs.Made.{data_below, copy_below, stripe_below, point_below, data_is, copy_is, parity_is}
use Rattle.mf_convert.proofs.cells.Made.cell.Goals as goal

pub bounds-as_slice-i : goal.bounds-as_slice-i
bounds-as_slice-i c = let (b, file, m, f) = c.requires in
    data_below c.args.name c.in-Data.i c.as_slice.result.now m f c.in-Data.is c.as_slice.ensures.value

pub bounds-as_slice-i-in-Copy : goal.bounds-as_slice-i-in-Copy
bounds-as_slice-i-in-Copy c = let (b, file, m, f) = c.requires in
    copy_below c.args.name _ c.in-Copy.i c.as_slice-in-Copy.result.now m f c.in-Copy.is c.as_slice-in-Copy.ensures.value

pub bounds-as_slice-j : goal.bounds-as_slice-j
bounds-as_slice-j c = let (b, file, m, f) = c.requires in
    stripe_below c.args.name _ c.in-Parity.j c.in-Parity.p c.as_slice-in-Parity.result.now m f c.in-Parity.is
    c.as_slice-in-Parity.ensures.value

pub bounds-as_slice-p : goal.bounds-as_slice-p
bounds-as_slice-p c = let (b, file, m, f) = c.requires in
    point_below c.args.name _ c.in-Parity.j c.in-Parity.p c.as_slice-in-Parity.result.now c.index-as_slice-j.result
    c.as_slice-in-Parity-2.result.now m f c.in-Parity.is c.as_slice-in-Parity.ensures.value c.index-as_slice-j.is
    c.as_slice-in-Parity-2.ensures.value

pub returns-in-Data : goal.returns-in-Data
returns-in-Data c b file m f = subst (λ y. IfOk c.share.result (λ z. z ≡ y))
    (data_is c.args.name c.in-Data.i c.as_slice.result.now _ m f c.in-Data.is c.as_slice.ensures.value
    c.index-as_slice-i.is)
    c.share.ensures

pub returns-in-Copy : goal.returns-in-Copy
returns-in-Copy c b file m f = subst (λ y. IfOk c.share-in-Copy.result (λ z. z ≡ y))
    (copy_is c.args.name _ c.in-Copy.i c.as_slice-in-Copy.result.now _ m f c.in-Copy.is c.as_slice-in-Copy.ensures.value
    c.index-as_slice-i-in-Copy.is)
    c.share-in-Copy.ensures

pub returns-in-Parity : goal.returns-in-Parity
returns-in-Parity c b file m f = subst (λ y. IfOk c.share-in-Parity.result (λ z. z ≡ y))
    (parity_is c.args.name _ c.in-Parity.j c.in-Parity.p c.as_slice-in-Parity.result.now c.index-as_slice-j.result
    c.as_slice-in-Parity-2.result.now _ m f c.in-Parity.is c.as_slice-in-Parity.ensures.value c.index-as_slice-j.is
    c.as_slice-in-Parity-2.ensures.value c.index-as_slice-p.is)
    c.share-in-Parity.ensures
