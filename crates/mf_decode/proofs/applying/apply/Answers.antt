use Rattle.std.proofs.Common.{◌≡◌, ℕ, List, length, get_or, map, sym, ap, ◌∙◌, subst, arith, rules}
use Rattle.std.specs.List.{range_with_len}
use Rattle.std.proofs.lemmas.List.{length-map}
use Rattle.mf_lemmas.proofs.Results.{if_ok-map}
use Rattle.mf_kernel.specs.Dots.{rows}
use Rattle.mf_decode.specs.Decoding.{Plan}
use Rattle.mf_decode.specs.Columns.{decode_row}
use Rattle.mf_decode.specs.Plans.{IsPlan}
use Rattle.mf_decode.proofs.Decoded.{piece_bytes, plan_sizes}
use Rattle.mf_decode.proofs.Lists.{filled_agrees, only_filled}
use Rattle.mf_decode.proofs.Applied.{rows_long, sources_long, given_applied}
use Rattle.mf_decode.proofs.applying.apply.Goals as goal

pub combine_all-requires-clause-coefficients : goal.combine_all-requires-clause-coefficients
combine_all-requires-clause-coefficients c =
    let a = c.args in
    let m = c.plan.inside.inverse in
    let s = plan_sizes a.plan.now c.plan.inside.chosen.items m
    (subst (λ (p : Plan). IsPlan p c.plan.inside.chosen.items m) c.plan.view_is c.plan.invariant) in
    rows_long c.len-erased.result m c.deref.result.now a.pieces.now a.parities.now c.deref-3.result.now
    (rows c.deref-2.result.now)
    (s.columns_are ∙ s.even ∙ sym c.requires.parities) (c.deref-3.ensures.value ∙ c.in_ok-sources.ensures.sources)
    (ap rows c.deref-2.ensures.value ∙ c.in_ok-rows.ensures)

pub combine_all-requires-clause-columns : goal.combine_all-requires-clause-columns
combine_all-requires-clause-columns c = λ k d lt.
    let a = c.args in
    let long : length (get_or c.deref-3.result.now k d) ≡ a.chunk =
    sources_long a.chunk a.pieces.now a.parities.now c.deref-3.result.now
    (c.deref-3.ensures.value ∙ c.in_ok-sources.ensures.sources) c.requires.piece_sizes c.requires.parity_sizes k d
    lt in
    omega arith

pub returns-clause-count : goal.returns-clause-count
returns-clause-count c =
    let a = c.args in
    let m = c.plan.inside.inverse in
    let chosen = c.plan.inside.chosen.items in
    let made : IsPlan a.plan.now chosen m = subst (λ (p : Plan). IsPlan p chosen m) c.plan.view_is c.plan.invariant in
    let held : c.len-erased.result ≡ length c.plan.inside.erased.items = search rules in
    let many : c.len-erased.result ≡ length a.plan.now.erased = held
    ∙ ap (λ (p : Plan). length p.erased) c.plan.view_is in
    let rows_are : rows c.deref-2.result.now
    ≡ map (decode_row m chosen a.pieces.now) (range_with_len 0 c.len-erased.result) =
    ap rows c.deref-2.ensures.value ∙ c.in_ok-rows.ensures
    ∙ ap (λ (l : List ℕ). map (decode_row m l a.pieces.now) (range_with_len 0 c.len-erased.result))
    c.deref.ensures.value in
    if_ok-map c.combine_all.result _ _
    (λ lists are.
    sym (length-map lists.items (λ v. v.items))
    ∙ (given_applied a.plan.now chosen m a.chunk c.len-erased.result a.pieces.now a.parities.now c.deref-3.result.now
    (rows c.deref-2.result.now) (rows lists.items) made many
    (c.deref-3.ensures.value ∙ c.in_ok-sources.ensures.sources) rows_are are c.requires.gaps c.requires.parities
    c.requires.piece_sizes c.requires.parity_sizes
    (piece_bytes a.pieces.now c.in_ok-sources.ensures.piece_bytes) c.in_ok-sources.ensures.parity_bytes).many)
    c.combine_all.ensures

pub returns-clause-agrees : goal.returns-clause-agrees
returns-clause-agrees c =
    let a = c.args in
    let m = c.plan.inside.inverse in
    let chosen = c.plan.inside.chosen.items in
    let made : IsPlan a.plan.now chosen m = subst (λ (p : Plan). IsPlan p chosen m) c.plan.view_is c.plan.invariant in
    let held : c.len-erased.result ≡ length c.plan.inside.erased.items = search rules in
    let many : c.len-erased.result ≡ length a.plan.now.erased = held
    ∙ ap (λ (p : Plan). length p.erased) c.plan.view_is in
    let rows_are : rows c.deref-2.result.now
    ≡ map (decode_row m chosen a.pieces.now) (range_with_len 0 c.len-erased.result) =
    ap rows c.deref-2.ensures.value ∙ c.in_ok-rows.ensures
    ∙ ap (λ (l : List ℕ). map (decode_row m l a.pieces.now) (range_with_len 0 c.len-erased.result))
    c.deref.ensures.value in
    if_ok-map c.combine_all.result _ _
    (λ lists are.
    filled_agrees a.plan.now chosen m a.chunk a.pieces.now a.parities.now (rows lists.items) made
    (given_applied a.plan.now chosen m a.chunk c.len-erased.result a.pieces.now a.parities.now c.deref-3.result.now
    (rows c.deref-2.result.now) (rows lists.items) made many
    (c.deref-3.ensures.value ∙ c.in_ok-sources.ensures.sources) rows_are are c.requires.gaps c.requires.parities
    c.requires.piece_sizes c.requires.parity_sizes
    (piece_bytes a.pieces.now c.in_ok-sources.ensures.piece_bytes) c.in_ok-sources.ensures.parity_bytes))
    c.combine_all.ensures

pub returns-clause-only : goal.returns-clause-only
returns-clause-only c =
    let a = c.args in
    let m = c.plan.inside.inverse in
    let chosen = c.plan.inside.chosen.items in
    let made : IsPlan a.plan.now chosen m = subst (λ (p : Plan). IsPlan p chosen m) c.plan.view_is c.plan.invariant in
    let held : c.len-erased.result ≡ length c.plan.inside.erased.items = search rules in
    let many : c.len-erased.result ≡ length a.plan.now.erased = held
    ∙ ap (λ (p : Plan). length p.erased) c.plan.view_is in
    let rows_are : rows c.deref-2.result.now
    ≡ map (decode_row m chosen a.pieces.now) (range_with_len 0 c.len-erased.result) =
    ap rows c.deref-2.ensures.value ∙ c.in_ok-rows.ensures
    ∙ ap (λ (l : List ℕ). map (decode_row m l a.pieces.now) (range_with_len 0 c.len-erased.result))
    c.deref.ensures.value in
    if_ok-map c.combine_all.result _ _
    (λ lists are.
    only_filled a.plan.now a.chunk a.pieces.now a.parities.now (rows lists.items)
    (given_applied a.plan.now chosen m a.chunk c.len-erased.result a.pieces.now a.parities.now c.deref-3.result.now
    (rows c.deref-2.result.now) (rows lists.items) made many
    (c.deref-3.ensures.value ∙ c.in_ok-sources.ensures.sources) rows_are are c.requires.gaps c.requires.parities
    c.requires.piece_sizes c.requires.parity_sizes
    (piece_bytes a.pieces.now c.in_ok-sources.ensures.piece_bytes) c.in_ok-sources.ensures.parity_bytes))
    c.combine_all.ensures
