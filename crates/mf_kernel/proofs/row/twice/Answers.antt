use Rattle.std.proofs.Common.{◌≡◌, ℕ, ◌+◌, ◌*◌, ◌%◌, ◌++◌, get_or, take, drop, refl, ap, ◌∙◌, arith}
use Rattle.std.proofs.lemmas.List.{get_or-take, get_or-drop, get_or_append_left, length-take, length-drop}
use Rattle.std.proofs.lemmas.List.FromFn.{get_or-map-range_with_len}
use Rattle.mf_kernel.proofs.row.twice.Goals as goal

pub returns : goal.returns
returns c = λ f is.
    let a = c.args in
    let part = take 16 (drop a.at a.bytes.now) in
    record {
      long = refl;
      at = λ copy n lc ln.
          let place : (16 * copy + n) % 16 ≡ n = omega arith in
          get_or-map-range_with_len (λ j. get_or (part ++ part) (j % 16) 0) 0 32 (16 * copy + n) (16 * copy + n) 0
          (omega arith) (omega arith)
          ∙ ap (λ (j : ℕ). get_or (part ++ part) j 0) place
          ∙ get_or_append_left part part 0 n
          (omega (arith, length-take 16 (drop a.at a.bytes.now), length-drop a.at a.bytes.now))
          ∙ get_or-take 16 (drop a.at a.bytes.now) n 0 ln ∙ get_or-drop a.at a.bytes.now n 0 ∙ is n ln;
    }
