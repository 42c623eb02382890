-- Sums by rows that decode are the lost pieces.
use Rattle.std.proofs.Common.{◌≡◌, ℕ, ◌<◌, List, [], ◌++◌, length, get_or, sym, ap, ◌∙◌, subst, arith}
use Rattle.mf_code.specs.Rows.{column}
use Rattle.mf_code.proofs.Lists.{length-list_of, list_of_at}
use Rattle.mf_decode.specs.Columns.{present}
use Rattle.mf_decode.specs.Decoding.{Plan, IsDecodedAt}
use Rattle.mf_kernel.specs.Dots.{combined, dot}
use Rattle.morph_codes.specs.Decoded.{row_at, AreDecodingRows, AreSums, AreDecoded}

pub decoded : (plan : Plan) (count size n : ℕ) (rows : List ℕ) (left rooms : List (List ℕ)) → n ≡ length plan.erased
    → length left ≡ count → AreDecodingRows plan count rows → AreSums n rows size left rooms
    → AreDecoded plan count size left rooms
decoded plan count size n rows left rooms all whole are sums =
    let row = row_at count rows in
    let made : (e : ℕ) → e < length plan.erased → get_or rooms e [] ≡ combined size left (row e) =
    λ e lt. sums.sum e (omega arith) ∙ ap (λ (k : ℕ). combined size left (row_at k rows e)) whole in
    record {
      len = sums.len ∙ all;
      sizes = λ e lt. ap length (made e lt) ∙ length-list_of size (λ x. dot (row e) (column x left));
      byte = λ pieces parities lost many bytes is e x lt below.
          let byte : dot (row e) (column x (parities ++ present pieces)) ≡ get_or (get_or rooms e []) x 0 =
          ap (λ (l : List (List ℕ)). dot (row e) (column x l)) (sym is)
          ∙ sym (list_of_at size (λ y. dot (row e) (column y left)) x below)
          ∙ ap (λ (l : List ℕ). get_or l x 0) (sym (made e lt)) in
          subst (IsDecodedAt plan pieces parities x (get_or plan.erased e 0)) byte
          (((are.row e lt).decodes pieces parities lost.len lost.gaps many lost.bytes bytes).1 x);
    }
