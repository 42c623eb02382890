-- Chunks are handed on, one after the other.
use Rattle.std.proofs.Common.{◌≡◌, ℕ, ◌+◌, ◌-◌, ◌<◌, List, [], ◌++◌, length, take, drop, min, get_or, sym, ap, ◌∙◌}
use Rattle.std.proofs.Common.{append_assoc, append-nil, arith}
use Rattle.std.proofs.lemmas.List.{length-take, length-append, take_all, take-append-drop}
use Rattle.std.specs.List.{concat}
use Rattle.mf_stripe.proofs.Cuts.{join-more, join-front}

-- the first i chunks were handed on, as far as `left` bytes reach
pub record Handing (left i : ℕ) (chunks : List (List ℕ)) (before now : List ℕ) (room : ℕ) : Type 0 where
  pub out : List ℕ
  pub told : now ≡ before ++ out
  pub is : out ≡ take left (concat (take i chunks))
  pub room_is : room ≡ left - length out

pub none_handed : (left : ℕ) (chunks : List (List ℕ)) (before : List ℕ) → Handing left 0 chunks before before left
none_handed left chunks before = record {
  out = [];
  told = sym (append-nil before);
  is = sym (take_all left [] (omega arith));
  room_is = omega arith;
}

pub one_handed : (left i : ℕ) (chunks : List (List ℕ)) (before now after piece d : List ℕ) (room k : ℕ)
    → Handing left i chunks before now room → i < length chunks → piece ≡ get_or chunks i d
    → k ≡ min room (length piece) → after ≡ now ++ take k piece
    → Handing left (i + 1) chunks before after (room - k)
one_handed left i chunks before now after piece d room k h lt at end is =
    let r = h.room_is in
    let k_is : k ≡ min (left - length h.out) (length piece) = omega arith in
    record {
      out = h.out ++ take k piece;
      told = is ∙ ap (λ (l : List ℕ). l ++ take k piece) h.told ∙ append_assoc before h.out (take k piece);
      is = join-more left i [] h.out piece chunks d k lt at h.is k_is;
      room_is = omega (arith, length-append h.out (take k piece), length-take k piece);
    }

-- where memory ran out, a front was
pub front_handed : (left i : ℕ) (chunks : List (List ℕ)) (before now : List ℕ) (room : ℕ)
    → Handing left i chunks before now room
    → (front : List ℕ) × (rest : List ℕ) × (take left (concat chunks) ≡ front ++ rest) × (now ≡ before ++ front)
front_handed left i chunks before now room h =
    let all = take left (concat chunks) in
    let n = length h.out in (
      h.out,
      drop n all,
      sym (take-append-drop n all)
          ∙ ap (λ (l : List ℕ). l ++ drop n all) (sym (join-front left i [] h.out chunks h.is)),
      h.told,
    )
